use Rattle.nested_loop.proofs.Kept.{mirrors}
use Rattle.nested_loop.proofs.laws.mirrors.Goals as goal

pub returns : goal.returns
returns g c = mirrors _

use Rattle.nested_loop.proofs.Kept.{is_tallied}
use Rattle.nested_loop.proofs.laws.is_tallied.Goals as goal

pub returns : goal.returns
returns g c = is_tallied _

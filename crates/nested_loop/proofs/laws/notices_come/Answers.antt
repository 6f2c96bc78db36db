use Rattle.nested_loop.proofs.Kept.{notices_come}
use Rattle.nested_loop.proofs.laws.notices_come.Goals as goal

pub returns : goal.returns
returns g c = notices_come _

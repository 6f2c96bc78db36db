use Rattle.nested_loop.proofs.Kept.{within_bound}
use Rattle.nested_loop.proofs.laws.within_bound.Goals as goal

pub returns : goal.returns
returns g c = within_bound _

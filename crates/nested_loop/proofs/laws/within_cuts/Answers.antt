use Rattle.nested_loop.proofs.Kept.{within_cuts}
use Rattle.nested_loop.proofs.laws.within_cuts.Goals as goal

pub returns : goal.returns
returns g c = within_cuts _

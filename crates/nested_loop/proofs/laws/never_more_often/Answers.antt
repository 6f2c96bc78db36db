use Rattle.nested_loop.proofs.Kept.{never_more_often}
use Rattle.nested_loop.proofs.laws.never_more_often.Goals as goal

pub returns : goal.returns
returns g c = never_more_often _

use Rattle.nested_loop.proofs.Kept.{exactly_when_finished}
use Rattle.nested_loop.proofs.laws.exactly_when_finished.Goals as goal

pub returns : goal.returns
returns g c = exactly_when_finished _

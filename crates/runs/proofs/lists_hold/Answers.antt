use Rattle.runs.proofs.Runs as runs
use Rattle.runs.proofs.lists_hold.Goals as goal

pub returns : goal.returns
returns g c = runs.hold _

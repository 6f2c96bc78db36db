use Rattle.runs.proofs.Runs as runs
use Rattle.runs.proofs.lists_mirror.Goals as goal

pub returns : goal.returns
returns g c = runs.mirror _

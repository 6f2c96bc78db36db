use Rattle.runs.proofs.Runs as runs
use Rattle.runs.proofs.lists_go_on.Goals as goal

pub returns : goal.returns
returns g c = runs.go_on _

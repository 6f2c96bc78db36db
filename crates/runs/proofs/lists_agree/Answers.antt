use Rattle.runs.proofs.Runs as runs
use Rattle.runs.proofs.lists_agree.Goals as goal

pub returns : goal.returns
returns g c = runs.agree _

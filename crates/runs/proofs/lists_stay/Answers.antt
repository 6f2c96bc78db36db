use Rattle.runs.proofs.Runs as runs
use Rattle.runs.proofs.lists_stay.Goals as goal

pub returns : goal.returns
returns g c = runs.stay _ _

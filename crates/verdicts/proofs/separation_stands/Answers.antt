use Rattle.verdicts.proofs.Symmetry.{separation-swap}
use Rattle.verdicts.proofs.separation_stands.Goals as goal

pub returns : goal.returns
returns c = separation-swap

use Rattle.std.proofs.Common.{refl}
use Rattle.cells.specs.Codes.{packed}
use Rattle.verdicts.specs.Separations.{same_code}
use Rattle.verdicts.proofs.worked_pairs.Goals as goal

pub returns : goal.returns
unfolding same_code packed
returns c = record { close = refl; exactly_forty = refl; forty_one = refl; unknown_start = refl; other_artist = refl }

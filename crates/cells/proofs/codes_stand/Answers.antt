use Rattle.std.proofs.Common.{refl}
use Rattle.cells.specs.Codes.{packed}
use Rattle.cells.proofs.Packing.{back, forth}
use Rattle.cells.proofs.Letters.{code_fits, same_letters}
use Rattle.cells.proofs.codes_stand.Goals as goal

pub returns : goal.returns
unfolding packed
returns c = record {
  letters_back = back;
  code_back = λ d. (d.named, forth d.bits (code_fits d.bits d.named));
  fits = λ d. code_fits d.bits d.named;
  apart = same_letters;
  worked = refl;
}

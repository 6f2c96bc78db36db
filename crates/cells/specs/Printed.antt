-- What is printed of a cell.
use Rattle.std.specs.Prelude.{ℕ, Bool, cond, List, [], codes, decimal}
use Rattle.std.specs.Fmt.{signed_decimal}
use Rattle.cells.specs.Codes.{letters}
use Rattle.cells.specs.declared.full.Full.{Full}
use Rattle.cells.specs.declared.full.Full.TheVariants as full
use Rattle.cells.specs.declared.place.Place.{Place}
use Rattle.cells.specs.declared.place.Place.TheVariants as place

-- the word for yes and the word for no
abbrev pub word_text : Bool → List ℕ
word_text b = cond b (codes "yes") (codes "no")

abbrev pub full_text : Full → List ℕ
full_text full.Missing = []
full_text (full.Number z) = signed_decimal z
full_text (full.Code c) = letters c.bits
full_text (full.YesNo b) = word_text b

abbrev pub place_text : Place → List ℕ
place_text place.Missing = []
place_text (place.Row n) = decimal n
place_text (place.YesNo b) = word_text b

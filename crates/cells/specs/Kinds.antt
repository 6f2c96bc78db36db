-- Which cell is missing, for each kind, and what a full cell holds.
use Rattle.std.specs.Prelude.{Bool, true, false, ℤ, Option, Some, None}
use Rattle.cells.specs.declared.code.Code.{Code}
use Rattle.cells.specs.declared.full.Full.{Full}
use Rattle.cells.specs.declared.full.Full.TheVariants as full
use Rattle.cells.specs.declared.place.Place.{Place}
use Rattle.cells.specs.declared.place.Place.TheVariants as place

abbrev pub lacks_full : Full → Bool
lacks_full full.Missing = true
lacks_full (full.Number z) = false
lacks_full (full.Code c) = false
lacks_full (full.YesNo b) = false

abbrev pub lacks_place : Place → Bool
lacks_place place.Missing = true
lacks_place (place.Row n) = false
lacks_place (place.YesNo b) = false

-- the code in a cell; a cell of another kind counts as missing
abbrev pub code_in : Full → Option Code
code_in full.Missing = None
code_in (full.Number z) = None
code_in (full.Code c) = Some c
code_in (full.YesNo b) = None

-- the number in a cell; a cell of another kind counts as missing
abbrev pub number_in : Full → Option ℤ
number_in full.Missing = None
number_in (full.Number z) = Some z
number_in (full.Code c) = None
number_in (full.YesNo b) = None

-- What is printed of a row, and which rows text can write.
use Rattle.std.specs.Prelude.{ℕ, suc, ◌^◌, ◌<◌, List, [], ◌∷◌, ◌++◌, ℤ, pos, negsuc}
use Rattle.cells.specs.Printed.{full_text}
use Rattle.cells.specs.declared.full.Full.{Full}
use Rattle.cells.specs.declared.full.Full.TheVariants.{Missing, Number, Code, YesNo}

-- the texts of the cells, with commas (44) between
abbrev pub row_text : List Full → List ℕ
row_text [] = []
row_text (c ∷ []) = full_text c
row_text (c ∷ d ∷ cs) = full_text c ++ 44 ∷ row_text (d ∷ cs)

-- a number of at most 12 digits, above 0 or below
abbrev pub Short : ℤ → Type 0
Short (pos n) = n < 10 ^ 12
Short (negsuc n) = suc n < 10 ^ 12

-- a cell that text can write; yes and no are none, since their words stand for codes
abbrev pub Writable : Full → Type 0
Writable Missing = Unit {0}
Writable (Number z) = Short z
Writable (Code c) = Unit {0}
Writable (YesNo b) = ⊥

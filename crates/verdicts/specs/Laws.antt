-- What holds of verdicts.
use Rattle.std.specs.Prelude.{◌≡◌, ℕ, List}
use Rattle.cells.specs.declared.full.Full.{Full}
use Rattle.verdicts.specs.declared.separation.SongColumns.{SongColumns}
use Rattle.verdicts.specs.declared.truth.Truth.{Truth}
use Rattle.verdicts.specs.Truths.{turned}
use Rattle.verdicts.specs.Separations.{separation}

-- turned about twice is the verdict itself
abbrev pub TurnedTwice : {C : Type 0} → (List C → List C → Truth) → Type 0
TurnedTwice {C} f = (l r : List C) → turned (turned f) l r ≡ f l r

-- exchanging the rows and the columns of a separation changes nothing
abbrev pub SeparationStands : Type 0
SeparationStands = (minutes : ℕ) (a b : SongColumns) (l r : List Full) → separation minutes a b l r ≡ turned (separation minutes b a) l r

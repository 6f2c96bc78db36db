-- Which items a source may have.
use Rattle.std.specs.Prelude.{◌≡◌, ℕ, ◌≤◌, length, All}
use Rattle.memory.specs.Items.{Item, batch, wait, fault}

-- a batch has at most so many rows, each of w cells; a fault has a cause of 1 to 255 and a depth of 0 to 255
abbrev pub Fits : {C : Type 0} → ℕ → ℕ → Item C → Type 0
Fits most w (batch rows) = (length rows ≤ most) × All (λ r. length r ≡ w) rows
Fits most w wait = Unit {0}
Fits most w (fault cause depth) = (1 ≤ cause) × (cause ≤ 255) × (depth ≤ 255)

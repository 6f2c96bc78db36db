-- A text as a list of lines, and what each line brings.
use Rattle.std.specs.Prelude.{◌≡◌, ℕ, ◌+◌, ◌<◌, ◌≤◌, cond, List, [], ◌∷◌, map, length, drop, Ok, Err, Result, ◌==◌}
use Rattle.std.proofs.Common.{⊎_elim}
use Rattle.cells.specs.declared.full.Full.{Full}
use Rattle.lines.specs.declared.reader.Answer.{Answer}
use Rattle.lines.specs.declared.reader.Answer.TheVariants.{Row, End}
use Rattle.lines.specs.declared.reader.LineRefusal.{LineRefusal}
use Rattle.lines.specs.declared.reader.LineRefusal.TheVariants.{Miscounted, Malformed}
use Rattle.lines.specs.Written.{commas, behind}
use Rattle.lines.proofs.Decided.{row_decided}

-- what a line brings: a row, or a refusal
pub data LineItem : Type 0 where
  good : List Full → LineItem
  bad : LineRefusal → LineItem

-- where rows have w cells: another number of cells is refused first, then a line that stands for no row
unfoldable pub item_of : ℕ → List ℕ → LineItem
item_of w line = cond (commas line + 1 == w) (⊎_elim (λ p. good p.0) (λ _. bad Malformed) (row_decided line)) (bad Miscounted)

-- a byte put in front of the first line
abbrev pub front : ℕ → List (List ℕ) → List (List ℕ)
front b [] = (b ∷ []) ∷ []
front b (l ∷ ls) = (b ∷ l) ∷ ls

-- the lines of a text: each ends with a line feed (10) or the last byte
abbrev pub lines_of : List ℕ → List (List ℕ)
lines_of [] = []
lines_of (b ∷ bs) = cond (b == 10) ([] ∷ lines_of bs) (front b (lines_of bs))

-- what the lines of a text bring, in order
abbrev pub items : ℕ → List ℕ → List LineItem
items w text = map (item_of w) (lines_of text)

-- the first item from the cursor on is answered, and the cursor moves behind its line; where it is no row, the row is left alone
abbrev pub Next : (w : ℕ) (text : List ℕ) (at : ℕ) (row : List Full) → Result Answer LineRefusal → (row' : List Full) (next : ℕ) → Type 0
Next w text at row (Ok Row) row' next = (items w (drop at text) ≡ good row' ∷ items w (drop next text)) × (length row' ≡ w) × (at < length text) × (next ≡ behind text at)
Next w text at row (Ok End) row' next = (items w (drop at text) ≡ []) × (row' ≡ row) × (next ≡ at) × (length text ≤ at)
Next w text at row (Err e) row' next = (items w (drop at text) ≡ bad e ∷ items w (drop next text)) × (row' ≡ row) × (at < length text) × (next ≡ behind text at)

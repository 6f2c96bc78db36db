-- What holds of all texts and rows.
use Rattle.std.specs.Prelude.{◌≡◌, ℕ, ◌+◌, ◌<◌, List, ◌∷◌, ◌++◌, length, Ok, Result, All}
use Rattle.cells.specs.declared.full.Full.{Full}
use Rattle.lines.specs.declared.reader.Answer.{Answer}
use Rattle.lines.specs.declared.reader.Answer.TheVariants.{Row}
use Rattle.lines.specs.declared.reader.LineRefusal.{LineRefusal}
use Rattle.lines.specs.Written.{Writes, Means}
use Rattle.lines.specs.Rows.{Read}
use Rattle.lines.specs.Printed.{row_text, Writable}

-- nothing is read in two ways
pub record OneMeaning : Type 0 where
  -- a text stands for one cell at most
  pub cell : (text : List ℕ) (c d : Full) → Writes c text → Writes d text → c ≡ d
  -- a line stands for one row at most
  pub row : (line : List ℕ) (r s : List Full) → Means r line → Means s line → r ≡ s
  -- the text, the place in it and the row handed over settle a reader's answer, the row that it leaves and its next place
  pub answer : (text : List ℕ) (at : ℕ) (old : List Full) (a b : Result Answer LineRefusal) (r s : List Full) (m n : ℕ) → Read text at old a r m → Read text at old b s n → (a ≡ b) × (r ≡ s) × (m ≡ n)

-- printing a row and reading it undo one another
pub record ReadsBack : Type 0 where
  -- what is printed of a row that text can write stands for the row
  pub means : (row : List Full) → 0 < length row → All Writable row → Means row (row_text row)
  -- no line stands for another row
  pub only : (row : List Full) (line : List ℕ) → Means row line → (0 < length row) × All Writable row
  -- every line that stands for a row is what is printed of it
  pub prints : (row : List Full) (line : List ℕ) → Means row line → row_text row ≡ line
  -- where such a row is printed in a text, with a line feed (10) behind it, a reader reads it and goes on behind the line feed
  pub reads : (row old : List Full) (front rest : List ℕ) → 0 < length row → All Writable row → length old ≡ length row → Read (front ++ (row_text row ++ 10 ∷ rest)) (length front) old (Ok Row) row (length front + length (row_text row) + 1)

-- What a reader answers, and what it leaves behind.
use Rattle.std.specs.Prelude.{◌≡◌, ℕ, ◌+◌, ◌<◌, ◌≤◌, List, length, Ok, Err, codes, Result, ◌≢◌}
use Rattle.cells.specs.declared.full.Full.{Full}
use Rattle.lines.specs.declared.reader.Answer.{Answer}
use Rattle.lines.specs.declared.reader.Answer.TheVariants.{Row, End}
use Rattle.lines.specs.declared.reader.LineRefusal.{LineRefusal}
use Rattle.lines.specs.declared.reader.LineRefusal.TheVariants.{Miscounted, Malformed}
use Rattle.lines.specs.Written.{Means, commas, line_at, behind}

-- the number by which a refusal goes
abbrev pub number_of : LineRefusal → ℕ
number_of Miscounted = 17
number_of Malformed = 18

-- what is printed of a refusal
abbrev pub refusal_text : LineRefusal → List ℕ
refusal_text Miscounted = codes "not as many cells as the row has"
refusal_text Malformed = codes "a malformed cell"

-- at the place `at` of a text a reader is handed a row, leaves it as `row'` and stands at `next`
abbrev pub Read : (text : List ℕ) (at : ℕ) (row : List Full) → Result Answer LineRefusal → (row' : List Full) (next : ℕ) → Type 0
Read text at row (Ok Row) row' next = (at < length text) × Means row' (line_at text at) × (next ≡ behind text at) × (length row' ≡ length row)
Read text at row (Ok End) row' next = (length text ≤ at) × (row' ≡ row) × (next ≡ at)
Read text at row (Err Miscounted) row' next = (at < length text) × (commas (line_at text at) + 1 ≢ length row) × (row' ≡ row) × (next ≡ at)
Read text at row (Err Malformed) row' next = (at < length text) × (commas (line_at text at) + 1 ≡ length row) × ((any : List Full) → Means any (line_at text at) → ⊥) × (row' ≡ row) × (next ≡ at)

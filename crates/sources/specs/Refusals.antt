-- Refusals: when, and by which number.
use Rattle.std.specs.Prelude.{◌≡◌, ℕ, Bool, true, false}
use Rattle.memory.specs.Columns.{up_to}
use Rattle.memory.specs.Rows.{are_rows}
use Rattle.sources.specs.declared.answer.SourceRefusal.{SourceRefusal}
use Rattle.sources.specs.declared.answer.SourceRefusal.TheVariants.{PageTooShort}
use Rattle.sources.specs.declared.refusal.ShapeRefusal.{ShapeRefusal}
use Rattle.sources.specs.declared.refusal.ShapeRefusal.TheVariants.{BatchLength, NotWholeRows}

-- what a source answers that is asked with a short page
abbrev pub ask_number : SourceRefusal → ℕ
ask_number PageTooShort = 13

-- what making a table source is refused with
abbrev pub table_number : ShapeRefusal → ℕ
table_number BatchLength = 14
table_number NotWholeRows = 16

-- a batch has 1 to 1,024 rows
abbrev pub is_batch : ℕ → Bool
is_batch n = up_to 1024 n

-- why so many cells, columns and rows to a batch make no table source; the smaller number first
abbrev pub Refuses : (cells columns batch : ℕ) → ShapeRefusal → Type 0
Refuses cells columns batch BatchLength = is_batch batch ≡ false
Refuses cells columns batch NotWholeRows = (is_batch batch ≡ true) × (are_rows columns cells ≡ false)

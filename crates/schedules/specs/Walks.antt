-- What walking over the lines of a text tells.
use Rattle.std.specs.Prelude.{◌≡◌, ℕ, ◌+◌, ◌<◌, ◌≤◌, List, [], ◌∷◌, length, drop, Some, None, Ok, Err, Option, Result}
use Rattle.std.specs.Borrow.{Bor}
use Rattle.cells.specs.declared.full.Full.{Full}
use Rattle.lines.specs.Written.{line_at, behind}
use Rattle.texts.specs.Items.{LineItem, good, bad, items}
use Rattle.schedules.specs.declared.songs.PassedLine.{PassedLine}
use Rattle.schedules.specs.declared.walk.Lines.{Lines}
use Rattle.schedules.specs.declared.walk.RowLines.{RowLines}

-- the line at the place is told and passed; at the end all stays as it is
abbrev pub Passes : Lines → Option (Bor (List ℕ)) → Lines → Type 0
Passes s None t = (length s.text.now ≤ s.at) × (t.text.now ≡ s.text.now) × (t.at ≡ s.at) × (t.before ≡ s.before)
Passes s (Some line) t = (s.at < length s.text.now) × (line.now ≡ line_at s.text.now s.at) × (t.text.now ≡ s.text.now) × (t.at ≡ behind s.text.now s.at) × (t.before ≡ s.before + 1)

-- what items bring, with n lines before the first of them: rows, and the lines that are passed by
abbrev pub brought_from : ℕ → List LineItem → List (Result (List Full) PassedLine)
brought_from n [] = []
brought_from n (good r ∷ is) = Ok r ∷ brought_from (n + 1) is
brought_from n (bad e ∷ is) = Err (record { index = n; refusal = e }) ∷ brought_from (n + 1) is

-- what the lines that are left bring, as rows of two cells
abbrev pub brought : RowLines → List (Result (List Full) PassedLine)
brought s = brought_from s.lines.before (items 2 (drop s.lines.at s.lines.text.now))

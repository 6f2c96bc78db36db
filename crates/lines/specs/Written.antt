-- What text stands for a cell, what line for a row, and where a line lies in a text (docs/RULES.md, "Lines of text").
use Rattle.std.specs.Prelude.{◌≡◌, ℕ, suc, ◌+◌, ◌-◌, ◌*◌, ◌≤◌, min, Bool, true, cond, not, List, [], ◌∷◌, ◌++◌, length, take, drop, ℤ, pos, negsuc, fold, ◌==◌, nat_lt, slice_index_or, count_by}
use Rattle.std.specs.List.{prefix_len}
use Rattle.std.specs.Str.{all_ascii_digits}
use Rattle.cells.specs.Codes.{letters}
use Rattle.cells.specs.declared.full.Full.{Full}
use Rattle.cells.specs.declared.full.Full.TheVariants.{Missing, Number, Code, YesNo}

-- the number that decimal digits write
abbrev pub value : List ℕ → ℕ
value ds = fold (λ n d. n * 10 + (d - 48)) 0 ds

-- 1 to 12 bytes, and a zero (48) in front only where it stands alone
pub record Sized (ds : List ℕ) : Type 0 where
  pub some : 1 ≤ length ds
  pub few : length ds ≤ 12
  pub lean : slice_index_or ds 0 0 ≡ 48 → length ds ≡ 1

-- such bytes that are all digits
pub record Numeral (ds : List ℕ) : Type 0 where
  pub sized : Sized ds
  pub digits : all_ascii_digits ds ≡ true

-- a numeral, with a minus (45) where the number is below 0: so there is no -0
abbrev pub Figures : ℤ → List ℕ → Type 0
Figures (pos n) t = Numeral t × (value t ≡ n)
Figures (negsuc n) t = (ds : List ℕ) × (t ≡ 45 ∷ ds) × Numeral ds × (value ds ≡ suc n)

-- the text stands for the cell
abbrev pub Writes : Full → List ℕ → Type 0
Writes Missing t = t ≡ []
Writes (Number z) t = Figures z t
Writes (Code c) t = letters c.bits ≡ t
Writes (YesNo b) t = ⊥

-- the line stands for the row: the texts of its cells, with commas (44) between
abbrev pub Means : List Full → List ℕ → Type 0
Means [] line = ⊥
Means (c ∷ []) line = Writes c line
Means (c ∷ d ∷ cs) line = (t : List ℕ) × (u : List ℕ) × (line ≡ t ++ 44 ∷ u) × Writes c t × Means (d ∷ cs) u

-- how many commas a line has
abbrev pub commas : List ℕ → ℕ
commas line = count_by (λ b. b == 44) line

-- x is not the byte b
abbrev pub unlike : ℕ → ℕ → Bool
unlike b x = not (x == b)

-- how many bytes come before the first b
abbrev pub before : ℕ → List ℕ → ℕ
before b bs = prefix_len (unlike b) bs

-- the line that begins at a place of a text: up to a line feed (10) or the last byte
abbrev pub line_at : List ℕ → ℕ → List ℕ
line_at text at = take (before 10 (drop at text)) (drop at text)

-- the place behind that line and its line feed
abbrev pub behind : List ℕ → ℕ → ℕ
behind text at = min (at + before 10 (drop at text) + 1) (length text)

-- the same, and the place itself where no byte is left
abbrev pub passed : List ℕ → ℕ → ℕ
passed text at = cond (nat_lt at (length text)) (behind text at) at

-- The two blocks of a text, as lists of lines, and what the lines of a block bring.
use Rattle.std.specs.Prelude.{ℕ, ◌+◌, Bool, true, false, List, [], ◌∷◌, map, take, drop, codes}
use Rattle.std.specs.List.{prefix_len, flat_map}
use Rattle.cells.specs.declared.full.Full.{Full}
use Rattle.texts.specs.Items.{LineItem, good, bad, item_of}
use Rattle.schedules.specs.declared.songs.PassedLine.{PassedLine}

-- a line that has a byte
abbrev pub is_full : List ℕ → Bool
is_full [] = false
is_full (b ∷ bs) = true

-- the lines before the first empty line
abbrev pub first_block : List (List ℕ) → List (List ℕ)
first_block ls = take (prefix_len is_full ls) ls

-- the lines behind it
abbrev pub second_block : List (List ℕ) → List (List ℕ)
second_block ls = drop (prefix_len is_full ls + 1) ls

-- the names line
abbrev pub names : List ℕ
names = codes "artist,start"

-- the row that an item brings, if it brings one
abbrev pub row_of : LineItem → List (List Full)
row_of (good r) = r ∷ []
row_of (bad e) = []

-- the rows that lines bring, of two cells each
abbrev pub good_rows : List (List ℕ) → List (List Full)
good_rows ls = flat_map row_of (map (item_of 2) ls)

-- the refusals among items, with n lines before the first of them
abbrev pub passed_from : ℕ → List LineItem → List PassedLine
passed_from n [] = []
passed_from n (good r ∷ is) = passed_from (n + 1) is
passed_from n (bad e ∷ is) = record { index = n; refusal = e } ∷ passed_from (n + 1) is

-- the lines that are passed by, with n lines before the first
abbrev pub passed_lines : ℕ → List (List ℕ) → List PassedLine
passed_lines n ls = passed_from n (map (item_of 2) ls)

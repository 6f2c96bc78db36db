-- The lines of a report.
use Rattle.std.specs.Prelude.{ℕ, ◌+◌, ◌-◌, ◌/◌, ◌^◌, min, List, ◌++◌, vec_items, vec_len, codes, decimal}
use Rattle.std.specs.List.{flat_map}
use Rattle.cells.specs.declared.full.Full.{Full}
use Rattle.lines.specs.declared.reader.LineRefusal.{LineRefusal}
use Rattle.lines.specs.Printed.{row_text}
use Rattle.lines.specs.Rows.{number_of, refusal_text}
use Rattle.memory.specs.Rows.{row_at}
use Rattle.schedules.specs.declared.songs.PassedLine.{PassedLine}
use Rattle.schedules.specs.declared.songs.Songs.{Songs}
use Rattle.clashes.specs.declared.loops.Pair.{Pair}

-- a planned and an aired song
abbrev pub clash_line : List Full → List Full → List ℕ
clash_line planned aired = codes "   planned " ++ (row_text planned ++ (codes ", aired " ++ (row_text aired ++ codes "\n")))

-- the songs of a pair of row numbers; songs have two cells
abbrev pub pair_line : List Full → List Full → Pair → List ℕ
pair_line planned aired p = clash_line (row_at 2 planned p.left) (row_at 2 aired p.right)

-- a line for each clash
abbrev pub clash_lines : List Full → List Full → List Pair → List ℕ
clash_lines planned aired pairs = flat_map (pair_line planned aired) pairs

-- a line that was passed by, by its number in the text, with the refusal's number and words
abbrev pub refused_line : ℕ → ℕ → LineRefusal → List ℕ
refused_line place number words = codes "   line " ++ (decimal place ++ (codes ": refused with " ++ (decimal number ++ (codes ": " ++ (refusal_text words ++ codes "\n")))))

-- the same of a line whose block begins at line `first` of the text
abbrev pub passed_line : ℕ → PassedLine → List ℕ
passed_line first p = refused_line (min (first + p.index) (2 ^ 64 - 1)) (number_of p.refusal) p.refusal

-- a line for each line that was passed by
abbrev pub passed_lines : ℕ → List PassedLine → List ℕ
passed_lines first ps = flat_map (passed_line first) ps

-- how many songs a block brought, and how many of its lines were passed by
abbrev pub head_line : List ℕ → ℕ → ℕ → List ℕ
head_line head songs passed = head ++ (codes ". Songs: " ++ (decimal songs ++ (codes ". Lines passed by: " ++ (decimal passed ++ codes ".\n"))))

-- what was read of a block
abbrev pub songs_text : List ℕ → Songs → ℕ → List ℕ
songs_text head songs first = head_line head (vec_len songs.cells / 2) (vec_len songs.passed) ++ passed_lines first (vec_items songs.passed)

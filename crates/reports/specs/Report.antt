-- The whole report.
use Rattle.std.specs.Prelude.{ℕ, ◌+◌, ◌-◌, ◌^◌, min, List, ◌++◌, length, vec_items, codes, decimal}
use Rattle.clashes.specs.declared.answer.ClashLists.{ClashLists}
use Rattle.clashes.specs.declared.loops.Pair.{Pair}
use Rattle.reports.specs.Texts.{clash_lines, songs_text}

-- what was read of both blocks
abbrev pub read_text : ClashLists → List ℕ
read_text c =
    songs_text (codes "1. Read the schedule") c.schedule 1
    ++ songs_text (codes "2. Read the log") c.log (min (c.lines_before_gap + 2) (2 ^ 64 - 1))

-- a list under its heading, with its length
abbrev pub one_list : List ℕ → ClashLists → List Pair → List ℕ
one_list head c pairs = (head ++ (decimal (length pairs) ++ codes ".\n")) ++ clash_lines (vec_items c.schedule.cells) (vec_items c.log.cells) pairs

-- the lists at both separations
abbrev pub list_text : ClashLists → ℕ → ℕ → List ℕ
list_text c m n =
    one_list (codes "3. Clashes at " ++ (decimal m ++ codes " minutes: ")) c (vec_items c.lists.first)
    ++ one_list (codes "4. Clashes at " ++ (decimal n ++ codes " minutes: ")) c (vec_items c.lists.second)

-- what the second list adds and drops
abbrev pub change_text : ClashLists → ℕ → ℕ → List ℕ
change_text c m n =
    one_list (codes "5. Clashes that " ++ (decimal n ++ (codes " minutes add to " ++ (decimal m ++ codes ": ")))) c (vec_items c.lists.added)
    ++ one_list (codes "6. Clashes that " ++ (decimal n ++ (codes " minutes drop from " ++ (decimal m ++ codes ": ")))) c (vec_items c.lists.dropped)

abbrev pub report_text : ClashLists → ℕ → ℕ → List ℕ
report_text c m n = read_text c ++ list_text c m n ++ change_text c m n

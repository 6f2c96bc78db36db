-- Songs in memory, as rows of two cells.
use Rattle.std.proofs.Common.{◌≡◌, ℕ, ◌*◌, ◌/◌, ◌%◌, List, length, ap, ◌∙◌, arith}
use Rattle.cells.specs.declared.full.Full.{Full}
use Rattle.memory.specs.Rows.{rows_from}
use Rattle.memory.proofs.Cuts.{length_cells, rows_back}
use Rattle.schedules.specs.Blocks.{good_rows}
use Rattle.schedules.specs.Reads.{cells_of}
use Rattle.schedules.proofs.Widths.{good_width}

twice : (ls : List (List ℕ)) (cells : List Full) → cells ≡ cells_of (good_rows ls) → length cells ≡ length (good_rows ls) * 2
twice ls cells e = ap length e ∙ length_cells 2 (good_rows ls) (good_width ls)

pub even : (ls : List (List ℕ)) (cells : List Full) → cells ≡ cells_of (good_rows ls) → length cells % 2 ≡ 0
even ls cells e = omega (arith, twice ls cells e)

pub song_rows : (ls : List (List ℕ)) (cells : List Full) → cells ≡ cells_of (good_rows ls) → rows_from (length cells / 2) 2 cells ≡ good_rows ls
song_rows ls cells e =
    ap (λ n. rows_from n 2 cells) (omega (arith, twice ls cells e))
    ∙ ap (rows_from (length (good_rows ls)) 2) e
    ∙ rows_back 2 (good_rows ls) (good_width ls)

-- That the items of the sources here fit, as the trait asks. These are proofs, not definitions.
use Rattle.std.specs.Prelude.{◌≡◌, ℕ, zero, suc, ◌+◌, ◌/◌, ◌≤◌, Bool, List, map, length, take, drop, replicate, All}
use Rattle.std.proofs.Common.{sym, subst, le_trans}
use Rattle.std.proofs.Math.Nat.{min-le_left, min-le_right, div-mul-le_self}
use Rattle.std.proofs.lemmas.List.{length-take}
use Rattle.std.proofs.lemmas.List.Elements.{All-from_recursion, All-nil, All-cons, All-take, All-drop, All-map, All-weaker, All-filter}
use Rattle.std.proofs.lemmas.List.Sums.{length-filter, count_by-le-length}
use Rattle.memory.specs.Items.{Item, batch, wait, fault}
use Rattle.memory.proofs.Taken.{wide_rows}
use Rattle.sources.specs.Cuts.{cut_by, parts, whole_rows, batches_of}
use Rattle.sources.specs.Fits.{Fits}
use Rattle.sources.specs.Present.{has_cell, present}

-- parts of at most so many rows each
cut_fits : {C : Type 0} (most c w k : ℕ) (rows : List (List C)) → c ≤ most → All (λ r. length r ≡ w) rows → All (Fits most w) (map batch (cut_by (replicate k c) rows))
cut_fits most c w zero rows h wide = All-nil (Fits most w)
cut_fits most c w (suc k) rows h wide =
    All-cons (Fits most w) (batch (take c rows)) (map batch (cut_by (replicate k c) (drop c rows)))
    (subst (λ n. n ≤ most) (sym (length-take c rows)) (le_trans (min-le_left c (length rows)) h), All-take (λ r. length r ≡ w) c rows wide)
    (cut_fits most c w k (drop c rows) h (All-drop (λ r. length r ≡ w) c rows wide))

-- the batches of a table
pub table_fits : {C : Type 0} (c w : ℕ) (cells : List C) → c ≤ 1024 → All (Fits 1024 w) (batches_of c (whole_rows w cells))
table_fits c w cells h =
    let rows = whole_rows w cells in
    cut_fits 1024 c w (parts (length rows) c) rows h (All-from_recursion (λ r. length r ≡ w) rows (wide_rows (length cells / w) w cells (div-mul-le_self (length cells) w)))

-- what the present layer makes of an item fits where the item does
present_one : {C : Type 0} (is_missing : C → Bool) (column most w : ℕ) (item : Item C) → Fits most w item → Fits most w (present is_missing column item)
present_one is_missing column most w (batch rows) h =
    let keep = has_cell is_missing column in
    (subst (λ n. n ≤ most) (sym (length-filter keep rows)) (le_trans (count_by-le-length keep rows) h.0), All-filter keep (λ r. length r ≡ w) rows h.1)
present_one is_missing column most w wait h = tt
present_one is_missing column most w (fault cause depth) h = (h.0, h.1, min-le_right (depth + 1) 255)

-- the items of the present layer
pub present_fits : {C : Type 0} (is_missing : C → Bool) (column most w : ℕ) (items : List (Item C)) → All (Fits most w) items → All (Fits most w) (map (present is_missing column) items)
present_fits is_missing column most w items h =
    All-map (Fits most w) (present is_missing column) items (All-weaker (Fits most w) (λ item. Fits most w (present is_missing column item)) (present_one is_missing column most w) items h)

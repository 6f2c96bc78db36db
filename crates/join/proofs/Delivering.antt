-- Waiting rows that are delivered.
use Rattle.std.proofs.Common.{◌≡◌, ℕ, ◌+◌, ◌*◌, ◌≤◌, min, List, ◌++◌, length, take, drop, sym, ap, ◌∙◌, ap₂, arith}
use Rattle.std.proofs.lemmas.List.{length-take}
use Rattle.memory.specs.Rows.{rows_from, cells_of, put_row}
use Rattle.memory.proofs.Cuts.{length-rows_from}
use Rattle.memory.proofs.Taken.{cells_rows_from, take-rows_from}

-- as many rows are taken as are asked for
pub taken_rows : {C : Type 0} (k w c : ℕ) (page : List C) → k ≤ w → length (take k (rows_from w c page)) ≡ k
taken_rows k w c page h = length-take k (rows_from w c page) ∙ (let l = length-rows_from w c page in omega arith)

-- the out page: the rows at its front, and behind them what stood there
pub out_is : {C : Type 0} (k w c : ℕ) (page out : List C) → k ≤ w → k * c ≤ length page →
    put_row out 0 (take (k * c) page) ≡ cells_of (take k (rows_from w c page)) ++ drop (length (take k (rows_from w c page)) * c) out
out_is {C} k w c page out h room =
    let m : min w k ≡ k = omega arith in
    let cells : cells_of (take k (rows_from w c page)) ≡ take (k * c) page = ap cells_of (take-rows_from k w c page) ∙ ap (λ (n : ℕ). cells_of (rows_from n c page)) m ∙ cells_rows_from k c page in
    let long : 0 + length (take (k * c) page) ≡ length (take k (rows_from w c page)) * c =
    (let a = length-take (k * c) page in let b : min (k * c) (length page) ≡ k * c = omega arith in let e : 0 + length (take (k * c) page) ≡ k * c = omega arith in e) ∙ ap (λ (n : ℕ). n * c) (sym (taken_rows k w c page h)) in
    ap₂ (λ (a : List C) (b : ℕ). a ++ drop b out) (sym cells) long

-- rows of a page that is the same
pub rows_at : {C : Type 0} (k w : ℕ) (page page' : List C) (rows : List (List C)) → page ≡ page' → rows_from k w page' ≡ rows → rows_from k w page ≡ rows
rows_at k w page page' rows e f = ap (rows_from k w) e ∙ f

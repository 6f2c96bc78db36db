-- What records and memory show: a table in left memory, a state on a right page, an outcome on an out page.
use Rattle.std.proofs.Common.{◌≡◌, ℕ, ◌*◌, List, ◌++◌, length, take, refl, ap, ◌∙◌}
use Rattle.std.specs.List.{AllByRecursion}
use Rattle.std.proofs.lemmas.List.{take_at}
use Rattle.memory.specs.Rows.{rows_from, cells_of}
use Rattle.memory.proofs.Cuts.{length_cells}
use Rattle.memory.proofs.Pages.{rows_front}
use Rattle.memory.proofs.Taken.{rows_on_page}
use Rattle.nested_loop.specs.Machine.{Outcome, refused, on, delivers, waits, faults, says_done, rows_in, told}
use Rattle.nested_loop.specs.Machine as machine
use Rattle.runs.specs.Records.{ProbeView, NLJState, InFetchingRight, InProbeRight, InEmitRightUnmatched, InProbeEnd, InEmitLeftUnmatched, InDone}
use Rattle.runs.specs.Calls.{state_of}
use Rattle.runs.specs.Lists.{current, shown}

module _ {C : Type 0} where
  -- rows that stand at the front are read back, whatever follows
  pub rows_cells : (c : ℕ) (rs : List (List C)) (z : List C) → AllByRecursion (λ r. length r ≡ c) rs → rows_from (length rs) c (cells_of rs ++ z) ≡ rs
  rows_cells c rs z a = rows_on_page c rs (cells_of rs ++ z) a (take_at (cells_of rs) z (length (cells_of rs)) refl)

  pub table_is : (c : ℕ) (table : List (List C)) (left : List C) → AllByRecursion (λ r. length r ≡ c) table → take (length table * c) left ≡ cells_of table → rows_from (length table) c left ≡ table
  table_is c table left a e = rows_on_page c table left a (ap (λ (n : ℕ). take n left) (length_cells c table a) ∙ e)

  pub state_same : (c : ℕ) (v : ProbeView) (xs ys : List C) (s : NLJState) → take (current v s * c) xs ≡ take (current v s * c) ys → state_of c v xs s ≡ state_of c v ys s
  state_same c v xs ys InFetchingRight e = refl
  state_same c v xs ys InProbeRight e = ap (λ (z : List (List C)). machine.ProbeRight z v.marks v.index) (rows_front v.rows c xs ys e)
  state_same c v xs ys InEmitRightUnmatched e = ap (λ (z : List (List C)). machine.EmitRightUnmatched z v.marks) (rows_front v.rows c xs ys e)
  state_same c v xs ys InProbeEnd e = refl
  state_same c v xs ys InEmitLeftUnmatched e = refl
  state_same c v xs ys InDone e = refl

  -- what answer and out page show is the outcome
  pub read_back : (who k c : ℕ) (a : Outcome C) (z : List C) → AllByRecursion (λ r. length r ≡ c) (rows_in a) → shown (told who k a) c (cells_of (rows_in a) ++ z) ≡ a
  read_back who k c refused z h = refl
  read_back who k c on z h = refl
  read_back who k c (delivers rs) z h = ap delivers (rows_cells c rs z h)
  read_back who k c waits z h = refl
  read_back who k c (faults x y) z h = refl
  read_back who k c says_done z h = refl

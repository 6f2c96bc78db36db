-- A turn of each loop: what is left then gives the same as before.
use Rattle.std.proofs.Common.{◌≡◌, ℕ, suc, ◌+◌, ◌-◌, ◌<◌, ◌≤◌, min, true, false, cond, List, [], ◌∷◌, length, get_or, take, drop, sym, ap, ◌∙◌, ap₂, ⊎_elim, arith}
use Rattle.std.proofs.lemmas.List.{at_drop_more, drop_more, drop_all, take_all}
use Rattle.std.proofs.lemmas.Bool.{cases_lt, cond-true, cond-false}
use Rattle.memory.specs.Rows.{row_at, rows_in}
use Rattle.memory.proofs.Cuts.{get_or-rows_from, length-rows_from}
use Rattle.memory.specs.Marks.{marked}
use Rattle.nested_loop.specs.Model.{Setup, has_pairs}
use Rattle.nested_loop.specs.Loop.{is_pair, output_row}
use Rattle.memory.specs.declared.rows.MemoryRows.{MemoryRows}
use Rattle.probing.specs.Waiting.{stretch, Waiting, appended}
use Rattle.probing.specs.declared.pairs.PairMarks.{PairMarks}
use Rattle.probing.specs.Met.{Met, width, met_pair, met_row, met_range, SameWords}

-- a stretch that has a first element, and one that has none
pub stretch-more : {X : Type 0} (xs : List X) (i to : ℕ) (d : X) → i < to → i < length xs → stretch i to xs ≡ get_or xs i d ∷ stretch (i + 1) to xs
stretch-more {X} xs i to d h k =
    let s : to - i ≡ suc (to - (i + 1)) = omega arith in
    ap₂ (λ (m : ℕ) (ys : List X). take m ys) s (drop_more xs i d k)

pub stretch-none : {X : Type 0} (xs : List X) (i to : ℕ) → min to (length xs) ≤ i → stretch i to xs ≡ []
stretch-none {X} xs i to h =
    ⊎_elim
    (λ (l : i < to). ap (take (to - i)) (drop_all i xs (omega arith)) ∙ take_all (to - i) [] (omega arith))
    (λ (l : to ≤ i). let z : to - i ≡ 0 = omega arith in ap (λ (m : ℕ). take m (drop i xs)) z)
    (cases_lt i to)

abbrev met_by : {C : Type 0} → List ℕ → List ℕ → Waiting C → Met C
met_by lefts rights waits = record { lefts = lefts; rights = rights; waits = waits }

module _ {C State : Type 0} (t : MemoryRows C State) where
  pub length-rows_in : length (rows_in t) ≡ t.count
  length-rows_in = length-rows_from t.count t.columns t.cells.now

  pub rows_in_at : (i : ℕ) → i < t.count → get_or (rows_in t) i [] ≡ row_at t.columns t.cells.now i
  rows_in_at i h = get_or-rows_from t.count t.columns t.cells.now i h

  -- one of the right rows is met
  pub row_turn : (S : Setup C) (i : ℕ) (l : List C) (j : ℕ) (r : List C) (m m' : Met C) → j < t.count → r ≡ row_at t.columns t.cells.now j → m' ≡ met_pair S i j l r m → met_row S i l (j + 1) (drop (j + 1) (rows_in t)) m' ≡ met_row S i l j (drop j (rows_in t)) m
  row_turn S i l j r m m' h e f =
      let lt : j < length (rows_in t) = omega (arith, length-rows_in) in
      let here : r ≡ get_or (rows_in t) j [] = e ∙ sym (rows_in_at j h) in
      ap (met_row S i l (j + 1) (drop (j + 1) (rows_in t))) (f ∙ ap (λ (x : List C). met_pair S i j l x m) here)
      ∙ sym (at_drop_more (λ (x : List (List C)). met_row S i l j x m) (rows_in t) j [] lt)

  -- one of the left rows meets the batch
  pub range_turn : (S : Setup C) (i to : ℕ) (l : List C) (b : List (List C)) (m m' : Met C) → i < min to t.count → l ≡ row_at t.columns t.cells.now i → m' ≡ met_row S i l 0 b m → met_range S (i + 1) (stretch (i + 1) to (rows_in t)) b m' ≡ met_range S i (stretch i to (rows_in t)) b m
  range_turn S i to l b m m' h e f =
      let lt : i < length (rows_in t) = omega (arith, length-rows_in) in
      let here : l ≡ get_or (rows_in t) i [] = e ∙ sym (rows_in_at i (omega arith)) in
      ap (met_range S (i + 1) (stretch (i + 1) to (rows_in t)) b) (f ∙ ap (λ (x : List C). met_row S i x 0 b m) here)
      ∙ sym (ap (λ (x : List (List C)). met_range S i x b m) (stretch-more (rows_in t) i to [] (omega arith) lt))

-- a left and a right row, by whether they are a pair
module _ {C : Type 0} (S : Setup C) (i j : ℕ) (l r : List C) (m : Met C) where
  pub pair_met : (lefts rights : List ℕ) (waits : Waiting C) → is_pair S l r ≡ true → lefts ≡ marked m.lefts i → rights ≡ marked m.rights j →
      waits ≡ cond (has_pairs S.join_type) (appended (width S) (output_row S l r S.missing) m.waits) m.waits → met_by lefts rights waits ≡ met_pair S i j l r m
  pair_met lefts rights waits is a b w = (λ k. met_by (a k) (b k) (w k)) ∙ sym (cond-true (is_pair S l r) _ m is)

  pub none_met : is_pair S l r ≡ false → m ≡ met_pair S i j l r m
  none_met is = sym (cond-false (is_pair S l r) _ m is)

-- words that stay in the same memory twice
pub still_same : {a b c : PairMarks} → SameWords a b → SameWords b c → SameWords a c
still_same x y = record { left = y.left ∙ x.left; right = y.right ∙ x.right }

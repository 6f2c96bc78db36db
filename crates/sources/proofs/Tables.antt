-- The next batch of a table, and the batches behind it.
use Rattle.std.proofs.Common.{◌≡◌, ℕ, zero, suc, ◌+◌, ◌-◌, ◌*◌, ◌/◌, ◌<◌, ◌≤◌, min, List, [], ◌∷◌, ◌++◌, map, length, take, drop, replicate, sym, refl, ap, ◌∙◌, ⊎_elim, suc-mul, zero-mul, arith, take-add, mul-div_cancel, div-mul-le_self, mul-le-mul_right}
use native.Mathlib.Nat.{add-div_right, div-eq_of_lt, add-mul-div_right}
use Rattle.std.proofs.lemmas.Nat.{div-add-mod', mod_below}
use Rattle.std.proofs.lemmas.List.{length-drop, length-take, take_all, take_at}
use Rattle.std.proofs.lemmas.Bool.{cases_eq, cases_lt}
use Rattle.memory.specs.Items.{batch}
use Rattle.memory.specs.Rows.{rows_from, cells_of}
use Rattle.memory.proofs.Cuts.{length-rows_from, rows_back}
use Rattle.memory.proofs.Taken.{wide_rows, take-rows_from, drop-rows_from, cells_rows_from}
use Rattle.sources.specs.declared.answer.SourceAnswer.TheVariants.{Batch}
use Rattle.sources.specs.Asked.{Taken}
use Rattle.sources.specs.Cuts.{cut_by, parts, whole_rows, batches_of}
use Rattle.sources.specs.Drained.{rows_of}
use Rattle.sources.specs.Laws.{InBatches}

pub parts_none : (c : ℕ) → 0 < c → parts 0 c ≡ 0
parts_none c p = div-eq_of_lt (omega arith)

-- one part more than for what is left
pub parts_more : (n c : ℕ) → 0 < c → 0 < n → parts n c ≡ suc (parts (n - c) c)
parts_more n c p q =
    ⊎_elim
    (λ (l : n < c).
    let e : n + (c - 1) ≡ n - 1 + c = omega arith in
    let none : (n - 1) / c ≡ 0 = div-eq_of_lt (omega arith) in
    let over : (n - c + (c - 1)) / c ≡ 0 = div-eq_of_lt (omega arith) in
    let one = ap (λ x. x / c) e ∙ add-div_right (n - 1) p in
    omega arith)
    (λ (l : c ≤ n).
    let e : n + (c - 1) ≡ n - c + (c - 1) + c = omega arith in
    let one = ap (λ x. x / c) e ∙ add-div_right (n - c + (c - 1)) p in
    omega arith)
    (cases_lt n c)

-- where there are parts, there are rows
some-parts : (n c k : ℕ) → 0 < c → suc k ≡ parts n c → 0 < n
some-parts n c k p e = ⊎_elim (λ (z : n ≡ 0). let none = ap (λ m. parts m c) z ∙ parts_none c p in absurd (omega arith)) (λ (z : n ≡ 0 → ⊥). omega arith) (cases_eq n 0)

-- as many rows less as are taken
rows_left : (len k w : ℕ) → 0 < w → k * w ≤ len → (len - k * w) / w ≡ len / w - k
rows_left len k w p room =
    let whole : len ≡ len - k * w + k * w = omega arith in
    let more = ap (λ n. n / w) whole ∙ add-mul-div_right (len - k * w) k p in
    omega arith

-- the parts suffice
parts_enough : (n c : ℕ) → 0 < c → n ≤ parts n c * c
parts_enough n c p = omega (arith, div-add-mod' (n + (c - 1)) c, mod_below (n + (c - 1)) c p)

module _ {C : Type 0} where
  pub batches_more : (c : ℕ) (rows : List (List C)) → 0 < c → 0 < length rows → batches_of c rows ≡ batch (take c rows) ∷ batches_of c (drop c rows)
  batches_more c rows p q =
      let e : parts (length rows) c ≡ suc (parts (length (drop c rows)) c) = parts_more (length rows) c p q ∙ ap (λ n. suc (parts n c)) (sym (length-drop c rows)) in
      ap (λ k. map batch (cut_by (replicate k c) rows)) e

  -- the first m rows alone
  pub front_rows : (m w : ℕ) (cells : List C) → 0 < w → m * w ≤ length cells → whole_rows w (take (m * w) cells) ≡ rows_from m w cells
  front_rows m w cells p room =
      let front = take (m * w) cells in
      let rows = rows_from m w cells in
      let size : length front ≡ m * w = simp length-take (omega arith) in
      let count : length front / w ≡ length rows = ap (λ n. n / w) size ∙ mul-div_cancel m p ∙ sym (length-rows_from m w cells) in
      ap (λ n. rows_from n w front) count ∙ ap (rows_from (length rows) w) (sym (cells_rows_from m w cells)) ∙ rows_back w rows (wide_rows m w cells room)

  -- of the rows that lie in memory the next k are answered
  pub served : (c w k : ℕ) (cells front rest behind : List C) → 0 < c → 0 < w → 0 < k → k ≡ min c (length cells / w) → front ≡ take (k * w) cells → rest ≡ drop (k * w) cells →
      Taken (batches_of c (whole_rows w cells)) (batches_of c (whole_rows w rest)) (front ++ behind) (Batch k)
  served c w k cells front rest behind p v q e f r =
      let n = length cells / w in
      let rows = rows_from k w cells in
      let low : k ≡ min n c = omega arith in
      let some : 0 < length (rows_from n w cells) = rw length-rows_from (omega arith) in
      let first : take c (rows_from n w cells) ≡ rows = take-rows_from c n w cells ∙ ap (λ j. rows_from j w cells) (sym low) in
      let room : k * w ≤ length cells = omega (arith, mul-le-mul_right {m = k} {n = n} w (omega arith), div-mul-le_self (length cells) w) in
      let left : n - k ≡ length rest / w = sym (ap (λ x. length x / w) r ∙ ap (λ j. j / w) (length-drop (k * w) cells) ∙ rows_left (length cells) k w v room) in
      let then : drop c (rows_from n w cells) ≡ whole_rows w rest =
      drop-rows_from c n w cells ∙ ap (λ j. rows_from (n - j) w (drop (j * w) cells)) (sym low) ∙ ap (rows_from (n - k) w) (sym r) ∙ ap (λ j. rows_from j w rest) left in
      let cells_are : cells_of rows ≡ front = cells_rows_from k w cells ∙ sym f in (
        rows,
        batches_more c (rows_from n w cells) p some ∙ ap (λ b. batch b ∷ batches_of c (drop c (rows_from n w cells))) first ∙ ap (λ b. batch rows ∷ batches_of c b) then,
        sym (length-rows_from k w cells),
        ap (λ r. take (length r) (front ++ behind)) cells_are ∙ take_at front behind (length front) refl ∙ sym cells_are,
      )

  -- of no rows nothing is left
  pub ended : (c n w : ℕ) (cells : List C) → 0 < c → n ≡ 0 → batches_of c (rows_from n w cells) ≡ []
  ended c n w cells p e =
      ap (λ k. batches_of c (rows_from k w cells)) e ∙ ap (λ k. map batch (cut_by {X = List C} (replicate k c) [])) (parts_none c p)

module _ {C : Type 0} where
  rows_cut : (k c : ℕ) (rows : List (List C)) → rows_of (map batch (cut_by (replicate k c) rows)) ≡ take (k * c) rows
  rows_cut zero c rows = ap (λ n. take n rows) (sym (zero-mul c))
  rows_cut (suc k) c rows =
      let s : suc k * c ≡ c + k * c = omega (arith, suc-mul k c) in
      ap (λ r. take c rows ++ r) (rows_cut k c (drop c rows)) ∙ sym (take-add c (k * c) rows) ∙ ap (λ n. take n rows) (sym s)

  pub all_rows : (c : ℕ) (rows : List (List C)) → 1 ≤ c → rows_of (batches_of c rows) ≡ rows
  all_rows c rows p = rows_cut (parts (length rows) c) c rows ∙ take_all (parts (length rows) c * c) rows (parts_enough (length rows) c p)

  cut_batches : (k c : ℕ) (rows : List (List C)) → 1 ≤ c → k ≡ parts (length rows) c → InBatches c (map batch (cut_by (replicate k c) rows))
  cut_batches zero c rows p e = tt
  cut_batches (suc zero) c rows p e =
      let some = some-parts (length rows) c zero p e in
      (simp length-take (omega arith), simp length-take (omega arith))
  cut_batches (suc (suc k)) c rows p e =
      let some = some-parts (length rows) c (suc k) p e in
      let rest : suc k ≡ parts (length rows - c) c = let more = parts_more (length rows) c p some in omega arith in
      let more_rows = some-parts (length rows - c) c k p rest in
      (simp length-take (omega arith), cut_batches (suc k) c (drop c rows) p (rest ∙ ap (λ n. parts n c) (sym (length-drop c rows))))

  pub in_batches : (c : ℕ) (rows : List (List C)) → 1 ≤ c → InBatches c (batches_of c rows)
  in_batches c rows p = cut_batches (parts (length rows) c) c rows p refl

-- The first rows of memory: their width, their cells, and the rows behind them.
use Rattle.std.proofs.Common.{◌≡◌, ℕ, zero, suc, ◌+◌, ◌-◌, ◌*◌, ◌≤◌, min, List, ◌∷◌, ◌++◌, length, take, drop, sym, refl, ap, ◌∙◌, suc-mul, zero-mul, arith, length-drop, length-take, take-add}
use Rattle.std.specs.List.{AllByRecursion}
use Rattle.std.proofs.lemmas.List.{drop-drop, drop-take, take-take}
use Rattle.memory.specs.Rows.{rows_from, cells_of}
use Rattle.memory.proofs.Cuts.{length_cells, rows_back}

module _ {C : Type 0} where
  -- where the memory is long enough, each row is whole
  pub wide_rows : (n w : ℕ) (xs : List C) → n * w ≤ length xs → AllByRecursion (λ r. length r ≡ w) (rows_from n w xs)
  wide_rows zero w xs h = tt
  wide_rows (suc n) w xs h =
      let s : suc n * w ≡ n * w + w = suc-mul n w in
      (simp length-take (omega arith), wide_rows n w (drop w xs) (simp length-drop (omega arith)))

  pub cells_rows_from : (n w : ℕ) (xs : List C) → cells_of (rows_from n w xs) ≡ take (n * w) xs
  cells_rows_from zero w xs = ap (λ k. take k xs) (sym (zero-mul w))
  cells_rows_from (suc n) w xs =
      let s : suc n * w ≡ w + n * w = omega (arith, suc-mul n w) in
      ap (λ r. take w xs ++ r) (cells_rows_from n w (drop w xs)) ∙ sym (take-add w (n * w) xs) ∙ ap (λ k. take k xs) (sym s)

  pub take-rows_from : (k n w : ℕ) (xs : List C) → take k (rows_from n w xs) ≡ rows_from (min n k) w xs
  take-rows_from zero n w xs = let e : zero ≡ min n zero = omega arith in ap (λ j. rows_from j w xs) e
  take-rows_from (suc k) zero w xs = let e : zero ≡ min zero (suc k) = omega arith in ap (λ j. rows_from j w xs) e
  take-rows_from (suc k) (suc n) w xs =
      let m : suc (min n k) ≡ min (suc n) (suc k) = omega arith in
      ap (λ rs. take w xs ∷ rs) (take-rows_from k n w (drop w xs)) ∙ ap (λ j. rows_from j w xs) m

  pub drop-rows_from : (k n w : ℕ) (xs : List C) → drop k (rows_from n w xs) ≡ rows_from (n - min n k) w (drop (min n k * w) xs)
  drop-rows_from zero n w xs =
      let e : min n 0 ≡ 0 = omega arith in
      let z : min n 0 * w ≡ 0 = ap (λ j. j * w) e ∙ zero-mul w in
      let m : n - min n 0 ≡ n = omega arith in
      sym (ap (λ j. rows_from j w (drop (min n 0 * w) xs)) m ∙ ap (λ j. rows_from n w (drop j xs)) z)
  drop-rows_from (suc k) zero w xs =
      let m : zero - min zero (suc k) ≡ zero = omega arith in
      ap (λ j. rows_from j w (drop (min zero (suc k) * w) xs)) (sym m)
  drop-rows_from (suc k) (suc n) w xs =
      let m : suc (min n k) ≡ min (suc n) (suc k) = omega arith in
      let left : n - min n k ≡ suc n - suc (min n k) = omega arith in
      let s : w + min n k * w ≡ suc (min n k) * w = omega (arith, suc-mul (min n k) w) in
      drop-rows_from k n w (drop w xs)
      ∙ ap (λ ys. rows_from (n - min n k) w ys) (drop-drop (min n k * w) w xs ∙ ap (λ j. drop j xs) s)
      ∙ ap (λ j. rows_from j w (drop (suc (min n k) * w) xs)) left
      ∙ ap (λ j. rows_from (suc n - j) w (drop (j * w) xs)) m

  -- rows lie in the first cells alone
  rows_of-front : (n w : ℕ) (xs : List C) → rows_from n w (take (n * w) xs) ≡ rows_from n w xs
  rows_of-front zero w xs = refl
  rows_of-front (suc n) w xs =
      let s : suc n * w ≡ w + n * w = omega (arith, suc-mul n w) in
      ap (λ k. rows_from (suc n) w (take k xs)) s
      ∙ ap (λ r. r ∷ rows_from n w (drop w (take (w + n * w) xs))) (take-take w (w + n * w) xs (omega arith))
      ∙ ap (λ ys. take w xs ∷ rows_from n w ys) (drop-take w (n * w) xs)
      ∙ ap (λ rs. take w xs ∷ rs) (rows_of-front n w (drop w xs))

  -- rows whose cells stand at the front of a page are read back from it
  pub rows_on_page : (w : ℕ) (rows : List (List C)) (page : List C) → AllByRecursion (λ r. length r ≡ w) rows → take (length (cells_of rows)) page ≡ cells_of rows → rows_from (length rows) w page ≡ rows
  rows_on_page w rows page wide stand =
      sym (rows_of-front (length rows) w page)
      ∙ ap (λ k. rows_from (length rows) w (take k page)) (sym (length_cells w rows wide))
      ∙ ap (rows_from (length rows) w) stand
      ∙ rows_back w rows wide

-- A part of memory whose ends are held within it, and rows one after another.
use Rattle.std.proofs.Common.{◌≡◌, ℕ, zero, suc, ◌+◌, ◌-◌, ◌*◌, ◌^◌, ◌<◌, ◌≤◌, min, List, [], ◌∷◌, ◌++◌, length, get_or, take, drop, sym, refl, ap, ◌∙◌, ⊎_elim, suc-mul, zero-mul, arith, length-append, length-drop}
use Rattle.std.specs.List.{flat_map, AllByRecursion}
use Rattle.std.proofs.lemmas.List.{take_all, take_at, drop_all, drop_at, drop-drop}
use Rattle.std.proofs.lemmas.Bool.{cases_lt}
use Rattle.memory.specs.Rows.{row_at, rows_from}

-- what starts at p and has c cells, cut to what is there
module _ {C : Type 0} (xs : List C) (p c : ℕ) (few : length xs < 2 ^ 64) where
  past : (n : ℕ) → length xs ≤ n → (k : ℕ) → take k (drop n xs) ≡ []
  past n l k = ap (take k) (drop_all n xs l) ∙ take_all k [] (omega arith)

  pub cut_within : (from to : ℕ) → from ≡ min (min p (2 ^ 64 - 1)) (length xs) → to ≡ min (min (min p (2 ^ 64 - 1) + c) (2 ^ 64 - 1)) (length xs) → take (to - from) (drop from xs) ≡ take c (drop p xs)
  cut_within from to e f =
      ⊎_elim
      (λ l.
      let here : from ≡ p = omega arith in
      ap (λ n. take (to - from) (drop n xs)) here ∙ ⊎_elim
      (λ m. ap (λ n. take n (drop p xs)) (omega arith))
      (λ m. take_all (to - from) (drop p xs) (omega (arith, length-drop p xs)) ∙ sym (take_all c (drop p xs) (omega (arith, length-drop p xs))))
      (cases_lt (p + c) (length xs)))
      (λ l. past from (omega arith) (to - from) ∙ sym (past p l c))
      (cases_lt p (length xs))

-- row i among the first n
pub get_or-rows_from : {C : Type 0} (n c : ℕ) (xs : List C) (i : ℕ) → i < n → get_or (rows_from n c xs) i [] ≡ row_at c xs i
get_or-rows_from zero c xs i h = absurd (omega arith)
get_or-rows_from (suc n) c xs zero h = ap (λ m. take c (drop m xs)) (sym (zero-mul c))
get_or-rows_from (suc n) c xs (suc i) h = get_or-rows_from n c (drop c xs) i (omega arith) ∙ ap (take c) (drop-drop (i * c) c xs ∙ ap (λ m. drop m xs) (omega (arith, suc-mul i c)))

pub length-rows_from : {C : Type 0} (n c : ℕ) (xs : List C) → length (rows_from n c xs) ≡ n
length-rows_from zero c xs = refl
length-rows_from (suc n) c xs = ap suc (length-rows_from n c (drop c xs))

-- rows of one width, laid one behind the other
pub length_cells : {C : Type 0} (w : ℕ) (rs : List (List C)) → AllByRecursion (λ r. length r ≡ w) rs → length (flat_map (λ r. r) rs) ≡ length rs * w
length_cells w [] h = sym (zero-mul w)
length_cells w (r ∷ rs) h = length-append r (flat_map (λ x. x) rs) ∙ omega (arith, h.0, length_cells w rs h.1, suc-mul (length rs) w)

pub rows_back : {C : Type 0} (w : ℕ) (rs : List (List C)) → AllByRecursion (λ r. length r ≡ w) rs → rows_from (length rs) w (flat_map (λ r. r) rs) ≡ rs
rows_back w [] h = refl
rows_back w (r ∷ rs) h =
    let rest = flat_map (λ x. x) rs in
    ap (λ x. x ∷ rows_from (length rs) w (drop w (r ++ rest))) (take_at r rest w h.0)
    ∙ ap (λ x. r ∷ rows_from (length rs) w x) (drop_at r rest w h.0)
    ∙ ap (λ x. r ∷ x) (rows_back w rs h.1)

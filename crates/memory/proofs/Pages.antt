-- Rows on a page: read one by one, written behind others, and moved to a front.
use Rattle.std.proofs.Common.{◌≡◌, ℕ, zero, suc, ◌+◌, ◌-◌, ◌*◌, ◌^◌, ◌<◌, ◌≤◌, min, true, leb, List, [], ◌∷◌, ◌++◌, map, length, get_or, take, drop, set, sym, refl, ap, ◌∙◌, ap₂, ⊎_elim, mul-le-mul_right, suc-mul, add-mul, mul-zero, zero-mul, arith, length-append, length-drop, length-take}
use borrow.Rule.Slice.PartMut.{put_mid}
use lib.Seq.{paste}
use Rattle.std.proofs.lemmas.List.Edits.{paste_more, paste_all}
use Rattle.std.proofs.lemmas.List.{drop-take, drop-drop, take_at, drop_at, take-append-le, take-take, length-take-le, get_or-map, length-map}
use Rattle.std.proofs.lemmas.Slice.{between_is, drop-put_mid}
use Rattle.std.proofs.lemmas.Bool.{cases_lt, leb-true}
use Rattle.memory.specs.Rows.{row_at, rows_from, put_row}
use Rattle.memory.proofs.Taken.{take-rows_from, drop-rows_from}

-- what a test of room tells
pub fits_from : (a b : ℕ) → true ≡ leb a b → a ≤ b
fits_from a b e = leb-true a b (sym e)

-- rows are read of the front alone
pub rows_front : {C : Type 0} (n c : ℕ) (xs ys : List C) → take (n * c) xs ≡ take (n * c) ys → rows_from n c xs ≡ rows_from n c ys
rows_front zero c xs ys e = refl
rows_front {C} (suc n) c xs ys e =
    let m : suc n * c ≡ c + n * c = suc-mul n c ∙ omega arith in
    let e' : take (c + n * c) xs ≡ take (c + n * c) ys = rw m at e in
    let one : take c xs ≡ take c ys =
    sym (take-take c (c + n * c) xs (omega arith)) ∙ ap (take c) e' ∙ take-take c (c + n * c) ys (omega arith) in
    let two : take (n * c) (drop c xs) ≡ take (n * c) (drop c ys) =
    sym (drop-take c (n * c) xs) ∙ ap (drop c) e' ∙ drop-take c (n * c) ys in
    ap₂ (λ (a : List C) (b : List (List C)). a ∷ b) one (rows_front n c (drop c xs) (drop c ys) two)

-- one row more
pub rows_from-more : {C : Type 0} (n c : ℕ) (xs : List C) → rows_from (n + 1) c xs ≡ rows_from n c xs ++ row_at c xs n ∷ []
rows_from-more zero c xs = ap (λ j. take c (drop j xs) ∷ []) (sym (zero-mul c))
rows_from-more (suc n) c xs =
    let s : suc n + 1 ≡ suc (n + 1) = omega arith in
    ap (λ j. rows_from j c xs) s
    ∙ ap (λ rs. take c xs ∷ rs) (rows_from-more n c (drop c xs))
    ∙ ap (λ r. take c xs ∷ (rows_from n c (drop c xs) ++ r ∷ []))
    (ap (take c) (drop-drop (n * c) c xs ∙ ap (λ j. drop j xs) (sym (suc-mul n c ∙ omega arith))))

module _ {C : Type 0} where
  -- a part of a page that was written over
  pub put_mid-row : (a k : ℕ) (xs ys row : List C) → ys ≡ row → length row ≡ k → put_mid a k xs ys ≡ put_row xs a row
  put_mid-row a k xs ys row e h = let d = drop-drop k a xs in cc

  -- a row written over a part of a page leaves its length, and what lies before and behind
  module _ (at : ℕ) (xs row : List C) (fit : at + length row ≤ length xs) where
    pub length-put_row : length (put_row xs at row) ≡ length xs
    length-put_row = simp (length-append, length-take, length-drop) (omega arith)

    pub take-put_row : (k : ℕ) → k ≤ at → take k (put_row xs at row) ≡ take k xs
    take-put_row k h =
        let l : length (take at xs) ≡ at = length-take-le at xs (omega arith) in
        take-append-le k (take at xs) (row ++ drop (at + length row) xs) (omega arith) ∙ take-take k at xs h

    pub drop-put_row : (k : ℕ) → at + length row ≤ k → drop k (put_row xs at row) ≡ drop k xs
    drop-put_row k h = ap (drop k) (sym (put_mid-row at (length row) xs row row refl refl)) ∙ drop-put_mid at (length row) xs row k h (omega arith) refl

  -- a row that is made from a list, and written cell by cell
  module _ {X : Type 0} (f : X → C) (cs : List X) (d : List C) (at i : ℕ) (t : List C) (so_far : t ≡ paste d at (map f cs) i) where
    pub row_more : (v : C) (x : X) → at + length cs ≤ length d → i < length cs → v ≡ f (get_or cs i x) → set t (at + i) v ≡ paste d at (map f cs) (i + 1)
    row_more v x h k e =
        let here : v ≡ get_or (map f cs) i v = e ∙ sym (get_or-map f cs i x v k) in
        ap (λ u. set u (at + i) v) so_far
        ∙ ap (λ u. set (paste d at (map f cs) i) (at + i) u) here
        ∙ paste_more d at (map f cs) i v (omega arith) (rw (length-map cs f) k)

    pub row-all : i ≤ length cs → length cs ≤ i → t ≡ put_row d at (map f cs)
    row-all h k =
        let n : i ≡ length (map f cs) = omega (arith, length-map cs f) in
        so_far ∙ paste_all d at (map f cs) i n ∙ ap (λ m. take at d ++ (map f cs ++ drop (at + m) d)) n

  -- a row written behind the first n
  pub rows_put : (n c : ℕ) (xs row : List C) → length row ≡ c → n * c ≤ length xs → rows_from (n + 1) c (put_row xs (n * c) row) ≡ rows_from n c xs ++ row ∷ []
  rows_put n c xs row e h =
      let at : ℕ = n * c in
      let lt : length (take at xs) ≡ at = length-take-le at xs h in
      let rest : List C = drop (at + length row) xs in
      let front : take at (put_row xs at row) ≡ take at xs = take_at (take at xs) (row ++ rest) at lt in
      let back : drop at (put_row xs at row) ≡ row ++ rest = drop_at (take at xs) (row ++ rest) at lt in
      rows_from-more n c (put_row xs at row)
      ∙ ap₂ (λ (a : List (List C)) (b : List C). a ++ b ∷ []) (rows_front n c (put_row xs at row) xs front)
      (ap (take c) back ∙ take_at row rest c e)

  -- cells written over a front are read as rows
  pub rows_over : (k c : ℕ) (xs cells : List C) → k * c ≤ length cells → rows_from k c (put_row xs 0 cells) ≡ rows_from k c cells
  rows_over k c xs cells h = rows_front k c (put_row xs 0 cells) cells (take-append-le (k * c) cells (drop (0 + length cells) xs) h)

  -- the first n of w rows go to the front of another page
  pub rows_given : (n c w : ℕ) (xs zs ys : List C) → n ≤ w → w * c ≤ length xs → ys ≡ put_row zs 0 (take (n * c) xs) → rows_from n c ys ≡ take n (rows_from w c xs)
  rows_given n c w xs zs ys h lx e =
      let m : n * c ≤ w * c = mul-le-mul_right c h in
      let l : length (take (n * c) xs) ≡ n * c = length-take-le (n * c) xs (omega arith) in
      let k : min w n ≡ n = omega arith in
      ap (rows_from n c) e
      ∙ rows_over n c zs (take (n * c) xs) (omega arith)
      ∙ rows_front n c (take (n * c) xs) xs (take-take (n * c) (n * c) xs (omega arith))
      ∙ sym (take-rows_from n w c xs ∙ ap (λ a. rows_from a c xs) k)

  -- and the others to the front of their own
  pub rows_left : (n c w : ℕ) (xs ys : List C) → n ≤ w → w * c ≤ length xs → ys ≡ put_row xs 0 (drop (n * c) (take (w * c) xs)) → rows_from (w - n) c ys ≡ drop n (rows_from w c xs)
  rows_left n c w xs ys h lx e =
      let r : ℕ = (w - n) * c in
      let k : min w n ≡ n = omega arith in
      let s : w ≡ n + (w - n) = omega arith in
      let d : w * c ≡ n * c + r = ap (λ a. a * c) s ∙ add-mul n (w - n) c in
      let b : drop (n * c) (take (w * c) xs) ≡ take r (drop (n * c) xs) = ap (λ a. drop (n * c) (take a xs)) d ∙ drop-take (n * c) r xs in
      let l : length (take r (drop (n * c) xs)) ≡ r = length-take-le r (drop (n * c) xs) (omega (arith, length-drop (n * c) xs)) in
      ap (rows_from (w - n) c) (e ∙ ap (put_row xs 0) b)
      ∙ rows_over (w - n) c xs (take r (drop (n * c) xs)) (omega arith)
      ∙ rows_front (w - n) c (take r (drop (n * c) xs)) (drop (n * c) xs) (take-take r r (drop (n * c) xs) (omega arith))
      ∙ sym (drop-rows_from n w c xs ∙ ap (λ j. rows_from (w - j) c (drop (j * c) xs)) k)

  -- cells before a cut, copied to the front of another page
  pub front-moved : (cut : ℕ) (xs zs part : List C) → cut ≤ length xs → part ≡ take (cut - 0) xs → put_mid 0 (cut - 0) zs part ≡ put_row zs 0 (take cut xs)
  front-moved cut xs zs part h e =
      let n : cut - 0 ≡ cut = omega arith in
      let l : length (take cut xs) ≡ cut = length-take-le cut xs h in
      put_mid-row 0 (cut - 0) zs part (take cut xs) (e ∙ ap (λ k. take k xs) n) (omega arith)

  -- and those from there to an end, copied to the front of their own
  pub rest-moved : (cut end : ℕ) (xs ys : List C) → cut ≤ end → end ≤ length xs → ys ≡ paste xs 0 (drop cut xs) (end - cut) → ys ≡ put_row xs 0 (drop cut (take end xs))
  rest-moved cut end xs ys h k e =
      let b : take (end - cut) (drop cut xs) ≡ drop cut (take end xs) = between_is xs cut end in
      let l : end - cut ≡ length (drop cut (take end xs)) = sym (length-drop cut (take end xs) ∙ ap (λ n. n - cut) (length-take-le end xs k)) in
      e ∙ ap₂ (λ (zs : List C) (n : ℕ). zs ++ drop (0 + n) xs) b l

-- a product that stops at the largest number of 64 bits: what fits behind it on a page fits behind the product
pub place_whole : (n w len : ℕ) → len < 2 ^ 64 → min (n * w) (2 ^ 64 - 1) + w ≤ len → min (n * w) (2 ^ 64 - 1) ≡ n * w
place_whole n w len h k =
    ⊎_elim
    (λ (l : 0 < w). omega arith)
    (λ (l : w ≤ 0). let z : w ≡ 0 = omega arith in let p : n * w ≡ 0 = ap (λ v. n * v) z ∙ mul-zero n in omega arith)
    (cases_lt 0 w)

-- a row written behind n rows, where it fits
pub row_behind : {C : Type 0} (n w at : ℕ) (xs row ys : List C) → length xs < 2 ^ 64 → length row ≡ w → at ≡ min (n * w) (2 ^ 64 - 1) → true ≡ leb (at + w) (length xs) → ys ≡ put_row xs at row → rows_from (n + 1) w ys ≡ rows_from n w xs ++ row ∷ []
row_behind n w at xs row ys few wide stops room put =
    let fit : at + w ≤ length xs = leb-true (at + w) (length xs) (sym room) in
    let whole : at ≡ n * w = stops ∙ place_whole n w (length xs) few (rw stops at fit) in
    ap (rows_from (n + 1) w) (put ∙ ap (λ p. put_row xs p row) whole) ∙ rows_put n w xs row wide (omega arith)

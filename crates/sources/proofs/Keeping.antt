-- A loop that moves the rows to keep to the front of their page.
use Rattle.std.proofs.Common.{◌≡◌, ℕ, ◌+◌, ◌-◌, ◌*◌, ◌<◌, ◌≤◌, Bool, true, false, cond, List, [], ◌∷◌, ◌++◌, length, get_or, take, drop, filter, sym, ap, ◌∙◌, mul-le-mul_right, add-mul, one-mul, arith}
use lib.Seq.{paste}
use Rattle.std.proofs.lemmas.List.Edits.{take-paste, drop-paste}
use Rattle.std.proofs.lemmas.List.Elements.{filter_more}
use Rattle.std.proofs.lemmas.List.{append-nil, drop-drop, flat_map_more, length-append, length-drop}
use Rattle.memory.specs.Rows.{row_at, rows_from, cells_of}
use Rattle.memory.proofs.Cuts.{get_or-rows_from, length-rows_from}

-- i rows and one more
pub one_row_more : (i w : ℕ) → (i + 1) * w ≡ i * w + w
one_row_more i w = omega (arith, add-mul i 1 w, one-mul w)

pub row_within : (i n w : ℕ) (len : ℕ) → i < n → n * w ≤ len → i * w + w ≤ len
row_within i n w len lt room = omega (arith, one_row_more i w, mul-le-mul_right {m = i + 1} {n = n} w (omega arith))

module _ {C : Type 0} where
  -- of the first i of n rows, k are kept, and stand in front; from row i on the page is as it was
  pub record Kept (p : List C → Bool) (w n : ℕ) (page0 page : List C) (k i : ℕ) : Type 0 where
    pub front : take (k * w) page ≡ cells_of (filter p (take i (rows_from n w page0)))
    pub rest : drop (i * w) page ≡ drop (i * w) page0
    pub count : k ≡ length (filter p (take i (rows_from n w page0)))
    pub behind : k ≤ i

  module _ (p : List C → Bool) (w n : ℕ) (page0 page : List C) (k i : ℕ) (h : Kept p w n page0 page k i) (lt : i < n) (room : n * w ≤ length page0) (long : length page ≡ length page0) where
    before : List (List C)
    before = filter p (take i (rows_from n w page0))

    next_is : filter p (take (i + 1) (rows_from n w page0)) ≡ before ++ cond (p (row_at w page i)) (row_at w page i ∷ []) []
    unfolding before
    next_is =
        let within : i < length (rows_from n w page0) = rw length-rows_from lt in
        let row_is : get_or (rows_from n w page0) i [] ≡ row_at w page i = get_or-rows_from n w page0 i lt ∙ ap (take w) (sym h.rest) in
        filter_more p (rows_from n w page0) i [] within ∙ ap (λ r. filter p (take i (rows_from n w page0)) ++ cond (p r) (r ∷ []) []) row_is

    rest_more : drop ((i + 1) * w) page ≡ drop ((i + 1) * w) page0
    rest_more =
        let s : i * w + w ≡ (i + 1) * w = sym (one_row_more i w) in
        ap (λ j. drop j page) (sym s) ∙ sym (drop-drop w (i * w) page) ∙ ap (drop w) h.rest ∙ drop-drop w (i * w) page0 ∙ ap (λ j. drop j page0) s

    pub kept_no : p (row_at w page i) ≡ false → Kept p w n page0 page k (i + 1)
    unfolding before
    kept_no fails =
        let e : filter p (take (i + 1) (rows_from n w page0)) ≡ before = next_is ∙ ap (λ b. before ++ cond b (row_at w page i ∷ []) []) fails ∙ append-nil before in
        record { front = h.front ∙ ap cells_of (sym e); rest = rest_more; count = h.count ∙ ap length (sym e); behind = omega (arith, h.behind) }

    pub kept_yes : (page2 : List C) → p (row_at w page i) ≡ true → page2 ≡ paste page (k * w) (drop (i * w) page) w → Kept p w n page0 page2 (k + 1) (i + 1)
    unfolding before
    kept_yes page2 passes made =
        let row : List C = row_at w page i in
        let behind : List C = drop (i * w) page in
        let e : filter p (take (i + 1) (rows_from n w page0)) ≡ before ++ (row ∷ []) = next_is ∙ ap (λ b. before ++ cond b (row ∷ []) []) passes in
        let low : k * w ≤ i * w = mul-le-mul_right w h.behind in
        let whole : i * w + w ≤ length page0 = row_within i n w (length page0) lt room in
        let long-behind : w ≤ length behind = simp length-drop (omega arith) in
        let end : k * w + w ≡ (k + 1) * w = sym (one_row_more k w) in
        let gap : k * w + w + (i * w - k * w) ≡ (i + 1) * w = omega (arith, one_row_more i w) in
        record {
          front = ap (take ((k + 1) * w)) made
              ∙ ap (λ j. take j (paste page (k * w) behind w)) (sym end)
              ∙ take-paste page (k * w) behind w (omega arith) long-behind
              ∙ ap (λ a. a ++ row) h.front
              ∙ flat_map_more (λ r. r) [] before row
              ∙ ap cells_of (sym e);
          rest = ap (drop ((i + 1) * w)) made
              ∙ ap (λ j. drop j (paste page (k * w) behind w)) (sym gap)
              ∙ sym (drop-drop (i * w - k * w) (k * w + w) (paste page (k * w) behind w))
              ∙ ap (drop (i * w - k * w)) (drop-paste page (k * w) behind w (omega arith) long-behind)
              ∙ drop-drop (i * w - k * w) (k * w + w) page
              ∙ ap (λ j. drop j page) gap
              ∙ rest_more;
          count = ap (λ j. j + 1) h.count ∙ sym (ap length e ∙ length-append before (row ∷ []));
          behind = omega (arith, h.behind);
        }

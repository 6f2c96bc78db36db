-- Pairs listed row by row.
use Rattle.std.proofs.Common.{◌≡◌, ℕ, zero, suc, ◌+◌, cond, List, [], ◌∷◌, ◌++◌, map, length, get_or, filter, sym, refl, ap, ◌∙◌, append-nil, arith}
use Rattle.std.specs.List.{range_with_len, flat_map}
use Rattle.std.proofs.lemmas.List.Elements.{filter-append}
use Rattle.std.proofs.lemmas.Grind.{flat_map-append}
use Rattle.std.proofs.lemmas.List.FromFn.{filter_of_map_range_with_len_more}
use Rattle.verdicts.specs.declared.truth.Truth.{Truth}
use Rattle.verdicts.specs.Truths.{is_true}
use Rattle.clashes.specs.declared.loops.Pair.{Pair}
use Rattle.clashes.specs.Pairs.{with_left, all_pairs, holds, row_pairs}

-- one more at the end of a count
counting_more : (a n : ℕ) → range_with_len a (suc n) ≡ range_with_len a n ++ (a + n) ∷ []
counting_more a zero = ap (λ x. x ∷ []) (omega arith)
counting_more a (suc n) = ap (λ x. a ∷ x) (counting_more (a + 1) n ∙ ap (λ x. range_with_len (a + 1) n ++ x ∷ []) (omega arith))

module _ {C : Type 0} (says : List C → List C → Truth) (ls rs : List (List C)) where
  -- the pairs of left row i, which is l, with the first j right rows
  abbrev pub row_front : ℕ → List C → ℕ → List Pair
  row_front i l j = filter (λ p. is_true (says l (get_or rs p.right []))) (with_left j i)

  pub row_more : (i : ℕ) (l : List C) (j : ℕ) → row_front i l (j + 1) ≡ row_front i l j ++ cond (is_true (says l (get_or rs j []))) (record { left = i; right = j } ∷ []) []
  row_more i l j = filter_of_map_range_with_len_more (λ p. is_true (says l (get_or rs p.right []))) (λ k. record { left = i; right = k }) 0 j j (omega arith)

  -- the pairs of the first i left rows
  abbrev pub front : ℕ → List Pair
  front i = filter (holds says ls rs) (all_pairs i (length rs))

  same_row : (n i : ℕ) (l : List C) → l ≡ get_or ls i [] → (js : List ℕ) → filter (λ p. is_true (says l (get_or rs p.right []))) (map (λ j. record { left = i; right = j }) js) ≡ filter (holds says ls rs) (map (λ j. record { left = i; right = j }) js)
  same_row n i l e [] = refl
  same_row n i l e (j ∷ js) =
      let rest = same_row n i l e js in
      ap (λ t. cond (is_true (says t (get_or rs j []))) (record { left = i; right = j } ∷ filter (λ p. is_true (says l (get_or rs p.right []))) (map (λ j. record { left = i; right = j }) js)) (filter (λ p. is_true (says l (get_or rs p.right []))) (map (λ j. record { left = i; right = j }) js))) e
      ∙ ap (λ z. cond (is_true (says (get_or ls i []) (get_or rs j []))) (record { left = i; right = j } ∷ z) z) rest

  pub front-more : (i : ℕ) (l : List C) → l ≡ get_or ls i [] → front (i + 1) ≡ front i ++ row_pairs says i l rs
  front-more i l e =
      let one : i + 1 ≡ suc i = omega arith in
      let zero_more : 0 + i ≡ i = omega arith in
      let n = length rs in
      let split : all_pairs (i + 1) n ≡ all_pairs i n ++ with_left n i =
      ap (λ k. all_pairs k n) one
      ∙ ap (flat_map (with_left n)) (counting_more 0 i)
      ∙ flat_map-append (with_left n) (range_with_len 0 i) ((0 + i) ∷ [])
      ∙ ap (λ k. all_pairs i n ++ (with_left n k ++ [])) zero_more
      ∙ ap (λ z. all_pairs i n ++ z) (append-nil (with_left n i)) in
      ap (filter (holds says ls rs)) split
      ∙ filter-append (holds says ls rs) (all_pairs i n) (with_left n i)
      ∙ ap (λ z. front i ++ z) (sym (same_row n i l e (range_with_len 0 n)))

-- The pairs of two tables that a verdict finds true, by row number.
use Rattle.std.specs.Prelude.{ℕ, Bool, false, not, ◌&&◌, ◌||◌, List, [], ◌∷◌, map, length, filter, ◌==◌, slice_index_or}
use Rattle.std.specs.List.{range_with_len, flat_map}
use Rattle.verdicts.specs.declared.truth.Truth.{Truth}
use Rattle.verdicts.specs.Truths.{is_true, truth_of}
use Rattle.clashes.specs.declared.loops.Pair.{Pair}

-- left row i with each of n right rows
abbrev pub with_left : ℕ → ℕ → List Pair
with_left n i = map (λ j. record { left = i; right = j }) (range_with_len 0 n)

-- every left row with every right row, left row first, then right row
abbrev pub all_pairs : ℕ → ℕ → List Pair
all_pairs m n = flat_map (with_left n) (range_with_len 0 m)

-- the verdict of the two rows that a pair names
abbrev pub holds : {C : Type 0} → (List C → List C → Truth) → List (List C) → List (List C) → Pair → Bool
holds says ls rs p = is_true (says (slice_index_or ls p.left []) (slice_index_or rs p.right []))

-- the pairs of the inner nested loop: of all pairs in order, those whose verdict is true
abbrev pub pairs_of : {C : Type 0} → (List C → List C → Truth) → List (List C) → List (List C) → List Pair
pairs_of says ls rs = filter (holds says ls rs) (all_pairs (length ls) (length rs))

-- those of left row i, which is l
abbrev pub row_pairs : {C : Type 0} → (List C → List C → Truth) → ℕ → List C → List (List C) → List Pair
row_pairs says i l rs = filter (λ p. is_true (says l (slice_index_or rs p.right []))) (with_left (length rs) i)

-- true where one verdict is true and another is not
abbrev pub except : {C : Type 0} → (List C → List C → Truth) → (List C → List C → Truth) → List C → List C → Truth
except of but l r = truth_of (is_true (of l r) && not (is_true (but l r)))

abbrev pub same_pair : Pair → Pair → Bool
same_pair p q = p.left == q.left && p.right == q.right

-- the pair stands in the list
abbrev pub is_in : Pair → List Pair → Bool
is_in p [] = false
is_in p (q ∷ qs) = same_pair p q || is_in p qs

-- the pairs of one list that are not in another, in order
abbrev pub without : List Pair → List Pair → List Pair
without ps qs = filter (λ p. not (is_in p qs)) ps

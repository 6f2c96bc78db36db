-- The pairs of one list that another does not have.
use Rattle.std.proofs.Common.{◌≡◌, Bool, true, false, cond, not, ◌&&◌, ◌||◌, eqb, List, [], ◌∷◌, length, filter, sym, refl, ap, ◌∙◌}
use Rattle.std.specs.List.{AllByRecursion, list_any}
use Rattle.std.proofs.lemmas.List.Elements.{filter_agree}
use Rattle.std.proofs.lemmas.Map.Views.{any-filter_same}
use Rattle.std.proofs.lemmas.Bool.{eq-eqb, eqb-true, and_parts, and_from, or_left, or_right}
use Rattle.verdicts.specs.declared.truth.Truth.{Truth}
use Rattle.verdicts.specs.Truths.{is_true, truth_of}
use Rattle.memory.proofs.Each.{each_weaker}
use Rattle.clashes.specs.declared.loops.Pair.{Pair}
use Rattle.clashes.specs.Pairs.{all_pairs, holds, pairs_of, except, same_pair, is_in, without}

same_itself : (p : Pair) → same_pair p p ≡ true
same_itself p = and_from _ _ (eq-eqb p.left p.left refl) (eq-eqb p.right p.right refl)

same_pair_equal : (p q : Pair) → same_pair p q ≡ true → p ≡ q
same_pair_equal p q h =
    let e = and_parts (eqb p.left q.left) (eqb p.right q.right) h in
    let l = eqb-true p.left q.left e.0 in
    let r = eqb-true p.right q.right e.1 in
    λ i. record { left = l i; right = r i }

-- a list has each of its pairs
all_in : (ps : List Pair) → AllByRecursion (λ p. is_in p ps ≡ true) ps
all_in [] = tt
all_in (q ∷ qs) = (or_left _ _ (same_itself q), each_weaker (λ p. is_in p qs ≡ true) (λ p. is_in p (q ∷ qs) ≡ true) (λ p h. or_right _ _ h) qs (all_in qs))

is_any : (p : Pair) (qs : List Pair) → is_in p qs ≡ list_any (same_pair p) qs
is_any p [] = refl
is_any p (q ∷ qs) = ap (λ b. same_pair p q || b) (is_any p qs)

in_kept : (g : Pair → Bool) (p : Pair) (qs : List Pair) → is_in p (filter g qs) ≡ (g p && is_in p qs)
in_kept g p qs =
    is_any p (filter g qs)
    ∙ any-filter_same (same_pair p) g (g p) (λ q e. ap g (sym (same_pair_equal p q e))) qs
    ∙ ap (λ b. g p && b) (sym (is_any p qs))

-- one filter after another
kept_step : (h : Pair → Bool) (t u : Bool) (x : Pair) (xs ys : List Pair) → h x ≡ u → filter h xs ≡ ys → filter h (cond t (x ∷ xs) xs) ≡ cond (t && u) (x ∷ ys) ys
kept_step h true true x xs ys e more = ap (λ b. cond b (x ∷ filter h xs) (filter h xs)) e ∙ ap (λ z. x ∷ z) more
kept_step h true false x xs ys e more = ap (λ b. cond b (x ∷ filter h xs) (filter h xs)) e ∙ more
kept_step h false u x xs ys e more = more

kept-kept : (f g h : Pair → Bool) (xs : List Pair) → AllByRecursion (λ x. h x ≡ not (g x)) xs → filter h (filter f xs) ≡ filter (λ x. f x && not (g x)) xs
kept-kept f g h [] all = refl
kept-kept f g h (x ∷ xs) all = kept_step h (f x) (not (g x)) x (filter f xs) _ all.0 (kept-kept f g h xs all.1)

pub without-kept : (f g : Pair → Bool) (xs : List Pair) → without (filter f xs) (filter g xs) ≡ filter (λ x. f x && not (g x)) xs
without-kept f g xs =
    kept-kept f g (λ p. not (is_in p (filter g xs))) xs
    (each_weaker (λ p. is_in p xs ≡ true) (λ p. not (is_in p (filter g xs)) ≡ not (g p)) (λ p h. ap not (in_kept g p xs ∙ ap (λ b. g p && b) h ∙ stays (g p))) xs (all_in xs))
  where
    stays : (b : Bool) → (b && true) ≡ b
    stays true = refl
    stays false = refl

is_truth : (b : Bool) → is_true (truth_of b) ≡ b
is_truth true = refl
is_truth false = refl

pub pairs-except : {C : Type 0} (of but : List C → List C → Truth) (ls rs : List (List C)) → pairs_of (except of but) ls rs ≡ without (pairs_of of ls rs) (pairs_of but ls rs)
pairs-except of but ls rs =
    let all = all_pairs (length ls) (length rs) in
    filter_agree (holds (except of but) ls rs) (λ p. holds of ls rs p && not (holds but ls rs p)) (λ p. is_truth _) all
    ∙ sym (without-kept (holds of ls rs) (holds but ls rs) all)

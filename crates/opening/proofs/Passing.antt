-- Tests of every element after all of them are changed, and what passing one tells.
use Rattle.std.proofs.Common.{◌≡◌, ℕ, ◌+◌, Bool, true, cond, List, [], ◌∷◌, map, count_by, sym, refl, ap, ◌∙◌, ap₂}
use Rattle.std.specs.List.{list_all, AllByRecursion}
use Rattle.std.proofs.lemmas.List.Folds.{list_all-map}
use Rattle.std.proofs.lemmas.List.Sums.{AllPass-from_list_all, sum_by-cons}
use Rattle.std.proofs.lemmas.List.Elements.{recursion_from_All}
use Rattle.memory.proofs.Each.{each_weaker}

-- a test of every element, after all of them are changed
pub pass_map : {X Y : Type 0} (f : X → Y) (p : Y → Bool) (q : X → Bool) → ((x : X) → p (f x) ≡ q x) → (xs : List X) → list_all p (map f xs) ≡ list_all q xs
pass_map {X} f p q same xs = list_all-map p f xs ∙ ap (λ (t : X → Bool). list_all t xs) (λ i x. same x i)

-- how many pass a test, after all of them are changed
pub count_map : {X Y : Type 0} (f : X → Y) (p : Y → Bool) (q : X → Bool) → ((x : X) → p (f x) ≡ q x) → (xs : List X) → count_by p (map f xs) ≡ count_by q xs
count_map f p q same [] = refl
count_map f p q same (x ∷ xs) =
    sum_by-cons (λ y. cond (p y) 1 0) (f x) (map f xs)
    ∙ ap₂ (λ (b : Bool) (n : ℕ). cond b 1 0 + n) (same x) (count_map f p q same xs)
    ∙ sym (sum_by-cons (λ y. cond (q y) 1 0) x xs)

-- what passes a test is so of every element
pub all_from_pass : {X : Type 0} (p : X → Bool) (P : X → Type 0) → ((x : X) → p x ≡ true → P x) → (xs : List X) → list_all p xs ≡ true → AllByRecursion P xs
all_from_pass p P says xs e = each_weaker (λ x. p x ≡ true) P says xs (recursion_from_All (λ x. p x ≡ true) xs (AllPass-from_list_all p xs e))

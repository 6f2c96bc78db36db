-- Texts that are put together one after another.
use Rattle.std.proofs.Common.{◌≡◌, ℕ, ◌+◌, ◌<◌, List, ◌++◌, length, get_or, take, sym, ap, ◌∙◌, append_assoc}
use Rattle.std.specs.List.{flat_map}
use Rattle.std.proofs.lemmas.List.{flat_map_more, take_more}

-- a loop that writes a text for each element, behind another text
pub one_more : {X : Type 0} (f : X → List ℕ) (front : List ℕ) (xs : List X) (i : ℕ) (d : X) (text : List ℕ) → i < length xs → text ≡ f (get_or xs i d) → (front ++ flat_map f (take i xs)) ++ text ≡ front ++ flat_map f (take (i + 1) xs)
one_more f front xs i d text l t =
    ap (λ y. (front ++ flat_map f (take i xs)) ++ y) t
    ∙ flat_map_more f front (take i xs) (get_or xs i d)
    ∙ ap (λ ys. front ++ flat_map f ys) (sym (take_more xs i d l))

-- a heading with two numbers, a count and lines
pub headed : (a m b n d x l : List ℕ) → a ++ (m ++ (b ++ (n ++ (d ++ (x ++ l))))) ≡ ((a ++ (m ++ (b ++ (n ++ d)))) ++ x) ++ l
headed a m b n d x l = simp append_assoc

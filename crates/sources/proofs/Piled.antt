-- Present layers on one another.
use Rattle.std.proofs.Common.{◌≡◌, ℕ, suc, ◌+◌, min, Bool, true, false, cond, ◌&&◌, List, [], ◌∷◌, ◌++◌, map, length, filter, sym, refl, ap, ◌∙◌, arith}
use Rattle.std.specs.Prelude.{All}
use Rattle.std.proofs.lemmas.List.Elements.{All-head, All-tail, filter-append}
use Rattle.memory.specs.Items.{Item, batch, wait, fault}
use Rattle.sources.specs.Drained.{rows_of}
use Rattle.sources.specs.Fits.{Fits}
use Rattle.sources.specs.Fitting.{present_fits}
use Rattle.sources.specs.Piles.{piled, has_all, present_all}
use Rattle.sources.specs.Present.{has_cell, present}

module _ {X : Type 0} where
  keep_all : (xs : List X) → filter (λ _. true) xs ≡ xs
  keep_all [] = refl
  keep_all (x ∷ xs) = ap (λ r. x ∷ r) (keep_all xs)

  keep_one : (q : X → Bool) (b : Bool) (x : X) (ys zs : List X) → filter q ys ≡ zs → filter q (cond b (x ∷ ys) ys) ≡ cond (b && q x) (x ∷ zs) zs
  keep_one q true x ys zs e = ap (λ r. cond (q x) (x ∷ r) r) e
  keep_one q false x ys zs e = e

  keep_both : (p q : X → Bool) (xs : List X) → filter q (filter p xs) ≡ filter (λ x. p x && q x) xs
  keep_both p q [] = refl
  keep_both p q (x ∷ xs) = keep_one q (p x) x (filter p xs) (filter (λ x. p x && q x) xs) (keep_both p q xs)

module _ {C : Type 0} (is_missing : C → Bool) where
  no_layer : (most w : ℕ) (items : List (Item C)) → All (Fits most w) items → items ≡ map (present_all is_missing []) items
  no_layer most w [] h = refl
  no_layer most w (batch rows ∷ items) h =
      ap (λ r. batch r ∷ items) (sym (keep_all rows)) ∙ ap (λ r. batch (filter (has_all is_missing []) rows) ∷ r) (no_layer most w items (All-tail (Fits most w) (batch rows) items h))
  no_layer most w (wait ∷ items) h = ap (λ r. wait ∷ r) (no_layer most w items (All-tail (Fits most w) wait items h))
  no_layer most w (fault cause depth ∷ items) h =
      let fits : Fits {C = C} most w (fault cause depth) = All-head (Fits most w) (fault cause depth) items h in
      let same : depth ≡ min (depth + 0) 255 = omega (arith, fits.2) in
      ap (λ d. fault cause d ∷ items) same ∙ ap (λ r. fault cause (min (depth + 0) 255) ∷ r) (no_layer most w items (All-tail (Fits most w) (fault cause depth) items h))

  one_layer : (column : ℕ) (columns : List ℕ) (items : List (Item C)) → map (present_all is_missing columns) (map (present is_missing column) items) ≡ map (present_all is_missing (column ∷ columns)) items
  one_layer column columns [] = refl
  one_layer column columns (batch rows ∷ items) =
      ap (λ r. batch r ∷ map (present_all is_missing columns) (map (present is_missing column) items)) (keep_both (has_cell is_missing column) (has_all is_missing columns) rows)
      ∙ ap (λ r. batch (filter (has_all is_missing (column ∷ columns)) rows) ∷ r) (one_layer column columns items)
  one_layer column columns (wait ∷ items) = ap (λ r. wait ∷ r) (one_layer column columns items)
  one_layer column columns (fault cause depth ∷ items) =
      let sum : min (min (depth + 1) 255 + length columns) 255 ≡ min (depth + suc (length columns)) 255 = omega arith in
      ap (λ d. fault cause d ∷ map (present_all is_missing columns) (map (present is_missing column) items)) sum
      ∙ ap (λ r. fault cause (min (depth + suc (length columns)) 255) ∷ r) (one_layer column columns items)

  pub composed : (most w : ℕ) (columns : List ℕ) (items : List (Item C)) → All (Fits most w) items → piled is_missing columns items ≡ map (present_all is_missing columns) items
  composed most w [] items h = no_layer most w items h
  composed most w (column ∷ columns) items h =
      composed most w columns (map (present is_missing column) items) (present_fits is_missing column most w items h) ∙ one_layer column columns items

  pub rows_kept : (columns : List ℕ) (items : List (Item C)) → rows_of (map (present_all is_missing columns) items) ≡ filter (has_all is_missing columns) (rows_of items)
  rows_kept columns [] = refl
  rows_kept columns (batch rows ∷ items) =
      ap (λ r. filter (has_all is_missing columns) rows ++ r) (rows_kept columns items) ∙ sym (filter-append (has_all is_missing columns) rows (rows_of items))
  rows_kept columns (wait ∷ items) = rows_kept columns items
  rows_kept columns (fault cause depth ∷ items) = rows_kept columns items

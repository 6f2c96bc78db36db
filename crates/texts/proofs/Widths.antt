-- Every row that a line brings has as many cells as were asked for.
use Rattle.std.proofs.Common.{◌≡◌, ℕ, ◌+◌, Bool, true, false, cond, eqb, ◌⊎◌, List, [], ◌∷◌, map, length, sym, refl, ◌∙◌, inl, inr, ⊎_elim}
use Rattle.std.specs.List.{AllByRecursion}
use Rattle.std.proofs.lemmas.Bool.{eqb-true}
use Rattle.cells.specs.declared.full.Full.{Full}
use Rattle.lines.specs.declared.reader.LineRefusal.TheVariants.{Miscounted, Malformed}
use Rattle.lines.specs.Written.{Means, commas}
use Rattle.lines.proofs.Splits.{means_count}
use Rattle.lines.proofs.Decided.{row_decided}
use Rattle.texts.specs.Items.{LineItem, good, bad, item_of}

-- a row has w cells; a refusal has none to count
abbrev pub Wide : ℕ → LineItem → Type 0
Wide w (good r) = length r ≡ w
Wide w (bad e) = Unit {0}

wide_by : (w : ℕ) (line : List ℕ) (t : Bool) → eqb (commas line + 1) w ≡ t → (d : ((r : List Full) × Means r line) ⊎ ((r : List Full) → Means r line → ⊥)) → Wide w (cond t (⊎_elim (λ p. good p.0) (λ _. bad Malformed) d) (bad Miscounted))
wide_by w line true e (inl p) = sym (means_count p.0 line p.1) ∙ eqb-true _ _ e
wide_by w line true e (inr n) = tt
wide_by w line false e d = tt

pub wide_item : (w : ℕ) (line : List ℕ) → Wide w (item_of w line)
unfolding item_of
wide_item w line = wide_by w line (eqb (commas line + 1) w) refl (row_decided line)

pub wide_items : (w : ℕ) (ls : List (List ℕ)) → AllByRecursion (Wide w) (map (item_of w) ls)
wide_items w [] = tt
wide_items w (l ∷ ls) = (wide_item w l, wide_items w ls)

-- The turns of a loop that drains a source.
use Rattle.std.proofs.Common.{◌≡◌, ℕ, ◌≤◌, ◌⊎◌, List, [], ◌∷◌, ◌++◌, length, ap, ◌∙◌, sym, inl}
use Rattle.std.proofs.lemmas.List.{append_assoc}
use Rattle.memory.specs.Items.{Item}
use Rattle.sources.specs.declared.drained.Drained.{Drained}
use Rattle.sources.specs.Drained.{Brought}

-- what is taken, what is left, and that the page is long enough, or nothing has changed yet
pub record Draining {C S : Type 0} (items : S → List (Item C)) (needed : ℕ) (s s' : S) (page page' : List C) (d : Drained C) : Type 0 where
  pub taken : List (Item C)
  pub so_far : items s ≡ taken ++ items s'
  pub brought : Brought taken d
  pub room : (needed ≤ length page) ⊎ ((s' ≡ s) × (page' ≡ page))

module _ {C S : Type 0} (items : S → List (Item C)) (needed : ℕ) (s0 s s' : S) (page0 page page' : List C) (d d' : Drained C) (h : Draining items needed s0 s page0 page d) (item : Item C) (e : items s ≡ item ∷ items s') where
  -- one item more is taken
  pub so_far_more : items s0 ≡ (h.taken ++ item ∷ []) ++ items s'
  so_far_more = h.so_far ∙ ap (λ x. h.taken ++ x) e ∙ sym (append_assoc h.taken (item ∷ []) (items s'))

  -- and added to what was brought
  pub draining_more : needed ≤ length page0 → Brought (h.taken ++ item ∷ []) d' → Draining items needed s0 s' page0 page' d'
  draining_more room b = record { taken = h.taken ++ item ∷ []; so_far = so_far_more; brought = b; room = inl room }

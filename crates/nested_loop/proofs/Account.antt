-- The exact account of a probe's steps, from which the bound follows.
use Rattle.std.proofs.Common.{ℕ, ◌+◌, Bool, cond, ◌&&◌, List, [], ◌∷◌, length}
use Rattle.nested_loop.specs.Model.{Setup, Item, batch, wait, fault, left_rest_of, right_rest_of, some_rest}
use Rattle.nested_loop.specs.Machine.{Outcome, is_done, group}
use Rattle.nested_loop.specs.Said.{ceil}

-- the outcomes up to the first done
abbrev pub up_to_done : {C : Type 0} → List (Outcome C) → List (Outcome C)
up_to_done [] = []
up_to_done (a ∷ xs) = a ∷ cond (is_done a) [] (up_to_done xs)

module _ {C : Type 0} (S : Setup C) where
  -- the steps in ProbeRight and EmitRightUnmatched over these items
  abbrev pub probe_steps : List (Item C) → ℕ
  probe_steps [] = 0
  probe_steps (batch [] ∷ is) = probe_steps is
  probe_steps (batch (r ∷ rs) ∷ is) =
      ((ceil (length S.table) (group S (length (r ∷ rs))) + 1) + cond (some_rest (right_rest_of S.join_type)) 1 0) + probe_steps is
  probe_steps (wait ∷ is) = probe_steps is
  probe_steps (fault c d ∷ is) = probe_steps is

  -- the own step at which it is done, exactly
  abbrev pub steps : List (Item C) → Bool → ℕ → ℕ
  steps is emits d =
      length is + probe_steps is + cond (emits && some_rest (left_rest_of S.join_type)) (ceil (length S.table) S.batch_size) 0 + d + 4

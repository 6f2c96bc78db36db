-- Which of several refusals is given.
use Rattle.std.specs.Prelude.{Bool, cond, List, [], ◌∷◌, Some, None, Option}

-- of refusals with their conditions, the smallest number first, the first whose condition fits
abbrev pub first_of : {X : Type 0} → List (Bool × X) → Option X
first_of [] = None
first_of (c ∷ cs) = cond c.0 (Some c.1) (first_of cs)

-- Three-valued truth.
use Rattle.std.specs.Prelude.{Bool, true, false, List}
use Rattle.verdicts.specs.declared.truth.Truth.{Truth}
use Rattle.verdicts.specs.declared.truth.Truth.TheVariants.{True, False, Absent}

-- AND of ISO/IEC 9075-2: false where one is false, else absent where one is absent
abbrev pub both : Truth → Truth → Truth
both True True = True
both True False = False
both True Absent = Absent
both False True = False
both False False = False
both False Absent = False
both Absent True = Absent
both Absent False = False
both Absent Absent = Absent

-- absent counts as false
abbrev pub is_true : Truth → Bool
is_true True = true
is_true False = false
is_true Absent = false

-- what is known to be true or false
abbrev pub truth_of : Bool → Truth
truth_of true = True
truth_of false = False

-- the same answer for every pair
abbrev pub always : {C : Type 0} → Truth → List C → List C → Truth
always t l r = t

-- a verdict with its rows exchanged
abbrev pub turned : {C : Type 0} → (List C → List C → Truth) → List C → List C → Truth
turned f l r = f r l

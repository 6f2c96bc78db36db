-- Refusals by number and in words.
use Rattle.std.specs.Prelude.{ℕ, List, codes}
use Rattle.verdicts.specs.declared.refusal.MinutesRefusal.{MinutesRefusal}
use Rattle.verdicts.specs.declared.refusal.MinutesRefusal.TheVariants.{OutOfRange}

abbrev pub number_of : MinutesRefusal → ℕ
number_of OutOfRange = 15

-- what is printed of a refusal
abbrev pub refusal_text : MinutesRefusal → List ℕ
refusal_text OutOfRange = codes "a separation is a number of minutes from 1 to 1440"

-- The numbers by which a step's refusals go.
use Rattle.std.specs.Prelude.{ℕ}
use Rattle.nested_loop.specs.declared.answer.StepRefusal.{StepRefusal}
use Rattle.nested_loop.specs.declared.answer.StepRefusal.TheVariants.{NoSuchProbe, LeftTooShort, OtherColumns, PageTooShort}

abbrev pub number_of : StepRefusal → ℕ
number_of NoSuchProbe = 10
number_of LeftTooShort = 11
number_of OtherColumns = 12
number_of PageTooShort = 13

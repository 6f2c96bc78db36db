use Rattle.std.proofs.Common.{refl}
use Rattle.cells.specs.Codes.{packed}
use Rattle.verdicts.specs.Separations.{same_code}
use Rattle.nested_loop.proofs.laws.meets_worked_schedule.Goals as goal

pub returns : goal.returns
unfolding same_code packed
returns c = record {
  pairs = record { close = refl; exactly_forty = refl; forty_one = refl; unknown_start = refl; other_artist = refl };
  inner_40 = refl;
  inner_90 = refl;
  full_40 = refl;
  left_mark_40 = refl;
  right_anti_40 = refl;
  together = refl;
  no_more = refl;
  what_remains = refl;
  one_by_one = refl;
  steps = refl;
  allowed = refl;
  tallied = refl;
  told = refl;
  first_probe = refl;
  second_probe = refl;
  second_emits = refl;
  all_done = refl;
}

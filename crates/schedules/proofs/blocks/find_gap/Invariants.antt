use Rattle.std.proofs.Common.{◌≡◌}
use Rattle.schedules.proofs.Parting.{Walked}
use Rattle.schedules.proofs.blocks.find_gap.Given as goal

abbrev pub invariant-loop-line : goal.invariant-loop-line
invariant-loop-line l = (l.walk.text.now ≡ l.text) × Walked l.text l.walk.at l.walk.before

-- The row's front is written by the texts so far.
use Rattle.std.proofs.Common.{length, take}
use Rattle.std.specs.List.{AllZip}
use Rattle.lines.specs.Written.{Writes}
use Rattle.lines.proofs.Splits.{texts}
use Rattle.lines.proofs.line.fill.Given as goal

abbrev pub invariant-loop-n : goal.invariant-loop-n
invariant-loop-n l =
    (goal.iterator-loop-n).can_next l.n-iterator
    × (goal.iterator-loop-n).is_finite l.n-iterator
    × AllZip Writes (take (length l.yielded) l.row) (take (length l.yielded) (texts l.line))

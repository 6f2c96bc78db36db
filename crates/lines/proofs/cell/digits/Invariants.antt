-- The number so far is the value of the digits so far, and what is left decides whether all are digits.
use Rattle.std.proofs.Common.{◌≡◌, ◌^◌, ◌<◌, take, drop}
use Rattle.std.specs.Str.{all_ascii_digits}
use Rattle.lines.specs.Written.{value}
use Rattle.lines.proofs.cell.digits.Given as goal

abbrev pub invariant-loop-b : goal.invariant-loop-b
invariant-loop-b l = (l.n ≡ value (take l.b-index l.text)) × (l.n < 10 ^ l.b-index) × (all_ascii_digits (drop l.b-index l.text) ≡ all_ascii_digits l.text)

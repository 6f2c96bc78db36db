-- One fact is answered by its name, so that the others are looked for one at a time.
use Rattle.std.proofs.Common.{rules}
use Rattle.opening.proofs.order.Order.check.Goals as goal

pub invariant_of-result-clause-left : goal.invariant_of-result-clause-left
invariant_of-result-clause-left c = search rules

use Rattle.std.proofs.Common.{sym, refl, arith}
use Rattle.cells.proofs.Packing.{forth}
use Rattle.cells.proofs.code.Code.bits.Goals as goal

pub returns : goal.returns
returns c = record { number = refl; packs = sym (forth c.args.self.bits (omega arith)) }

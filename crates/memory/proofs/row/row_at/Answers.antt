use Rattle.std.proofs.Common.{◌*◌, arith}
use Rattle.memory.proofs.Cuts.{cut_within}
use Rattle.memory.proofs.row.row_at.Goals as goal

pub returns : goal.returns
returns g c =
    cut_within c.args.cells.now (c.args.i * c.args.columns) c.args.columns (omega arith) c.min-from.result c.min-to.result (omega arith) (omega arith)

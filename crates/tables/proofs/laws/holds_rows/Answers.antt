use Rattle.tables.proofs.Adding.{holds_rows}
use Rattle.tables.proofs.laws.holds_rows.Goals as goal

pub returns : goal.returns
returns g c = holds_rows _

use Rattle.sources.proofs.Tables.{all_rows, in_batches}
use Rattle.sources.proofs.laws.table_brings_rows.Goals as goal

pub returns : goal.returns
returns g c = record { all_rows = all_rows; in_batches = in_batches }

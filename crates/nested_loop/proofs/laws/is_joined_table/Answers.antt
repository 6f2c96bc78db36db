use Rattle.nested_loop.proofs.Kept.{is_joined_table}
use Rattle.nested_loop.proofs.laws.is_joined_table.Goals as goal

pub returns : goal.returns
returns g c = is_joined_table _

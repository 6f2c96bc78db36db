use Rattle.nested_loop.proofs.Kept.{of_two_bags}
use Rattle.nested_loop.proofs.laws.of_two_bags.Goals as goal

pub returns : goal.returns
returns g c = of_two_bags _

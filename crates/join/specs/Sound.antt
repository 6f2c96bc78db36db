-- What the records of a join keep to.
use Rattle.std.specs.Prelude.{ℕ, ◌+◌, ◌-◌, ◌≤◌, max}
use Rattle.nested_loop.specs.declared.answer.NLJState.{NLJState}
use Rattle.nested_loop.specs.declared.answer.NLJState.TheVariants.{FetchingRight, ProbeRight, EmitRightUnmatched, ProbeEnd, EmitLeftUnmatched, Done}
use Rattle.opening.specs.declared.plan.Plan.{Plan}
use Rattle.join.specs.declared.record.Probe.{Probe}

-- how many rows may wait, the largest batch being so many rows
abbrev pub room_of : Plan → ℕ → ℕ
room_of plan largest = (plan.batch_size - 1) + max plan.batch_size largest

-- while rows are probed there is a row in the batch, and the left index is within the table
abbrev pub Placed : NLJState → ℕ → ℕ → ℕ → Type 0
Placed FetchingRight rows index all = Unit {0}
Placed ProbeRight rows index all = (1 ≤ rows) × (index ≤ all)
Placed EmitRightUnmatched rows index all = Unit {0}
Placed ProbeEnd rows index all = Unit {0}
Placed EmitLeftUnmatched rows index all = Unit {0}
Placed Done rows index all = Unit {0}

-- a probe's batch is no larger than the largest of its sources, and what waits has room on its page
pub record Sound (plan : Plan) (p : Probe) : Type 0 where
  pub rows : p.rows ≤ p.largest
  pub largest : p.largest ≤ 1024
  pub waiting : p.waiting ≤ room_of plan p.largest
  pub placed : Placed p.state p.rows p.index plan.left_rows

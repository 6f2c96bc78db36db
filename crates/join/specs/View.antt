-- The join's records as contracts show them.
use Rattle.std.specs.Prelude.{List, map, take}
use Rattle.memory.specs.Marks.{bits_of}
use Rattle.memory.specs.Rows.{rows_from}
use Rattle.verdicts.specs.declared.truth.Truth.{Truth}
use Rattle.nested_loop.specs.Model.{Setup}
use Rattle.nested_loop.specs.Machine.{State, Tally}
use Rattle.runs.specs.Records.{Terms, ProbeView, JoinView}
use Rattle.runs.specs.Calls.{state_of, setup_of}
use Rattle.opening.specs.declared.plan.Plan.{Plan}
use Rattle.opening.specs.Lists.{columns_of}
use Rattle.join.specs.declared.record.Probe.{Probe}
use Rattle.join.specs.declared.record.Counts.{Counts}
use Rattle.join.specs.declared.record.Core.{Core}

-- what a join was opened with
abbrev pub terms_of : Plan → Terms
terms_of p = record {
  join_type = p.list.join_type;
  batch_size = p.batch_size;
  right_columns = p.list.right_columns;
  columns = columns_of p.list;
}

-- a probe's record; of its words of marks, a bit for each row of its batch
abbrev pub probe_view : Probe → ProbeView
probe_view p = record {
  state = p.state;
  rows = p.rows;
  marks = bits_of p.rows p.right_marks;
  index = p.index;
  emits = p.is_emitter;
  waiting = p.waiting;
  largest = p.largest;
  taken = p.taken;
  answered = p.answered;
}

abbrev pub tally_of : Counts → Tally
tally_of c = record { rows = c.rows; batches = c.batches; pairs = c.pairs }

-- the join's record; of its words of marks, a bit for each left row, and of its table the probes that it has
abbrev pub join_view : Core → JoinView
join_view j = record {
  terms = terms_of j.plan;
  left_columns = j.plan.list.left_columns;
  left_rows = j.plan.left_rows;
  marks = bits_of j.plan.left_rows j.left_marks;
  unfinished = j.unfinished;
  probes = map probe_view (take j.plan.probes j.table.probes);
  tally = tally_of j.counts;
}

-- the state that a probe's record and its right page show
abbrev pub state_at : {C : Type 0} → Plan → Probe → List C → State C
state_at plan p right = state_of plan.list.right_columns (probe_view p) right p.state

-- the setup that a plan, the three cells, a verdict and left memory show
abbrev pub setup_in : {C : Type 0} → C → C → C → Plan → (List C → List C → Truth) → List C → Setup C
setup_in none true-cell false-cell plan says left =
    setup_of (record { missing = none; yes = true-cell; no = false-cell }) (terms_of plan) (rows_from plan.left_rows plan.list.left_columns left) says

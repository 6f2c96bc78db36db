-- What a handler does to its probe and to what lies around it.
use Rattle.std.specs.Prelude.{◌≡◌, ℕ, ◌-◌, ◌*◌, ◌/◌, min, true, cond, ◌||◌, List, ◌++◌, length, drop, Ok, nat_lt}
use Rattle.memory.specs.Items.{Item}
use Rattle.memory.specs.Marks.{bits_of}
use Rattle.memory.specs.Rows.{rows_from, cells_of}
use Rattle.nested_loop.specs.Model.{Setup}
use Rattle.nested_loop.specs.Machine.{Handled, handle, told, rows_in, is_done, is_one, taken_after}
use Rattle.nested_loop.specs.declared.answer.Answer.{Answer}
use Rattle.nested_loop.specs.declared.answer.NLJState.{NLJState}
use Rattle.nested_loop.specs.declared.answer.NLJState.TheVariants.{EmitLeftUnmatched}
use Rattle.runs.specs.Calls.{Unread, largest_after}
use Rattle.opening.specs.declared.plan.Plan.{Plan}
use Rattle.join.specs.declared.record.Probe.{Probe}
use Rattle.join.specs.View.{probe_view, state_at}

-- the words of the left marks, the count of unfinished probes, the items of the source, and the pages
pub record Around (C : Type 0) : Type 0 where
  pub marks : List ℕ
  pub unfinished : ℕ
  pub items : List (Item C)
  pub right : List C
  pub waiting : List C
  pub out : List C

abbrev pub around : {C : Type 0} → List ℕ → ℕ → List (Item C) → List C → List C → List C → Around C
around marks unfinished items right waiting out = record { marks = marks; unfinished = unfinished; items = items; right = right; waiting = waiting; out = out }

-- the rows that wait
abbrev pub waiting_rows : {C : Type 0} → Plan → Probe → List C → List (List C)
waiting_rows plan p waiting = rows_from p.waiting plan.list.count waiting

-- what the handler of the probe's state makes of all this
abbrev pub handled_by : {C : Type 0} → Setup C → Plan → Probe → Around C → Handled C
handled_by S plan p a = handle S (bits_of plan.left_rows a.marks) a.unfinished (state_at plan p a.right) (waiting_rows plan p a.waiting) a.items

-- a handler of probe `who`, handed a source whose largest batch is `most`, answers r and leaves what m says
pub record Handles {C : Type 0} (plan : Plan) (who most : ℕ) (p p' : Probe) (a a' : Around C) (r : Answer) (m : Handled C) : Type 0 where
  pub marks : bits_of plan.left_rows a'.marks ≡ m.marks
  pub unfinished : a'.unfinished ≡ m.unfinished
  pub state : state_at plan p' a'.right ≡ m.state
  pub waiting : waiting_rows plan p' a'.waiting ≡ m.waiting
  pub items : a'.items ≡ m.items
  pub answer : Ok r ≡ told who p.taken m.answer
  pub out : a'.out ≡ cells_of (rows_in m.answer) ++ drop (length (rows_in m.answer) * plan.list.count) a.out
  pub taken : p'.taken ≡ taken_after (state_at plan p a.right) a.items p.taken
  pub answered : p'.answered ≡ (p.answered || is_done m.answer)
  pub unread : Unread p'.state (probe_view p) (probe_view p')
  pub largest : p'.largest ≡ largest_after (probe_view p) p.state most

-- how many left rows a step joins with the batch: several where the batch size holds it more than ten times
abbrev pub rows_joined : Plan → Probe → ℕ
rows_joined plan p = cond (nat_lt 10 (plan.batch_size / p.rows)) (min (plan.batch_size / p.rows) (plan.left_rows - p.index)) 1

-- a probe with so many waiting rows
abbrev pub with_waiting : Probe → ℕ → Probe
with_waiting p k = record p { waiting = k }

-- a probe in another state
abbrev pub with_state : Probe → NLJState → Probe
with_state p s = record p { state = s }

-- a probe that has ended, of which so many were unfinished
abbrev pub ended : Probe → ℕ → Probe
ended p n = record p { state = EmitLeftUnmatched; index = 0; is_emitter = is_one n }

-- a probe that has answered done
abbrev pub finished : Probe → Probe
finished p = record p { answered = true }

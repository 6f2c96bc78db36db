-- What one call of step does: when it is refused, and what it leaves where it is accepted.
use Rattle.std.specs.Prelude.{◌≡◌, ℕ, ◌+◌, ◌-◌, ◌*◌, max, Bool, not, ◌&&◌, ◌||◌, List, [], ◌∷◌, ◌++◌, length, drop, Some, None, Err, Option, ◌==◌, nat_le, nat_lt, slice_set}
use Rattle.memory.specs.Items.{Item}
use Rattle.memory.specs.Rows.{rows_from, cells_of}
use Rattle.verdicts.specs.declared.truth.Truth.{Truth}
use Rattle.memory.specs.Conditions.{first_of}
use Rattle.nested_loop.specs.Model.{Setup}
use Rattle.nested_loop.specs.Machine.{State, FetchingRight, ProbeRight, EmitRightUnmatched, ProbeEnd, EmitLeftUnmatched, Done, Probe, Handled, handle, asks, rows_in, become, tallied, told}
use Rattle.nested_loop.specs.declared.answer.StepRefusal.{StepRefusal}
use Rattle.nested_loop.specs.declared.answer.StepRefusal.TheVariants.{NoSuchProbe, LeftTooShort, OtherColumns, PageTooShort}
use Rattle.runs.specs.Records.{Cells, Terms, ProbeView, view_at, Call, NLJState, InFetchingRight, InProbeRight, InEmitRightUnmatched, InProbeEnd, InEmitLeftUnmatched, InDone}

-- what the nested loop is about: terms, cells, table and verdict together
abbrev pub setup_of : {C : Type 0} → Cells C → Terms → List (List C) → (List C → List C → Truth) → Setup C
setup_of z o table says = record {
  missing = z.missing;
  yes = z.yes;
  no = z.no;
  join_type = o.join_type;
  batch_size = o.batch_size;
  columns = o.columns;
  table = table;
  verdict = says;
}

-- the state that a record and its right page show, so many cells to a right row
abbrev pub state_of : {C : Type 0} → ℕ → ProbeView → List C → NLJState → State C
state_of c v right InFetchingRight = FetchingRight
state_of c v right InProbeRight = ProbeRight (rows_from v.rows c right) v.marks v.index
state_of c v right InEmitRightUnmatched = EmitRightUnmatched (rows_from v.rows c right) v.marks
state_of c v right InProbeEnd = ProbeEnd
state_of c v right InEmitLeftUnmatched = EmitLeftUnmatched v.emits v.index
state_of c v right InDone = Done

-- the probe that a record, its source's items and its pages show
abbrev pub probe_of : {C : Type 0} → Terms → ProbeView → List (Item C) → List C → List C → Probe C
probe_of o v items right waiting = record {
  state = state_of o.right_columns v right v.state;
  waiting = rows_from v.waiting (length o.columns) waiting;
  items = items;
  taken = v.taken;
  answered = v.answered;
}

-- how many rows may wait, the largest batch being so many rows
abbrev pub room_for : Terms → ℕ → ℕ
room_for o largest = (o.batch_size - 1) + max o.batch_size largest

-- is the right, the waiting or the out page too short
abbrev pub short_page : {C : Type 0} → Call C → ℕ → Bool
short_page c largest =
    let o = c.join.terms in
    nat_lt (length c.right) (largest * o.right_columns)
    || (nat_lt (length c.waiting) (room_for o largest * length o.columns)
    || nat_lt (length c.out) (o.batch_size * length o.columns))

-- why a call is refused, if it is, in every state of its probe
abbrev pub refusal_of : {C : Type 0} → Call C → Option StepRefusal
refusal_of c = first_of (
    (not (nat_le 1 c.probe && nat_le c.probe (length c.join.probes)), NoSuchProbe)
    ∷ (nat_lt (length c.left) (c.join.left_rows * c.join.left_columns), LeftTooShort)
    ∷ (not (c.cols == c.join.terms.right_columns), OtherColumns)
    ∷ (short_page c (max (view_at c.probe c.join).largest c.most), PageTooShort) ∷ [])

-- a refused call answers its refusal and changes nothing
pub record Unchanged {C : Type 0} (c : Call C) (e : StepRefusal) : Type 0 where
  pub answer : c.answer ≡ Err e
  pub join : c.join' ≡ c.join
  pub items : c.items' ≡ c.items
  pub right : c.right' ≡ c.right
  pub waiting : c.waiting' ≡ c.waiting
  pub out : c.out' ≡ c.out

-- the largest batch of any source asked, after a step in this state
abbrev pub largest_after : ProbeView → NLJState → ℕ → ℕ
largest_after v InFetchingRight most = max v.largest most
largest_after v InProbeRight most = v.largest
largest_after v InEmitRightUnmatched most = v.largest
largest_after v InProbeEnd most = v.largest
largest_after v InEmitLeftUnmatched most = v.largest
largest_after v InDone most = v.largest

-- what the new state of a record does not read is as it was
abbrev pub Unread : NLJState → ProbeView → ProbeView → Type 0
Unread InFetchingRight v n = (n.rows ≡ v.rows) × (n.marks ≡ v.marks) × (n.index ≡ v.index) × (n.emits ≡ v.emits)
Unread InProbeRight v n = n.emits ≡ v.emits
Unread InEmitRightUnmatched v n = (n.index ≡ v.index) × (n.emits ≡ v.emits)
Unread InProbeEnd v n = (n.rows ≡ v.rows) × (n.marks ≡ v.marks) × (n.index ≡ v.index) × (n.emits ≡ v.emits)
Unread InEmitLeftUnmatched v n = (n.rows ≡ v.rows) × (n.marks ≡ v.marks)
Unread InDone v n = (n.rows ≡ v.rows) × (n.marks ≡ v.marks) × (n.index ≡ v.index) × (n.emits ≡ v.emits)

-- what an accepted call leaves, its probe being p and m what the handler of p's state makes of it: the records of the other probes stay.
-- Free are the right page beyond the batch and all of it between batches, and the waiting page beyond the waiting rows
pub record Moves {C : Type 0} (S : Setup C) (p : Probe C) (c : Call C) (m : Handled C) : Type 0 where
  pub view : probe_of c.join.terms (view_at c.probe c.join') c.items' c.right' c.waiting' ≡ become p m
  pub unread : Unread (view_at c.probe c.join').state (view_at c.probe c.join) (view_at c.probe c.join')
  pub largest : (view_at c.probe c.join').largest ≡ largest_after (view_at c.probe c.join) (view_at c.probe c.join).state c.most
  pub join : c.join' ≡ record {
    terms = c.join.terms;
    left_columns = c.join.left_columns;
    left_rows = c.join.left_rows;
    marks = m.marks;
    unfinished = m.unfinished;
    probes = slice_set c.join.probes (c.probe - 1) (view_at c.probe c.join');
    tally = tallied c.join.tally (asks S p.state p.waiting) m.answer;
  }
  pub answer : c.answer ≡ told c.probe p.taken m.answer
  pub out : c.out' ≡ cells_of (rows_in m.answer) ++ drop (length (rows_in m.answer) * length c.join.terms.columns) c.out

-- the setup that a call's record, left memory and verdict show
abbrev pub call_setup : {C : Type 0} → Cells C → Call C → Setup C
call_setup z c = setup_of z c.join.terms (rows_from c.join.left_rows c.join.left_columns c.left) c.says

-- the probe that a call's record and memory show
abbrev pub call_probe : {C : Type 0} → Call C → Probe C
call_probe c = probe_of c.join.terms (view_at c.probe c.join) c.items c.right c.waiting

-- what the handler of its state makes of it
abbrev pub call_handled : {C : Type 0} → Setup C → Probe C → Call C → Handled C
call_handled S p c = handle S c.join.marks c.join.unfinished p.state p.waiting p.items

-- what step's contract says of one call
pub record Stepped {C : Type 0} (z : Cells C) (c : Call C) : Type 0 where
  pub refuses : (e : StepRefusal) → refusal_of c ≡ Some e → Unchanged c e
  pub accepts : refusal_of c ≡ None → Moves (call_setup z c) (call_probe c) c (call_handled (call_setup z c) (call_probe c) c)

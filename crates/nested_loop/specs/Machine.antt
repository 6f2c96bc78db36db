-- The join as a machine: one step of a probe, and a run over turns.
use Rattle.std.specs.Prelude.{ℕ, zero, suc, ◌+◌, ◌-◌, ◌*◌, ◌/◌, min, Bool, true, false, cond, ◌&&◌, ◌||◌, List, [], ◌∷◌, ◌++◌, map, length, take, drop, Ok, Err, Result, ◌==◌, nat_le, nat_lt}
use Rattle.nested_loop.specs.Model.{Setup, Item, batch, wait, fault, left_rest_of, right_rest_of, some_rest, counted}
use Rattle.nested_loop.specs.Loop.{left_matched, right_matched, pairs, right_rest, left_rest}
pub use Rattle.nested_loop.specs.declared.answer.Answer.{Answer}
pub use Rattle.nested_loop.specs.declared.answer.Answer.TheVariants.{On, Batch, Wait, Fault, Done as IsDone}
pub use Rattle.nested_loop.specs.declared.answer.Faulted.{Faulted}
pub use Rattle.nested_loop.specs.declared.answer.StepRefusal.{StepRefusal}
pub use Rattle.nested_loop.specs.declared.answer.StepRefusal.TheVariants.{NoSuchProbe, LeftTooShort, OtherColumns, PageTooShort}

-- what comes of a step, a batch with its rows
pub data Outcome (C : Type 0) : Type 0 where
  refused : Outcome C
  on : Outcome C
  delivers : List (List C) → Outcome C
  waits : Outcome C
  faults : ℕ → ℕ → Outcome C
  says_done : Outcome C

-- the states of a probe; with a right batch go its marks, with the left rest whether this probe is the emitter
pub data State (C : Type 0) : Type 0 where
  FetchingRight : State C
  ProbeRight : List (List C) → List Bool → ℕ → State C
  EmitRightUnmatched : List (List C) → List Bool → State C
  ProbeEnd : State C
  EmitLeftUnmatched : Bool → ℕ → State C
  Done : State C

-- a probe: the rows that wait, the items to come, how many it took, and whether it has answered done
pub record Probe (C : Type 0) : Type 0 where
  pub state : State C
  pub waiting : List (List C)
  pub items : List (Item C)
  pub taken : ℕ
  pub answered : Bool

pub record Tally : Type 0 where
  pub rows : ℕ
  pub batches : ℕ
  pub pairs : ℕ

pub record Join (C : Type 0) : Type 0 where
  pub marks : List Bool
  pub unfinished : ℕ
  pub probes : List (Probe C)
  pub tally : Tally

-- what a handler makes of the shared marks, the count of unfinished probes and its probe
pub record Handled (C : Type 0) : Type 0 where
  pub answer : Outcome C
  pub marks : List Bool
  pub unfinished : ℕ
  pub state : State C
  pub waiting : List (List C)
  pub items : List (Item C)

-- marks set besides those that are set
abbrev pub or_marks : List Bool → List Bool → List Bool
or_marks [] cs = []
or_marks (b ∷ bs) [] = b ∷ bs
or_marks (b ∷ bs) (c ∷ cs) = (b || c) ∷ or_marks bs cs

abbrev pub no_marks : {X : Type 0} → List X → List Bool
no_marks xs = map (λ x. false) xs

-- marks of the rows from i on
abbrev pub from_row : ℕ → List Bool → List Bool
from_row zero bs = bs
from_row (suc i) bs = false ∷ from_row i bs

abbrev pub is_one : ℕ → Bool
is_one zero = false
is_one (suc zero) = true
is_one (suc (suc n)) = false

abbrev pub is_zero : ℕ → Bool
is_zero zero = true
is_zero (suc n) = false

abbrev pub lower : ℕ → ℕ
lower zero = zero
lower (suc n) = n

abbrev pub handled : {C : Type 0} → Outcome C → List Bool → ℕ → State C → List (List C) → List (Item C) → Handled C
handled a bits n st w is = record { answer = a; marks = bits; unfinished = n; state = st; waiting = w; items = is }

module _ {C : Type 0} (S : Setup C) where
  -- how many left rows a step meets at most with a batch of r rows
  abbrev pub group : ℕ → ℕ
  group r = cond (nat_lt 10 (S.batch_size / r)) (S.batch_size / r) 1

  -- how many it meets, of those from i on
  abbrev pub rows_met : ℕ → ℕ → ℕ
  rows_met r i = cond (nat_lt 10 (S.batch_size / r)) (min (S.batch_size / r) (length S.table - i)) 1

  abbrev pub deliver : List Bool → ℕ → State C → List (List C) → List (Item C) → Handled C
  deliver bits n st w is = handled (delivers (take S.batch_size w)) bits n st (drop S.batch_size w) is

  abbrev pub fetching_right : List Bool → ℕ → List (List C) → List (Item C) → Handled C
  fetching_right bits n w [] = handled on bits n ProbeEnd w []
  fetching_right bits n w (batch [] ∷ is) = handled on bits n FetchingRight w is
  fetching_right bits n w (batch (r ∷ rs) ∷ is) = handled on bits n (ProbeRight (r ∷ rs) (no_marks (r ∷ rs)) 0) w is
  fetching_right bits n w (wait ∷ is) = handled waits bits n FetchingRight w is
  fetching_right bits n w (fault c d ∷ is) = handled (faults c d) bits n FetchingRight w is

  abbrev pub meet : List (List C) → List Bool → ℕ → List (List C) → List Bool → ℕ → List (List C) → List (Item C) → Handled C
  meet chunk bits n b ms i w is =
      handled on (or_marks bits (from_row i (map (left_matched S b) chunk))) n
      (ProbeRight b (or_marks ms (map (right_matched S chunk) b)) (i + rows_met (length b) i)) (w ++ pairs S chunk b) is

  abbrev pub probe_right : Bool → Bool → Bool → List Bool → ℕ → List (List C) → List Bool → ℕ → List (List C) → List (Item C) → Handled C
  probe_right true below rests bits n b ms i w is = deliver bits n (ProbeRight b ms i) w is
  probe_right false true rests bits n b ms i w is = meet (take (rows_met (length b) i) (drop i S.table)) bits n b ms i w is
  probe_right false false true bits n b ms i w is = handled on bits n (EmitRightUnmatched b ms) w is
  probe_right false false false bits n b ms i w is = handled on bits n FetchingRight w is

  abbrev pub emit_right_unmatched : Bool → List Bool → ℕ → List (List C) → List Bool → List (List C) → List (Item C) → Handled C
  emit_right_unmatched true bits n b ms w is = deliver bits n (EmitRightUnmatched b ms) w is
  emit_right_unmatched false bits n b ms w is = handled on bits n FetchingRight (w ++ right_rest S b ms) is

  abbrev pub flush : List Bool → ℕ → Bool → ℕ → List (List C) → List (Item C) → Handled C
  flush bits n mine i [] is = handled on bits n Done [] is
  flush bits n mine i (x ∷ w) is = handled (delivers (x ∷ w)) bits n (EmitLeftUnmatched mine i) [] is

  abbrev pub emit_left_unmatched : Bool → Bool → List Bool → ℕ → Bool → ℕ → List (List C) → List (Item C) → Handled C
  emit_left_unmatched true more bits n mine i w is = deliver bits n (EmitLeftUnmatched mine i) w is
  emit_left_unmatched false true bits n mine i w is =
      handled on bits n (EmitLeftUnmatched mine (min (i + S.batch_size) (length S.table)))
      (w ++ left_rest S (take S.batch_size (drop i S.table)) (take S.batch_size (drop i bits))) is
  emit_left_unmatched false false bits n mine i w is = flush bits n mine i w is

  abbrev pub handle : List Bool → ℕ → State C → List (List C) → List (Item C) → Handled C
  handle bits n FetchingRight w is = fetching_right bits n w is
  handle bits n (ProbeRight b ms i) w is =
      probe_right (nat_le S.batch_size (length w)) (nat_lt i (length S.table)) (some_rest (right_rest_of S.join_type)) bits n b ms i w is
  handle bits n (EmitRightUnmatched b ms) w is = emit_right_unmatched (nat_le S.batch_size (length w)) bits n b ms w is
  handle bits n ProbeEnd w is = handled on bits (lower n) (EmitLeftUnmatched (is_one n) 0) w is
  handle bits n (EmitLeftUnmatched mine i) w is =
      emit_left_unmatched (nat_le S.batch_size (length w)) (mine && (some_rest (left_rest_of S.join_type) && nat_lt i (length S.table))) bits n mine i w is
  handle bits n Done w is = handled says_done bits n Done w is

  -- how many pairs a step asks the verdict about
  abbrev pub asked_at : Bool → Bool → ℕ → ℕ → ℕ
  asked_at true below r i = 0
  asked_at false true r i = rows_met r i * r
  asked_at false false r i = 0

  abbrev pub asks : State C → List (List C) → ℕ
  asks FetchingRight w = 0
  asks (ProbeRight b ms i) w = asked_at (nat_le S.batch_size (length w)) (nat_lt i (length S.table)) (length b) i
  asks (EmitRightUnmatched b ms) w = 0
  asks ProbeEnd w = 0
  asks (EmitLeftUnmatched mine i) w = 0
  asks Done w = 0

abbrev pub rows_in : {C : Type 0} → Outcome C → List (List C)
rows_in refused = []
rows_in on = []
rows_in (delivers rs) = rs
rows_in waits = []
rows_in (faults c d) = []
rows_in says_done = []

abbrev pub is_done : {C : Type 0} → Outcome C → Bool
is_done refused = false
is_done on = false
is_done (delivers rs) = false
is_done waits = false
is_done (faults c d) = false
is_done says_done = true

abbrev pub is_batch : {C : Type 0} → Outcome C → Bool
is_batch refused = false
is_batch on = false
is_batch (delivers rs) = true
is_batch waits = false
is_batch (faults c d) = false
is_batch says_done = false

-- how many items a probe has taken after a step in this state
abbrev pub taken_after : {C : Type 0} → State C → List (Item C) → ℕ → ℕ
taken_after FetchingRight [] n = n
taken_after FetchingRight (i ∷ is) n = counted (suc n)
taken_after (ProbeRight b ms i) is n = n
taken_after (EmitRightUnmatched b ms) is n = n
taken_after ProbeEnd is n = n
taken_after (EmitLeftUnmatched mine i) is n = n
taken_after Done is n = n

-- the probe after its step
abbrev pub become : {C : Type 0} → Probe C → Handled C → Probe C
become p m = record {
  state = m.state;
  waiting = m.waiting;
  items = m.items;
  taken = taken_after p.state p.items p.taken;
  answered = p.answered || is_done m.answer;
}

-- so many more; none changes nothing
abbrev pub add_count : ℕ → ℕ → ℕ
add_count y zero = y
add_count y (suc n) = counted (y + suc n)

-- the tally after a step that asked so many pairs
abbrev pub tallied : {C : Type 0} → Tally → ℕ → Outcome C → Tally
tallied y asked a = record {
  rows = add_count y.rows (length (rows_in a));
  batches = add_count y.batches (cond (is_batch a) 1 0);
  pairs = add_count y.pairs asked;
}

-- what the caller is told, given the probe and how many items it took before
abbrev pub told : {C : Type 0} → ℕ → ℕ → Outcome C → Result Answer StepRefusal
told who k refused = Err NoSuchProbe
told who k on = Ok On
told who k (delivers rs) = Ok (Batch (length rs))
told who k waits = Ok Wait
told who k (faults c d) = Ok (Fault (record { cause = c; depth = d; probe = who; items = k }))
told who k says_done = Ok IsDone

-- a numbered element, with those before and behind it
pub data Spot (X : Type 0) : Type 0 where
  nowhere : Spot X
  at : List X → X → List X → Spot X

abbrev pub behind : {X : Type 0} → X → Spot X → Spot X
behind q nowhere = nowhere
behind q (at bef p zs) = at (q ∷ bef) p zs

-- probes are numbered from 1
abbrev pub spot : {X : Type 0} → ℕ → List X → Spot X
spot t [] = nowhere
spot zero (p ∷ ps) = nowhere
spot (suc zero) (p ∷ ps) = at [] p ps
spot (suc (suc k)) (p ∷ ps) = behind p (spot (suc k) ps)

pub record Step (C : Type 0) : Type 0 where
  pub answer : Outcome C
  pub told : Result Answer StepRefusal
  pub join : Join C

abbrev pub settle : {C : Type 0} → ℕ → Tally → List (Probe C) → Probe C → List (Probe C) → ℕ → Handled C → Step C
settle t y bef p zs asked m = record {
  answer = m.answer;
  told = told t p.taken m.answer;
  join = record { marks = m.marks; unfinished = m.unfinished; probes = bef ++ become p m ∷ zs; tally = tallied y asked m.answer };
}

abbrev pub fresh : {C : Type 0} → List (Item C) → Probe C
fresh is = record { state = FetchingRight; waiting = []; items = is; taken = 0; answered = false }

-- have all answered done
abbrev pub all_probes_done : {C : Type 0} → List (Probe C) → Bool
all_probes_done [] = true
all_probes_done (p ∷ ps) = p.answered && all_probes_done ps

-- how many rows wait at probe k
abbrev pub waiting_at : {C : Type 0} → ℕ → List (Probe C) → ℕ
waiting_at t [] = 0
waiting_at zero (p ∷ ps) = 0
waiting_at (suc zero) (p ∷ ps) = length p.waiting
waiting_at (suc (suc k)) (p ∷ ps) = waiting_at (suc k) ps

module _ {C : Type 0} (S : Setup C) where
  abbrev pub step_at : ℕ → Spot (Probe C) → Join C → Step C
  step_at t nowhere J = record { answer = refused; told = Err NoSuchProbe; join = J }
  step_at t (at bef p zs) J =
      settle t J.tally bef p zs (asks S p.state p.waiting) (handle S J.marks J.unfinished p.state p.waiting p.items)

  abbrev pub step : Join C → ℕ → Step C
  step J t = step_at t (spot t J.probes) J

  abbrev pub asks_at : Spot (Probe C) → ℕ
  asks_at nowhere = 0
  asks_at (at bef p zs) = asks S p.state p.waiting

  abbrev pub opened : List (List (Item C)) → Join C
  opened sources = record { marks = no_marks S.table; unfinished = length sources; probes = map fresh sources; tally = record { rows = 0; batches = 0; pairs = 0 } }

  -- the join after a list of turns
  abbrev pub after : Join C → List ℕ → Join C
  after J [] = J
  after J (t ∷ ts) = after (step J t).join ts

  -- the outcomes, in time
  abbrev pub answers : Join C → List ℕ → List (Outcome C)
  answers J [] = []
  answers J (t ∷ ts) = (step J t).answer ∷ answers (step J t).join ts

  -- the pairs asked
  abbrev pub asked : Join C → List ℕ → ℕ
  asked J [] = 0
  asked J (t ∷ ts) = asks_at (spot t J.probes) + asked (step J t).join ts

  -- those of probe k
  abbrev pub answers_of : ℕ → Join C → List ℕ → List (Outcome C)
  answers_of k J [] = []
  answers_of k J (t ∷ ts) = cond (k == t) ((step J t).answer ∷ []) [] ++ answers_of k (step J t).join ts

  -- what probe k's caller was told
  abbrev pub told_of : ℕ → Join C → List ℕ → List (Result Answer StepRefusal)
  told_of k J [] = []
  told_of k J (t ∷ ts) = cond (k == t) ((step J t).told ∷ []) [] ++ told_of k (step J t).join ts

  -- the probe whose step brought the count of unfinished probes from one to none
  abbrev pub emitter : Join C → List ℕ → ℕ
  emitter J [] = 0
  emitter J (t ∷ ts) = cond (is_one J.unfinished && is_zero (step J t).join.unfinished) t (emitter (step J t).join ts)

-- Lists of actual calls of step from a freshly opened join, and what is seen of them.
use Rattle.std.specs.Prelude.{◌≡◌, ℕ, zero, suc, ◌*◌, ◌≤◌, Bool, true, false, cond, ◌&&◌, List, [], ◌∷◌, ◌++◌, map, length, take, replicate, None, Ok, Err, Result, ◌==◌}
use Rattle.std.specs.List.{AllByRecursion}
use Rattle.memory.specs.Items.{Item}
use Rattle.memory.specs.Rows.{rows_from, cells_of}
use Rattle.verdicts.specs.declared.truth.Truth.{Truth}
use Rattle.nested_loop.specs.Model.{Setup}
use Rattle.nested_loop.specs.Machine.{Outcome, refused, on, delivers, waits, faults, says_done, is_one, is_zero}
use Rattle.nested_loop.specs.declared.answer.Answer.{Answer}
use Rattle.nested_loop.specs.declared.answer.Answer.TheVariants.{On, Batch, Wait, Fault, Done as IsDone}
use Rattle.nested_loop.specs.declared.answer.StepRefusal.{StepRefusal}
use Rattle.nested_loop.specs.Said.{Seen}
use Rattle.runs.specs.Records.{Cells, Terms, ProbeView, JoinView, fresh_view, view_at, Call, NLJState, InFetchingRight, InProbeRight, InEmitRightUnmatched, InProbeEnd, InEmitLeftUnmatched, InDone}
use Rattle.runs.specs.Calls.{setup_of, refusal_of, Stepped}

-- what a join is opened over, and what its sources bring to each probe
pub record Setting (C : Type 0) : Type 0 where
  pub cells : Cells C
  pub terms : Terms
  pub left_columns : ℕ
  pub table : List (List C)
  pub says : List C → List C → Truth
  pub sources : List (List (Item C))

-- what its nested loop is about
abbrev pub setting_setup : {C : Type 0} → Setting C → Setup C
setting_setup Z = setup_of Z.cells Z.terms Z.table Z.says

-- what join and probes keep between calls: the join's record, and by probe its source's items, its right page and its waiting page
pub record Kept (C : Type 0) : Type 0 where
  pub join : JoinView
  pub items : ℕ → List (Item C)
  pub right : ℕ → List C
  pub waiting : ℕ → List C

-- the join's record at opening: terms, left columns, left rows, probes
abbrev pub open_view : Terms → ℕ → ℕ → ℕ → JoinView
open_view terms left_columns left_rows probes = record {
  terms = terms;
  left_columns = left_columns;
  left_rows = left_rows;
  marks = replicate left_rows false;
  unfinished = probes;
  probes = replicate probes fresh_view;
  tally = record { rows = 0; batches = 0; pairs = 0 };
}

-- the items of source t, from 1
abbrev pub items_at : {C : Type 0} → ℕ → List (List (Item C)) → List (Item C)
items_at t [] = []
items_at zero (s ∷ ss) = []
items_at (suc zero) (s ∷ ss) = s
items_at (suc (suc t)) (s ∷ ss) = items_at (suc t) ss

-- what is kept fits a freshly opened join; its pages may hold anything
pub record Fresh {C : Type 0} (Z : Setting C) (k : Kept C) : Type 0 where
  pub join : k.join ≡ open_view Z.terms Z.left_columns (length Z.table) (length Z.sources)
  pub items : (t : ℕ) → k.items t ≡ items_at t Z.sources
  pub rows : AllByRecursion (λ l. length l ≡ Z.left_columns) Z.table
  pub size : 1 ≤ Z.terms.batch_size
  pub some : 1 ≤ length Z.sources

-- how many rows of the right page count
abbrev pub current : ProbeView → NLJState → ℕ
current v InFetchingRight = 0
current v InProbeRight = v.rows
current v InEmitRightUnmatched = v.rows
current v InProbeEnd = 0
current v InEmitLeftUnmatched = 0
current v InDone = 0

-- of its pages only the rows that count go on with a probe: those of the current batch, and those that wait
abbrev pub Fronts : {C : Type 0} → Kept C → Call C → Type 0
Fronts k c =
    let v = view_at c.probe k.join in
    let r = current v v.state * k.join.terms.right_columns in
    let w = v.waiting * length k.join.terms.columns in
    (take r c.right ≡ take r (k.right c.probe)) × (take w c.waiting ≡ take w (k.waiting c.probe))

-- a call is handed what its probe and join keep: the left memory holds the table, the verdict says what it said; the out page may be any
pub record Continues {C : Type 0} (Z : Setting C) (k : Kept C) (c : Call C) : Type 0 where
  pub join : c.join ≡ k.join
  pub items : c.items ≡ k.items c.probe
  pub left : take (length Z.table * Z.left_columns) c.left ≡ cells_of Z.table
  pub says : (l r : List C) → c.says l r ≡ Z.says l r
  pub fronts : Fronts k c

-- a function changed at one place
abbrev pub update : {X : Type 0} → (ℕ → X) → ℕ → X → ℕ → X
update f p x q = cond (p == q) x (f q)

-- what is kept after a call
abbrev pub follow : {C : Type 0} → Kept C → Call C → Kept C
follow k c = record {
  join = c.join';
  items = update k.items c.probe c.items';
  right = update k.right c.probe c.right';
  waiting = update k.waiting c.probe c.waiting';
}

-- the same with another record of the join
abbrev pub with_join : {C : Type 0} → Kept C → JoinView → Kept C
with_join k j = record { join = j; items = k.items; right = k.right; waiting = k.waiting }

-- a refused call on the join, with any kind of cell, source and verdict, handed anything
pub record Refusing : Type 0 where
  pub join : JoinView
  pub join' : JoinView
  pub number : StepRefusal
  pub same : join' ≡ join

-- a list of accepted calls from opening, in time, with what is kept after it: refused calls may stand anywhere between
pub data Steps {C : Type 0} (Z : Setting C) : Kept C → List (Call C) → Type 0 where
  opened : (k : Kept C) → Fresh Z k → Steps Z k []
  stepped : {k : Kept C} {cs : List (Call C)} → Steps Z k cs → (c : Call C) → Stepped Z.cells c → refusal_of c ≡ None → Continues Z k c → Steps Z (follow k c) (cs ++ c ∷ [])
  refusing : {k : Kept C} {cs : List (Call C)} → Steps Z k cs → (x : Refusing) → x.join ≡ k.join → Steps Z (with_join k x.join') cs

-- what an answer and an out page show, so many cells to a row
abbrev pub shown : {C : Type 0} → Result Answer StepRefusal → ℕ → List C → Outcome C
shown (Ok On) c out = on
shown (Ok (Batch n)) c out = delivers (rows_from n c out)
shown (Ok Wait) c out = waits
shown (Ok (Fault f)) c out = faults f.cause f.depth
shown (Ok IsDone) c out = says_done
shown (Err e) c out = refused

-- what a call shows: a batch delivers the rows at the front of the out page
abbrev pub outcome_of : {C : Type 0} → Call C → Outcome C
outcome_of c = shown c.answer (length c.join.terms.columns) c.out'

-- the calls of probe t
abbrev pub calls_of : {C : Type 0} → ℕ → List (Call C) → List (Call C)
calls_of t [] = []
calls_of t (c ∷ cs) = cond (t == c.probe) (c ∷ []) [] ++ calls_of t cs

-- the probe whose call brought the count of unfinished probes from one to none
abbrev pub emitter_of : {C : Type 0} → List (Call C) → ℕ
emitter_of [] = 0
emitter_of (c ∷ cs) = cond (is_one c.join.unfinished && is_zero c.join'.unfinished) c.probe (emitter_of cs)

-- how many rows wait at probe t
abbrev pub waiting_view : ℕ → List ProbeView → ℕ
waiting_view t [] = 0
waiting_view zero (v ∷ vs) = 0
waiting_view (suc zero) (v ∷ vs) = v.waiting
waiting_view (suc (suc t)) (v ∷ vs) = waiting_view (suc t) vs

-- have all probes answered done
abbrev pub all_answered : List ProbeView → Bool
all_answered [] = true
all_answered (v ∷ vs) = v.answered && all_answered vs

-- what is seen of a list of calls: answers, out pages, and the join's own counts
abbrev pub seen_of : {C : Type 0} → Kept C → List (Call C) → Seen C
seen_of k cs = record {
  all = map outcome_of cs;
  by = λ t. map outcome_of (calls_of t cs);
  told = λ t. map (λ c. c.answer) (calls_of t cs);
  emitter = emitter_of cs;
  waiting = λ t. waiting_view t k.join.probes;
  tally = k.join.tally;
  finished = all_answered k.join.probes;
}

-- What a join and its probes keep between calls, and one call of step, as a contract shows them.
use Rattle.std.specs.Prelude.{ℕ, ◌-◌, Bool, false, List, [], Result, slice_index_or}
use Rattle.memory.specs.Items.{Item}
use Rattle.verdicts.specs.declared.truth.Truth.{Truth}
use Rattle.join_types.specs.declared.kind.JoinType.{JoinType}
use Rattle.join_types.specs.declared.column.ColumnIndex.{ColumnIndex}
use Rattle.nested_loop.specs.Machine.{Tally}
use Rattle.nested_loop.specs.declared.answer.Answer.{Answer}
use Rattle.nested_loop.specs.declared.answer.StepRefusal.{StepRefusal}
pub use Rattle.nested_loop.specs.declared.answer.NLJState.{NLJState}
pub use Rattle.nested_loop.specs.declared.answer.NLJState.TheVariants.{FetchingRight as InFetchingRight, ProbeRight as InProbeRight, EmitRightUnmatched as InEmitRightUnmatched, ProbeEnd as InProbeEnd, EmitLeftUnmatched as InEmitLeftUnmatched, Done as InDone}

-- the three cells that a join writes by itself
pub record Cells (C : Type 0) : Type 0 where
  pub missing : C
  pub yes : C
  pub no : C

-- what a join was opened with, but for its table
pub record Terms : Type 0 where
  pub join_type : JoinType
  pub batch_size : ℕ
  pub right_columns : ℕ
  pub columns : List ColumnIndex

-- what a probe's record says: its state, the rows of its right batch and their marks, the left index, whether it is the emitter, how many
-- rows wait, the largest batch of any source that it asked, how many items it took, whether it has answered done
pub record ProbeView : Type 0 where
  pub state : NLJState
  pub rows : ℕ
  pub marks : List Bool
  pub index : ℕ
  pub emits : Bool
  pub waiting : ℕ
  pub largest : ℕ
  pub taken : ℕ
  pub answered : Bool

-- what the join's record says
pub record JoinView : Type 0 where
  pub terms : Terms
  pub left_columns : ℕ
  pub left_rows : ℕ
  pub marks : List Bool
  pub unfinished : ℕ
  pub probes : List ProbeView
  pub tally : Tally

-- a probe that has not stepped yet
abbrev pub fresh_view : ProbeView
fresh_view = record {
  state = InFetchingRight;
  rows = 0;
  marks = [];
  index = 0;
  emits = false;
  waiting = 0;
  largest = 0;
  taken = 0;
  answered = false;
}

-- the record of probe t; probes are numbered from 1
abbrev pub view_at : ℕ → JoinView → ProbeView
view_at t j = slice_index_or j.probes (t - 1) fresh_view

-- a call of step: what it is handed, what it leaves (with a prime) and what it answers. A source shows its largest batch, its columns and the
-- items that it has still to bring; a verdict what it says of two rows; memory its cells
pub record Call (C : Type 0) : Type 0 where
  pub probe : ℕ
  pub says : List C → List C → Truth
  pub left : List C
  pub most : ℕ
  pub cols : ℕ
  pub items : List (Item C)
  pub items' : List (Item C)
  pub right : List C
  pub right' : List C
  pub waiting : List C
  pub waiting' : List C
  pub out : List C
  pub out' : List C
  pub join : JoinView
  pub join' : JoinView
  pub answer : Result Answer StepRefusal

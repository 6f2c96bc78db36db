-- What is promised of every list of calls of step.
use Rattle.std.specs.Prelude.{◌≡◌, true, List, [], ◌∷◌, ◌++◌, map, length, Some, None}
use Rattle.std.specs.List.{flat_map, AllByRecursion}
use Rattle.std.specs.List.Sorted.{IsPermutation}
use Rattle.join_types.specs.Types.{mirror, swapped, has_pairs}
use Rattle.nested_loop.specs.Loop.{right_rows}
use Rattle.nested_loop.specs.declared.answer.StepRefusal.{StepRefusal}
use Rattle.nested_loop.specs.Said.{Upheld, Finished, delivered}
use Rattle.nested_loop.specs.Bags.{JoinedTable, project, Below}
use Rattle.runs.specs.Records.{Cells, Call}
use Rattle.runs.specs.Calls.{refusal_of, Stepped}
use Rattle.runs.specs.Lists.{Setting, setting_setup, Kept, Steps, Continues, follow, with_join, outcome_of, seen_of}

-- of every list of calls holds all that is promised of a run: never more rows than the nested loop has, exactly these when finished, each
-- probe's in order, cuts, step bound, waits and faults, tally
abbrev pub RunsHold : Type 0 → Type 0
RunsHold C = (Z : Setting C) (k : Kept C) (cs : List (Call C)) → Steps Z k cs → Upheld (setting_setup Z) Z.sources (seen_of k cs)

-- what a call does, and how it carries every list on: accepted it is one call more, refused the list stays
pub record Carries {C : Type 0} (z : Cells C) (c : Call C) : Type 0 where
  pub did : Stepped z c
  pub on : (Z : Setting C) (k : Kept C) (cs : List (Call C)) → Z.cells ≡ z → Steps Z k cs → Continues Z k c → refusal_of c ≡ None →
      Steps Z (follow k c) (cs ++ c ∷ [])
  pub stays : (Z : Setting C) (k : Kept C) (cs : List (Call C)) → Steps Z k cs → c.join ≡ k.join → (e : StepRefusal) → refusal_of c ≡ Some e →
      Steps Z (with_join k c.join') cs

-- a call that is refused at another kind of cell leaves a list where it was
abbrev pub RunsStay : Type 0 → Type 0 → Type 0
RunsStay C D = (z : Cells D) (c : Call D) → Stepped z c → (e : StepRefusal) → refusal_of c ≡ Some e →
    (Z : Setting C) (k : Kept C) (cs : List (Call C)) → Steps Z k cs → c.join ≡ k.join → Steps Z (with_join k c.join') cs

-- no answer depends on what is free: two lists over one setting with the same turns show the same
abbrev pub RunsAgree : Type 0 → Type 0
RunsAgree C = (Z : Setting C) (k l : Kept C) (cs ds : List (Call C)) → Steps Z k cs → Steps Z l ds →
    map (λ c. c.probe) cs ≡ map (λ c. c.probe) ds → map outcome_of cs ≡ map outcome_of ds

-- one setting has the sides of the other exchanged: mirror type, verdict turned about, left and right swapped in the output list; all rows
-- brought are the other's table, in any order, and its left rows are brought, each once. Batch sizes and probes may differ
pub record Mirrors {C : Type 0} (Z W : Setting C) : Type 0 where
  pub cells : W.cells ≡ Z.cells
  pub join_type : W.terms.join_type ≡ mirror Z.terms.join_type
  pub columns : W.terms.columns ≡ map swapped Z.terms.columns
  pub says : (l r : List C) → W.says l r ≡ Z.says r l
  pub table : IsPermutation (flat_map right_rows Z.sources) W.table
  pub sources : IsPermutation Z.table (flat_map right_rows W.sources)

-- two finished lists of calls, one with the other's sides exchanged, deliver the same rows equally often
abbrev pub RunsMirror : Type 0 → Type 0
RunsMirror C = (Z W : Setting C) (k l : Kept C) (cs ds : List (Call C)) → Mirrors Z W → Steps Z k cs → Steps W l ds →
    Finished Z.sources (seen_of k cs) → Finished W.sources (seen_of l ds) → IsPermutation (delivered (seen_of k cs)) (delivered (seen_of l ds))

-- under inner, left, right and full a finished list delivers the joined table of ISO/IEC 9075-2, cut to the output list
abbrev pub RunsJoin : Type 0 → Type 0
RunsJoin C = (Z : Setting C) (k : Kept C) (cs : List (Call C)) → Steps Z k cs → Finished Z.sources (seen_of k cs) →
    has_pairs Z.terms.join_type ≡ true → AllByRecursion (λ r. length r ≡ Z.terms.right_columns) (flat_map right_rows Z.sources) →
    AllByRecursion (Below Z.left_columns) Z.terms.columns →
    (s : List (List C)) × JoinedTable Z.cells.missing Z.left_columns Z.terms.right_columns Z.terms.join_type Z.says Z.table (flat_map right_rows Z.sources) s
    × IsPermutation (delivered (seen_of k cs)) (map (project Z.cells.missing Z.left_columns Z.terms.columns) s)

-- what a call does is enough to carry every list on
abbrev pub RunsGoOn : Type 0 → Type 0
RunsGoOn C = (z : Cells C) (c : Call C) → Stepped z c → Carries z c

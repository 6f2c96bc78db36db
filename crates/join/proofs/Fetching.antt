-- What a probe that fetches makes of the item that its source answers.
use Rattle.std.proofs.Common.{◌≡◌, ℕ, suc, ◌<◌, max, Bool, List, [], ◌∷◌, length, take, replicate, sym, refl, ap, ◌∙◌, ap₂, arith}
use Rattle.std.specs.List.{AllByRecursion}
use Rattle.memory.specs.Items.{Item, batch}
use Rattle.memory.specs.Marks.{bits_of}
use Rattle.memory.specs.Rows.{rows_from, cells_of}
use Rattle.memory.proofs.Taken.{rows_on_page}
use Rattle.nested_loop.specs.Model.{Setup, counted}
use Rattle.nested_loop.specs.Machine.{ProbeRight, no_marks, fetching_right, taken_after}
use Rattle.nested_loop.specs.declared.answer.NLJState.{NLJState}
use Rattle.nested_loop.specs.declared.answer.NLJState.TheVariants as nlj
use Rattle.nested_loop.specs.declared.answer.Answer.{Answer}
use Rattle.nested_loop.specs.declared.answer.Answer.TheVariants.{On}
use Rattle.runs.specs.Calls.{state_of, largest_after}
use Rattle.opening.specs.declared.plan.Plan.{Plan}
use Rattle.join.specs.declared.record.Probe.{Probe}
use Rattle.join.specs.View.{probe_view, state_at}
use Rattle.join.specs.Handled.{around, waiting_rows, Handles}
use Rattle.join.proofs.Quiet.{no_rows, or-none, bits_clear}

module _ {C : Type 0} (plan : Plan) (who most : ℕ) (p : Probe) (is : p.state ≡ nlj.FetchingRight) (T : Setup C) (marks : List ℕ) (n : ℕ) (waiting out right right' : List C) (rest : List (Item C))
    (lg tk : ℕ) (large : lg ≡ max p.largest most) where
  abbrev pub Made : Probe → Answer → List (Item C) → Type 0
  Made p' r items =
      Handles plan who most p p' (around marks n items right waiting out) (around marks n rest right' waiting out) r
      (fetching_right T (bits_of plan.left_rows marks) n (waiting_rows plan p waiting) items)

  taken_is : (i : Item C) (items : List (Item C)) → tk ≡ counted (suc p.taken) → tk ≡ taken_after (state_at plan p right) (i ∷ items) p.taken
  taken_is i items e = e ∙ sym (ap (λ (s : NLJState). taken_after (state_of plan.list.right_columns (probe_view p) right s) (i ∷ items) p.taken) is)

  largest_is : lg ≡ largest_after (probe_view p) p.state most
  largest_is = large ∙ sym (ap (λ (s : NLJState). largest_after (probe_view p) s most) is)

  -- a batch that has rows
  pub full_batch : (k : ℕ) (rows : List (List C)) → 0 < k → k ≡ length rows → AllByRecursion (λ r. length r ≡ plan.list.right_columns) rows → take (length (cells_of rows)) right' ≡ cells_of rows →
      tk ≡ counted (suc p.taken) →
      Made (record { state = nlj.ProbeRight; rows = k; right_marks = replicate 16 0; index = 0; is_emitter = p.is_emitter; waiting = p.waiting; largest = lg; taken = tk; answered = p.answered }) On (batch rows ∷ rest)
  full_batch k [] lt e wide stand t = absurd (omega arith)
  full_batch k (r ∷ rs) lt e wide stand t = record {
    marks = refl;
    unfinished = refl;
    state =
        let a : rows_from k plan.list.right_columns right' ≡ r ∷ rs = ap (λ (x : ℕ). rows_from x plan.list.right_columns right') e ∙ rows_on_page plan.list.right_columns (r ∷ rs) right' wide stand in
        let b : bits_of k (replicate 16 0) ≡ no_marks (r ∷ rs) = bits_clear 16 k (r ∷ rs) e in
        ap₂ (λ (x : List (List C)) (y : List Bool). ProbeRight x y 0) a b;
    waiting = refl;
    items = refl;
    answer = refl;
    out = no_rows plan.list.count out;
    taken = taken_is (batch (r ∷ rs)) rest t;
    answered = or-none p.answered;
    unread = refl;
    largest = largest_is;
  }

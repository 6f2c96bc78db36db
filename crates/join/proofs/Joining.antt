-- Left rows joined with the right batch, as the model meets them.
use Rattle.std.proofs.Common.{◌≡◌, ℕ, ◌+◌, ◌-◌, ◌*◌, ◌/◌, ◌<◌, ◌≤◌, min, max, Bool, true, false, cond, ltb, List, ◌++◌, map, length, take, drop, sym, refl, ap, ◌∙◌, subst, ap₂, mul-le-mul_right, one-mul, arith}
use Rattle.std.proofs.lemmas.Nat.{div-add-mod'}
use Rattle.memory.specs.Items.{Item}
use Rattle.memory.specs.Marks.{bits_of}
use Rattle.memory.specs.Rows.{rows_from}
use Rattle.nested_loop.specs.Model.{Setup}
use Rattle.nested_loop.specs.Loop.{left_matched, right_matched, pairs}
use Rattle.nested_loop.specs.Machine.{ProbeRight, meet, rows_met, or_marks, from_row}
use Rattle.nested_loop.specs.declared.answer.NLJState.{NLJState}
use Rattle.nested_loop.specs.declared.answer.NLJState.TheVariants as nlj
use Rattle.nested_loop.specs.declared.answer.Answer.TheVariants.{On}
use Rattle.opening.specs.declared.plan.Plan.{Plan}
use Rattle.probing.specs.Met.{Met, met_of, MetRows}
use Rattle.runs.specs.Calls.{state_of, Unread}
use Rattle.join.specs.declared.record.Probe.{Probe}
use Rattle.join.specs.View.{probe_view}
use Rattle.join.specs.Handled.{around, waiting_rows, rows_joined, Handles}
use Rattle.join.proofs.Quiet.{no_rows, or-none}
use Rattle.join.proofs.Handling.{taken_is, largest_is}

-- how many are joined, and how many pairs that makes
pub joined_few : (plan : Plan) (p : Probe) → p.index < plan.left_rows → rows_joined plan p ≤ plan.left_rows - p.index
joined_few plan p h = go (ltb 10 (plan.batch_size / p.rows))
  where
    go : (t : Bool) → cond t (min (plan.batch_size / p.rows) (plan.left_rows - p.index)) 1 ≤ plan.left_rows - p.index
    go true = omega arith
    go false = omega arith

pub joined_pairs : (plan : Plan) (p : Probe) (most : ℕ) → p.rows ≤ most → rows_joined plan p * p.rows ≤ max plan.batch_size most
joined_pairs plan p most h = go (ltb 10 (b / p.rows))
  where
    b : ℕ
    b = plan.batch_size

    go : (t : Bool) → cond t (min (plan.batch_size / p.rows) (plan.left_rows - p.index)) 1 * p.rows ≤ max plan.batch_size most
    go true =
        let q : ℕ = plan.batch_size / p.rows in
        let le : min q (plan.left_rows - p.index) ≤ q = omega arith in
        let m : min q (plan.left_rows - p.index) * p.rows ≤ q * p.rows = mul-le-mul_right p.rows le in
        let d = div-add-mod' plan.batch_size p.rows in
        omega arith
    go false = let o : 1 * p.rows ≡ p.rows = one-mul p.rows in omega arith

-- a probe that has joined so many left rows
abbrev pub met : Probe → List ℕ → ℕ → ℕ → Probe
met p words i k = record p { right_marks = words; index = i; waiting = k }

module _ {C : Type 0} (S : Setup C) (plan : Plan) (who most : ℕ) (p : Probe) (is : p.state ≡ nlj.ProbeRight)
    (marks marks' words' : List ℕ) (n : ℕ) (items : List (Item C)) (right waiting waiting' out : List C) (k t t' : ℕ) where
  abbrev b : List (List C)
  b = rows_from p.rows plan.list.right_columns right

  abbrev i : ℕ
  i = p.index

  pub met_handles : t ≡ rows_met S (length b) i → t' ≡ t → length S.columns ≡ plan.list.count →
      MetRows S plan.left_rows p.rows i (take t' (drop i S.table)) b (met_of marks p.right_marks p.waiting waiting) (met_of marks' words' k waiting') →
      Handles plan who most p (met p words' (i + t) k) (around marks n items right waiting out) (around marks' n items right waiting' out) On
      (meet S (take (rows_met S (length b) i) (drop i S.table)) (bits_of plan.left_rows marks) n b (bits_of p.rows p.right_marks) i (waiting_rows plan p waiting) items)
  met_handles e e' w m =
      let x : t' ≡ rows_met S (length b) i = e' ∙ e in
      record {
        marks = m.left_marks ∙ ap (λ (z : ℕ). or_marks (bits_of plan.left_rows marks) (from_row i (map (left_matched S b) (take z (drop i S.table))))) x;
        unfinished = refl;
        state =
            ap (λ (s : NLJState). state_of plan.list.right_columns (probe_view (met p words' (i + t) k)) right s) is
            ∙ ap₂ (λ (u : List Bool) (v : ℕ). ProbeRight b u v)
            (m.right_marks ∙ ap (λ (z : ℕ). or_marks (bits_of p.rows p.right_marks) (map (right_matched S (take z (drop i S.table))) b)) x)
            (ap (λ (z : ℕ). i + z) e);
        waiting =
            ap (λ (z : ℕ). rows_from k z waiting') (sym w) ∙ m.rows
            ∙ ap₂ (λ (y z : ℕ). rows_from p.waiting y waiting ++ pairs S (take z (drop i S.table)) b) w x;
        items = refl;
        answer = refl;
        out = no_rows plan.list.count out;
        taken = taken_is plan who most p nlj.ProbeRight right items is refl;
        answered = or-none p.answered;
        unread = subst (λ (s : NLJState). Unread s (probe_view p) (probe_view (met p words' (i + t) k))) (sym is) refl;
        largest = largest_is most p nlj.ProbeRight is refl;
      }

-- the same of counts, rows and lent memory that are the same
pub met_seen : {C : Type 0} (S : Setup C) (L L' r r' from k : ℕ) (ls ls' rs rs' : List (List C)) (m : Met C) (lefts lefts' rights : List ℕ) (page page' : List C) →
    L' ≡ L → r' ≡ r → ls' ≡ ls → rs' ≡ rs → lefts ≡ lefts' → page ≡ page' →
    MetRows S L' r' from ls' rs' m (met_of lefts' rights k page') → MetRows S L r from ls rs m (met_of lefts rights k page)
met_seen S L L' r r' from k ls ls' rs rs' m lefts lefts' rights page page' a b c d e f h =
    coe 0 1 (i. MetRows S (a i) (b i) from (c i) (d i) m (met_of (sym e i) rights k (sym f i))) h

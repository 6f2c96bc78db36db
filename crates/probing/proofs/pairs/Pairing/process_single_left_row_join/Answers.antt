use Rattle.std.proofs.Common.{◌≡◌, ◌≤◌, length, sym, ap, ◌∙◌, ap₂, arith}
use Rattle.std.proofs.lemmas.List.{at_drop_all}
use Rattle.memory.specs.Rows.{rows_in}
use Rattle.nested_loop.specs.Model.{Setup, is_true}
use Rattle.nested_loop.specs.Loop.{is_pair}
use Rattle.probing.specs.Met.{met_in, met_row}
use Rattle.probing.proofs.Turns.{row_turn, pair_met, none_met, length-rows_in, still_same}
use Rattle.probing.proofs.pairs.Pairing.process_single_left_row_join.Goals as goal
use Rattle.probing.proofs.pairs.Pairing.process_single_left_row_join.Goals.{then-is_pair, else-is_pair}

pub loop-j-preserved : goal.loop-j-preserved
loop-j-preserved g c =
    let a = c.args in
    let l = a.left.now in
    let r = c.row-row.result.now in
    let j = c.loop-j.j in
    let before = met_in c.loop-j.marks c.loop-j.waiting in
    let says = g.V.Verdict.says a.self.now.verdict.now in
    let asked : (S : Setup (g.row.V-Cell).Denot) → S.verdict ≡ says → is_pair S l r ≡ c.is_pair-is_pair.result =
    λ S e. ap (λ v. is_true (v l r)) e ∙ sym c.is_pair-is_pair.ensures in
    elim c.if-is_pair.branch [
      | then-is_pair w ↦ record {
        words = still_same c.loop-j.invariant.words
            (record { left = ap (λ m. m.left.ghost_name) w.marks-is ∙ w.mark.ensures.words.left; right = ap (λ m. m.right.ghost_name) w.marks-is ∙ w.mark.ensures.words.right });
        page = ap (λ m. m.cells.ghost_name) w.waiting-is ∙ w.append_pair.ensures.page ∙ c.loop-j.invariant.page;
        met = λ S e. row_turn a.right.now S a.i l j r before _ (omega arith) c.row-row.ensures
            (ap₂ met_in w.marks-is w.waiting-is
            ∙ pair_met S a.i j l r before _ _ _ (asked S e.verdict_is ∙ w.if-is_pair.true) w.mark.ensures.left w.mark.ensures.right (w.append_pair.ensures.appended S e))
            ∙ c.loop-j.invariant.met S e;
      }
      | else-is_pair w ↦ record {
        words = still_same c.loop-j.invariant.words (record { left = ap (λ m. m.left.ghost_name) w.marks-is; right = ap (λ m. m.right.ghost_name) w.marks-is });
        page = ap (λ m. m.cells.ghost_name) w.waiting-is ∙ c.loop-j.invariant.page;
        met = λ S e. row_turn a.right.now S a.i l j r before _ (omega arith) c.row-row.ensures
            (ap₂ met_in w.marks-is w.waiting-is ∙ none_met S a.i j l r before (asked S e.verdict_is ∙ w.if-is_pair.false))
            ∙ c.loop-j.invariant.met S e;
      }
    ]

pub returns-clause-met : goal.returns-clause-met
returns-clause-met g c = λ S e.
    let a = c.args in
    let end : length (rows_in a.right.now) ≤ c.loop-j.j = omega (arith, length-rows_in a.right.now) in
    sym (at_drop_all (λ x. met_row S a.i a.left.now c.loop-j.j x (met_in c.loop-j.marks c.loop-j.waiting)) (rows_in a.right.now) c.loop-j.j end)
    ∙ c.loop-j.invariant.met S e

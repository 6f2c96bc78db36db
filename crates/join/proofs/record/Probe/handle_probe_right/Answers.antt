use Rattle.std.proofs.Common.{◌≡◌, ◌-◌, ◌≤◌, true, false, sym, refl, ap, ◌∙◌, arith}
use Rattle.join_types.specs.Types.{some_rest}
use Rattle.memory.proofs.Cuts.{length-rows_from}
use Rattle.nested_loop.specs.Model.{right_rest_of}
use Rattle.nested_loop.specs.declared.answer.NLJState.TheVariants.{FetchingRight, ProbeRight, EmitRightUnmatched}
use Rattle.nested_loop.specs.declared.answer.Answer.TheVariants.{On}
use Rattle.runs.proofs.Branches.{probe_delivers, probe_meets, probe_rests, probe_fetches}
use Rattle.join.specs.View.{setup_in}
use Rattle.join.specs.Handled.{around}
use Rattle.join.specs.Sound.{room_of}
use Rattle.join.proofs.Handling.{right-rest, sound_waiting, handles_by, handles_as, at_state, delivers_at, delivered, passes}
use Rattle.join.proofs.record.Probe.handle_probe_right.Goals as goal

pub returns-then-self-plan : goal.returns-then-self-plan
returns-then-self-plan g c =
    let a = c.args in
    let plan = a.plan.now in
    let p = a.self.now in
    let S = setup_in g.V.Cell.Cell.missing g.V.Cell.Cell.yes g.V.Cell.Cell.no plan (g.V.Verdict.says a.lent.now.verdict.now) a.lent.now.left.now in
    let e = c.deliver_rows.ensures in
    let lw = length-rows_from p.waiting plan.list.count a.waiting.now in
    let few : p.waiting - plan.batch_size ≤ room_of plan p.largest = omega (arith, c.requires.sound.waiting) in
    record {
      handled = λ who most n items.
          handles_by plan who most p S _ (around a.left_marks.now n items a.right.now a.waiting.now a.out.now) _ _ _
          (delivers_at plan who most p S (around a.left_marks.now n items a.right.now a.waiting.now a.out.now) ProbeRight c.requires.state (probe_delivers S _ n _ items _ _ _ (omega arith)))
          (delivered plan who most p ProbeRight a.left_marks.now n items a.right.now a.waiting.now _ a.out.now _ _ _ plan.batch_size c.requires.state refl refl e.answer e.probe (omega arith) e.out e.left);
      sound = sound_waiting plan p _ (p.waiting - plan.batch_size) c.requires.sound few e.probe;
    }

pub returns-then-self-plan-2 : goal.returns-then-self-plan-2
returns-then-self-plan-2 g c =
    let a = c.args in
    let plan = a.plan.now in
    let p = a.self.now in
    let S = setup_in g.V.Cell.Cell.missing g.V.Cell.Cell.yes g.V.Cell.Cell.no plan (g.V.Verdict.says a.lent.now.verdict.now) a.lent.now.left.now in
    let e = c.process_probe_batch.ensures in
    let lw = length-rows_from p.waiting plan.list.count a.waiting.now in
    let lt = length-rows_from plan.left_rows plan.list.left_columns a.lent.now.left.now in
    record {
      handled = λ who most n items.
          let around-it = around a.left_marks.now n items a.right.now a.waiting.now a.out.now in
          handles_by plan who most p S _ around-it _ _ _
          (at_state plan who most p S around-it ProbeRight c.requires.state ∙ probe_meets S _ n _ items _ _ p.index (omega arith) (omega arith))
          (handles_as plan who most p _ around-it _ _ On _ e.answer (e.handled who most n items a.out.now));
      sound = e.sound;
    }

pub returns-then-need_produce_right_in_final : goal.returns-then-need_produce_right_in_final
returns-then-need_produce_right_in_final g c =
    let a = c.args in
    let plan = a.plan.now in
    let p = a.self.now in
    let S = setup_in g.V.Cell.Cell.missing g.V.Cell.Cell.yes g.V.Cell.Cell.no plan (g.V.Verdict.says a.lent.now.verdict.now) a.lent.now.left.now in
    let lw = length-rows_from p.waiting plan.list.count a.waiting.now in
    let lt = length-rows_from plan.left_rows plan.list.left_columns a.lent.now.left.now in
    let rests : some_rest (right_rest_of plan.list.join_type) ≡ true = ap some_rest (sym (right-rest plan.list.join_type)) ∙ sym c.need_produce_right_in_final.ensures ∙ c.if-need_produce_right_in_final.true in
    record {
      handled = λ who most n items.
          let around-it = around a.left_marks.now n items a.right.now a.waiting.now a.out.now in
          handles_by plan who most p S _ around-it _ _ _
          (at_state plan who most p S around-it ProbeRight c.requires.state ∙ probe_rests S _ n _ items _ _ p.index (omega arith) (omega arith) rests)
          (passes plan who most p S ProbeRight EmitRightUnmatched around-it _ c.requires.state refl refl refl);
      sound = record { rows = c.requires.sound.rows; largest = c.requires.sound.largest; waiting = c.requires.sound.waiting; placed = tt };
    }

pub returns-else-need_produce_right_in_final : goal.returns-else-need_produce_right_in_final
returns-else-need_produce_right_in_final g c =
    let a = c.args in
    let plan = a.plan.now in
    let p = a.self.now in
    let S = setup_in g.V.Cell.Cell.missing g.V.Cell.Cell.yes g.V.Cell.Cell.no plan (g.V.Verdict.says a.lent.now.verdict.now) a.lent.now.left.now in
    let lw = length-rows_from p.waiting plan.list.count a.waiting.now in
    let lt = length-rows_from plan.left_rows plan.list.left_columns a.lent.now.left.now in
    let rests : some_rest (right_rest_of plan.list.join_type) ≡ false = ap some_rest (sym (right-rest plan.list.join_type)) ∙ sym c.need_produce_right_in_final.ensures ∙ c.if-need_produce_right_in_final.false in
    record {
      handled = λ who most n items.
          let around-it = around a.left_marks.now n items a.right.now a.waiting.now a.out.now in
          handles_by plan who most p S _ around-it _ _ _
          (at_state plan who most p S around-it ProbeRight c.requires.state ∙ probe_fetches S _ n _ items _ _ p.index (omega arith) (omega arith) rests)
          (passes plan who most p S ProbeRight FetchingRight around-it _ c.requires.state refl refl refl);
      sound = record { rows = c.requires.sound.rows; largest = c.requires.sound.largest; waiting = c.requires.sound.waiting; placed = tt };
    }

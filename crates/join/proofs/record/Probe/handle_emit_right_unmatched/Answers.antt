use Rattle.std.proofs.Common.{◌≡◌, ◌+◌, ◌-◌, ◌≤◌, ◌++◌, length, sym, refl, ap, ◌∙◌, ap₂, arith, rules}
use Rattle.memory.specs.Marks.{bits_of}
use Rattle.memory.specs.Rows.{rows_from}
use Rattle.memory.proofs.Cuts.{length-rows_from}
use Rattle.nested_loop.specs.Loop.{right_rest}
use Rattle.nested_loop.specs.Machine.{FetchingRight as Fetching}
use Rattle.nested_loop.specs.declared.answer.NLJState.TheVariants.{EmitRightUnmatched}
use Rattle.runs.proofs.Branches.{right_delivers, right_appends}
use Rattle.join.specs.View.{setup_in}
use Rattle.join.specs.Handled.{around, waiting_rows}
use Rattle.join.specs.Sound.{room_of}
use Rattle.join.proofs.Quiet.{room_in, rows_first}
use Rattle.join.proofs.Delivering.{rows_at}
use Rattle.join.proofs.Handling.{sound_waiting, handles_by, at_state, delivers_at, delivered, appends}
use Rattle.join.proofs.record.Probe.handle_emit_right_unmatched.Goals as goal

pub returns-then-self-plan : goal.returns-then-self-plan
returns-then-self-plan g c =
    let a = c.args in
    let plan = a.plan.now in
    let p = a.self.now in
    let e = c.deliver_rows.ensures in
    let lw = length-rows_from p.waiting plan.list.count a.waiting.now in
    let few : p.waiting - plan.batch_size ≤ room_of plan p.largest = omega (arith, c.requires.sound.waiting) in
    record {
      handled = λ says left who most n marks items.
          let S = setup_in g.C.Cell.missing g.C.Cell.yes g.C.Cell.no plan says left in
          let around-it = around marks n items a.right.now a.waiting.now a.out.now in
          handles_by plan who most p S _ around-it _ _ _
          (delivers_at plan who most p S around-it EmitRightUnmatched c.requires.state (right_delivers S _ n _ items _ _ (omega arith)))
          (delivered plan who most p EmitRightUnmatched marks n items a.right.now a.waiting.now _ a.out.now _ _ _ plan.batch_size c.requires.state refl refl e.answer e.probe (omega arith) e.out e.left);
      sound = sound_waiting plan p _ (p.waiting - plan.batch_size) c.requires.sound few e.probe;
    }

pub returns : goal.returns
returns g c =
    let a = c.args in
    let plan = a.plan.now in
    let p = a.self.now in
    let o = c.output_of.ensures in
    let e = c.process_right_unmatched.ensures in
    let k = c.process_right_unmatched.new.waiting.rows in
    let page = c.process_right_unmatched.new.waiting.cells.now in
    let t = c.first-rights.result in
    let rights = c.first-rights.ensures in
    let lw = length-rows_from p.waiting plan.list.count a.waiting.now in
    let all : p.waiting + p.rows ≤ room_of plan p.largest = omega (arith, c.requires.sound.rows) in
    record {
      handled = λ says left who most n marks items.
          let S = setup_in g.C.Cell.missing g.C.Cell.yes g.C.Cell.no plan says left in
          let around-it = around marks n items a.right.now a.waiting.now a.out.now in
          let wide : length S.columns ≡ plan.list.count = ap length (sym o.columns) ∙ omega (arith, o.long, c.requires.planned.few_columns) in
          let more = right_rest S (rows_from p.rows plan.list.right_columns a.right.now) (bits_of p.rows p.right_marks) in
          let rows : rows_from k plan.list.count page ≡ waiting_rows plan p a.waiting.now ++ more =
          ap (λ w. rows_from k w page) (sym wide)
          ∙ e.rows S (record { missing_is = refl; yes_is = refl; no_is = refl; type_is = sym o.join_type; columns_are = sym o.columns })
          (record {
            fit = rw (wide, rights.2) (room_in _ (room_of plan p.largest) plan.list.count (length a.waiting.now) all c.requires.room);
            countable = omega (arith, rights.2, c.requires.planned.few_batch, c.requires.sound.largest, c.requires.sound.rows);
          })
          ∙ ap₂ (λ w x. rows_from p.waiting w a.waiting.now ++ x) wide
          (ap₂ (λ x n. right_rest S x (bits_of n p.right_marks)) (rows_first t a.right.now plan.list.right_columns p.rows rights) rights.2) in
          handles_by plan who most p S _ around-it _ _ _
          (at_state plan who most p S around-it EmitRightUnmatched c.requires.state ∙ right_appends S _ n _ items _ _ (omega arith))
          (appends plan who most p EmitRightUnmatched _ marks n items a.right.now a.waiting.now _ a.out.now Fetching more c.requires.state refl refl refl refl refl (refl, refl, refl, refl) refl
          (rows_at _ _ _ _ _ (search rules) rows));
      sound = record { rows = c.requires.sound.rows; largest = c.requires.sound.largest; waiting = omega (arith, e.few, rights.2, c.requires.sound.rows); placed = tt };
    }

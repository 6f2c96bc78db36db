use Rattle.std.proofs.Common.{◌≡◌, ◌+◌, ◌-◌, ◌*◌, ◌/◌, ◌≤◌, min, max, cond, ltb, length, sym, refl, ap, ◌∙◌, subst, ap₂, arith, rules}
use Rattle.memory.specs.Rows.{rows_from}
use Rattle.memory.proofs.Cuts.{length-rows_from}
use Rattle.nested_loop.specs.Machine.{rows_met}
use Rattle.nested_loop.specs.declared.answer.NLJState.{NLJState}
use Rattle.probing.specs.Waiting.{stretch}
use Rattle.join.specs.View.{setup_in}
use Rattle.join.specs.Sound.{Placed, room_of}
use Rattle.join.proofs.Quiet.{room_in, rows_first}
use Rattle.join.proofs.Joining.{joined_few, joined_pairs, met_handles, met_seen}
use Rattle.join.proofs.record.Probe.process_probe_batch.Goals as goal

pub returns : goal.returns
returns g c =
    let a = c.args in
    let plan = a.plan.now in
    let p = a.self.now in
    let S = setup_in g.V.Cell.Cell.missing g.V.Cell.Cell.yes g.V.Cell.Cell.no plan (g.V.Verdict.says a.lent.now.verdict.now) a.lent.now.left.now in
    let t = c.rows_joined.result in
    let e = c.process_left_range_join.ensures in
    let few : t ≤ plan.left_rows - p.index = rw c.rows_joined.ensures (joined_few plan p c.requires.more) in
    let pairs : t * p.rows ≤ max plan.batch_size p.largest = rw c.rows_joined.ensures (joined_pairs plan p p.largest c.requires.sound.rows) in
    let here : (p.index + t) - p.index ≡ t = omega arith in
    let all : p.waiting + ((p.index + t) - p.index) * p.rows ≤ room_of plan p.largest = rw here (omega (arith, c.requires.few)) in
    let o = c.output_of.ensures in
    let wide : length S.columns ≡ plan.list.count = ap length (sym o.columns) ∙ omega (arith, o.long, c.requires.planned.few_columns) in
    let is : t ≡ rows_met S (length (rows_from p.rows plan.list.right_columns a.right.now)) p.index =
    c.rows_joined.ensures
    ∙ ap₂ (λ x y. cond (ltb 10 (plan.batch_size / x)) (min (plan.batch_size / x) (y - p.index)) 1)
    (sym (length-rows_from p.rows plan.list.right_columns a.right.now)) (sym (length-rows_from plan.left_rows plan.list.left_columns a.lent.now.left.now)) in
    let words : length p.right_marks ≡ 16 = search rules in
    let P : NLJState → Type 0 = λ s. Placed s p.rows (p.index + t) plan.left_rows in
    let Q : NLJState → Type 0 = λ s. Placed s p.rows p.index plan.left_rows in
    let some = (subst Q c.requires.state c.requires.sound.placed).0 in
    let lefts = c.first-lefts.ensures in
    let rights = c.first-rights.ensures in
    let table = rows_first c.first-lefts.result a.lent.now.left.now plan.list.left_columns plan.left_rows lefts in
    let batch = rows_first c.first-rights.result a.right.now plan.list.right_columns p.rows rights in
    record {
      answer = refl;
      handled = λ who most n items out.
          met_handles S plan who most p c.requires.state a.left_marks.now _ c.process_left_range_join.new.marks.right.now n items a.right.now a.waiting.now _ out
          c.process_left_range_join.new.waiting.rows t _ is here wide
          (met_seen S plan.left_rows _ p.rows _ p.index _ _ _ _ _ _ _ _ _ _ _
          lefts.2 rights.2 (ap (stretch p.index (p.index + t)) table) batch (search rules) (search rules)
          (e.rows S (record { missing_is = refl; verdict_is = refl; type_is = sym o.join_type; columns_are = sym o.columns })
          (record {
            lefts_fit = omega (arith, lefts.2, c.requires.planned.few_rows, c.requires.words);
            rights_fit = omega (arith, rights.2, words, c.requires.sound.rows, c.requires.sound.largest);
            waits_fit = record {
              fit = rw (wide, rights.2) (room_in _ (room_of plan p.largest) plan.list.count (length a.waiting.now) all c.requires.room);
              countable = rw rights.2 (omega (arith, all, c.requires.planned.few_batch, c.requires.sound.largest));
            };
          })));
      sound = record { rows = c.requires.sound.rows; largest = c.requires.sound.largest; waiting = omega (arith, rw rights.2 at e.few, all); placed = subst P (sym c.requires.state) (some, omega arith) };
    }

use Rattle.std.proofs.Common.{◌≤◌, min, length, sym, ap, ◌∙◌, arith}
use Rattle.memory.specs.Marks.{bits_of}
use Rattle.memory.specs.Rows.{rows_in}
use Rattle.probing.specs.Waiting.{stretch, waits_in}
use Rattle.probing.specs.Met.{width}
use Rattle.probing.specs.Rests.{side_rest, side_row, rest_appended}
use Rattle.probing.proofs.Turns.{stretch-none, length-rows_in}
use Rattle.probing.proofs.Keeping.{rest_turn}
use Rattle.probing.proofs.output.JoinOutput.append_rest.Goals as goal

pub loop-i-preserved : goal.loop-i-preserved
loop-i-preserved g c =
    let a = c.args in
    record {
      page = c.append_row.ensures.page ∙ c.loop-i.invariant.page;
      appended = λ S e.
          rest_turn (width S) (side_rest S.join_type a.side) (side_row S a.side) a.rows.now a.marks.now c.loop-i.i a.range.end _ _ (waits_in c.loop-i.waiting) _ (omega arith) c.row.ensures c.is_marked.ensures (c.append_row.ensures.appended S e)
          ∙ c.loop-i.invariant.appended S e;
    }

pub returns-clause-appended : goal.returns-clause-appended
returns-clause-appended g c = λ S e.
    let a = c.args in
    let t = rows_in a.rows.now in
    let len = length-rows_in a.rows.now in
    let end : min a.range.end (length t) ≤ c.loop-i.i = omega arith in
    sym (ap (λ x. rest_appended (width S) (side_rest S.join_type a.side) (side_row S a.side) x (stretch c.loop-i.i a.range.end (bits_of a.rows.now.count a.marks.now)) (waits_in c.loop-i.waiting)) (stretch-none t c.loop-i.i a.range.end end))
    ∙ c.loop-i.invariant.appended S e

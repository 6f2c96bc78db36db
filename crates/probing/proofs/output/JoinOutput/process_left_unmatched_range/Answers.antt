use Rattle.verdicts.specs.declared.truth.Truth.TheVariants.{False}
use Rattle.verdicts.specs.Truths.{always}
use Rattle.memory.specs.Marks.{bits_of}
use Rattle.memory.specs.Rows.{rows_in}
use Rattle.nested_loop.specs.Model.{left_rest_of}
use Rattle.nested_loop.specs.Loop.{left_row}
use Rattle.probing.specs.Waiting.{stretch, waits_in}
use Rattle.probing.specs.Met.{width}
use Rattle.probing.proofs.Parts.{setup_by, rests_by}
use Rattle.probing.proofs.Keeping.{left_wide, stretch_rows, stretch_few}
use Rattle.probing.proofs.output.JoinOutput.process_left_unmatched_range.Goals as goal

pub returns : goal.returns
returns g c =
    let a = c.args in
    let from = a.range.start in
    let to = a.range.end in
    let t = rows_in a.left.now in
    let bs = stretch from to (bits_of a.left.now.count a.left_marks.now) in
    let before = waits_in a.waiting.now in
    let after = waits_in c.append_rest.new.waiting in
    let all = c.append_rest.ensures.appended in
    let some = setup_by g.C.Cell.missing g.C.Cell.yes g.C.Cell.no (always False) a.self.now in
    record {
      page = c.append_rest.ensures.page;
      appended = all;
      rows = λ S e. stretch_rows (width S) (left_rest_of S.join_type) (left_row S) (left_wide S) from to t bs before after (all S e);
      few = stretch_few (width some) (left_rest_of some.join_type) (left_row some) from to t bs before after (all some (rests_by g.C.Cell.missing g.C.Cell.yes g.C.Cell.no (always False) a.self.now));
    }

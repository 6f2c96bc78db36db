use Rattle.std.proofs.Common.{◌≡◌, Bool, List, sym, ◌∙◌, ap₂}
use Rattle.std.proofs.lemmas.List.FromFn.{length-map-range_with_len}
use Rattle.verdicts.specs.declared.truth.Truth.TheVariants.{False}
use Rattle.verdicts.specs.Truths.{always}
use Rattle.memory.specs.Marks.{bit, bits_of}
use Rattle.memory.specs.Rows.{rows_in}
use Rattle.nested_loop.specs.Model.{Setup, right_rest_of}
use Rattle.nested_loop.specs.Loop.{right_row}
use Rattle.probing.specs.Waiting.{waits_in}
use Rattle.probing.specs.Met.{width}
use Rattle.probing.specs.Rests.{RestsBy, rest_appended}
use Rattle.probing.proofs.Parts.{setup_by, rests_by}
use Rattle.probing.proofs.Turns.{length-rows_in}
use Rattle.probing.proofs.Keeping.{right_wide, all_rows, all_few, stretch-all}
use Rattle.probing.proofs.output.JoinOutput.process_right_unmatched.Goals as goal

pub returns : goal.returns
returns g c =
    let a = c.args in
    let n = a.right.now.count in
    let xs = rows_in a.right.now in
    let bs = bits_of n a.right_marks.now in
    let long = length-rows_in a.right.now in
    let before = waits_in a.waiting.now in
    let after = waits_in c.append_rest.new.waiting in
    let all : (S : Setup g.row.C.Denot) → RestsBy S g.C.Cell.missing g.C.Cell.yes g.C.Cell.no a.self.now → after ≡ rest_appended (width S) (right_rest_of S.join_type) (right_row S) xs bs before =
    λ S e. c.append_rest.ensures.appended S e
    ∙ ap₂ (λ (x : List (List g.row.C.Denot)) (y : List Bool). rest_appended (width S) (right_rest_of S.join_type) (right_row S) x y before) (stretch-all _ xs (long ∙ sym c.count.ensures)) (stretch-all _ bs (length-map-range_with_len (bit a.right_marks.now) 0 n ∙ sym c.count.ensures)) in
    let some = setup_by g.C.Cell.missing g.C.Cell.yes g.C.Cell.no (always False) a.self.now in
    record {
      page = c.append_rest.ensures.page;
      appended = all;
      rows = λ S e. all_rows (width S) (right_rest_of S.join_type) (right_row S) (right_wide S) n xs bs before after long (all S e);
      few = all_few (width some) (right_rest_of some.join_type) (right_row some) n xs bs before after long (all some (rests_by g.C.Cell.missing g.C.Cell.yes g.C.Cell.no (always False) a.self.now));
    }

use Rattle.std.proofs.Common.{◌≡◌, ◌≤◌, min, length, sym, ap, ◌∙◌, arith}
use Rattle.memory.specs.Rows.{rows_in}
use Rattle.nested_loop.specs.Model.{Setup}
use Rattle.probing.specs.Waiting.{stretch}
use Rattle.probing.specs.Met.{PairsBy, met_in, met_range}
use Rattle.probing.proofs.Parts.{setup_by, pairs_by}
use Rattle.probing.proofs.Turns.{range_turn, stretch-none, length-rows_in, still_same}
use Rattle.probing.proofs.Meets.{met_rows, met_few}
use Rattle.probing.proofs.pairs.Pairing.process_left_range_join.Goals as goal

pub loop-i-preserved : goal.loop-i-preserved
loop-i-preserved g c =
    let a = c.args in
    record {
      words = still_same c.loop-i.invariant.words c.process_single_left_row_join.ensures.words;
      page = c.process_single_left_row_join.ensures.page ∙ c.loop-i.invariant.page;
      met = λ S e. range_turn a.left.now S c.loop-i.i a.range.end _ (rows_in a.right.now) _ _ (omega arith) c.row.ensures (c.process_single_left_row_join.ensures.met S e) ∙ c.loop-i.invariant.met S e;
    }

pub returns : goal.returns
returns g c =
    let a = c.args in
    let from = a.range.start in
    let to = a.range.end in
    let t = rows_in a.left.now in
    let b = rows_in a.right.now in
    let lt = length-rows_in a.left.now in
    let lb = length-rows_in a.right.now in
    let none = g.V.Cell.Cell.missing in
    let says = g.V.Verdict.says a.self.now.verdict.now in
    let o = a.self.now.output in
    let before = met_in a.marks.now a.waiting.now in
    let after = met_in c.loop-i.marks c.loop-i.waiting in
    let end : min to (length t) ≤ c.loop-i.i = omega arith in
    let met : (S : Setup (g.row.V-Cell).Denot) → PairsBy S none says o → after ≡ met_range S from (stretch from to t) b before =
    λ S e. sym (ap (λ x. met_range S c.loop-i.i x b after) (stretch-none t c.loop-i.i to end)) ∙ c.loop-i.invariant.met S e in
    let some = setup_by none none none says o in
    record {
      words = c.loop-i.invariant.words;
      page = c.loop-i.invariant.page;
      met = met;
      rows = λ S e. met_rows S a.left.now.count a.right.now.count from to t b before after lt lb (met S e);
      few = met_few some a.left.now.count a.right.now.count from to t b before after lt lb (met some (pairs_by none none none says o));
    }

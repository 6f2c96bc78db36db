use Rattle.std.proofs.Common.{◌++◌, length, get_or, codes, decimal, refl, vec_items, ◌∙◌}
use Rattle.std.proofs.Output.{has_written_append, has_written_of_eq}
use Rattle.reports.specs.Texts.{clash_line, pair_line}
use Rattle.reports.proofs.Adding.{one_more}
use Rattle.reports.proofs.section.ClashesDisplay.fmt.Goals as goal

pub loop-pair-preserved : goal.loop-pair-preserved
loop-pair-preserved g c = λ plain.
    let s = c.args.self.now in
    let lists = s.lists.now in
    let here = get_or s.pairs.now c.loop-pair.pair-index (record { left = 0; right = 0 }) in
    let so_far = c.loop-pair.invariant plain in
    let songs = (λ i. clash_line (c.row_at.ensures i) (c.row_at-in-loop-pair.ensures i)) ∙ (λ i. pair_line (c.deref.ensures.value i) (c.deref-in-loop-pair.ensures.value i) here) in
    let line = one_more (pair_line (vec_items lists.schedule.cells) (vec_items lists.log.cells)) (decimal (length s.pairs.now) ++ codes ".\n") s.pairs.now c.loop-pair.pair-index (record { left = 0; right = 0 }) _ c.loop-pair-test.true songs in
    has_written_of_eq _ _ _ _ _ line (has_written_append _ _ _ _ _ _ so_far (c.in_ok-write-2.ensures.writes so_far.plain refl))

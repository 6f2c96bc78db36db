use Rattle.std.proofs.Common.{◌/◌, ◌<◌, List, length, get_or, vec_items, vec_len, ap, refl, ◌∙◌, subst}
use Rattle.std.proofs.Output.{has_written_append, has_written_of_eq}
use Rattle.lines.specs.declared.reader.LineRefusal.TheVariants.{Miscounted}
use Rattle.lines.specs.Rows.{number_of}
use Rattle.schedules.specs.declared.songs.PassedLine.{PassedLine}
use Rattle.reports.specs.Texts.{refused_line, passed_line, head_line}
use Rattle.reports.proofs.Adding.{one_more}
use Rattle.reports.proofs.section.SongsReadDisplay.fmt.Goals as goal

pub loop-line-preserved : goal.loop-line-preserved
loop-line-preserved g c = λ plain.
    let s = c.args.self.now in
    let i = c.loop-line.line-index in
    let same = c.deref-line-items.ensures.value in
    let none : PassedLine = record { index = 0; refusal = Miscounted } in
    let here = get_or c.deref-line-items.result.now i none in
    let front = head_line s.head.now (vec_len s.songs.now.cells / 2) (vec_len s.songs.now.passed) in
    let inside = subst (λ (xs : List PassedLine). i < length xs) same c.loop-line-test.true in
    let text = (λ j. refused_line (c.saturating_add.ensures j) (number_of here.refusal) here.refusal) ∙ ap (λ xs. passed_line s.first (get_or xs i none)) same in
    let line = one_more (passed_line s.first) front (vec_items s.songs.now.passed) i none _ inside text in
    let so_far = c.loop-line.invariant plain in
    has_written_of_eq _ _ _ _ _ line (has_written_append _ _ _ _ _ _ so_far (c.in_ok-write-2.ensures.writes so_far.plain refl))

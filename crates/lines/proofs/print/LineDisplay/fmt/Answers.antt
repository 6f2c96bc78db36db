-- One cell more is printed, with a comma in front.
use Rattle.std.proofs.Common.{◌≡◌, suc, ◌+◌, get_or, take, refl, sym, ap, ◌∙◌, add-one, arith}
use Rattle.std.proofs.Output.{has_written_append, has_written_of_eq}
use Rattle.lines.specs.Printed.{row_text}
use Rattle.lines.proofs.Printing.{row_text-more}
use Rattle.lines.proofs.print.LineDisplay.fmt.Goals as goal

pub loop-cell-init : goal.loop-cell-init
loop-cell-init g c = λ plain.
    has_written_of_eq _ _ _ _ _ (sym (ap (λ l. row_text (take 1 l)) c.in-Some.ensures.cases.0)) (c.in_ok-write.ensures.writes plain refl)

pub loop-cell-preserved : goal.loop-cell-preserved
loop-cell-preserved g c = λ plain.
    let cells = c.args.self.now.cells.now in
    let i = c.loop-cell.cell-index in
    let d = c.cell-item.result in
    let here : d ≡ get_or cells (i + 1) d = c.cell-item.is ∙ sym (ap (λ l. get_or l (suc i) d) c.in-Some.ensures.cases.0) ∙ ap (λ n. get_or cells n d) (sym (add-one i)) in
    let so_far = c.loop-cell.invariant plain in
    has_written_of_eq _ _ _ _ _ (sym (row_text-more cells (i + 1) d (omega (arith, c.in-Some.ensures.cases.1)) here (omega arith))) (has_written_append _ _ _ _ _ _ so_far (c.in_ok-write-2.ensures.writes so_far.plain refl))

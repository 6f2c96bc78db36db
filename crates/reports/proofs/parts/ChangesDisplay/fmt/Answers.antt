use Rattle.std.proofs.Common.{◌++◌, length, vec_items, codes, decimal, ap, refl, ◌∙◌}
use Rattle.std.proofs.Output.{has_written_append, has_written_of_eq}
use Rattle.reports.specs.Texts.{clash_lines}
use Rattle.reports.specs.Report.{one_list}
use Rattle.reports.proofs.Adding.{headed}
use Rattle.reports.proofs.parts.ChangesDisplay.fmt.Goals as goal

pub returns-clause-writes : goal.returns-clause-writes
returns-clause-writes g c = λ plain ok.
    let lists = c.args.self.now.report.lists.now in
    let m = decimal c.args.self.now.report.separations.first.count in
    let n = decimal c.args.self.now.report.separations.second.count in
    let lines = clash_lines (vec_items lists.schedule.cells) (vec_items lists.log.cells) in
    let add = headed (codes "5. Clashes that ") n (codes " minutes add to ") m (codes ": ") (decimal (length c.deref.result.now) ++ codes ".\n") (lines c.deref.result.now) ∙ ap (one_list (codes "5. Clashes that " ++ (n ++ (codes " minutes add to " ++ (m ++ codes ": ")))) lists) c.deref.ensures.value in
    let drop = headed (codes "6. Clashes that ") n (codes " minutes drop from ") m (codes ": ") (decimal (length c.deref-2.result.now) ++ codes ".\n") (lines c.deref-2.result.now) ∙ ap (one_list (codes "6. Clashes that " ++ (n ++ (codes " minutes drop from " ++ (m ++ codes ": ")))) lists) c.deref-2.ensures.value in
    let first = c.in_ok-write.ensures.writes plain refl in
    has_written_append _ _ _ _ _ _ (has_written_of_eq _ _ _ _ _ add first) (has_written_of_eq _ _ _ _ _ drop (c.write-2.ensures.writes first.plain ok))

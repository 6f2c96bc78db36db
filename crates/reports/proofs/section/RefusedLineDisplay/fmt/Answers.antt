use Rattle.std.proofs.Output.{has_written_of_eq}
use Rattle.reports.specs.Texts.{refused_line}
use Rattle.reports.proofs.section.RefusedLineDisplay.fmt.Goals as goal

pub returns-clause-writes : goal.returns-clause-writes
returns-clause-writes g c = λ plain ok.
    let l = c.args.self.now in
    has_written_of_eq _ _ _ _ _ (λ i. refused_line l.place (c.number-number.ensures i) l.refusal) (c.write.ensures.writes plain ok)

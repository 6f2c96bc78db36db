use Rattle.std.proofs.Common.{codes, ap, refl}
use Rattle.std.proofs.Output.{has_written_append, has_written_of_eq}
use Rattle.reports.specs.Texts.{songs_text}
use Rattle.reports.proofs.parts.ReadBlocksDisplay.fmt.Goals as goal

pub returns-clause-writes : goal.returns-clause-writes
returns-clause-writes g c = λ plain ok.
    let log = c.args.self.now.lists.now.log in
    let schedule = c.in_ok-write.ensures.writes plain refl in
    has_written_append _ _ _ _ _ _ schedule (has_written_of_eq _ _ _ _ _ (ap (songs_text (codes "2. Read the log") log) c.saturating_add.ensures) (c.write-2.ensures.writes schedule.plain ok))

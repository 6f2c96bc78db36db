-- A refused line is passed, and a row's line was.
use Rattle.std.proofs.Common.{sym, ◌∙◌}
use Rattle.std.proofs.lemmas.Bool.{cond-true, cond-false}
use Rattle.texts.proofs.Firsts.{next_read}
use Rattle.texts.proofs.next_line.Goals as goal

pub returns-then-is_err : goal.returns-then-is_err
returns-then-is_err c = next_read _ _ _ _ _ _ _ c.read_row-read.ensures (c.pass_line.ensures ∙ sym (cond-true _ _ _ (sym c.is_err.ensures.value ∙ c.if-is_err.true)))

pub returns-else-is_err : goal.returns-else-is_err
returns-else-is_err c = next_read _ _ _ _ _ _ _ c.read_row-read.ensures (sym (cond-false _ _ _ (sym c.is_err.ensures.value ∙ c.if-is_err.false)))

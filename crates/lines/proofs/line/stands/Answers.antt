-- Each text is a cell's, or one is none's.
use Rattle.std.proofs.Common.{rules, eqb}
use Rattle.std.proofs.lemmas.Iterator.{cases_from_all}
use Rattle.std.proofs.lemmas.Iterator.Splits.{YieldsList-from_slice_split}
use Rattle.cells.specs.declared.full.Full.{Full}
use Rattle.lines.specs.Written.{Writes}
use Rattle.lines.proofs.Splits.{told_by_texts}
use Rattle.lines.proofs.line.stands.Goals as goal

pub returns : goal.returns
returns c =
    let line = c.args.line.now in
    let e = c.split.ensures in
    told_by_texts c.all.result line (cases_from_all _ _ c.all.result (λ t. (d : Full) × Writes d t) (λ t. (d : Full) → Writes d t → ⊥) c.all.ensures.ran (YieldsList-from_slice_split _ (λ b. eqb b 44) line e.rest e.done e.closure (λ x b q k. search rules)) (λ x q k. search rules) (λ x q k. search rules))

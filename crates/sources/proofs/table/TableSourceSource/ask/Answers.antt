use Rattle.std.proofs.Common.{◌*◌, ◌/◌, length, take, drop, ap, ◌∙◌, arith}
use Rattle.sources.proofs.Tables.{served, ended}
use Rattle.sources.proofs.table.TableSourceSource.ask.Goals as goal

pub returns-then-count-eq0-clause-answer : goal.returns-then-count-eq0-clause-answer
returns-then-count-eq0-clause-answer g c =
    let s = c.args.self.now in
    let w = s.shape.columns.count in
    let rows = ap (λ k. length s.cells.now / k) c.columns-columns.ensures in
    let none = ended s.shape.batch (length s.cells.now / w) w s.cells.now s.shape.filled (omega (arith, rows, s.shape.filled)) in
    (omega arith, (none, none))

pub returns-clause-answer : goal.returns-clause-answer
returns-clause-answer g c =
    let s = c.args.self.now in
    let cells = s.cells.now in
    let w = s.shape.columns.count in
    let k = c.min-count.result in
    let w-is = c.columns-columns.ensures in
    let rows = ap (λ n. length cells / n) w-is in (
      omega arith,
      served s.shape.batch w k cells _ _ _ s.shape.filled s.shape.columns.some (omega arith) (omega (arith, rows))
          (c.copy_from_slice.ensures.after ∙ c.split_at.ensures.front ∙ ap (λ n. take (k * n) cells) w-is) (c.split_at.ensures.back ∙ ap (λ n. drop (k * n) cells) w-is),
    )

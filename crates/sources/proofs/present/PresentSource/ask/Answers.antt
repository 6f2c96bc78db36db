use Rattle.std.proofs.Common.{arith}
use Rattle.sources.proofs.Layers.{batch_room, layer_batch}
use Rattle.sources.proofs.present.PresentSource.ask.Goals as goal

pub keep_rows-requires : goal.keep_rows-requires
keep_rows-requires g c =
    let source = g.S.Source in
    let s = c.args.self.now.inner in
    batch_room source.items source.most (source.width s) c.in-Batch.rows c.columns-columns.result s c.ask.new.self c.args.page.now c.ask.new.page c.in_ok-other.other (source.fits s)
    c.in_ok-other.ensures.answer c.in-Batch.is c.columns-columns.ensures (omega arith)

pub returns-in-Batch-clause-answer : goal.returns-in-Batch-clause-answer
returns-in-Batch-clause-answer g c =
    let source = g.S.Source in
    let s = c.args.self.now.inner in
    let asked = c.in_ok-other.ensures.answer in (
      asked.0,
      layer_batch source.items source.most (source.width s) c.in-Batch.rows c.columns-columns.result s c.ask.new.self c.args.page.now c.ask.new.page c.in_ok-other.other (source.fits s)
          asked c.in-Batch.is c.columns-columns.ensures g.S.Cell.Cell.is_missing c.args.self.now.column c.keep_rows.result _ c.keep_rows.ensures.count c.keep_rows.ensures.front,
    )

-- One line more is a row, or ends what is read.
use Rattle.std.proofs.Common.{Ok, Err, refl, ap, ◌∙◌, arith}
use Rattle.lines.specs.declared.reader.Answer.TheVariants.{Row, End}
use Rattle.text_source.proofs.Reading.{room, read_here, sofar_more, filled_end, filled_bad, first_bad}
use Rattle.text_source.proofs.text.TextSource.read_front.Goals as goal

pub returns-in-Err-clause-filled : goal.returns-in-Err-clause-filled
returns-in-Err-clause-filled c =
    let k = c.loop-rows in
    let i = k.invariant in
    let s = c.args.self.now in
    let l = c.read_at.new in
    first_bad s.columns.count k.rows s.cursor k.self.cursor l.self.cursor s.text.now k.page l.page c.in-Err.refusal c.if-rows-eq0.true (room k.rows _ _ c.loop-rows-test.true i.room) i.brings
    (read_here _ _ _ k.rows _ _ k.self.cursor l.self.cursor k.page l.page _ (Err c.in-Err.refusal) (ap (λ x. x.count) i.columns) c.get-columns.ensures i.text refl c.in-Err.ensures.read)

pub returns-in-Ok-End-clause-filled : goal.returns-in-Ok-End-clause-filled
returns-in-Ok-End-clause-filled c =
    let k = c.loop-rows in
    let i = k.invariant in
    let s = c.args.self.now in
    let l = c.read_at.new in
    filled_end s.columns.count k.rows s.cursor k.self.cursor l.self.cursor s.text.now k.page l.page c.loop-rows-test.true (room k.rows _ _ c.loop-rows-test.true i.room) i.brings
    (read_here _ _ _ k.rows _ _ k.self.cursor l.self.cursor k.page l.page _ (Ok End) (ap (λ x. x.count) i.columns) c.get-columns.ensures i.text (ap Ok c.in-Ok-End.field-0-is) c.in-Ok-End.ensures.read)

pub returns-in-Err-2-clause-filled : goal.returns-in-Err-2-clause-filled
returns-in-Err-2-clause-filled c =
    let k = c.loop-rows in
    let i = k.invariant in
    let s = c.args.self.now in
    let l = c.read_at.new in
    filled_bad s.columns.count k.rows s.cursor k.self.cursor l.self.cursor s.text.now k.page l.page c.in-Err.refusal c.loop-rows-test.true (omega arith) (room k.rows _ _ c.loop-rows-test.true i.room) i.brings
    (read_here _ _ _ k.rows _ _ k.self.cursor l.self.cursor k.page l.page _ (Err c.in-Err.refusal) (ap (λ x. x.count) i.columns) c.get-columns.ensures i.text refl c.in-Err.ensures.read)

pub loop-rows-preserved : goal.loop-rows-preserved
loop-rows-preserved c =
    let k = c.loop-rows in
    let i = k.invariant in
    let s = c.args.self.now in
    let l = c.read_at.new in
    let same = c.read_at.ensures.same in
    record {
      room = omega (arith, c.read_at.auto.page, i.room);
      text = same.0 ∙ i.text;
      columns = same.1 ∙ i.columns;
      brings = sofar_more s.columns.count k.rows s.cursor k.self.cursor l.self.cursor s.text.now k.page l.page (room k.rows _ _ c.loop-rows-test.true i.room) i.brings
          (read_here _ _ _ k.rows _ _ k.self.cursor l.self.cursor k.page l.page _ (Ok Row) (ap (λ x. x.count) i.columns) c.get-columns.ensures i.text (ap Ok c.in-Ok-Row.field-0-is) c.in-Ok-Row.ensures.read);
    }

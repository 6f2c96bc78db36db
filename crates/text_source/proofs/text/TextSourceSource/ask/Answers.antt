-- The rows read are the first batch.
use Rattle.std.proofs.Common.{◌*◌, ◌≤◌, [], ◌∷◌, drop, sym, ◌∙◌, mul-le-mul_right, arith}
use Rattle.memory.specs.Items.{batch}
use Rattle.texts.specs.Items.{items}
use Rattle.text_source.specs.Grouped.{grouped}
use Rattle.text_source.proofs.Answering.{taken_batch}
use Rattle.text_source.proofs.text.TextSourceSource.ask.Goals as goal

pub returns-in-Ok-clause-answer : goal.returns-in-Ok-clause-answer
returns-in-Ok-clause-answer c =
    let s = c.args.self.now in
    let w = s.columns.count in
    let t = c.read_front.new.self in
    let n = c.in-Ok.rows in
    let read = c.in-Ok.ensures in
    let fits : n * w ≤ 64 * w = mul-le-mul_right w read.filled.0 in
    let taken = taken_batch w s.text.now s.cursor t.cursor c.read_front.new.page n (omega arith) (omega (arith, read.long)) read.filled in
    (omega arith, (taken.0, taken.1 ∙ (λ i. batch taken.0 ∷ grouped [] (items (sym read.same.1 i).count (drop t.cursor (sym read.same.0 i)))), taken.2, taken.3))

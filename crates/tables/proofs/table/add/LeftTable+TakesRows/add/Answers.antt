use Rattle.std.proofs.Common.{◌≡◌, ◌+◌, ◌*◌, true, cond, not, leb, length, is_ok, ap, ◌∙◌}
use Rattle.memory.specs.Rows.{put_row}
use Rattle.tables.specs.Tables.{table}
use Rattle.tables.proofs.Adding.{rows_one_more}
use Rattle.tables.proofs.table.add.«LeftTable+TakesRows».add.Goals as goal

pub returns-clause-held : goal.returns-clause-held
returns-clause-held g c = λ _.
    let s = c.args.self.now in
    let xs = c.args.memory.now in
    let row = c.args.row.now in
    let is = c.get-columns.ensures in
    let put = c.put_row in
    let took : is_ok put.result ≡ true = c.is_err.ensures.negation ∙ ap not c.if-is_err.false in
    rows_one_more (table s.columns.count s.rows xs) row (c.if-row-columns.false ∙ is) c.if-self-ge-MOST_ROWS.false _ put.new.page
    (put.ensures.room ∙ ap (λ k. leb (s.rows * k + length row) (length xs)) is)
    (put.ensures.cells ∙ ap (λ k. cond (is_ok put.result) (put_row xs (s.rows * k) row) xs) is)
    took

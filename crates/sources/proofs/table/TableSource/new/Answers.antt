use Rattle.std.proofs.Common.{◌≡◌, ◌*◌, ◌/◌, ◌≤◌, min, length, take, ap, ◌∙◌, mul-le-mul_right, div-mul-le_self, arith}
use Rattle.memory.specs.Rows.{rows_from}
use Rattle.sources.specs.Cuts.{whole_rows}
use Rattle.sources.proofs.Tables.{front_rows}
use Rattle.sources.proofs.table.TableSource.new.Goals as goal

pub returns-clause-rows : goal.returns-clause-rows
returns-clause-rows g c =
    let cells = c.args.cells.now in
    let shape = c.args.shape in
    let w = shape.columns.count in
    let m = c.min-rows.result in
    let count : m ≡ min shape.rows (length cells / w) = omega (arith, ap (λ k. length cells / k) c.get-columns.ensures) in
    let room : m * w ≤ length cells = omega (arith, mul-le-mul_right {m = m} {n = length cells / w} w (omega (arith, count)), div-mul-le_self (length cells) w) in
    let size : m * c.get-columns.result ≡ m * w = ap (λ k. m * k) c.get-columns.ensures in
    ap (λ k. whole_rows w (take k cells)) size ∙ front_rows m w cells shape.columns.some room ∙ ap (λ n. rows_from n w cells) count

use Rattle.std.proofs.Common.{ap, ◌∙◌}
use Rattle.sources.proofs.Piling.{pile_drains}
use Rattle.sources.proofs.pile.rows_with_both.Goals as goal

pub returns : goal.returns
returns g c =
    let a = c.args in
    let table = c.new-table in
    pile_drains a.shape a.cells.now table.result table.ensures.shape table.ensures.rows g.C.Cell.is_missing a.first a.second a.page.now c.drain.new.page c.new-pile.result c.drain.new.source
    (c.new-pile.ensures ∙ ap (λ p. record { inner = p; column = a.second }) c.new.ensures)
    c.drain.result c.drain.ensures.items

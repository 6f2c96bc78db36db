use Rattle.std.proofs.Common.{◌≡◌, ◌+◌, ◌-◌, ◌*◌, ◌<◌, length, take, drop, filter, sym, ap, ◌∙◌, arith}
use lib.Seq.{paste}
use Rattle.std.proofs.lemmas.List.{take_all}
use Rattle.memory.specs.Rows.{rows_from, cells_of}
use Rattle.memory.proofs.Cuts.{length-rows_from}
use Rattle.sources.specs.Present.{has_cell}
use Rattle.sources.proofs.Keeping.{kept_yes, kept_no}
use Rattle.sources.proofs.keep.keep_rows.Goals as goal
use Rattle.sources.proofs.keep.keep_rows.Goals.{then-has_cell, else-has_cell}

pub loop-i-preserved : goal.loop-i-preserved
loop-i-preserved g c =
    let a = c.args in
    let i = c.loop-i.i in
    let page = c.loop-i.page in
    let p = has_cell g.C.Cell.is_missing a.column in
    let lt : i < a.rows = omega arith in
    let long : length page ≡ length a.page.now = omega arith in
    let told = sym (ap p c.row_at.ensures) ∙ sym c.has_cell.ensures in
    elim c.if-has_cell.branch [
      | then-has_cell w ↦
          let part : i * a.columns + a.columns - i * a.columns ≡ a.columns = omega arith in
          rw (w.page-is, w.count-is)
          (kept_yes p a.columns a.rows a.page.now page c.loop-i.count i c.loop-i.invariant lt (omega arith) long _ (told ∙ w.if-has_cell.true)
          (w.copy_within.ensures.after ∙ ap (λ n. paste page (c.loop-i.count * a.columns) (drop (i * a.columns) page) n) part))
      | else-has_cell w ↦
          rw (w.page-is, w.count-is)
          (kept_no p a.columns a.rows a.page.now page c.loop-i.count i c.loop-i.invariant lt (omega arith) long (told ∙ w.if-has_cell.false))
    ]

pub returns : goal.returns
returns g c =
    let a = c.args in
    let p = has_cell g.C.Cell.is_missing a.column in
    let rows = rows_from a.rows a.columns a.page.now in
    let all : take c.loop-i.i rows ≡ rows = take_all c.loop-i.i rows (rw length-rows_from (omega arith)) in
    record { count = c.loop-i.invariant.count ∙ ap (λ r. length (filter p r)) all; front = c.loop-i.invariant.front ∙ ap (λ r. cells_of (filter p r)) all }

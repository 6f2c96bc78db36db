use Rattle.std.proofs.Common.{get_or, set, ap, ◌∙◌, arith}
use Rattle.std.proofs.lemmas.List.Edits.{map_over_more}
use Rattle.std.proofs.lemmas.List.{get_or_default}
use Rattle.join_types.specs.declared.column.ColumnIndex.{ColumnIndex}
use Rattle.join_types.specs.declared.column.JoinSide.TheVariants.{Left}
use Rattle.join_types.specs.Types.{swapped}
use Rattle.join_types.proofs.column.exchange_sides.Goals as goal

pub loop-column-preserved : goal.loop-column-preserved
loop-column-preserved c =
    let ys = c.loop-column.columns in
    let i = c.loop-column.column-index in
    let x : ColumnIndex = get_or ys i (record { index = 0; side = Left }) in
    ap (set ys i) c.exchanged.ensures
    ∙ map_over_more swapped c.args.columns.now ys i x c.loop-column-test.true c.loop-column.invariant (get_or_default ys i _ x (omega arith))

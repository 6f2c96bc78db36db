use Rattle.std.proofs.Common.{◌≡◌, [], ◌++◌, length, get_or, sym, ap, ◌∙◌, arith}
use Rattle.memory.specs.Rows.{rows_in}
use Rattle.memory.proofs.Cuts.{get_or-rows_from, length-rows_from}
use Rattle.clashes.specs.Pairs.{row_pairs}
use Rattle.clashes.proofs.Listing.{front, front-more}
use Rattle.clashes.proofs.loops.pairs.Goals as goal

pub loop-i-preserved : goal.loop-i-preserved
loop-i-preserved g c =
    let says = g.V.Verdict.says c.args.verdict.now in
    let t = c.args.left.now in
    let rs = rows_in c.args.right.now in
    let i = c.loop-i.i in
    let here : c.row.result.now ≡ get_or (rows_in t) i [] = c.row.ensures ∙ sym (get_or-rows_from t.count t.columns t.cells.now i (omega arith)) in
    c.in_ok-add_row.ensures
    ∙ ap (λ xs. xs ++ row_pairs says i c.row.result.now rs) c.loop-i.invariant
    ∙ sym (front-more says (rows_in t) rs i c.row.result.now here)

pub returns : goal.returns
returns g c =
    let t = c.args.left.now in
    let all : c.loop-i.i ≡ length (rows_in t) = omega (arith, length-rows_from t.count t.columns t.cells.now) in
    c.loop-i.invariant ∙ ap (front (g.V.Verdict.says c.args.verdict.now) (rows_in t) (rows_in c.args.right.now)) all

use Rattle.std.proofs.Common.{◌≡◌, IfOk, vec_items, ap, ◌∙◌, subst}
use Rattle.memory.specs.Rows.{rows_in}
use Rattle.clashes.specs.Pairs.{pairs_of, except}
use Rattle.clashes.proofs.Differences.{pairs-except}
use Rattle.clashes.proofs.loops.pairs_except.Goals as goal

pub returns : goal.returns
returns g c =
    let ls = rows_in c.args.left.now in
    let rs = rows_in c.args.right.now in
    let v = g.V.Verdict.says in
    let w = g.W.Verdict.says in
    subst (λ ps. IfOk c.pairs.result (λ x. vec_items x ≡ ps))
    (ap (λ x. pairs_of (except (v x) (w c.new.result.but)) ls rs) c.new.ensures.0
    ∙ ap (λ y. pairs_of (except (v c.args.of.now) (w y)) ls rs) c.new.ensures.1
    ∙ pairs-except (v c.args.of.now) (w c.args.but.now) ls rs)
    c.pairs.ensures

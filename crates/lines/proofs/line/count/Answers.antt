-- A line has no more commas than bytes, so their sum fits.
use Rattle.std.proofs.Common.{rules, tests, ◌≡◌, cond, eqb, arith}
use Rattle.std.proofs.lemmas.Iterator.{YieldsList-from_slice, YieldsList-from_map}
use Rattle.std.proofs.lemmas.Iterator.Consumers.{YieldsList-at, sum_by_from_yields_List, fits_by_from_yields_list}
use Rattle.std.proofs.lemmas.List.Sums.{count_by-le-length}
use Rattle.lines.specs.Written.{commas}
use Rattle.lines.proofs.line.count.Goals as goal

pub sum-commas-requires-clause-fits : goal.sum-commas-requires-clause-fits
sum-commas-requires-clause-fits c =
    fits_by_from_yields_list _ _ c.map.result _ (YieldsList-from_map _ (λ b. cond (eqb b 44) 1 0) (YieldsList-at c.map.ensures.source (YieldsList-from_slice c.args.line.now c.iter.ensures.rest)) c.map.ensures.closure (λ x r q k. search (rules, tests))) (omega (arith, count_by-le-length (λ b. eqb b 44) c.args.line.now))

pub overflow_add-result : goal.overflow_add-result
overflow_add-result c =
    let e : c.sum-commas.result ≡ commas c.args.line.now = sum_by_from_yields_List _ _ c.map.result _ c.sum-commas.ensures.ran (YieldsList-from_map _ (λ b. cond (eqb b 44) 1 0) (YieldsList-at c.map.ensures.source (YieldsList-from_slice c.args.line.now c.iter.ensures.rest)) c.map.ensures.closure (λ x r q k. search (rules, tests))) in
    omega (arith, e, count_by-le-length (λ b. eqb b 44) c.args.line.now)

use Rattle.std.proofs.Common.{◌≡◌, sym, subst, ap₂, arith}
use Rattle.opening.specs.Orders.{plan_of, Planned}
use Rattle.opening.proofs.Planning.{left-numbers, right-numbers}
use Rattle.opening.proofs.order.Order.into_parts.Goals as goal

pub returns-clause-planned : goal.returns-clause-planned
returns-clause-planned c =
    let s = c.args.self in
    let l = s.output.list in
    let plan : plan_of c.list.result s.probes s.batch_size c.rows.result ≡ plan_of l s.probes s.batch_size s.table.rows =
    ap₂ (λ m n. plan_of m s.probes s.batch_size n) c.list.ensures c.rows.ensures in
    subst Planned (sym plan) (record {
      some_probes = s.some_probes;
      few_probes = s.few_probes;
      some_batch = s.some_batch;
      few_batch = s.few_batch;
      some_left = omega arith;
      few_left = omega arith;
      some_right = s.some_right;
      few_right = s.few_right;
      few_rows = omega arith;
      few_columns = s.output.few;
      legal = s.output.legal;
      left_there = left-numbers l s.output.legal;
      right_there = right-numbers l s.output.legal;
    })

use Rattle.std.proofs.Common.{◌≡◌, ◌-◌, ◌*◌, true, cond, is_ok, length, take, refl, ap, ◌∙◌, rules}
use Rattle.std.proofs.lemmas.Bool.{and_from, le-leb}
use Rattle.memory.specs.Rows.{put_row}
use Rattle.join.specs.Handled.{with_waiting}
use Rattle.join.proofs.Quiet.{room_in}
use Rattle.join.proofs.Delivering.{out_is, rows_at}
use Rattle.join.proofs.record.Probe.deliver_rows.Goals as goal

pub returns : goal.returns
returns g c =
    let a = c.args in
    let p = a.self.now in
    let w = a.plan.now.list.count in
    let e = c.deliver.ensures in
    let did : is_ok c.deliver.result ≡ true =
    e.room ∙ and_from _ _ (le-leb _ _ c.requires.some) (and_from _ _ (le-leb _ _ c.requires.lying) (le-leb _ _ c.requires.room)) in
    record {
      answer = refl;
      probe = ap (with_waiting p) (e.counted ∙ ap (λ b. cond b (p.waiting - a.rows) p.waiting) did);
      out = e.moved ∙ ap (λ b. cond b (put_row a.out.now 0 (take (a.rows * w) a.waiting.now)) a.out.now) did
          ∙ out_is a.rows p.waiting w a.waiting.now a.out.now c.requires.some (room_in a.rows p.waiting w (length a.waiting.now) c.requires.some c.requires.lying);
      left = rows_at _ _ _ _ _ (search rules) (e.left did);
    }

use Rattle.std.proofs.Common.{arith}
use Rattle.memory.proofs.Pages.{front-moved, rest-moved}
use Rattle.memory.proofs.waiting.move_front.Goals as goal

pub returns : goal.returns
returns g c =
    let a = c.args in
    record {
      moved = front-moved a.cut a.waiting.now a.out.now _ (omega arith) c.copy_from_slice.ensures.after;
      stayed = rest-moved a.cut a.end a.waiting.now _ c.requires.0 c.requires.1.0 c.copy_within.ensures.after;
    }

use Rattle.std.proofs.Common.{◌*◌, ◌≤◌, length}
use Rattle.memory.proofs.Pages.{fits_from, rows_given, rows_left}
use Rattle.memory.proofs.waiting.WaitingRows.deliver.Goals as goal

pub returns-clause-given : goal.returns-clause-given
returns-clause-given g c = λ _.
    let a = c.args in
    let s = a.self.now in
    let lie : s.rows * a.width ≤ length s.cells.now = fits_from _ _ c.if-not-has_room.ensures in
    rows_given a.first a.width s.rows s.cells.now a.out.now _ c.if-first-self.false lie c.move_front.ensures.moved

pub returns-clause-left : goal.returns-clause-left
returns-clause-left g c = λ _.
    let a = c.args in
    let s = a.self.now in
    let lie : s.rows * a.width ≤ length s.cells.now = fits_from _ _ c.if-not-has_room.ensures in
    rows_left a.first a.width s.rows s.cells.now _ c.if-first-self.false lie c.move_front.ensures.stayed

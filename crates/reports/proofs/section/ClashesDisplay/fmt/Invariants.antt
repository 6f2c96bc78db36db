use Rattle.std.proofs.Common.{◌++◌, length, take, codes, decimal, vec_items}
use Rattle.std.specs.Fmt.{HasWritten, IsPlainFormatter}
use Rattle.reports.specs.Texts.{clash_lines}
use Rattle.reports.proofs.section.ClashesDisplay.fmt.Given as goal

abbrev pub invariant-loop-pair : goal.invariant-loop-pair
invariant-loop-pair g l =
    let c = l.self in
    IsPlainFormatter l.fn.f → HasWritten g.W.Write.write_str_gives l.fn.f ((decimal (length c.pairs.now) ++ codes ".\n") ++ clash_lines (vec_items c.lists.now.schedule.cells) (vec_items c.lists.now.log.cells) (take l.pair-index c.pairs.now)) l.f

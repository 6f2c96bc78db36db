use Rattle.std.proofs.Common.{◌/◌, ◌++◌, take, vec_items, vec_len}
use Rattle.std.specs.Fmt.{HasWritten, IsPlainFormatter}
use Rattle.reports.specs.Texts.{head_line, passed_lines}
use Rattle.reports.proofs.section.SongsReadDisplay.fmt.Given as goal

abbrev pub invariant-loop-line : goal.invariant-loop-line
invariant-loop-line g l =
    let s = l.self in
    IsPlainFormatter l.fn.f → HasWritten g.W.Write.write_str_gives l.fn.f (head_line s.head.now (vec_len s.songs.now.cells / 2) (vec_len s.songs.now.passed) ++ passed_lines s.first (take l.line-index (vec_items s.songs.now.passed))) l.f

use Rattle.schedules.specs.Walks.{brought}
use Rattle.schedules.proofs.Taking.{Taking}
use Rattle.schedules.proofs.read.read_songs.Given as goal

abbrev pub invariant-loop-line : goal.invariant-loop-line
invariant-loop-line l = Taking (brought l.initial.line-iterator) (brought l.line-iterator) l.songs

use Rattle.std.proofs.Common.{◌≡◌, ◌*◌, length}
use Rattle.sources.proofs.Turns.{Draining}
use Rattle.sources.proofs.draining.drain.Given as goal

abbrev pub invariant-loop-brought : goal.invariant-loop-brought
invariant-loop-brought g l =
    let source = g.S.Source in
    record {
      long : length l.page ≡ length l.initial.page;
      width : source.width l.source ≡ source.width l.initial.source;
      draining : Draining source.items (source.most * source.width l.initial.source) l.initial.source l.source l.initial.page l.page l.brought;
    }

abbrev pub decreases-loop-brought : goal.decreases-loop-brought
decreases-loop-brought g l = length (g.S.Source.items l.source)

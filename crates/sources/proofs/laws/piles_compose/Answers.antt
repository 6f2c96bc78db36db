use Rattle.std.proofs.Common.{ap, ◌∙◌}
use Rattle.sources.specs.Drained.{rows_of}
use Rattle.sources.proofs.Piled.{composed, rows_kept}
use Rattle.sources.proofs.laws.piles_compose.Goals as goal

pub returns : goal.returns
returns g c =
    let source = g.S.Source in
    let is_missing = g.S.Cell.Cell.is_missing in
    record {
      composed = λ s columns. composed is_missing source.most (source.width s) columns (source.items s) (source.fits s);
      rows_kept = λ s columns. ap rows_of (composed is_missing source.most (source.width s) columns (source.items s) (source.fits s)) ∙ rows_kept is_missing columns (source.items s);
    }

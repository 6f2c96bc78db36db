-- Gathers the lemmas on printing and reading back.
use Rattle.lines.proofs.Printing.{row_means, row_prints, row_only, row_reads}
use Rattle.lines.proofs.laws.printed_reads_back.Goals as goal

pub returns : goal.returns
returns c = record { means = row_means; only = row_only; prints = row_prints; reads = row_reads }

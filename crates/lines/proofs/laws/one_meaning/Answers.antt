-- Gathers the lemmas on one meaning and one answer.
use Rattle.lines.proofs.Once.{writes_once, means_once, read_once}
use Rattle.lines.proofs.laws.one_meaning.Goals as goal

pub returns : goal.returns
returns c = record { cell = λ t c d. writes_once c d t; row = means_once; answer = read_once }

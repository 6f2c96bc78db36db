-- The lines so far lie on the page as rows, and the source's text and columns stay.
use Rattle.std.proofs.Common.{◌≡◌, ◌*◌, ◌≤◌, length}
use Rattle.text_source.proofs.Reading.{Sofar}
use Rattle.text_source.proofs.text.TextSource.read_front.Given as goal

abbrev pub invariant-loop-rows : goal.invariant-loop-rows
invariant-loop-rows l = record {
  room : 64 * l.fn.self.columns.count ≤ length l.page;
  text : l.self.text.now ≡ l.fn.self.text.now;
  columns : l.self.columns ≡ l.fn.self.columns;
  brings : Sofar l.fn.self.columns.count l.fn.self.text.now l.fn.self.cursor l.self.cursor l.rows l.page;
}

use Rattle.std.proofs.Common.{ℕ, List, ℤ, Option, MatchOption, sym, subst}
use Rattle.cells.specs.declared.full.Full.{Full}
use Rattle.cells.specs.declared.full.Full.TheVariants.{Missing, Number, Code, YesNo}
use Rattle.cells.specs.Kinds.{number_in}
use Rattle.lines.specs.Written.{Writes}
use Rattle.lines.proofs.Once.{writes_once}
use Rattle.clashes.proofs.minutes.read_number.Goals as goal

-- what a text that may write a number is read as
abbrev Reads : List ℕ → Option ℤ → Type 0
Reads text r = MatchOption r ((z : ℤ) → Writes (Number z) text → ⊥) (λ z. Writes (Number z) text)

-- a text that writes a number writes no other cell
number_only : (cell : Full) (text : List ℕ) → Writes cell text → Reads text (number_in cell)
number_only Missing text w = λ z v. let e = writes_once Missing (Number z) text w v in cc
number_only (Number n) text w = w
number_only (Code c) text w = λ z v. let e = writes_once (Code c) (Number z) text w v in cc
number_only (YesNo b) text w = absurd w

pub returns-in_err-read_cell : goal.returns-in_err-read_cell
returns-in_err-read_cell c =
    subst (Reads c.args.text.now) (sym c.from_residual.ensures) (λ z. c.in_err-read_cell.ensures (Number z))

pub returns : goal.returns
returns c = subst (Reads c.args.text.now) (sym c.number.ensures) (number_only c.in_ok-read_cell.field-0 c.args.text.now c.in_ok-read_cell.ensures)

use Rattle.std.proofs.Common.{IsUtf8, sym, subst}
use Rattle.cells.proofs.Letters.{code_utf8, front-letters}
use Rattle.cells.proofs.display.CodeDisplay.fmt.Goals as goal

pub unreachable-requires : goal.unreachable-requires
unreachable-requires g c =
    let code = c.args.self.now in
    c.in-Err.ensures.cases.0 (subst IsUtf8 (sym (front-letters code _ _ _ c.write-n.ensures.count c.write-n.ensures.bytes)) (code_utf8 code))

use Rattle.std.proofs.Common.{◌≡◌, true, sym, ap, ◌∙◌}
use Rattle.cells.specs.Codes.{is_code, letters}
use Rattle.cells.proofs.Packing.{back}
use Rattle.cells.proofs.code.Code.new.Goals as goal

pub invariant_of-result : goal.invariant_of-result
invariant_of-result c =
    let ok : is_code c.args.bytes.now ≡ true = sym c.is_code.ensures ∙ c.if-not-is_code.false in
    record { named = ap is_code (ap letters c.pack.ensures ∙ back _ ok) ∙ ok }

pub returns : goal.returns
returns c =
    let ok : is_code c.args.bytes.now ≡ true = sym c.is_code.ensures ∙ c.if-not-is_code.false in
    (ok, c.pack.ensures, ap letters c.pack.ensures ∙ back _ ok)

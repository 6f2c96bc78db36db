use Rattle.std.proofs.Common.{sym, ◌∙◌, arith, rules, tests}
use Rattle.std.specs.Char.{is_ascii_alphanumeric}
use Rattle.std.proofs.lemmas.Bool.Decides.{nat_tests}
use Rattle.std.proofs.lemmas.Iterator.{YieldsList-from_slice}
use Rattle.std.proofs.lemmas.Iterator.Search.{all_from_yields_List}
use Rattle.cells.specs.Codes.{is_code}
use Rattle.cells.proofs.Packing.{signs_decide}
use Rattle.cells.proofs.code.is_code.Goals as goal

pub returns-then-bytes-lt1 : goal.returns-then-bytes-lt1
unfolding is_code
returns-then-bytes-lt1 c = grind (arith, nat_tests)

pub returns : goal.returns
returns c =
    all_from_yields_List is_ascii_alphanumeric _ _ _ c.all.ensures.ran (YieldsList-from_slice c.args.bytes.now c.iter.ensures.rest) (λ x b q k. search (rules, tests))
    ∙ signs_decide c.args.bytes.now (omega arith) (omega arith) (sym c.if-not-is_ascii_alphabetic.ensures.value)

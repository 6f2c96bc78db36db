use Rattle.std.proofs.Common.{ap}
use Rattle.std.proofs.lemmas.Bool.Decides.{Decides-eqb, Decides-at, Decides-like}
use Rattle.cells.specs.Codes.{letters}
use Rattle.cells.proofs.Letters.{same_letters}
use Rattle.verdicts.specs.Separations.{same_code}
use Rattle.verdicts.proofs.separation.same_code.Goals as goal

pub returns : goal.returns
unfolding same_code
returns c =
    let a = c.args.a in
    let b = c.args.b in
    record {
      value = c.eq.ensures;
      letters = Decides-at _ _ c.eq.ensures (Decides-like _ (ap letters) (λ e. ap (λ x. x.bits) (same_letters a b e)) (Decides-eqb a.bits b.bits));
    }

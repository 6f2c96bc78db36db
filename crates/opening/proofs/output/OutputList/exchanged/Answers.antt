use Rattle.std.proofs.Common.{◌≤◌, sym, ap, ◌∙◌, subst}
use Rattle.opening.specs.declared.list.ColumnList.{ColumnList}
use Rattle.opening.specs.Lists.{columns_of, is_legal}
use Rattle.opening.proofs.Listing.{columns_exchanged, legal_exchanged}
use Rattle.opening.proofs.output.OutputList.exchanged.Goals as goal

pub invariant_of-result : goal.invariant_of-result
invariant_of-result c =
    let s = c.args.self in
    let few : ColumnList → Type 0 = λ l. l.count ≤ 32 in
    record { few = subst few (sym c.exchanged.ensures) s.few; legal = ap is_legal c.exchanged.ensures ∙ legal_exchanged s.list ∙ s.legal }

pub returns-clause-columns : goal.returns-clause-columns
returns-clause-columns c = ap columns_of c.exchanged.ensures ∙ columns_exchanged c.args.self.list

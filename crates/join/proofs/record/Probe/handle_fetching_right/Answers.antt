use Rattle.std.proofs.Common.{◌≡◌, ℕ, suc, ◌≤◌, max, length, sym, ap, ◌∙◌, subst, arith}
use Rattle.std.specs.Prelude.{All}
use Rattle.std.specs.List.{AllByRecursion}
use Rattle.std.proofs.lemmas.List.Elements.{All-head, recursion_from_All}
use Rattle.memory.specs.Items.{batch}
use Rattle.nested_loop.specs.Model.{counted}
use Rattle.sources.specs.Fits.{Fits}
use Rattle.join.proofs.Fetching.{Made, full_batch}
use Rattle.join.proofs.record.Probe.handle_fetching_right.Goals as goal

pub returns-then-rows-gt0 : goal.returns-then-rows-gt0
returns-then-rows-gt0 g c =
    let a = c.args in
    let plan = a.plan.now in
    let p = a.self.now in
    let most = g.S.Source.most in
    let after = g.S.Source.items c.ask.new.self in
    let t = rw c.in-FetchingRight-Batch.is-1 at c.in-Ok.ensures.answer.1 in
    let fits : Fits most (g.S.Source.width a.source.now) (batch t.0) = All-head (Fits most (g.S.Source.width a.source.now)) (batch t.0) after (subst (All (Fits most (g.S.Source.width a.source.now))) t.1 (g.S.Source.fits a.source.now)) in
    let wide : AllByRecursion (λ r. length r ≡ plan.list.right_columns) t.0 = recursion_from_All _ t.0 (subst (λ (w : ℕ). All (λ r. length r ≡ w) t.0) c.requires.columns fits.1) in
    let large : c.max-self.result ≡ max p.largest most = c.max-self.ensures ∙ ap (max p.largest) c.largest-largest.ensures in
    let more : c.saturating_add-self.result ≡ counted (suc p.taken) = omega (arith, c.saturating_add-self.ensures) in
    let some : most ≤ 1024 = g.S.Source.small in
    let few = fits.0 in
    let n : c.in-FetchingRight-Batch.rows ≡ length t.0 = t.2 in
    record {
      handled = λ T marks n waiting out.
          subst (Made plan a.number most p c.requires.state T marks n waiting out a.right.now c.ask.new.page after c.max-self.result c.saturating_add-self.result large _ _) (sym t.1)
          (full_batch plan a.number most p c.requires.state T marks n waiting out a.right.now c.ask.new.page after c.max-self.result c.saturating_add-self.result large
          c.in-FetchingRight-Batch.rows t.0 c.if-rows-gt0.true t.2 wide t.3 more);
      sound = record { rows = omega arith; largest = omega (arith, c.requires.sound.largest); waiting = omega (arith, c.requires.sound.waiting); placed = (omega arith, omega arith) };
      width = c.in-Ok.ensures.width;
    }

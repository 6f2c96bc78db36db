-- The first line feed of what is left, or its end.
use Rattle.std.proofs.Common.{rules, ◌≡◌, ℕ, ◌+◌, ◌-◌, ◌≤◌, cond, eqb, ltb, length, drop, Some, None, ap, ◌∙◌, ⊎_elim, arith, length-drop}
use Rattle.std.specs.Option.{unwrap_or}
use Rattle.std.proofs.lemmas.Bool.{cases_lt, cond-true, cond-false, lt-ltb, le-ltb}
use Rattle.std.proofs.lemmas.Iterator.{YieldsList-from_slice}
use Rattle.std.proofs.lemmas.Iterator.Search.{position_from_yields_List}
use Rattle.std.proofs.lemmas.List.{take_all}
use Rattle.std.proofs.lemmas.List.Sums.{prefix_len-le-length}
use Rattle.lines.specs.Written.{before, unlike}
use Rattle.lines.proofs.reader.line_end.Goals as goal

-- a place below the end, or the end
settled : (n len : ℕ) → n ≤ len → unwrap_or (cond (ltb n len) (Some n) None) len ≡ n
settled n len l =
    ⊎_elim
    (λ b. ap (λ r. unwrap_or r len) (cond-true _ _ _ (lt-ltb n len b)))
    (λ e. ap (λ r. unwrap_or r len) (cond-false _ _ _ (le-ltb n len e)) ∙ omega arith)
    (cases_lt n len)

pub returns-clause-place : goal.returns-clause-place
returns-clause-place c =
    let text = c.args.text.now in
    let rest = c.in-Some.rest.now in
    let found : c.unwrap_or.result ≡ before 10 rest = c.unwrap_or.ensures ∙ ap (λ r. unwrap_or r (length rest)) (position_from_yields_List (λ b. eqb b 10) _ _ _ c.position.ensures.ran (YieldsList-from_slice rest c.iter.ensures.rest) (λ x b q k. search rules)) ∙ settled (before 10 rest) (length rest) (prefix_len-le-length (unlike 10) rest) in
    let left : rest ≡ drop c.args.at text = c.in-Some.ensures.lookup.0.2 ∙ take_all (length text - c.args.at) (drop c.args.at text) (omega (arith, length-drop c.args.at text)) in
    ap (λ n. c.args.at + n) (found ∙ ap (before 10) left)

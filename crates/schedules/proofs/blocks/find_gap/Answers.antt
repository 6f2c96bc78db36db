use Rattle.std.proofs.Common.{◌≡◌, ◌<◌, length, drop, sym, ap, ◌∙◌, subst, arith}
use Rattle.std.proofs.lemmas.Bool.{eqb-true}
use Rattle.std.proofs.lemmas.Bool.Decides.{nat_tests}
use Rattle.lines.specs.Written.{line_at, behind}
use Rattle.texts.specs.Items.{lines_of}
use Rattle.schedules.specs.Blocks.{is_full, second_block}
use Rattle.schedules.proofs.Parting.{walked_at, walked_more, full_some, apart_here, apart_end}
use Rattle.schedules.proofs.blocks.find_gap.Goals as goal
use Rattle.schedules.proofs.blocks.find_gap.Goals.{In-Some}

-- the walk has moved behind the line
moved : (c : In-Some) → c.next.new.self.at ≡ behind c.args.text.now c.loop-line.walk.at
moved c = c.in-Some.ensures.steps.3 ∙ ap (λ t. behind t c.loop-line.walk.at) c.loop-line.invariant.0

told : (c : In-Some) → c.in-Some.line.now ≡ line_at c.args.text.now c.loop-line.walk.at
told c = c.in-Some.ensures.steps.1 ∙ ap (λ t. line_at t c.loop-line.walk.at) c.loop-line.invariant.0

pub returns-in_default : goal.returns-in_default
returns-in_default c =
    let i = c.loop-line.invariant in
    let end = c.in_default.ensures.steps.0 in
    let a = apart_end c.args.text.now c.loop-line.walk.at c.loop-line.walk.before i.1 (omega (arith, ap length i.0)) in
    record { within = (omega arith, i.1.within); first = a.first; second = a.second; count = a.count }

pub returns-then-is_empty : goal.returns-then-is_empty
returns-then-is_empty c =
    let s = (goal.at.returns-then-is_empty c).In-Some in
    let i = c.loop-line.invariant in
    let text = c.args.text.now in
    let at = c.loop-line.walk.at in
    let short : length c.in-Some.line.now ≡ 0 = eqb-true _ _ (sym c.is_empty.ensures ∙ c.if-is_empty.true) in
    let a = apart_here text at c.loop-line.walk.before i.1 (omega (arith, c.in-Some.ensures.steps.0, ap length i.0)) (sym (ap length (told s)) ∙ short) in
    record {
      within = (omega (arith, moved s, i.1.within, c.in-Some.ensures.steps.0, ap length i.0), omega (arith, moved s));
      first = a.first;
      second = subst (λ n. lines_of (drop n text) ≡ second_block (lines_of text)) (sym (moved s)) a.second;
      count = a.count;
    }

pub loop-line-preserved : goal.loop-line-preserved
loop-line-preserved c =
    let s = (goal.at.loop-line-preserved c).In-Some in
    let i = c.loop-line.invariant in
    let text = c.args.text.now in
    let at = c.loop-line.walk.at in
    let some : 0 < length c.in-Some.line.now = grind (arith, nat_tests) in
    let w = walked_more text at c.loop-line.walk.before i.1 (omega (arith, c.in-Some.ensures.steps.0, ap length i.0)) (ap is_full (sym (told s)) ∙ full_some c.in-Some.line.now some) in
    (c.in-Some.ensures.steps.2 ∙ i.0, walked_at text _ _ _ _ (moved s) c.in-Some.ensures.steps.4 w)

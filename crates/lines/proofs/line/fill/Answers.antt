-- The cell of one text more is written, up to the last.
use Rattle.std.proofs.Common.{rules, ◌≡◌, ◌<◌, eqb, length, get_or, take, ◌∙◌, subst, arith}
use Rattle.std.specs.List.{AllZip, enumerate_from}
use Rattle.std.proofs.lemmas.Iterator.{YieldsList}
use Rattle.std.proofs.lemmas.Iterator.Consumers.{YieldsList-at, YieldsList-from_enumerate, YieldsList-turn, YieldsList-end}
use Rattle.std.proofs.lemmas.Iterator.Splits.{YieldsList-from_slice_split}
use Rattle.std.proofs.lemmas.List.FromFn.{length-enumerate_from}
use Rattle.std.proofs.lemmas.List.{length_push, take_all}
use Rattle.lines.specs.Written.{Writes}
use Rattle.lines.proofs.Splits.{texts, length-texts, cells_from, means_from, cell_at, turn, one_more}
use Rattle.lines.proofs.line.fill.Given as given
use Rattle.lines.proofs.line.fill.Goals as goal
use Rattle.lines.proofs.line.fill.Goals.{In-Some, After-into_iter-n-iterator}

road : (c : After-into_iter-n-iterator) → YieldsList (given.iterator-loop-n).next_gives (λ p. (p.0, p.1.now)) c.into_iter-n-iterator.result (enumerate_from 0 (texts c.args.line.now))
road c =
    let e = c.split.ensures in
    YieldsList-at c.into_iter-n-iterator.ensures.into_iter_gives (YieldsList-from_enumerate (YieldsList-at c.enumerate-n-items.ensures.source (YieldsList-from_slice_split _ (λ b. eqb b 44) c.args.line.now e.rest e.done e.closure (λ x b q k. search rules))) c.enumerate-n-items.ensures.count)

-- one turn: the place is the count of the turns before, and the text stands there
here : (c : In-Some) → YieldsList (given.iterator-loop-n).next_gives (λ p. (p.0, p.1.now)) c.into_iter-n-iterator.result (enumerate_from 0 (texts c.args.line.now)) → (length c.loop-n.yielded < length (texts c.args.line.now)) × (c.in-Some.n ≡ length c.loop-n.yielded) × (c.in-Some.text.now ≡ get_or (texts c.args.line.now) (length c.loop-n.yielded) c.in-Some.text.now)
here c all =
    turn (texts c.args.line.now) (length c.loop-n.yielded) c.in-Some.n c.in-Some.text.now (YieldsList-turn all c.loop-n.yielded c.loop-n.n-iterator c.loop-n.yielded_by c.next.result c.next.new.self (c.in-Some.n, c.in-Some.text) c.in-Some.is c.next.ensures.steps)

pub bounds-row-n : goal.bounds-row-n
bounds-row-n c =
    let g = goal.at.bounds-row-n c in
    let h = here g.In-Some (road g.After-into_iter-n-iterator) in
    omega (arith, h.0, h.1, length-texts c.args.line.now)

pub offset_bounds-row-n : goal.offset_bounds-row-n
offset_bounds-row-n c =
    let g = goal.at.offset_bounds-row-n c in
    let h = here g.In-Some (road g.After-into_iter-n-iterator) in
    omega (arith, h.0, h.1, length-texts c.args.line.now)

pub unreachable-requires : goal.unreachable-requires
unreachable-requires c =
    let g = goal.at.unreachable-requires c in
    let h = here g.In-Some (road g.After-into_iter-n-iterator) in
    let line = c.args.line.now in
    let p = cell_at c.requires.stands.0 (texts line) (length c.loop-n.yielded) c.in-Some.text.now (cells_from c.requires.stands.0 line c.requires.stands.1) h.0 h.2 in
    c.in-None-read_cell.ensures p.0 p.1

pub loop-n-preserved : goal.loop-n-preserved
loop-n-preserved c =
    let g = goal.at.loop-n-preserved c in
    let h = here g.In-Some (road g.After-into_iter-n-iterator) in
    let line = c.args.line.now in (
      search rules,
      search rules,
      one_more (texts line) c.loop-n.row (length c.loop-n.yielded) c.in-Some.n _ c.in-Some-read_cell.cell c.in-Some.text.now c.loop-n.invariant.2 h (omega (arith, h.0, length-texts line)) (length_push c.loop-n.yielded (c.in-Some.n, c.in-Some.text)) c.in-Some-read_cell.ensures,
    )

pub returns : goal.returns
returns c =
    let g = goal.at.returns c in
    let line = c.args.line.now in
    let n = length c.loop-n.yielded in
    let done = YieldsList-end (road g.After-into_iter-n-iterator) c.loop-n.yielded c.loop-n.n-iterator c.loop-n.yielded_by c.next.result c.next.new.self c.in-None.is c.next.ensures.steps in
    let all : n ≡ length (texts line) = done.1 ∙ length-enumerate_from 0 (texts line) in
    means_from c.loop-n.row line (subst (AllZip Writes c.loop-n.row) (take_all n (texts line) (omega arith)) (subst (λ r. AllZip Writes r (take n (texts line))) (take_all n c.loop-n.row (omega (arith, length-texts line))) c.loop-n.invariant.2))

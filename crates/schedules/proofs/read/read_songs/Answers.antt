use Rattle.std.proofs.Common.{◌≡◌, ◌<◌, false, not, eqb, [], ◌∷◌, map, length, get_or, drop, Err, sym, ap, ◌∙◌, subst, arith}
use Rattle.std.proofs.lemmas.Slice.Eq.{bytes_eq-Decides}
use Rattle.std.proofs.lemmas.Bool.{both_ways, not-false}
use Rattle.std.specs.Cmp.Lexicographic.{pointwise}
use Rattle.lines.specs.Written.{line_at, behind}
use Rattle.texts.specs.Items.{item_of, items, lines_of}
use Rattle.schedules.specs.Blocks.{names}
use Rattle.schedules.specs.Walks.{brought, brought_from}
use Rattle.schedules.specs.Reads.{ReadSongs}
use Rattle.schedules.proofs.Parting.{first_line, line_zero}
use Rattle.schedules.proofs.Taking.{Taking, taking_more, taking_all, taking_failed, songs_read, passed_up}
use Rattle.schedules.proofs.read.read_songs.Goals as goal
use Rattle.schedules.proofs.read.read_songs.Goals.{In-Some, After-into_iter-line-iterator}

-- the line that is told is the first
first : (c : In-Some) → get_or (lines_of c.args.text.now) 0 [] ≡ c.in-Some.names.now
first c =
    let start = c.new-lines.ensures in
    line_zero c.args.text.now ∙ sym (c.in-Some.ensures.steps.1 ∙ (λ i. line_at (start.0 i) (start.1 i)))

named : (c : In-Some) → not (pointwise eqb c.in-Some.names.now names) ≡ false → get_or (lines_of c.args.text.now) 0 [] ≡ names
named c e = first c ∙ (bytes_eq-Decides c.in-Some.names.now names).0 (not-false _ e)

-- what is left behind that line, as rows
left : (c : After-into_iter-line-iterator) → brought c.into_iter-line-iterator.result ≡ brought_from 1 (map (item_of 2) (drop 1 (lines_of c.args.text.now)))
left c =
    let text = c.args.text.now in
    let start = c.new-lines.ensures in
    let step = c.in-Some.ensures.steps in
    let some : 0 < length text = omega (arith, step.0, start.1, ap length start.0) in
    let at : c.next.new.self.at ≡ behind text 0 = step.3 ∙ (λ i. behind (start.0 i) (start.1 i)) in
    let before : c.next.new.self.before ≡ 1 = omega (arith, step.4, start.2) in
    ap brought c.into_iter-line-iterator.ensures.into_iter_gives
    ∙ ap (λ l. brought_from l.before (items 2 (drop l.at l.text.now))) c.rows-line-items.ensures
    ∙ (λ i. brought_from (before i) (items 2 (drop (at i) ((step.2 ∙ start.0) i))))
    ∙ ap (λ ls. brought_from 1 (map (item_of 2) (drop 1 ls))) (sym (first_line text 0 some))

pub returns-then-ne : goal.returns-then-ne
returns-then-ne c e =
    let s = (goal.at.returns-then-ne c).In-Some in
    let same = (bytes_eq-Decides c.in-Some.names.now names).1 (sym (first s) ∙ e) in
    both_ways _ (ap not same) (sym c.ne.ensures ∙ c.if-ne.true)

pub loop-line-preserved : goal.loop-line-preserved
loop-line-preserved c =
    taking_more _ c.in-Some-line.line _ c.loop-line.songs c.take.new.self
    (subst (λ ls. Taking (brought c.into_iter-line-iterator.result) ls c.loop-line.songs) c.in-Some-line.ensures.steps c.loop-line.invariant)
    c.in_ok-take.ensures

pub returns-in_err-take : goal.returns-in_err-take
returns-in_err-take c =
    let a = (goal.at.returns-in_err-take c).After-into_iter-line-iterator in
    let n = named (goal.at.returns-in_err-take c).In-Some (sym c.ne.ensures ∙ c.if-ne.false) in
    let e = c.in_err-take.field-0.0 in
    let ls = drop 1 (lines_of c.args.text.now) in
    let k : Taking (brought_from 1 (map (item_of 2) ls)) (c.in-Some-line.line ∷ brought c.next-in-loop-line.new.self) c.loop-line.songs =
    subst (λ xs. Taking (brought_from 1 (map (item_of 2) ls)) xs c.loop-line.songs) c.in-Some-line.ensures.steps
    (subst (λ xs. Taking xs (brought c.loop-line.line-iterator) c.loop-line.songs) (left a) c.loop-line.invariant) in
    subst (ReadSongs (lines_of c.args.text.now)) (sym (passed_up c.from_residual.result e c.from_residual.ensures.1))
    (songs_read (lines_of c.args.text.now) (Err e) n (taking_failed ls c.in-Some-line.line _ c.loop-line.songs c.take.new.self e k c.in_err-take.ensures))

pub returns : goal.returns
returns c =
    let a = (goal.at.returns c).After-into_iter-line-iterator in
    let n = named (goal.at.returns c).In-Some (sym c.ne.ensures ∙ c.if-ne.false) in
    let ls = drop 1 (lines_of c.args.text.now) in
    let k : Taking (brought_from 1 (map (item_of 2) ls)) [] c.loop-line.songs =
    subst (λ xs. Taking (brought_from 1 (map (item_of 2) ls)) xs c.loop-line.songs) c.in-None.ensures.steps.0
    (subst (λ xs. Taking xs (brought c.loop-line.line-iterator) c.loop-line.songs) (left a) c.loop-line.invariant) in
    (n, taking_all ls c.loop-line.songs k)

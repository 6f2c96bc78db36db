use Rattle.std.proofs.Common.{◌≡◌, Bool, cond, List, [], ◌∷◌, ◌++◌, length, get_or, vec_items, sym, ap, ◌∙◌, append_assoc, append-nil, arith}
use Rattle.memory.specs.Rows.{rows_in}
use Rattle.memory.proofs.Cuts.{get_or-rows_from, length-rows_from}
use Rattle.verdicts.specs.Truths.{is_true}
use Rattle.clashes.specs.declared.loops.Pair.{Pair}
use Rattle.clashes.proofs.Listing.{row_front, row_more}
use Rattle.clashes.proofs.loops.add_row.Goals as goal
use Rattle.clashes.proofs.loops.add_row.Goals.{then-is_true+in_ok-push, else-is_true}

pub loop-j-preserved : goal.loop-j-preserved
loop-j-preserved g c =
    let says = g.V.Verdict.says c.args.verdict.now in
    let t = c.args.right.now in
    let row = c.args.row.now in
    let i = c.args.i in
    let j = c.loop-j.j in
    let here : get_or (rows_in t) j [] ≡ c.row.result.now = get_or-rows_from t.count t.columns t.cells.now j (omega arith) ∙ sym c.row.ensures in
    let clash : c.is_true.result ≡ is_true (says row (get_or (rows_in t) j [])) = c.is_true.ensures ∙ ap is_true c.ask.ensures ∙ ap (λ r. is_true (says row r)) (sym here) in
    let more : Bool → List Pair = λ b. cond b (record { left = i; right = j } ∷ []) [] in
    let added : vec_items c.if-is_true.found ≡ vec_items c.loop-j.found ++ more c.is_true.result =
    elim c.if-is_true.branch [ then-is_true+in_ok-push w ↦ ap vec_items w.found-is ∙ w.in_ok-push.ensures.items ∙ sym (ap (λ b. vec_items c.loop-j.found ++ more b) w.if-is_true.true) | else-is_true w ↦ ap vec_items w.found-is ∙ sym (append-nil (vec_items c.loop-j.found)) ∙ sym (ap (λ b. vec_items c.loop-j.found ++ more b) w.if-is_true.false) ] in
    added
    ∙ ap (λ xs. xs ++ more c.is_true.result) c.loop-j.invariant
    ∙ append_assoc (vec_items c.args.found.now) (row_front says [] (rows_in t) i row j) (more c.is_true.result)
    ∙ ap (λ xs. vec_items c.args.found.now ++ xs) (ap (λ b. row_front says [] (rows_in t) i row j ++ more b) clash ∙ sym (row_more says [] (rows_in t) i row j))

pub returns : goal.returns
returns g c =
    let t = c.args.right.now in
    let all : c.loop-j.j ≡ length (rows_in t) = omega (arith, length-rows_from t.count t.columns t.cells.now) in
    c.loop-j.invariant ∙ ap (λ n. vec_items c.args.found.now ++ row_front (g.V.Verdict.says c.args.verdict.now) [] (rows_in t) c.args.i c.args.row.now n) all

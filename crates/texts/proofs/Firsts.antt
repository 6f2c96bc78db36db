-- The first line of what is left of a text, and what it brings.
use Rattle.std.proofs.Common.{◌≡◌, ℕ, suc, ◌+◌, ◌<◌, Bool, true, false, cond, not, eqb, List, [], ◌∷◌, map, length, take, drop, Ok, Err, Result, sym, refl, ap, ◌∙◌, subst, inl, inr, ⊎_elim, arith, length-drop}
use Rattle.std.specs.Result.{is_err}
use Rattle.std.proofs.lemmas.List.{drop_all, drop-drop}
use Rattle.std.proofs.lemmas.Bool.{cond-true, cond-false, eq-eqb, ne_eqb, lt-ltb, cases_lt}
use Rattle.cells.specs.declared.full.Full.{Full}
use Rattle.lines.specs.declared.reader.Answer.{Answer}
use Rattle.lines.specs.declared.reader.Answer.TheVariants.{Row, End}
use Rattle.lines.specs.declared.reader.LineRefusal.{LineRefusal}
use Rattle.lines.specs.declared.reader.LineRefusal.TheVariants.{Miscounted, Malformed}
use Rattle.lines.specs.Written.{Means, commas, before, line_at, behind, passed}
use Rattle.lines.specs.Rows.{Read}
use Rattle.lines.proofs.Splits.{means_count}
use Rattle.lines.proofs.Once.{means_once}
use Rattle.lines.proofs.Decided.{row_decided}
use Rattle.texts.specs.Items.{good, bad, item_of, front, lines_of, items, Next}

first_by : (b : ℕ) (bs : List ℕ) (e : Bool) → eqb b 10 ≡ e
    → (0 < length bs → lines_of bs ≡ take (before 10 bs) bs ∷ lines_of (drop (suc (before 10 bs)) bs))
    → cond e ([] ∷ lines_of bs) (front b (lines_of bs)) ≡ take (cond (not e) (1 + before 10 bs) 0) (b ∷ bs) ∷ lines_of (drop (suc (cond (not e) (1 + before 10 bs) 0)) (b ∷ bs))
first_by b bs true e more = refl
first_by b [] false e more = refl
first_by b (x ∷ bs) false e more =
    let m = before 10 (x ∷ bs) in
    let one : 1 + m ≡ suc m = omega arith in
    ap (front b) (more (omega arith)) ∙ ap (λ n. take n (b ∷ x ∷ bs) ∷ lines_of (drop (suc n) (b ∷ x ∷ bs))) (sym one)

pub lines_first : (bs : List ℕ) → 0 < length bs → lines_of bs ≡ take (before 10 bs) bs ∷ lines_of (drop (suc (before 10 bs)) bs)
lines_first [] h = absurd (omega arith)
lines_first (b ∷ bs) h = first_by b bs (eqb b 10) refl (lines_first bs)

-- what is left behind a line
pub left_behind : (text : List ℕ) (at : ℕ) → at < length text → drop (suc (before 10 (drop at text))) (drop at text) ≡ drop (behind text at) text
left_behind text at h =
    let m = before 10 (drop at text) in
    let d = drop-drop (suc m) at text in
    ⊎_elim
    (λ l. d ∙ ap (λ n. drop n text) (omega arith))
    (λ l. d ∙ drop_all (at + suc m) text (omega arith) ∙ sym (drop_all (behind text at) text (omega arith)))
    (cases_lt (at + m) (length text))

pub items_first : (w : ℕ) (text : List ℕ) (at : ℕ) → at < length text → items w (drop at text) ≡ item_of w (line_at text at) ∷ items w (drop (behind text at) text)
items_first w text at h =
    let some : 0 < length (drop at text) = omega (arith, length-drop at text) in
    ap (map (item_of w)) (lines_first (drop at text) some) ∙ ap (λ l. item_of w (line_at text at) ∷ items w l) (left_behind text at h)

item_good : (w : ℕ) (line : List ℕ) (r : List Full) → length r ≡ w → Means r line → item_of w line ≡ good r
unfolding item_of
item_good w line r l k =
    cond-true _ _ _ (eq-eqb (commas line + 1) w (means_count r line k ∙ l))
    ∙ elim (row_decided line) as (λ d. ⊎_elim (λ p. good p.0) (λ _. bad Malformed) d ≡ good r) [ inl p ↦ ap good (means_once line p.0 r p.1 k) | inr n ↦ absurd (n r k) ]

item_miscounted : (w : ℕ) (line : List ℕ) → (commas line + 1 ≡ w → ⊥) → item_of w line ≡ bad Miscounted
unfolding item_of
item_miscounted w line h = cond-false _ _ _ (ne_eqb _ _ h)

item_malformed : (w : ℕ) (line : List ℕ) → commas line + 1 ≡ w → ((r : List Full) → Means r line → ⊥) → item_of w line ≡ bad Malformed
unfolding item_of
item_malformed w line e h =
    cond-true _ _ _ (eq-eqb _ _ e)
    ∙ elim (row_decided line) as (λ d. ⊎_elim (λ p. good p.0) (λ _. bad Malformed) d ≡ bad Malformed) [ inl p ↦ absurd (h p.0 p.1) | inr n ↦ refl ]

-- from what a reader ensures to the item that it answers
pub next_row : (text : List ℕ) (at : ℕ) (row r : List Full) (n : ℕ) → Read text at row (Ok Row) r n → Next (length row) text at row (Ok Row) r n
next_row text at row r n h =
    let w = length row in
    (items_first w text at h.0 ∙ ap (λ i. i ∷ items w (drop (behind text at) text)) (item_good w (line_at text at) r h.3 h.1) ∙ ap (λ x. good r ∷ items w (drop x text)) (sym h.2), h.3, h.0, h.2)

next_end : (text : List ℕ) (at : ℕ) (row r : List Full) (n : ℕ) → Read text at row (Ok End) r n → Next (length row) text at row (Ok End) r n
next_end text at row r n h = (ap (items (length row)) (drop_all at text h.0), h.1, h.2, h.0)

pub next_refused : (text : List ℕ) (at : ℕ) (row : List Full) (e : LineRefusal) (r : List Full) (n m : ℕ) → Read text at row (Err e) r n → m ≡ behind text at → Next (length row) text at row (Err e) r m
next_refused text at row Miscounted r n m h p =
    let w = length row in
    (items_first w text at h.0 ∙ ap (λ i. i ∷ items w (drop (behind text at) text)) (item_miscounted w (line_at text at) h.1) ∙ ap (λ x. bad Miscounted ∷ items w (drop x text)) (sym p), h.2, h.0, p)
next_refused text at row Malformed r n m h p =
    let w = length row in
    (items_first w text at h.0 ∙ ap (λ i. i ∷ items w (drop (behind text at) text)) (item_malformed w (line_at text at) h.1 h.2) ∙ ap (λ x. bad Malformed ∷ items w (drop x text)) (sym p), h.3, h.0, p)

-- a refused reader has not moved, and its line is passed then
refused_passed : (text : List ℕ) (at : ℕ) (row : List Full) (e : LineRefusal) (r : List Full) (n : ℕ) → Read text at row (Err e) r n → passed text n ≡ behind text at
refused_passed text at row Miscounted r n h = ap (passed text) h.3 ∙ cond-true _ _ _ (lt-ltb _ _ h.0)
refused_passed text at row Malformed r n h = ap (passed text) h.4 ∙ cond-true _ _ _ (lt-ltb _ _ h.0)

pub next_read : (text : List ℕ) (at : ℕ) (row : List Full) (x : Result Answer LineRefusal) (r : List Full) (n m : ℕ) → Read text at row x r n → m ≡ cond (is_err x) (passed text n) n → Next (length row) text at row x r m
next_read text at row (Ok Row) r n m h e = subst (Next (length row) text at row (Ok Row) r) (sym e) (next_row text at row r n h)
next_read text at row (Ok End) r n m h e = subst (Next (length row) text at row (Ok End) r) (sym e) (next_end text at row r n h)
next_read text at row (Err f) r n m h e = next_refused text at row f r n m h (e ∙ refused_passed text at row f r n h)

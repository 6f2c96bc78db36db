-- What add does to the rows of a table, for one row and for many.
use Rattle.std.proofs.Common.{◌≡◌, ℕ, ◌+◌, ◌*◌, ◌<◌, ◌≤◌, Bool, true, false, cond, not, ◌||◌, eqb, ltb, leb, List, [], ◌∷◌, ◌++◌, length, drop, is_some, Some, None, Option, sym, refl, ap, ◌∙◌, append_assoc, append-nil, mul-le-mul_right, add-mul, one-mul, zero-add, arith}
use Rattle.std.specs.List.{AllByRecursion}
use Rattle.std.proofs.lemmas.Bool.{cond-true, cond-false, eq-eqb, eqb-true, lt-leb, le-ltb, ltb-false, leb-true, not_from_true, not-false, or_from, or_parts}
use Rattle.memory.specs.Rows.{put_row}
use Rattle.memory.proofs.Pages.{rows_put, length-put_row, drop-put_row}
use Rattle.tables.specs.declared.refusal.TableRefusal.{TableRefusal}
use Rattle.tables.specs.declared.refusal.TableRefusal.TheVariants.{RowLength, Full}
use Rattle.tables.specs.Tables.{Table, table, rows_of, add_refusal, with_row, added, added_all}
use Rattle.tables.specs.Laws.{HoldsRows}

-- of two refusals in turn, none is given only where neither condition fits
neither : (x y : Bool) (p q : TableRefusal) → cond x (Some p) (cond y (Some q) None) ≡ None → (x ≡ false) × (y ≡ false)
neither true y p q e = absurd (let z : ◌≡◌ {A = ℕ} 0 1 = cc in omega arith)
neither false true p q e = absurd (let z : ◌≡◌ {A = ℕ} 0 1 = cc in omega arith)
neither false false p q e = (refl, refl)

module _ {C : Type 0} (t : Table C) (row : List C) where
  pub accepts : length row ≡ t.columns → t.rows < 4096 → t.rows * t.columns + t.columns ≤ length t.cells → add_refusal t row ≡ None
  accepts e h k =
      cond-false (not (eqb (length row) t.columns)) _ _ (not_from_true _ (eq-eqb (length row) t.columns e))
      ∙ cond-false (leb 4096 t.rows || ltb (length t.cells) (t.rows * t.columns + t.columns)) _ _
      (or_from _ _ (lt-leb 4096 t.rows h) (le-ltb (length t.cells) (t.rows * t.columns + t.columns) k))

  pub accepted : add_refusal t row ≡ None → (length row ≡ t.columns) × (t.rows * t.columns + t.columns ≤ length t.cells)
  accepted e =
      let n = neither (not (eqb (length row) t.columns)) (leb 4096 t.rows || ltb (length t.cells) (t.rows * t.columns + t.columns)) RowLength Full e in
      let room = or_parts (leb 4096 t.rows) (ltb (length t.cells) (t.rows * t.columns + t.columns)) n.1 in
      (eqb-true (length row) t.columns (not-false (eqb (length row) t.columns) n.0), ltb-false (length t.cells) (t.rows * t.columns + t.columns) room.1)

  pub added_is : add_refusal t row ≡ None → added t row ≡ with_row t row
  added_is e = ap (λ (o : Option TableRefusal). cond (is_some o) t (with_row t row)) e

  one_at : (o : Option TableRefusal) → add_refusal t row ≡ o → rows_of (cond (is_some o) t (with_row t row)) ≡ rows_of t ++ cond (is_some o) [] (row ∷ [])
  one_at None e = let f = accepted e in rows_put t.rows t.columns t.cells row f.0 (omega (arith, f.1))
  one_at (Some x) e = sym (append-nil (rows_of t))

  -- the rows held, after one more is added
  pub rows_added : rows_of (added t row) ≡ rows_of t ++ cond (is_some (add_refusal t row)) [] (row ∷ [])
  rows_added = one_at (add_refusal t row) refl

  -- what the code does where it accepts
  module _ (e : length row ≡ t.columns) (h : t.rows < 4096) (r : Bool) (ys : List C) (room : r ≡ leb (t.rows * t.columns + length row) (length t.cells)) (put : ys ≡ cond r (put_row t.cells (t.rows * t.columns) row) t.cells) (took : r ≡ true) where
    pub none_fits : add_refusal t row ≡ None
    none_fits = accepts e h (omega (arith, leb-true (t.rows * t.columns + length row) (length t.cells) (sym room ∙ took)))

    pub as_added : table t.columns (t.rows + 1) ys ≡ added t row
    as_added = ap (table t.columns (t.rows + 1)) (put ∙ cond-true r _ _ took) ∙ sym (added_is none_fits)

    pub rows_one_more : rows_of (table t.columns (t.rows + 1) ys) ≡ rows_of t ++ row ∷ []
    rows_one_more = ap (λ u. rows_of u) as_added ∙ rows_added ∙ ap (λ (o : Option TableRefusal). rows_of t ++ cond (is_some o) [] (row ∷ [])) none_fits

-- rows of one width that fit behind those held, added one after another
module _ {C : Type 0} (c : ℕ) where
  pub all-added : (n : ℕ) (xs : List C) (rs : List (List C)) → AllByRecursion (λ r. length r ≡ c) rs → n + length rs ≤ 4096 → (n + length rs) * c ≤ length xs →
      (rows_of (added_all (table c n xs) rs) ≡ rows_of (table c n xs) ++ rs) × (drop ((n + length rs) * c) (added_all (table c n xs) rs).cells ≡ drop ((n + length rs) * c) xs)
  all-added n xs [] w h k = (sym (append-nil (rows_of (table c n xs))), refl)
  all-added n xs (r ∷ rs) w h k =
      let t : Table C = table c n xs in
      let ys : List C = put_row xs (n * c) r in
      let all : ℕ = ((n + 1) + length rs) * c in
      let m : n + length (r ∷ rs) ≡ (n + 1) + length rs = omega arith in
      let p : (n + length (r ∷ rs)) * c ≡ all = ap (λ a. a * c) m in
      let q : (n + 1) * c ≡ n * c + c = add-mul n 1 c ∙ ap (λ a. n * c + a) (one-mul c) in
      let s : (n + 1) * c ≤ all = mul-le-mul_right c (omega arith) in
      let wide : length r ≡ c = w.0 in
      let fit : n * c + length r ≤ length xs = omega arith in
      let long : length ys ≡ length xs = length-put_row (n * c) xs r fit in
      let step : added t r ≡ table c (n + 1) ys = added_is t r (accepts t r wide (omega arith) (omega arith)) in
      let rest = all-added (n + 1) ys rs w.1 (omega arith) (omega arith) in (
        ap (λ (u : Table C). rows_of (added_all u rs)) step
            ∙ rest.0
            ∙ ap (λ (z : List (List C)). z ++ rs) (rows_put n c xs r wide (omega arith))
            ∙ append_assoc (rows_of t) (r ∷ []) rs,
        ap (λ (u : Table C). drop ((n + length (r ∷ rs)) * c) (added_all u rs).cells) step
            ∙ rw p (rest.1 ∙ drop-put_row (n * c) xs r fit all (omega arith)),
      )

-- what holds of every kind of cell
pub holds_rows : (C : Type 0) → HoldsRows C
holds_rows C = record {
  one = rows_added;
  in_order = λ c xs rs w h k. (all-added c 0 xs rs w (omega arith) (rw (zero-add (length rs)) k)).0;
  behind = λ c xs rs w h k. rw (zero-add (length rs)) at (all-added c 0 xs rs w (omega arith) (rw (zero-add (length rs)) k)).1;
}

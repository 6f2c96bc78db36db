-- What a handler does, branch by branch: for the code's proof, which knows the tests.
use Rattle.std.proofs.Common.{◌≡◌, ℕ, ◌+◌, ◌*◌, ◌<◌, ◌≤◌, min, max, Bool, true, false, cond, not, ◌&&◌, eqb, ltb, leb, List, [], ◌∷◌, ◌++◌, length, take, drop, Some, None, sym, refl, ap, ◌∙◌, subst, ap₂, arith}
use Rattle.std.specs.List.{AllByRecursion}
use Rattle.std.proofs.lemmas.Bool.{le-leb, lt-leb, lt-ltb, le-ltb, leb-true, ltb-false, eqb-true, and_parts, not-false}
use Rattle.memory.specs.Items.{Item}
use Rattle.join_types.specs.Types.{some_rest, left_rest_of}
use Rattle.nested_loop.specs.Model.{Setup, right_rest_of}
use Rattle.nested_loop.specs.Loop.{left_rest, right_rest}
use Rattle.nested_loop.specs.Machine.{on, FetchingRight, ProbeRight, EmitRightUnmatched, EmitLeftUnmatched, Handled, handled, handle, probe_right, deliver, meet, rows_met, emit_right_unmatched, emit_left_unmatched, flush, Probe}
use Rattle.nested_loop.specs.declared.answer.StepRefusal.{StepRefusal}
use Rattle.nested_loop.specs.declared.answer.StepRefusal.TheVariants.{NoSuchProbe, LeftTooShort, OtherColumns, PageTooShort}
use Rattle.runs.specs.Records.{Call, view_at}
use Rattle.memory.specs.Conditions.{first_of}
use Rattle.runs.specs.Calls.{Moves, call_handled, refusal_of, short_page}

module _ {C : Type 0} (S : Setup C) (bits : List Bool) (n : ℕ) (w : List (List C)) (is : List (Item C)) where
  abbrev L : ℕ
  L = length S.table

  -- B or more rows wait
  pub probe_delivers : (b : List (List C)) (ms : List Bool) (i : ℕ) → S.batch_size ≤ length w →
      handle S bits n (ProbeRight b ms i) w is ≡ deliver S bits n (ProbeRight b ms i) w is
  probe_delivers b ms i h =
      ap (λ (f : Bool). probe_right S f (ltb i L) (some_rest (right_rest_of S.join_type)) bits n b ms i w is) (le-leb S.batch_size (length w) h)

  pub probe_meets : (b : List (List C)) (ms : List Bool) (i : ℕ) → length w < S.batch_size → i < L →
      handle S bits n (ProbeRight b ms i) w is ≡ meet S (take (rows_met S (length b) i) (drop i S.table)) bits n b ms i w is
  probe_meets b ms i h k =
      ap₂ (λ (f g : Bool). probe_right S f g (some_rest (right_rest_of S.join_type)) bits n b ms i w is) (lt-leb S.batch_size (length w) h) (lt-ltb i L k)

  pub probe_rests : (b : List (List C)) (ms : List Bool) (i : ℕ) → length w < S.batch_size → L ≤ i → some_rest (right_rest_of S.join_type) ≡ true →
      handle S bits n (ProbeRight b ms i) w is ≡ handled on bits n (EmitRightUnmatched b ms) w is
  probe_rests b ms i h k r =
      ap₂ (λ (f g : Bool). probe_right S f g (some_rest (right_rest_of S.join_type)) bits n b ms i w is) (lt-leb S.batch_size (length w) h) (le-ltb i L k)
      ∙ ap (λ (f : Bool). probe_right S false false f bits n b ms i w is) r

  pub probe_fetches : (b : List (List C)) (ms : List Bool) (i : ℕ) → length w < S.batch_size → L ≤ i → some_rest (right_rest_of S.join_type) ≡ false →
      handle S bits n (ProbeRight b ms i) w is ≡ handled on bits n FetchingRight w is
  probe_fetches b ms i h k r =
      ap₂ (λ (f g : Bool). probe_right S f g (some_rest (right_rest_of S.join_type)) bits n b ms i w is) (lt-leb S.batch_size (length w) h) (le-ltb i L k)
      ∙ ap (λ (f : Bool). probe_right S false false f bits n b ms i w is) r

  pub right_delivers : (b : List (List C)) (ms : List Bool) → S.batch_size ≤ length w →
      handle S bits n (EmitRightUnmatched b ms) w is ≡ deliver S bits n (EmitRightUnmatched b ms) w is
  right_delivers b ms h = ap (λ (f : Bool). emit_right_unmatched S f bits n b ms w is) (le-leb S.batch_size (length w) h)

  pub right_appends : (b : List (List C)) (ms : List Bool) → length w < S.batch_size →
      handle S bits n (EmitRightUnmatched b ms) w is ≡ handled on bits n FetchingRight (w ++ right_rest S b ms) is
  right_appends b ms h = ap (λ (f : Bool). emit_right_unmatched S f bits n b ms w is) (lt-leb S.batch_size (length w) h)

  abbrev more : Bool → ℕ → Bool
  more mine i = mine && (some_rest (left_rest_of S.join_type) && ltb i L)

  pub left_delivers : (mine : Bool) (i : ℕ) → S.batch_size ≤ length w →
      handle S bits n (EmitLeftUnmatched mine i) w is ≡ deliver S bits n (EmitLeftUnmatched mine i) w is
  left_delivers mine i h = ap (λ (f : Bool). emit_left_unmatched S f (more mine i) bits n mine i w is) (le-leb S.batch_size (length w) h)

  pub left_appends : (mine : Bool) (i : ℕ) → length w < S.batch_size → mine ≡ true → some_rest (left_rest_of S.join_type) ≡ true → i < L →
      handle S bits n (EmitLeftUnmatched mine i) w is
      ≡ handled on bits n (EmitLeftUnmatched mine (min (i + S.batch_size) L))
      (w ++ left_rest S (take S.batch_size (drop i S.table)) (take S.batch_size (drop i bits))) is
  left_appends mine i h a r k =
      ap₂ (λ (f g : Bool). emit_left_unmatched S f g bits n mine i w is) (lt-leb S.batch_size (length w) h)
      (ap₂ (λ (x y : Bool). x && (y && ltb i L)) a r ∙ lt-ltb i L k)

  pub left_flushes : (mine : Bool) (i : ℕ) → length w < S.batch_size → more mine i ≡ false →
      handle S bits n (EmitLeftUnmatched mine i) w is ≡ flush S bits n mine i w is
  left_flushes mine i h m = ap₂ (λ (f g : Bool). emit_left_unmatched S f g bits n mine i w is) (lt-leb S.batch_size (length w) h) m

-- the handler's branch may stand in place of the handler
pub moves_by : {C : Type 0} (S : Setup C) (p : Probe C) (c : Call C) (m : Handled C) → call_handled S p c ≡ m → Moves S p c m → Moves S p c (call_handled S p c)
moves_by S p c m e h = subst (Moves S p c) (sym e) h

-- an accepted call is refused for no reason on the list
pub first_none : {X : Type 0} (xs : List (Bool × X)) → first_of xs ≡ None → AllByRecursion (λ x. x.0 ≡ false) xs
first_none [] h = tt
first_none {X} (x ∷ xs) h = go x.0 refl h (first_none xs)
  where
    go : (b : Bool) → x.0 ≡ b → cond b (Some x.1) (first_of xs) ≡ None → (first_of xs ≡ None → AllByRecursion (λ x. x.0 ≡ false) xs) → (x.0 ≡ false) × AllByRecursion (λ x. x.0 ≡ false) xs
    go true e h ih = absurd (let z : ◌≡◌ {A = ℕ} 0 1 = cc in omega arith)
    go false e h ih = (e, ih h)

pub record Accepted {C : Type 0} (c : Call C) : Type 0 where
  pub from_one : 1 ≤ c.probe
  pub among : c.probe ≤ length c.join.probes
  pub left : c.join.left_rows * c.join.left_columns ≤ length c.left
  pub cols : c.cols ≡ c.join.terms.right_columns
  pub pages : short_page c (max (view_at c.probe c.join).largest c.most) ≡ false

pub accepted : {C : Type 0} (c : Call C) → refusal_of c ≡ None → Accepted c
accepted c h =
    let a = first_none {X = StepRefusal} (
    (not (leb 1 c.probe && leb c.probe (length c.join.probes)), NoSuchProbe)
    ∷ (ltb (length c.left) (c.join.left_rows * c.join.left_columns), LeftTooShort)
    ∷ (not (eqb c.cols c.join.terms.right_columns), OtherColumns)
    ∷ (short_page c (max (view_at c.probe c.join).largest c.most), PageTooShort) ∷ []) h in
    let r = and_parts (leb 1 c.probe) (leb c.probe (length c.join.probes)) (not-false (leb 1 c.probe && leb c.probe (length c.join.probes)) a.0) in
    record {
      from_one = leb-true 1 c.probe r.0;
      among = leb-true c.probe (length c.join.probes) r.1;
      left = ltb-false (length c.left) (c.join.left_rows * c.join.left_columns) a.1.0;
      cols = eqb-true c.cols c.join.terms.right_columns (not-false (eqb c.cols c.join.terms.right_columns) a.1.1.0);
      pages = a.1.1.1.0;
    }

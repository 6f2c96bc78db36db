-- Pairs met one by one are the nested loop's pairs.
use Rattle.std.proofs.Common.{◌≡◌, ℕ, zero, suc, ◌+◌, ◌-◌, ◌*◌, ◌<◌, ◌≤◌, min, Bool, true, false, cond, ◌&&◌, ◌||◌, List, [], ◌∷◌, ◌++◌, map, length, drop, set, sym, refl, ap, ◌∙◌, append_assoc, append-nil, mul-le-mul_right, suc-mul, add-one, arith}
use Rattle.std.specs.List.{flat_map}
use Rattle.std.proofs.lemmas.List.{set-set, length-set, length-map, length-take, length-drop}
use Rattle.memory.specs.Marks.{marked, bits_of}
use Rattle.memory.specs.Output.{output_cell}
use Rattle.memory.proofs.Marking.{bits-marked}
use Rattle.nested_loop.specs.Model.{Setup, has_pairs}
use Rattle.nested_loop.specs.Loop.{is_pair, output_row, pair_of, pairs, left_matched, right_matched}
use Rattle.nested_loop.specs.Machine.{or_marks, from_row}
use Rattle.nested_loop.proofs.Marks.{also_none, also_maps, also_clear}
use Rattle.probing.specs.Waiting.{stretch, waiting_rows, appended}
use Rattle.probing.specs.Met.{Met, width, met_pair, met_row, met_range, MetRoom, MetRows}
use Rattle.probing.proofs.Appending.{room_less, appended_rows, appended-room, appended_few}

-- the same as marks and rows
pub record View (C : Type 0) : Type 0 where
  pub bits : List Bool
  pub marks : List Bool
  pub rows : List (List C)

abbrev pub seen : {C : Type 0} → List Bool → List Bool → List (List C) → View C
seen a b c = record { bits = a; marks = b; rows = c }

pub seen_same : {C : Type 0} {a a' b b' : List Bool} {c c' : List (List C)} → a ≡ a' → b ≡ b' → c ≡ c' → seen a b c ≡ seen a' b' c'
seen_same {C} {a} {a'} {b} {b'} {c} {c'} p q r = λ i. record { bits = p i; marks = q i; rows = r i }

abbrev pub set_if : Bool → List Bool → ℕ → List Bool
set_if b xs i = cond b (set xs i true) xs

set_if_if : (a b : Bool) (xs : List Bool) (i : ℕ) → set_if b (set_if a xs i) i ≡ set_if (a || b) xs i
set_if_if true true xs i = set-set xs i true true
set_if_if true false xs i = refl
set_if_if false b xs i = refl

or_from_none : (j : ℕ) (ms : List Bool) → or_marks ms (from_row j []) ≡ ms
or_from_none zero ms = also_none ms
or_from_none (suc j) [] = refl
or_from_none (suc j) (true ∷ ms) = ap (λ (r : List Bool). true ∷ r) (or_from_none j ms)
or_from_none (suc j) (false ∷ ms) = ap (λ (r : List Bool). false ∷ r) (or_from_none j ms)

or_set : (h : Bool) (j : ℕ) (ms xs : List Bool) → or_marks (set_if h ms j) (from_row (suc j) xs) ≡ or_marks ms (from_row j (h ∷ xs))
or_set true zero [] xs = refl
or_set true zero (true ∷ ms) xs = refl
or_set true zero (false ∷ ms) xs = refl
or_set false zero [] xs = refl
or_set false zero (m ∷ ms) xs = refl
or_set true (suc j) [] xs = refl
or_set false (suc j) [] xs = refl
or_set true (suc j) (m ∷ ms) xs = ap (λ (r : List Bool). (m || false) ∷ r) (or_set true j ms xs)
or_set false (suc j) (m ∷ ms) xs = ap (λ (r : List Bool). (m || false) ∷ r) (or_set false j ms xs)

or-more : (h : Bool) (j : ℕ) (ms xs : List Bool) → or_marks (set_if h ms j) (from_row (j + 1) xs) ≡ or_marks ms (from_row j (h ∷ xs))
or-more h j ms xs = ap (λ (k : ℕ). or_marks (set_if h ms j) (from_row k xs)) (add-one j) ∙ or_set h j ms xs

module _ {C : Type 0} (S : Setup C) where
  -- pairs met one by one, as marks and rows
  abbrev pair_view : ℕ → ℕ → List C → List C → View C → View C
  pair_view i j l r v = seen (set_if (is_pair S l r) v.bits i) (set_if (is_pair S l r) v.marks j) (v.rows ++ pair_of S l r)

  abbrev row_view : ℕ → List C → ℕ → List (List C) → View C → View C
  row_view i l j [] v = v
  row_view i l j (r ∷ rs) v = row_view i l (j + 1) rs (pair_view i j l r v)

  abbrev range_view : ℕ → List (List C) → List (List C) → View C → View C
  range_view i [] b v = v
  range_view i (l ∷ ls) b v = range_view (i + 1) ls b (row_view i l 0 b v)

  -- and all together
  row_view_is : (i : ℕ) (l : List C) (j : ℕ) (rs : List (List C)) (v : View C) → row_view i l j rs v ≡ seen (set_if (left_matched S rs l) v.bits i) (or_marks v.marks (from_row j (map (is_pair S l) rs))) (v.rows ++ flat_map (pair_of S l) rs)
  row_view_is i l j [] v = seen_same refl (sym (or_from_none j v.marks)) (sym (append-nil v.rows))
  row_view_is i l j (r ∷ rs) v =
      row_view_is i l (j + 1) rs (pair_view i j l r v)
      ∙ seen_same (set_if_if (is_pair S l r) (left_matched S rs l) v.bits i) (or-more (is_pair S l r) j v.marks (map (is_pair S l) rs)) (append_assoc v.rows (pair_of S l r) (flat_map (pair_of S l) rs))

  range_view_is : (i : ℕ) (ls b : List (List C)) (v : View C) → range_view i ls b v ≡ seen (or_marks v.bits (from_row i (map (left_matched S b) ls))) (or_marks v.marks (map (right_matched S ls) b)) (v.rows ++ pairs S ls b)
  range_view_is i [] b v = seen_same (sym (or_from_none i v.bits)) (sym (also_clear v.marks b)) (sym (append-nil v.rows))
  range_view_is i (l ∷ ls) b v =
      range_view_is (i + 1) ls b (row_view i l 0 b v)
      ∙ ap (λ (z : View C). seen (or_marks z.bits (from_row (i + 1) (map (left_matched S b) ls))) (or_marks z.marks (map (right_matched S ls) b)) (z.rows ++ pairs S ls b)) (row_view_is i l 0 b v)
      ∙ seen_same (or-more (left_matched S b l) i v.bits (map (left_matched S b) ls)) (also_maps v.marks (is_pair S l) (right_matched S ls) b) (append_assoc v.rows (flat_map (pair_of S l) b) (pairs S ls b))

  abbrev pub view : ℕ → ℕ → Met C → View C
  view n k m = seen (bits_of n m.lefts) (bits_of k m.rights) (waiting_rows (width S) m.waits)

  -- a pair by the two tests that settle it
  abbrev stepped : Bool → Bool → ℕ → ℕ → List C → Met C → Met C
  stepped b p i j row m =
      cond b
      (record {
        lefts = marked m.lefts i;
        rights = marked m.rights j;
        waits = cond p (appended (width S) row m.waits) m.waits;
      })
      m

  room_fewer : (L R n k : ℕ) (m : Met C) → k ≤ n → MetRoom S L R n m → MetRoom S L R k m
  room_fewer L R n k m h r = record { lefts_fit = r.lefts_fit; rights_fit = r.rights_fit; waits_fit = room_less (width S) n k m.waits h r.waits_fit }

  module _ (L R i j more : ℕ) (row : List C) (m : Met C) (wide : length row ≡ width S) (room : MetRoom S L R (suc more) m) where
    step_room : (b p : Bool) → MetRoom S L R more (stepped b p i j row m)
    step_room false p = room_fewer L R (suc more) more m (omega arith) room
    step_room true true = record {
      lefts_fit = rw length-set room.lefts_fit;
      rights_fit = rw length-set room.rights_fit;
      waits_fit = appended-room (width S) row m.waits more wide room.waits_fit;
    }
    step_room true false = record {
      lefts_fit = rw length-set room.lefts_fit;
      rights_fit = rw length-set room.rights_fit;
      waits_fit = room_less (width S) (suc more) more m.waits (omega arith) room.waits_fit;
    }

    step-view : (n k : ℕ) → i < L → j < R → (b p : Bool) → view n k (stepped b p i j row m) ≡ seen (set_if b (bits_of n m.lefts) i) (set_if b (bits_of k m.rights) j) (waiting_rows (width S) m.waits ++ cond (b && p) (row ∷ []) [])
    step-view n k hi hj false p = seen_same refl refl (sym (append-nil (waiting_rows (width S) m.waits)))
    step-view n k hi hj true true =
        seen_same (bits-marked m.lefts i n (omega (arith, room.lefts_fit))) (bits-marked m.rights j k (omega (arith, room.rights_fit)))
        (appended_rows (width S) row m.waits wide (room_less (width S) (suc more) 1 m.waits (omega arith) room.waits_fit))
    step-view n k hi hj true false =
        seen_same (bits-marked m.lefts i n (omega (arith, room.lefts_fit))) (bits-marked m.rights j k (omega (arith, room.rights_fit)))
        (sym (append-nil (waiting_rows (width S) m.waits)))

  step_few : (i j : ℕ) (row : List C) (m : Met C) (b p : Bool) → (stepped b p i j row m).waits.count ≤ m.waits.count + 1
  step_few i j row m false p = omega arith
  step_few i j row m true true = appended_few (width S) row m.waits
  step_few i j row m true false = omega arith

  module _ (L R : ℕ) where
    pair_wide : (l r : List C) → length (output_row S l r S.missing) ≡ width S
    pair_wide l r = length-map S.columns (output_cell S.missing l r S.missing)

    pair_room : (i j more : ℕ) (l r : List C) (m : Met C) → MetRoom S L R (suc more) m → MetRoom S L R more (met_pair S i j l r m)
    pair_room i j more l r m room = step_room L R i j more (output_row S l r S.missing) m (pair_wide l r) room (is_pair S l r) (has_pairs S.join_type)

    pair_view_met : (n k i j more : ℕ) (l r : List C) (m : Met C) → i < L → j < R → MetRoom S L R (suc more) m → view n k (met_pair S i j l r m) ≡ pair_view i j l r (view n k m)
    pair_view_met n k i j more l r m hi hj room = step-view L R i j more (output_row S l r S.missing) m (pair_wide l r) room n k hi hj (is_pair S l r) (has_pairs S.join_type)

    row_room : (i : ℕ) (l : List C) (j : ℕ) (rs : List (List C)) (more : ℕ) (m : Met C) → MetRoom S L R (length rs + more) m → MetRoom S L R more (met_row S i l j rs m)
    row_room i l j [] more m room = room_fewer L R (0 + more) more m (omega arith) room
    row_room i l j (r ∷ rs) more m room =
        row_room i l (j + 1) rs more (met_pair S i j l r m) (pair_room i j (length rs + more) l r m (room_fewer L R (suc (length rs) + more) (suc (length rs + more)) m (omega arith) room))

    row_view_met : (n k i : ℕ) (l : List C) (j : ℕ) (rs : List (List C)) (m : Met C) → i < L → length rs ≤ R - j → MetRoom S L R (length rs) m → view n k (met_row S i l j rs m) ≡ row_view i l j rs (view n k m)
    row_view_met n k i l j [] m hi hj room = refl
    row_view_met n k i l j (r ∷ rs) m hi hj room =
        row_view_met n k i l (j + 1) rs (met_pair S i j l r m) hi (omega arith) (pair_room i j (length rs) l r m room)
        ∙ ap (row_view i l (j + 1) rs) (pair_view_met n k i j (length rs) l r m hi (omega arith) room)

    range_view_met : (n k i : ℕ) (ls b : List (List C)) (m : Met C) → length ls ≤ L - i → length b ≤ R → MetRoom S L R (length ls * length b) m → view n k (met_range S i ls b m) ≡ range_view i ls b (view n k m)
    range_view_met n k i [] b m hi hb room = refl
    range_view_met n k i (l ∷ ls) b m hi hb room =
        let s = suc-mul (length ls) (length b) in
        range_view_met n k (i + 1) ls b (met_row S i l 0 b m) (omega arith) hb (row_room i l 0 b (length ls * length b) m (room_fewer L R _ _ m (omega arith) room))
        ∙ ap (range_view (i + 1) ls b) (row_view_met n k i l 0 b m (omega arith) (omega arith) (room_fewer L R _ _ m (omega arith) room))

  -- at most one more row waits for each pair that is asked
  row_few : (i : ℕ) (l : List C) (j : ℕ) (rs : List (List C)) (m : Met C) → (met_row S i l j rs m).waits.count ≤ m.waits.count + length rs
  row_few i l j [] m = omega arith
  row_few i l j (r ∷ rs) m = omega (arith, row_few i l (j + 1) rs (met_pair S i j l r m), step_few i j (output_row S l r S.missing) m (is_pair S l r) (has_pairs S.join_type))

  range_few : (i : ℕ) (ls b : List (List C)) (m : Met C) → (met_range S i ls b m).waits.count ≤ m.waits.count + length ls * length b
  range_few i [] b m = omega arith
  range_few i (l ∷ ls) b m = omega (arith, range_few (i + 1) ls b (met_row S i l 0 b m), row_few i l 0 b m, suc-mul (length ls) (length b))

  -- the left rows of a stretch with a batch
  module _ (L R from to : ℕ) (t b : List (List C)) (m m' : Met C) (rows : length t ≡ L) (batch : length b ≡ R) (is : m' ≡ met_range S from (stretch from to t) b m) where
    stretch_long : length (stretch from to t) ≡ min (to - from) (L - from)
    stretch_long = length-take (to - from) (drop from t) ∙ omega (arith, length-drop from t)

    asked_few : length (stretch from to t) * length b ≤ (to - from) * R
    asked_few =
        let le : length (stretch from to t) ≤ to - from = omega (arith, stretch_long) in
        let e : length (stretch from to t) * length b ≡ length (stretch from to t) * R = ap (λ n. length (stretch from to t) * n) batch in
        let le' : length (stretch from to t) * R ≤ (to - from) * R = mul-le-mul_right R le in
        omega arith

    pub met_few : m'.waits.count ≤ m.waits.count + (to - from) * R
    met_few = omega (arith, ap (λ (x : Met C). x.waits.count) is, range_few from (stretch from to t) b m, asked_few)

    pub met_rows : MetRoom S L R ((to - from) * R) m → MetRows S L R from (stretch from to t) b m m'
    met_rows room =
        let less = room_fewer L R ((to - from) * R) (length (stretch from to t) * length b) m asked_few room in
        let e : view L R m' ≡ seen _ _ _ =
        ap (view L R) is
        ∙ range_view_met L R L R from (stretch from to t) b m (omega (arith, stretch_long)) (omega arith) less
        ∙ range_view_is from (stretch from to t) b (view L R m) in
        record { left_marks = ap (λ (v : View C). v.bits) e; right_marks = ap (λ (v : View C). v.marks) e; rows = ap (λ (v : View C). v.rows) e }

-- A rest that is appended row by row is the nested loop's rest.
use Rattle.std.proofs.Common.{◌≡◌, ℕ, suc, ◌+◌, ◌-◌, ◌<◌, ◌≤◌, min, Bool, true, false, cond, List, [], ◌∷◌, ◌++◌, length, get_or, drop, sym, refl, ap, ◌∙◌, ap₂, append_assoc, append-nil, arith}
use Rattle.std.proofs.lemmas.List.FromFn.{length-map-range_with_len, get_or-map-range_with_len}
use Rattle.std.proofs.lemmas.List.{length-map, length-take, take_all}
use Rattle.memory.specs.Marks.{bit, bits_of}
use Rattle.memory.specs.Output.{output_cell}
use Rattle.memory.specs.Rows.{row_at, rows_in}
use Rattle.nested_loop.specs.Model.{Setup, Rest, kept, left_rest_of, right_rest_of}
use Rattle.nested_loop.specs.Loop.{rest, left_row, right_row, mark_cell}
use Rattle.memory.specs.declared.rows.MemoryRows.{MemoryRows}
use Rattle.probing.specs.Waiting.{stretch, Waiting, waiting_rows, appended, HasRoom}
use Rattle.probing.specs.Met.{width}
use Rattle.probing.specs.Rests.{rest_appended}
use Rattle.probing.proofs.Appending.{room_less, appended_rows, appended-room, appended_few}
use Rattle.probing.proofs.Turns.{stretch-more, length-rows_in, rows_in_at}

-- a turn of the loop: what is left then gives the same as before
pub rest_turn : {C State : Type 0} (wide : ℕ) (k : Rest) (f : List C → Bool → List C) (t : MemoryRows C State) (ws : List ℕ) (i to : ℕ) (x : List C) (b : Bool) (w w' : Waiting C) → i < min to t.count → x ≡ row_at t.columns t.cells.now i → b ≡ bit ws i → w' ≡ cond (kept k b) (appended wide (f x b) w) w → rest_appended wide k f (stretch (i + 1) to (rows_in t)) (stretch (i + 1) to (bits_of t.count ws)) w' ≡ rest_appended wide k f (stretch i to (rows_in t)) (stretch i to (bits_of t.count ws)) w
rest_turn {C} wide k f t ws i to x b w w' h ex eb e =
    let bs : List Bool = bits_of t.count ws in
    let lt : i < length (rows_in t) = omega (arith, length-rows_in t) in
    let lb : i < length bs = omega (arith, length-map-range_with_len (bit ws) 0 t.count) in
    let row : get_or (rows_in t) i [] ≡ x = rows_in_at t i (omega arith) ∙ sym ex in
    let mark : get_or bs i false ≡ b = get_or-map-range_with_len (bit ws) 0 t.count i i false (omega arith) (omega arith) ∙ sym eb in
    let xs : List (List C) = stretch (i + 1) to (rows_in t) in
    let ys : List Bool = stretch (i + 1) to bs in
    let one : stretch i to (rows_in t) ≡ x ∷ xs = stretch-more (rows_in t) i to [] (omega arith) lt ∙ ap (λ (z : List C). z ∷ xs) row in
    let two : stretch i to bs ≡ b ∷ ys = stretch-more bs i to false (omega arith) lb ∙ ap (λ (z : Bool). z ∷ ys) mark in
    ap (rest_appended wide k f xs ys) e ∙ sym (ap₂ (λ (u : List (List C)) (v : List Bool). rest_appended wide k f u v w) one two)

module _ {C : Type 0} (wide : ℕ) (k : Rest) (f : List C → Bool → List C) (long : (x : List C) (b : Bool) → length (f x b) ≡ wide) where
  -- one row, by whether the rest keeps it
  one_room : (x : List C) (b : Bool) (more : ℕ) (w : Waiting C) → HasRoom wide (suc more) w → (y : Bool) → HasRoom wide more (cond y (appended wide (f x b) w) w)
  one_room x b more w r true = appended-room wide (f x b) w more (long x b) r
  one_room x b more w r false = room_less wide (suc more) more w (omega arith) r

  one_rows : (x : List C) (b : Bool) (w : Waiting C) → HasRoom wide 1 w → (y : Bool) → waiting_rows wide (cond y (appended wide (f x b) w) w) ≡ waiting_rows wide w ++ cond y (f x b ∷ []) []
  one_rows x b w r true = appended_rows wide (f x b) w (long x b) r
  one_rows x b w r false = sym (append-nil (waiting_rows wide w))

  pub rest_rows : (xs : List (List C)) (bs : List Bool) (w : Waiting C) → HasRoom wide (length xs) w → waiting_rows wide (rest_appended wide k f xs bs w) ≡ waiting_rows wide w ++ rest k f xs bs
  rest_rows [] bs w r = sym (append-nil (waiting_rows wide w))
  rest_rows (x ∷ xs) [] w r = sym (append-nil (waiting_rows wide w))
  rest_rows (x ∷ xs) (b ∷ bs) w r =
      rest_rows xs bs (cond (kept k b) (appended wide (f x b) w) w) (one_room x b (length xs) w r (kept k b))
      ∙ ap (λ (z : List (List C)). z ++ rest k f xs bs) (one_rows x b w (room_less wide (suc (length xs)) 1 w (omega arith) r) (kept k b))
      ∙ append_assoc (waiting_rows wide w) (cond (kept k b) (f x b ∷ []) []) (rest k f xs bs)

module _ {C : Type 0} (wide : ℕ) (k : Rest) (f : List C → Bool → List C) where
  one_few : (row : List C) (w : Waiting C) (y : Bool) → (cond y (appended wide row w) w).count ≤ w.count + 1
  one_few row w true = appended_few wide row w
  one_few row w false = omega arith

  -- at most one more row waits for each row that is looked at
  pub rest_few : (xs : List (List C)) (bs : List Bool) (w : Waiting C) → (rest_appended wide k f xs bs w).count ≤ w.count + length xs
  rest_few [] bs w = omega arith
  rest_few (x ∷ xs) [] w = omega arith
  rest_few (x ∷ xs) (b ∷ bs) w = omega (arith, rest_few xs bs (cond (kept k b) (appended wide (f x b) w) w), one_few (f x b) w (kept k b))

-- a stretch is no longer than its ends say, and one over all is the list itself
length-stretch : {X : Type 0} (from to : ℕ) (xs : List X) → length (stretch from to xs) ≤ to - from
length-stretch from to xs = omega (arith, length-take (to - from) (drop from xs))

pub stretch-all : {X : Type 0} (n : ℕ) (xs : List X) → length xs ≡ n → stretch 0 n xs ≡ xs
stretch-all n xs e = take_all (n - 0) xs (omega arith)

-- of all rows, and of those of a stretch
module _ {C : Type 0} (wide : ℕ) (k : Rest) (f : List C → Bool → List C) where
  pub all_few : (n : ℕ) (xs : List (List C)) (bs : List Bool) (w w' : Waiting C) → length xs ≡ n → w' ≡ rest_appended wide k f xs bs w → w'.count ≤ w.count + n
  all_few n xs bs w w' e is = omega (arith, ap (λ (x : Waiting C). x.count) is, rest_few wide k f xs bs w)

  pub stretch_few : (from to : ℕ) (xs : List (List C)) (bs : List Bool) (w w' : Waiting C) → w' ≡ rest_appended wide k f (stretch from to xs) bs w → w'.count ≤ w.count + (to - from)
  stretch_few from to xs bs w w' is = omega (arith, all_few (length (stretch from to xs)) (stretch from to xs) bs w w' refl is, length-stretch from to xs)

  module _ (long : (x : List C) (b : Bool) → length (f x b) ≡ wide) where
    pub all_rows : (n : ℕ) (xs : List (List C)) (bs : List Bool) (w w' : Waiting C) → length xs ≡ n → w' ≡ rest_appended wide k f xs bs w → HasRoom wide n w → waiting_rows wide w' ≡ waiting_rows wide w ++ rest k f xs bs
    all_rows n xs bs w w' e is r = ap (waiting_rows wide) is ∙ rest_rows wide k f long xs bs w (room_less wide n (length xs) w (omega arith) r)

    pub stretch_rows : (from to : ℕ) (xs : List (List C)) (bs : List Bool) (w w' : Waiting C) → w' ≡ rest_appended wide k f (stretch from to xs) bs w → HasRoom wide (to - from) w → waiting_rows wide w' ≡ waiting_rows wide w ++ rest k f (stretch from to xs) bs
    stretch_rows from to xs bs w w' is r =
        all_rows (length (stretch from to xs)) (stretch from to xs) bs w w' refl is (room_less wide (to - from) (length (stretch from to xs)) w (length-stretch from to xs) r)

-- each row of a rest has a cell for each output column
module _ {C : Type 0} (S : Setup C) where
  pub left_wide : (x : List C) (b : Bool) → length (left_row S x b) ≡ width S
  left_wide x b = length-map S.columns (output_cell S.missing x [] (mark_cell S (left_rest_of S.join_type) b))

  pub right_wide : (x : List C) (b : Bool) → length (right_row S x b) ≡ width S
  right_wide x b = length-map S.columns (output_cell S.missing [] x (mark_cell S (right_rest_of S.join_type) b))

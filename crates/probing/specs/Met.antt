-- What left rows that meet right rows leave: marks on both sides, and the waiting rows.
use Rattle.std.specs.Prelude.{◌≡◌, ℕ, ◌+◌, ◌*◌, ◌≤◌, cond, List, [], ◌∷◌, ◌++◌, map, length}
use Rattle.memory.specs.declared.waiting.WaitingRows.{WaitingRows}
use Rattle.memory.specs.Marks.{marked, bits_of}
use Rattle.nested_loop.specs.Model.{Setup, Truth, has_pairs}
use Rattle.nested_loop.specs.Loop.{is_pair, output_row, left_matched, right_matched, pairs}
use Rattle.nested_loop.specs.Machine.{or_marks, from_row}
use Rattle.probing.specs.declared.output.JoinOutput.{JoinOutput}
use Rattle.probing.specs.declared.pairs.PairMarks.{PairMarks}
use Rattle.probing.specs.Waiting.{Waiting, waiting_of, waits_in, waiting_rows, appended, HasRoom}

-- the words of the left marks and of the right marks, and the waiting rows
pub record Met (C : Type 0) : Type 0 where
  pub lefts : List ℕ
  pub rights : List ℕ
  pub waits : Waiting C

abbrev pub met_of : {C : Type 0} → List ℕ → List ℕ → ℕ → List C → Met C
met_of ls rs n cells = record { lefts = ls; rights = rs; waits = waiting_of n cells }

-- the same of lent memory
abbrev pub met_in : {C : Type 0} → PairMarks → WaitingRows C → Met C
met_in m w = record { lefts = m.left.now; rights = m.right.now; waits = waits_in w }

-- words of marks in the same lent memory
pub record SameWords (m m' : PairMarks) : Type 0 where
  pub left : m'.left.ghost_name ≡ m.left.ghost_name
  pub right : m'.right.ghost_name ≡ m.right.ghost_name

-- a setup with the missing cell, the verdict, the join type and the output list of a call; its other parts may be any
pub record PairsBy {C : Type 0} (S : Setup C) (none : C) (says : List C → List C → Truth) (o : JoinOutput) : Type 0 where
  pub missing_is : S.missing ≡ none
  pub verdict_is : S.verdict ≡ says
  pub type_is : S.join_type ≡ o.join_type
  pub columns_are : S.columns ≡ o.columns.now

module _ {C : Type 0} (S : Setup C) where
  abbrev pub width : ℕ
  width = length S.columns

  -- a left and a right row of which the verdict is true are marked, and where the type has pairs their output row is appended
  abbrev pub met_pair : ℕ → ℕ → List C → List C → Met C → Met C
  met_pair i j l r m =
      cond (is_pair S l r)
      (record {
        lefts = marked m.lefts i;
        rights = marked m.rights j;
        waits = cond (has_pairs S.join_type) (appended width (output_row S l r S.missing) m.waits) m.waits;
      })
      m

  -- left row i meets right rows, the first of which is row j
  abbrev pub met_row : ℕ → List C → ℕ → List (List C) → Met C → Met C
  met_row i l j [] m = m
  met_row i l j (r ∷ rs) m = met_row i l (j + 1) rs (met_pair i j l r m)

  -- left rows, the first of which is row i, meet a right batch one after another
  abbrev pub met_range : ℕ → List (List C) → List (List C) → Met C → Met C
  met_range i [] rs m = m
  met_range i (l ∷ ls) rs m = met_range (i + 1) ls rs (met_row i l 0 rs m)

  -- words for the marks of so many left and right rows, and room for so many more waiting rows
  pub record MetRoom (L r more : ℕ) (m : Met C) : Type 0 where
    pub lefts_fit : L ≤ 64 * length m.lefts
    pub rights_fit : r ≤ 64 * length m.rights
    pub waits_fit : HasRoom width more m.waits

  -- as marks and rows: what left rows from row `from` on and the right rows of a batch leave is what the nested loop has of them
  pub record MetRows (L r from : ℕ) (ls rs : List (List C)) (m m' : Met C) : Type 0 where
    pub left_marks : bits_of L m'.lefts ≡ or_marks (bits_of L m.lefts) (from_row from (map (left_matched S rs) ls))
    pub right_marks : bits_of r m'.rights ≡ or_marks (bits_of r m.rights) (map (right_matched S ls) rs)
    pub rows : waiting_rows width m'.waits ≡ waiting_rows width m.waits ++ pairs S ls rs

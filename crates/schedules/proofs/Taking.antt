-- Lines taken one after another.
use Rattle.std.proofs.Common.{◌≡◌, ℕ, ◌+◌, ◌*◌, ◌≤◌, List, [], ◌∷◌, ◌++◌, map, length, get_or, drop, Ok, Err, vec_items, Result, sym, refl, ap, ◌∙◌, append_assoc, append-nil, arith, length-append}
use Rattle.std.specs.List.{flat_map}
use Rattle.std.specs.Result.{IsErrAnd}
use Rattle.cells.specs.declared.full.Full.{Full}
use Rattle.texts.specs.Items.{LineItem, good, bad, item_of}
use Rattle.schedules.specs.declared.songs.PassedLine.{PassedLine}
use Rattle.schedules.specs.declared.songs.Songs.{Songs}
use Rattle.schedules.specs.declared.songs.SongError.{SongError}
use Rattle.schedules.specs.declared.songs.SongError.TheVariants.{NoNames, TooManyRows, NoMemory}
use Rattle.schedules.specs.Adds.{Took}
use Rattle.schedules.specs.Blocks.{names, row_of, passed_from}
use Rattle.schedules.specs.Reads.{cells_of, ReadValues, ReadSongs}
use Rattle.schedules.specs.Walks.{brought_from}

-- the rows among what lines bring, and the lines that are passed by
abbrev pub rows_among : List (Result (List Full) PassedLine) → List (List Full)
rows_among [] = []
rows_among (Ok r ∷ xs) = r ∷ rows_among xs
rows_among (Err p ∷ xs) = rows_among xs

abbrev pub passed_among : List (Result (List Full) PassedLine) → List PassedLine
passed_among [] = []
passed_among (Ok r ∷ xs) = passed_among xs
passed_among (Err p ∷ xs) = p ∷ passed_among xs

pub rows_brought : (n : ℕ) (is : List LineItem) → rows_among (brought_from n is) ≡ flat_map row_of is
rows_brought n [] = refl
rows_brought n (good r ∷ is) = ap (λ rs. r ∷ rs) (rows_brought (n + 1) is)
rows_brought n (bad e ∷ is) = rows_brought (n + 1) is

pub passed_brought : (n : ℕ) (is : List LineItem) → passed_among (brought_from n is) ≡ passed_from n is
passed_brought n [] = refl
passed_brought n (good r ∷ is) = passed_brought (n + 1) is
passed_brought n (bad e ∷ is) = ap (λ ps. record { index = n; refusal = e } ∷ ps) (passed_brought (n + 1) is)

-- what is held, and what is left to take, make what all lines bring
pub record Taking (all left : List (Result (List Full) PassedLine)) (s : Songs) : Type 0 where
  pub cells : vec_items s.cells ++ cells_of (rows_among left) ≡ cells_of (rows_among all)
  pub passed : vec_items s.passed ++ passed_among left ≡ passed_among all
  pub count : length (vec_items s.cells) + 2 * length (rows_among left) ≡ 2 * length (rows_among all)
  pub few : length (vec_items s.cells) ≤ 8192

pub taking_none : (all : List (Result (List Full) PassedLine)) (s : Songs) → vec_items s.cells ≡ [] → vec_items s.passed ≡ [] → Taking all all s
taking_none all s c p = record {
  cells = ap (λ xs. xs ++ cells_of (rows_among all)) c;
  passed = ap (λ xs. xs ++ passed_among all) p;
  count = omega (arith, ap length c);
  few = omega (arith, ap length c);
}

pub taking_more : (all : List (Result (List Full) PassedLine)) (x : Result (List Full) PassedLine) (left : List (Result (List Full) PassedLine)) (s t : Songs) → Taking all (x ∷ left) s → Took s x (Ok tt) t → Taking all left t
taking_more all (Ok r) left s t k h = record {
  cells = ap (λ c. c ++ cells_of (rows_among left)) h.2 ∙ append_assoc (vec_items s.cells) r (cells_of (rows_among left)) ∙ k.cells;
  passed = ap (λ ps. ps ++ passed_among left) h.3 ∙ k.passed;
  count = omega (arith, ap length h.2, length-append (vec_items s.cells) r, h.0, k.count);
  few = omega (arith, ap length h.2, length-append (vec_items s.cells) r, h.0, h.1);
}
taking_more all (Err p) left s t k h = record {
  cells = ap (λ c. c ++ cells_of (rows_among left)) h.0 ∙ k.cells;
  passed = ap (λ ps. ps ++ passed_among left) h.1 ∙ append_assoc (vec_items s.passed) (p ∷ []) (passed_among left) ∙ k.passed;
  count = omega (arith, ap length h.0, k.count);
  few = omega (arith, ap length h.0, k.few);
}

pub taking_all : (ls : List (List ℕ)) (s : Songs) → Taking (brought_from 1 (map (item_of 2) ls)) [] s → ReadValues ls (Ok s)
taking_all ls s k =
    let is = map (item_of 2) ls in (
      omega (arith, k.count, k.few, ap length (rows_brought 1 is)),
      sym (append-nil (vec_items s.cells)) ∙ k.cells ∙ ap cells_of (rows_brought 1 is),
      sym (append-nil (vec_items s.passed)) ∙ k.passed ∙ passed_brought 1 is,
    )

pub taking_failed : (ls : List (List ℕ)) (x : Result (List Full) PassedLine) (left : List (Result (List Full) PassedLine)) (s t : Songs) (e : SongError) → Taking (brought_from 1 (map (item_of 2) ls)) (x ∷ left) s → Took s x (Err e) t → ReadValues ls (Err e)
taking_failed ls (Ok r) left s t NoNames k h = h
taking_failed ls (Ok r) left s t TooManyRows k h = omega (arith, k.count, h.1, ap length (rows_brought 1 (map (item_of 2) ls)))
taking_failed ls (Ok r) left s t NoMemory k h = tt
taking_failed ls (Err p) left s t NoNames k h = h
taking_failed ls (Err p) left s t TooManyRows k h = absurd h
taking_failed ls (Err p) left s t NoMemory k h = tt

-- a names line, and what is read behind it
pub songs_read : (ls : List (List ℕ)) (r : Result Songs SongError) → get_or ls 0 [] ≡ names → ReadValues (drop 1 ls) r → ReadSongs ls r
songs_read ls (Ok s) e h = (e, h)
songs_read ls (Err NoNames) e h = absurd h
songs_read ls (Err TooManyRows) e h = (e, h)
songs_read ls (Err NoMemory) e h = tt

-- an error that is passed up
pub passed_up : (r : Result Songs SongError) (e : SongError) → IsErrAnd r (λ x. x ≡ e) → r ≡ Err e
passed_up (Ok s) e h = absurd h
passed_up (Err x) e h = ap Err h

-- Small facts that every handler needs: a page on which nothing is written, a flag that stays, marks that are clear.
use Rattle.std.proofs.Common.{◌≡◌, ℕ, zero, suc, ◌+◌, ◌*◌, ◌/◌, ◌%◌, ◌^◌, ◌≤◌, Bool, true, false, ◌||◌, eqb, List, [], ◌∷◌, map, length, get_or, drop, replicate, sym, refl, ap, ◌∙◌, ap₂, le_trans, mul-le-mul_right, zero-mul}
use native.Mathlib.Nat.{zero-div}
use Rattle.std.specs.List.{range_with_len}
use Rattle.memory.specs.declared.rows.MemoryRows.{MemoryRows}
use Rattle.memory.specs.Marks.{bit, bits_of}
use Rattle.memory.specs.Rows.{rows_from, rows_in}
use Rattle.nested_loop.specs.Machine.{no_marks}

-- no row is written: the page stays
pub no_rows : {C : Type 0} (w : ℕ) (out : List C) → out ≡ drop (0 * w) out
no_rows w out = ap (λ n. drop n out) (sym (zero-mul w))

pub or-none : (b : Bool) → b ≡ (b || false)
or-none true = refl
or-none false = refl

pub or_some : (b : Bool) → true ≡ (b || true)
or_some true = refl
or_some false = refl

zero-at : (m i : ℕ) → ◌≡◌ {A = ℕ} (get_or (replicate m 0) i 0) 0
zero-at zero i = refl
zero-at (suc m) zero = refl
zero-at (suc m) (suc i) = zero-at m i

bit-none : (m j : ℕ) → bit (replicate m 0) j ≡ false
bit-none m j = ap (λ (x : ℕ). eqb (x / 2 ^ (j % 64) % 2) 1) (zero-at m (j / 64)) ∙ ap (λ (x : ℕ). eqb (x % 2) 1) (zero-div (2 ^ (j % 64)))

bits_from : {X : Type 0} (m a : ℕ) (xs : List X) → map (bit (replicate m 0)) (range_with_len a (length xs)) ≡ no_marks xs
bits_from m a [] = refl
bits_from m a (x ∷ xs) = ap₂ (λ (x : Bool) (y : List Bool). x ∷ y) (bit-none m a) (bits_from m (a + 1) xs)

-- words of zeros show no marks
pub bits_clear : {X : Type 0} (m k : ℕ) (xs : List X) → k ≡ length xs → bits_of k (replicate m 0) ≡ no_marks xs
bits_clear m k xs e = ap (λ n. bits_of n (replicate m 0)) e ∙ bits_from m 0 xs

-- fewer rows need no more cells
pub room_in : (few most width cells : ℕ) → few ≤ most → most * width ≤ cells → few * width ≤ cells
room_in few most width cells h l = le_trans (mul-le-mul_right width h) l

-- the first rows of memory that is lent
pub rows_first : {C State : Type 0} (t : MemoryRows C State) (cells : List C) (columns count : ℕ) → (t.cells.now ≡ cells) × (t.columns ≡ columns) × (t.count ≡ count) → rows_in t ≡ rows_from count columns cells
rows_first t cells columns count e = λ i. rows_from (e.2 i) (e.1 i) (e.0 i)

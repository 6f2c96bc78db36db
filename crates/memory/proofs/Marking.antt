-- One bit of a word set by shift and or, and the marks of many words.
use Rattle.std.proofs.Common.{◌≡◌, ℕ, zero, suc, ◌+◌, ◌-◌, ◌*◌, ◌/◌, ◌%◌, ◌^◌, ◌<◌, ◌≤◌, Bool, true, false, eqb, List, length, get_or, set, replicate, sym, refl, ap, ◌∙◌, ⊎_elim, arith}
use native.Mathlib.Nat.{div_self, div-eq_of_lt, zero-div, mul-mod_left}
use lib.Bits.{bit_or, or_zero_r}
use Rattle.std.proofs.lemmas.Nat.{or_shr, or_mod, pow_pos, pow-add, pow_below, shl-shr, mod_below}
use Rattle.std.proofs.lemmas.List.FromFn.{length-map-range_with_len, get_or-map-range_with_len}
use Rattle.std.proofs.lemmas.List.{get_or-set_same, get_or-set_other, get_or_past, get_or-replicate, length-set, length-replicate, same_lists}
use Rattle.std.proofs.lemmas.Bool.{eq-eqb, cases_eq, cases_lt}
use Rattle.memory.specs.Marks.{bit, marked, bits_of}

or_one : (x : ℕ) → x < 2 → bit_or x 1 ≡ 1
or_one zero h = refl
or_one (suc zero) h = refl
or_one (suc (suc x)) h = absurd (omega arith)

-- 2 ^ k has no other bit
no_bit : (j k : ℕ) → (j ≡ k → ⊥) → 2 ^ k / 2 ^ j % 2 ≡ 0
no_bit j k ne = ⊎_elim
    (λ (lt : k < j). ap (λ x. x % 2) (div-eq_of_lt (pow_below k j lt)))
    (λ (le : j ≤ k).
    let d : ℕ = (k - j) - 1 in
    let s : k ≡ (d + 1) + j = omega arith in
    let e : 2 ^ k ≡ 2 ^ (d + 1) * 2 ^ j = ap (λ x. 2 ^ x) s ∙ pow-add 2 (d + 1) j in
    let q : 2 ^ k / 2 ^ j ≡ 2 ^ (d + 1) = ap (λ x. x / 2 ^ j) e ∙ shl-shr (2 ^ (d + 1)) j in
    ap (λ x. x % 2) (q ∙ pow-add 2 d 1) ∙ mul-mod_left (2 ^ d) 2)
    (cases_lt k j)

or-bit : (a b j : ℕ) → bit_or a b / 2 ^ j % 2 ≡ bit_or (a / 2 ^ j % 2) (b / 2 ^ j % 2)
or-bit a b j = ap (λ x. x % 2) (or_shr a b j) ∙ or_mod (a / 2 ^ j) (b / 2 ^ j) 1

same_bit : (a k : ℕ) → bit_or a (2 ^ k) / 2 ^ k % 2 ≡ 1
same_bit a k =
    or-bit a (2 ^ k) k ∙ ap (λ x. bit_or (a / 2 ^ k % 2) (x % 2)) (div_self (pow_pos k)) ∙ or_one (a / 2 ^ k % 2) (mod_below (a / 2 ^ k) 2 (omega arith))

other_bit : (a j k : ℕ) → (j ≡ k → ⊥) → bit_or a (2 ^ k) / 2 ^ j % 2 ≡ a / 2 ^ j % 2
other_bit a j k ne = or-bit a (2 ^ k) j ∙ ap (bit_or (a / 2 ^ j % 2)) (no_bit j k ne) ∙ or_zero_r (a / 2 ^ j % 2)

-- the mark that is set
pub bit_same : (ws : List ℕ) (i : ℕ) → i / 64 < length ws → bit (marked ws i) i ≡ true
bit_same ws i h =
    eq-eqb _ 1 (ap (λ w. w / 2 ^ (i % 64) % 2) (get_or-set_same ws (i / 64) (bit_or (get_or ws (i / 64) 0) (2 ^ (i % 64))) 0 h) ∙ same_bit (get_or ws (i / 64) 0) (i % 64))

-- and any other
pub bit_other : (ws : List ℕ) (i j : ℕ) → i / 64 < length ws → (i ≡ j → ⊥) → bit (marked ws i) j ≡ bit ws j
bit_other ws i j h ne =
    let w : ℕ = bit_or (get_or ws (i / 64) 0) (2 ^ (i % 64)) in
    ap (λ x. eqb x 1) (⊎_elim
    (λ (e : j / 64 ≡ i / 64).
    let b : j % 64 ≡ i % 64 → ⊥ = λ s. ne (omega arith) in
    ap (λ x. x / 2 ^ (j % 64) % 2) (ap (λ q. get_or (set ws (i / 64) w) q 0) e ∙ get_or-set_same ws (i / 64) w 0 h)
    ∙ other_bit (get_or ws (i / 64) 0) (j % 64) (i % 64) b
    ∙ ap (λ q. get_or ws q 0 / 2 ^ (j % 64) % 2) (sym e))
    (λ n. ap (λ x. x / 2 ^ (j % 64) % 2) (get_or-set_other ws (i / 64) (j / 64) w 0 n))
    (cases_eq (j / 64) (i / 64)))

-- no row past the last word is marked
pub bit_past : (ws : List ℕ) (i : ℕ) → length ws ≤ i / 64 → bit ws i ≡ false
bit_past ws i h = ap (λ x. eqb (x / 2 ^ (i % 64) % 2) 1) (get_or_past ws (i / 64) 0 h) ∙ ap (λ x. eqb (x % 2) 1) (zero-div (2 ^ (i % 64)))

-- no row is marked where all words are zero
pub bit_clear : (k i : ℕ) → bit (replicate k 0) i ≡ false
bit_clear k i = ⊎_elim
    (λ (l : i / 64 < k). ap (λ x. eqb (x / 2 ^ (i % 64) % 2) 1) (get_or-replicate k (i / 64) 0 0 l) ∙ ap (λ x. eqb (x % 2) 1) (zero-div (2 ^ (i % 64))))
    (λ l. bit_past (replicate k 0) i (rw (length-replicate {A = ℕ} k 0) l))
    (cases_lt (i / 64) k)

-- the first n marks after one is set
pub bits-marked : (ws : List ℕ) (i n : ℕ) → i / 64 < length ws → bits_of n (marked ws i) ≡ set (bits_of n ws) i true
bits-marked ws i n h =
    let f : ℕ → Bool = bit (marked ws i) in
    let e : ℕ → Bool = bit ws in
    same_lists (bits_of n (marked ws i)) (set (bits_of n ws) i true)
    (length-map-range_with_len f 0 n ∙ sym (length-set (bits_of n ws) i true ∙ length-map-range_with_len e 0 n))
    (λ k d lt.
    let lk : k < n = rw (length-map-range_with_len f 0 n) at lt in
    let here : get_or (bits_of n (marked ws i)) k d ≡ f k = get_or-map-range_with_len f 0 n k k d lk (omega arith) in
    ⊎_elim
    (λ (q : k ≡ i). here ∙ ap f q ∙ bit_same ws i h ∙ sym (ap (λ j. get_or (set (bits_of n ws) i true) j d) q ∙ get_or-set_same (bits_of n ws) i true d (rw (length-map-range_with_len e 0 n) (omega arith))))
    (λ ne. here ∙ bit_other ws i k h (λ q. ne (sym q)) ∙ sym (get_or-set_other (bits_of n ws) i k true d ne ∙ get_or-map-range_with_len e 0 n k k d lk (omega arith)))
    (cases_eq k i))

-- the first n marks after all are cleared
pub bits_clear : (k n : ℕ) → bits_of n (replicate k 0) ≡ replicate n false
bits_clear k n =
    let f : ℕ → Bool = bit (replicate k 0) in
    same_lists (bits_of n (replicate k 0)) (replicate n false)
    (length-map-range_with_len f 0 n ∙ sym (length-replicate n false))
    (λ j d lt.
    let lj : j < n = rw (length-map-range_with_len f 0 n) at lt in
    get_or-map-range_with_len f 0 n j j d lj (omega arith) ∙ bit_clear k j ∙ sym (get_or-replicate n j false d lj))

-- The eight bytes of a code's number are its letters, then zeros. Assumes nothing.
use Rattle.std.proofs.Common.{◌≡◌, ℕ, zero, suc, ◌+◌, ◌-◌, ◌*◌, ◌^◌, ◌<◌, true, false, not, cond, eqb, List, [], ◌∷◌, ◌++◌, length, get_or, drop, replicate, sym, refl, ap, ◌∙◌, arith, length-append, unwrap_or, Some, None, ltb, ⊎_elim}
use Rattle.std.specs.Char.{is_ascii_alphanumeric}
use Rattle.std.specs.Int.{w64, from_be_bytes, to_be_bytes}
use Rattle.std.specs.List.{position_or_len}
use Rattle.std.proofs.lemmas.Bool.{cond-true, cond-false, and_parts, lt-ltb, le-ltb, cases_lt}
use Rattle.std.proofs.lemmas.Bool.Decides.{nat_tests}
use Rattle.std.proofs.lemmas.List.{drop-replicate, length-replicate}
use Rattle.std.proofs.lemmas.List.Sums.{prefix_len-le-length}
use Rattle.std.proofs.lemmas.Nat.{be_bytes_8}
use Rattle.cells.specs.Codes.{all_alnum, is_code, packed_in, letters, packed}
use Rattle.cells.proofs.Packing.{named, forth}
use Rattle.cells.proofs.Letters.{code_fits}

-- eight bytes, the first the highest
eight : (xs : List ℕ) → length xs ≡ 8 → from_be_bytes w64 xs ≡ packed_in 8 xs
eight (a ∷ b ∷ c ∷ d ∷ e ∷ f ∷ g ∷ h ∷ []) l = omega arith
eight (a ∷ b ∷ c ∷ d ∷ e ∷ f ∷ g ∷ h ∷ i ∷ xs) l = absurd (omega arith)
eight (a ∷ b ∷ c ∷ d ∷ e ∷ f ∷ g ∷ []) l = absurd (omega arith)
eight (a ∷ b ∷ c ∷ d ∷ e ∷ f ∷ []) l = absurd (omega arith)
eight (a ∷ b ∷ c ∷ d ∷ e ∷ []) l = absurd (omega arith)
eight (a ∷ b ∷ c ∷ d ∷ []) l = absurd (omega arith)
eight (a ∷ b ∷ c ∷ []) l = absurd (omega arith)
eight (a ∷ b ∷ []) l = absurd (omega arith)
eight (a ∷ []) l = absurd (omega arith)
eight [] l = absurd (omega arith)

none : (k : ℕ) → packed_in k [] ≡ 0
none zero = refl
none (suc k) = refl

zeros : (k n : ℕ) → packed_in k (replicate n 0) ≡ 0
zeros k zero = none k
zeros zero (suc n) = refl
zeros (suc k) (suc n) = omega (arith, zeros k n)

padded : (k n : ℕ) (bs : List ℕ) → packed_in k (bs ++ replicate n 0) ≡ packed_in k bs
padded k n [] = zeros k n ∙ sym (none k)
padded zero n (b ∷ bs) = refl
padded (suc k) n (b ∷ bs) = ap (λ x. b * 256 ^ k + x) (padded k n bs)

pub packed_bytes : (bs : List ℕ) (n : ℕ) → length bs + n ≡ 8 → from_be_bytes w64 (bs ++ replicate n 0) ≡ packed bs
unfolding packed
packed_bytes bs n l = eight (bs ++ replicate n 0) (length-append bs (replicate n 0) ∙ omega (arith, length-replicate {A = ℕ} n 0)) ∙ padded 8 n bs

pub after-zeros : (n : ℕ) → drop {A = ℕ} n (replicate 8 0) ≡ replicate (8 - n) 0
after-zeros n = drop-replicate n 8 0

-- each byte of letters and zeros has eight bits
bytes_below : (bs : List ℕ) (n : ℕ) → all_alnum bs ≡ true → (i : ℕ) → get_or (bs ++ replicate n 0) i 0 < 256
bytes_below [] zero h i = omega arith
bytes_below [] (suc n) h zero = omega arith
bytes_below [] (suc n) h (suc i) = bytes_below [] n h i
bytes_below (b ∷ bs) n h zero = let p = and_parts (is_ascii_alphanumeric b) (all_alnum bs) h in grind (arith, nat_tests)
bytes_below (b ∷ bs) n h (suc i) = bytes_below bs n (and_parts (is_ascii_alphanumeric b) (all_alnum bs) h).1 i

-- the bytes of a code's number
pub code_bytes : (v : ℕ) → is_code (letters v) ≡ true → to_be_bytes w64 v ≡ letters v ++ replicate (8 - length (letters v)) 0
code_bytes v h =
    let bs = letters v in
    let n = named bs h in
    let l : length bs + (8 - length bs) ≡ 8 = omega (arith, n.few) in
    be_bytes_8 (bs ++ replicate (8 - length bs) 0) v (length-append bs (replicate (8 - length bs) 0) ∙ omega (arith, length-replicate {A = ℕ} (8 - length bs) 0)) (bytes_below bs (8 - length bs) n.signs) (sym (packed_bytes bs (8 - length bs) l ∙ forth v (code_fits v h)))

-- the first zero stands behind the letters
pub zero_behind : (bs : List ℕ) (n : ℕ) → all_alnum bs ≡ true → position_or_len (λ b. eqb b 0) (bs ++ replicate n 0) ≡ length bs
zero_behind [] zero h = refl
zero_behind [] (suc n) h = refl
zero_behind (b ∷ bs) n h =
    let p = and_parts (is_ascii_alphanumeric b) (all_alnum bs) h in
    let some : eqb b 0 ≡ false = grind (arith, nat_tests) in
    let e = cond-true (not (eqb b 0)) (1 + position_or_len (λ b. eqb b 0) (bs ++ replicate n 0)) 0 (ap not some) in
    omega (arith, e, zero_behind bs n p.1)

pub found_or_end : (xs : List ℕ) (n : ℕ) → length xs ≡ n → unwrap_or (cond (ltb (position_or_len (λ b. eqb b 0) xs) (length xs)) (Some (position_or_len (λ b. eqb b 0) xs)) None) n ≡ position_or_len (λ b. eqb b 0) xs
found_or_end xs n e =
    let k = position_or_len (λ b. eqb b 0) xs in
    let most = prefix_len-le-length (λ b. not (eqb b 0)) xs in
    ⊎_elim
    (λ h. ap (λ o. unwrap_or o n) (cond-true (ltb k (length xs)) (Some k) None (lt-ltb k (length xs) h)))
    (λ h. ap (λ o. unwrap_or o n) (cond-false (ltb k (length xs)) (Some k) None (le-ltb k (length xs) h)) ∙ omega arith)
    (cases_lt k (length xs))

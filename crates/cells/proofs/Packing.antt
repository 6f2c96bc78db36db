-- `packed` and `letters` undo one another. Assumes nothing.
use Rattle.std.proofs.Common.{◌≡◌, ℕ, zero, suc, ◌+◌, ◌*◌, ◌/◌, ◌%◌, ◌^◌, ◌<◌, ◌≤◌, true, false, ◌&&◌, eqb, leb, List, [], ◌∷◌, length, get_or, sym, refl, ap, ◌∙◌, ⊎_elim, mul-le-mul_right, pow-suc, arith}
use native.Mathlib.Nat.{one-le-pow}
use Rattle.std.specs.Char.{is_ascii_alphabetic, is_ascii_alphanumeric}
use Rattle.std.proofs.lemmas.Nat.{div-mul-add, mod-mul-add, div-add-mod', mod_below}
use Rattle.std.proofs.lemmas.Bool.{cond-true, cond-false, eq-eqb, ne_eqb, and_parts, cases_eq, leb-true, le-leb}
use Rattle.std.proofs.lemmas.Bool.Decides.{nat_tests}
use Rattle.std.specs.List.{list_all}
use Rattle.cells.specs.Codes.{all_alnum, is_code, packed_in, letters_in, packed, letters}

pub places : (k : ℕ) → 0 < 256 ^ k
places k = one-le-pow k 256 (omega arith)

sign : (b : ℕ) → is_ascii_alphanumeric b ≡ true → (0 < b) × (b < 256)
sign b h = (grind (arith, nat_tests), grind (arith, nat_tests))

pub packed_below : (k : ℕ) (bs : List ℕ) → all_alnum bs ≡ true → packed_in k bs < 256 ^ k
packed_below zero bs h = places 0
packed_below (suc k) [] h = places (suc k)
packed_below (suc k) (b ∷ bs) h =
    let p = and_parts _ _ h in
    let s = sign b p.0 in
    let m : b * 256 ^ k ≤ 255 * 256 ^ k = mul-le-mul_right (256 ^ k) (omega arith) in
    let r = packed_below k bs p.1 in
    omega (arith, pow-suc 256 k)

pub letters-packed : (k : ℕ) (bs : List ℕ) → all_alnum bs ≡ true → length bs ≤ k → letters_in k (packed_in k bs) ≡ bs
letters-packed zero [] h l = refl
letters-packed zero (b ∷ bs) h l = absurd (omega arith)
letters-packed (suc k) [] h l = refl
letters-packed (suc k) (b ∷ bs) h l =
    let p = and_parts _ _ h in
    let s = sign b p.0 in
    let r = packed_below k bs p.1 in
    let m : 1 * 256 ^ k ≤ b * 256 ^ k = mul-le-mul_right (256 ^ k) (omega arith) in
    let some : eqb (b * 256 ^ k + packed_in k bs) 0 ≡ false = ne_eqb _ _ (λ e. omega (arith, places k)) in
    let d = div-mul-add b (256 ^ k) (packed_in k bs) r in
    let q = mod-mul-add b (256 ^ k) (packed_in k bs) r in
    let again = letters-packed k bs p.1 (omega arith) in
    cond-false _ _ _ some ∙ ap (λ x. x ∷ letters_in k ((b * 256 ^ k + packed_in k bs) % 256 ^ k)) d ∙ ap (λ x. b ∷ letters_in k x) q ∙ ap (λ x. b ∷ x) again

pub packed-letters : (k v : ℕ) → v < 256 ^ k → packed_in k (letters_in k v) ≡ v
packed-letters zero v h = omega arith
packed-letters (suc k) v h =
    ⊎_elim
    (λ e. ap (packed_in (suc k)) (cond-true _ _ _ (eq-eqb v 0 e)) ∙ sym e)
    (λ e. ap (packed_in (suc k)) (cond-false _ _ _ (ne_eqb v 0 e)) ∙ ap (λ x. v / 256 ^ k * 256 ^ k + x) (packed-letters k (v % 256 ^ k) (mod_below v (256 ^ k) (places k))) ∙ div-add-mod' v (256 ^ k))
    (cases_eq v 0)

pub record Named (bs : List ℕ) : Type 0 where
  pub some : 1 ≤ length bs
  pub few : length bs ≤ 8
  pub first : is_ascii_alphabetic (get_or bs 0 0) ≡ true
  pub signs : all_alnum bs ≡ true

pub named : (bs : List ℕ) → is_code bs ≡ true → Named bs
unfolding is_code
named bs h =
    let p = and_parts _ _ h in
    let q = and_parts _ _ p.1 in
    let r = and_parts _ _ q.1 in
    record { some = leb-true _ _ p.0; few = leb-true _ _ q.0; first = r.0; signs = r.1 }

-- a name and its number
pub back : (bs : List ℕ) → is_code bs ≡ true → letters (packed bs) ≡ bs
unfolding packed letters
back bs h = let n = named bs h in letters-packed 8 bs n.signs n.few

pub forth : (v : ℕ) → v < 2 ^ 64 → packed (letters v) ≡ v
unfolding packed letters
forth v h = packed-letters 8 v h

all_signs : (bs : List ℕ) → list_all is_ascii_alphanumeric bs ≡ all_alnum bs
all_signs [] = refl
all_signs (b ∷ bs) = ap (λ x. is_ascii_alphanumeric b && x) (all_signs bs)

-- with one to eight bytes and a letter first, only the signs are left to look at
pub signs_decide : (bs : List ℕ) → 1 ≤ length bs → length bs ≤ 8 → is_ascii_alphabetic (get_or bs 0 0) ≡ true → list_all is_ascii_alphanumeric bs ≡ is_code bs
unfolding is_code
signs_decide bs some few first =
    all_signs bs ∙ sym (ap (λ x. x && (leb (length bs) 8 && (is_ascii_alphabetic (get_or bs 0 0) && all_alnum bs))) (le-leb 1 (length bs) some)
    ∙ ap (λ x. x && (is_ascii_alphabetic (get_or bs 0 0) && all_alnum bs)) (le-leb (length bs) 8 few)
    ∙ ap (λ x. x && all_alnum bs) first)

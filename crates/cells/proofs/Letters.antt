-- Codes with the same letters are the same code. Assumes nothing.
use Rattle.std.proofs.Common.{◌≡◌, ℕ, ◌-◌, ◌/◌, ◌^◌, ◌<◌, ◌≤◌, true, eqb, List, [], ◌∷◌, ◌++◌, length, get_or, take, IsUtf8, IsAscii, sym, ap, ◌∙◌, ⊎_elim, arith}
use mathlib.Core.Bool.{Bool-set}
use mathlib.Core.HLevel.{is_prop→PathP}
use Rattle.std.specs.Char.{is_ascii_alphabetic, is_ascii_alphanumeric}
use Rattle.std.proofs.lemmas.Bool.{cond-false, ne_eqb, cases_eq, and_parts}
use Rattle.std.proofs.lemmas.Bool.Decides.{nat_tests}
use Rattle.std.proofs.lemmas.Str.Ascii.{IsAscii-nil, IsAscii-cons}
use Rattle.std.proofs.lemmas.Str.{IsUtf8-from_ascii}
use Rattle.std.proofs.lemmas.List.{take_at}
use Rattle.cells.specs.Codes.{all_alnum, is_code, letters, packed}
use Rattle.cells.specs.declared.code.Code.{Code}
use Rattle.cells.proofs.Packing.{named, forth}

-- the first letter bounds the number
pub code_fits : (v : ℕ) → is_code (letters v) ≡ true → v < 2 ^ 64
unfolding letters
code_fits v h =
    ⊎_elim
    (λ z. omega arith)
    (λ z.
    let e : get_or (letters v) 0 0 ≡ v / 72057594037927936 = ap (λ l. get_or l 0 0) (cond-false (eqb v 0) _ _ (ne_eqb v 0 z)) in
    let f : is_ascii_alphabetic (v / 72057594037927936) ≡ true = ap is_ascii_alphabetic (sym e) ∙ (named (letters v) h).first in
    let g : v / 72057594037927936 ≤ 122 = grind (arith, nat_tests) in
    omega arith)
    (cases_eq v 0)

pub same_bits : (c d : Code) → c.bits ≡ d.bits → c ≡ d
same_bits c d e = λ i. record { bits = e i; named = is_prop→PathP (λ j. is_code (letters (e j)) ≡ true) (λ j. Bool-set (is_code (letters (e j))) true) c.named d.named i }

pub same_letters : (c d : Code) → letters c.bits ≡ letters d.bits → c ≡ d
same_letters c d e = same_bits c d (sym (forth c.bits (code_fits _ c.named)) ∙ ap packed e ∙ forth d.bits (code_fits _ d.named))

-- the letters of a code are text
pub alnum_ascii : (bs : List ℕ) → all_alnum bs ≡ true → IsAscii bs
alnum_ascii [] h = IsAscii-nil
alnum_ascii (b ∷ bs) h =
    let p = and_parts (is_ascii_alphanumeric b) (all_alnum bs) h in
    let small : b < 128 = grind (arith, nat_tests) in
    IsAscii-cons b bs small (alnum_ascii bs p.1)

pub code_utf8 : (c : Code) → IsUtf8 (letters c.bits)
code_utf8 c = IsUtf8-from_ascii _ (alnum_ascii _ (named (letters c.bits) c.named).signs)

-- the letters at the front of eight bytes
pub front-letters : (c : Code) (n : ℕ) (out : List ℕ) (rest : List ℕ) → n ≡ length (letters c.bits) → out ≡ letters c.bits ++ rest → take (n - 0) out ≡ letters c.bits
front-letters c n out rest e f = ap (take (n - 0)) f ∙ take_at (letters c.bits) rest (n - 0) (omega arith)

-- What the bytes of a text tell of the cell that it stands for.
use Rattle.std.proofs.Common.{◌≡◌, ℕ, suc, ◌+◌, ◌<◌, ◌≤◌, Bool, true, false, cond, not, ◌&&◌, ◌||◌, ◌==◌, List, [], ◌∷◌, ◌++◌, length, get_or, drop, ℤ, pos, negsuc, sym, refl, ap, ◌∙◌, subst, arith}
use Rattle.std.specs.Char.{is_ascii_alphabetic, is_ascii_alphanumeric, is_ascii_digit}
use Rattle.std.specs.Str.{all_ascii_digits}
use Rattle.std.proofs.lemmas.List.{at_drop_more, nil_from_length}
use Rattle.std.proofs.lemmas.List.Folds.{prefix_len-append}
use Rattle.std.proofs.lemmas.Bool.{and_parts, and_from, both_ways, ne_eqb, eq-eqb, cond-true}
use Rattle.std.proofs.lemmas.Bool.Decides.{nat_tests}
use Rattle.cells.specs.Codes.{letters, is_code, all_alnum}
use Rattle.cells.specs.declared.full.Full.{Full}
use Rattle.cells.specs.declared.full.Full.TheVariants.{Missing, Number, Code, YesNo}
use Rattle.cells.proofs.Packing.{named}
use Rattle.lines.specs.Written.{Numeral, Figures, Writes, value, unlike, before}

-- a digit or a minus (45)
abbrev pub is_figure : ℕ → Bool
is_figure b = is_ascii_digit b || b == 45

-- the first byte of a numeral is a digit
pub first_digit : (t : List ℕ) → Numeral t → is_ascii_digit (get_or t 0 0) ≡ true
first_digit [] n = absurd (omega (arith, n.sized.some))
first_digit (b ∷ t) n = (and_parts (is_ascii_digit b) (all_ascii_digits t) n.digits).0

pub digit_in : (b : ℕ) → is_ascii_digit b ≡ true → (48 ≤ b) × (b ≤ 57)
digit_in b h = (grind (arith, nat_tests), grind (arith, nat_tests))

-- what the first byte rules out
pub not-both : (b : ℕ) → is_ascii_alphabetic b ≡ true → is_figure b ≡ false
not-both b h = grind (arith, nat_tests)

pub not_both_figure : (b : ℕ) → is_figure b ≡ true → is_ascii_alphabetic b ≡ false
not_both_figure b h = grind (arith, nat_tests)

pub not_figures : (t : List ℕ) → is_figure (get_or t 0 0) ≡ false → (z : ℤ) → Figures z t → ⊥
not_figures t u (pos n) k = let f = first_digit t k.0 in let d : is_figure (get_or t 0 0) ≡ true = grind (arith, nat_tests) in both_ways _ u d
not_figures t u (negsuc n) k = let f : get_or t 0 0 ≡ 45 = ap (λ x. get_or x 0 0) k.1 in let d : is_figure (get_or t 0 0) ≡ true = grind (arith, nat_tests) in both_ways _ u d

pub not_code : (t : List ℕ) → is_ascii_alphabetic (get_or t 0 0) ≡ false → is_code t ≡ true → ⊥
not_code t u h = both_ways _ u (named t h).first

pub no_cell : (t : List ℕ) → (length t ≡ 0 → ⊥) → ((z : ℤ) → Figures z t → ⊥) → (is_code t ≡ true → ⊥) → (c : Full) → Writes c t → ⊥
no_cell t some f n Missing k = some (ap length k)
no_cell t some f n (Number z) k = f z k
no_cell t some f n (Code c) k = n (ap is_code (sym k) ∙ c.named)
no_cell t some f n (YesNo b) k = k

-- a byte that begins a number only
pub only_number : (t : List ℕ) → is_figure (get_or t 0 0) ≡ true → ((z : ℤ) → Figures z t → ⊥) → (c : Full) → Writes c t → ⊥
only_number t u f c w = no_cell t (λ z. both_ways _ (ap (λ x. is_figure (get_or x 0 0)) (nil_from_length t z)) u) f (not_code t (not_both_figure (get_or t 0 0) u)) c w

-- a byte that begins neither
pub no_first : (t : List ℕ) → 1 ≤ length t → is_ascii_alphabetic (get_or t 0 0) ≡ false → is_figure (get_or t 0 0) ≡ false → (c : Full) → Writes c t → ⊥
no_first t some u v c w = no_cell t (λ z. omega arith) (not_figures t v) (not_code t u) c w

-- what read_cell needs of a first byte that begins nothing
pub ruleset first_bytes = (nat_tests, no_first, only_number)

-- after a minus
pub no_minus : (t ds : List ℕ) → t ≡ 45 ∷ ds → ((n : ℕ) → Numeral ds → value ds ≡ suc n → ⊥) → (z : ℤ) → Figures z t → ⊥
no_minus t ds e bad (pos n) k = let f = first_digit t k.0 in omega (arith, digit_in (get_or t 0 0) f, ap (λ x. get_or x 0 0) e)
no_minus t ds e bad (negsuc n) k =
    let same : k.0 ≡ ds = ap (drop 1) (sym k.1 ∙ e) in
    bad n (subst Numeral same k.2) (ap value (sym same) ∙ k.3)

-- one digit on
pub digits_step : (t : List ℕ) (i : ℕ) → i < length t → all_ascii_digits (drop i t) ≡ (is_ascii_digit (get_or t i 0) && all_ascii_digits (drop (i + 1) t))
digits_step t i h = at_drop_more all_ascii_digits t i 0 h

pub not_digits : (t : List ℕ) (i : ℕ) → i < length t → is_ascii_digit (get_or t i 0) ≡ false → all_ascii_digits (drop i t) ≡ all_ascii_digits t → Numeral t → ⊥
not_digits t i l bad e n = both_ways (all_ascii_digits t) (sym e ∙ digits_step t i l ∙ ap (λ x. x && all_ascii_digits (drop (i + 1) t)) bad) n.digits

-- a text lacks the byte x where the first x comes at its end
lacks_more : (x b : ℕ) (t : List ℕ) → (b ≡ x → ⊥) → before x t ≡ length t → before x (b ∷ t) ≡ length (b ∷ t)
lacks_more x b t e h = ap (λ y. cond (not y) (1 + before x t) 0) (ne_eqb b x e) ∙ omega arith

pub before-append : (x : ℕ) (t u : List ℕ) → before x t ≡ length t → before x (t ++ u) ≡ length t + before x u
before-append x t u h = prefix_len-append (unlike x) t u ∙ cond-true _ _ _ (eq-eqb _ _ h)

alnum_lacks : (x : ℕ) → is_ascii_alphanumeric x ≡ false → (t : List ℕ) → all_alnum t ≡ true → before x t ≡ length t
alnum_lacks x o [] h = refl
alnum_lacks x o (b ∷ t) h =
    let p = and_parts (is_ascii_alphanumeric b) (all_alnum t) h in
    lacks_more x b t (λ e. both_ways (is_ascii_alphanumeric x) o (ap is_ascii_alphanumeric (sym e) ∙ p.0)) (alnum_lacks x o t p.1)

digits_alnum : (t : List ℕ) → all_ascii_digits t ≡ true → all_alnum t ≡ true
digits_alnum [] h = refl
digits_alnum (b ∷ t) h =
    let p = and_parts (is_ascii_digit b) (all_ascii_digits t) h in
    let a : is_ascii_alphanumeric b ≡ true = grind (arith, nat_tests) in
    and_from (is_ascii_alphanumeric b) (all_alnum t) a (digits_alnum t p.1)

-- the text of a cell has letters, digits and a minus, and lacks every other byte
pub text_lacks : (x : ℕ) → is_ascii_alphanumeric x ≡ false → (45 ≡ x → ⊥) → (c : Full) (t : List ℕ) → Writes c t → before x t ≡ length t
text_lacks x o m Missing t h = ap (before x) h ∙ sym (ap length h)
text_lacks x o m (Number (pos n)) t h = alnum_lacks x o t (digits_alnum t h.0.digits)
text_lacks x o m (Number (negsuc n)) t h =
    ap (before x) h.1 ∙ lacks_more x 45 h.0 m (alnum_lacks x o h.0 (digits_alnum h.0 h.2.digits)) ∙ sym (ap length h.1)
text_lacks x o m (Code c) t h = alnum_lacks x o t (ap all_alnum (sym h) ∙ (named (letters c.bits) c.named).signs)
text_lacks x o m (YesNo b) t h = absurd h

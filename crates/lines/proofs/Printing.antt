-- What is printed of a row, cell after cell, and that reading undoes it.
use Rattle.std.proofs.Common.{◌≡◌, ℕ, suc, ◌+◌, ◌-◌, ◌*◌, ◌^◌, ◌<◌, true, List, [], ◌∷◌, ◌++◌, length, get_or, take, drop, ℤ, pos, negsuc, Ok, decimal, fold, sym, refl, ap, ◌∙◌, subst, ⊎_elim, append_assoc, arith, length-append, length-take, rules}
use Rattle.std.specs.Fmt.{signed_decimal}
use Rattle.std.specs.List.{All}
use Rattle.std.proofs.lemmas.List.Elements.{All-nil, All-cons, All-head, All-tail}
use Rattle.std.specs.Str.{all_ascii_digits}
use Rattle.std.proofs.lemmas.Fmt.{decimal_digit, length-decimal-le, decimal_nonempty, first_decimal, digits_decimal, digits_value-decimal, decimal-digits_value}
use Rattle.std.proofs.lemmas.List.{take_more, take_at, drop_at}
use Rattle.std.proofs.lemmas.Str.Parse.{IsNumeralModel, numerals_by_fold, tells_all_ascii_digits, digits_value_short}
use Rattle.std.proofs.lemmas.Bool.{cases_eq}
use Rattle.cells.specs.Printed.{full_text}
use Rattle.cells.specs.declared.full.Full.{Full}
use Rattle.cells.specs.declared.full.Full.TheVariants.{Missing, Number, Code, YesNo}
use Rattle.lines.specs.declared.reader.Answer.TheVariants.{Row}
use Rattle.lines.specs.Written.{Numeral, Figures, Writes, Means, value, before, line_at}
use Rattle.lines.specs.Rows.{Read}
use Rattle.lines.specs.Printed.{row_text, Short, Writable}
use Rattle.lines.proofs.Texts.{before-append, text_lacks}
use Rattle.lines.proofs.Splits.{means_count}

-- one cell more
row_text_push : (r : List Full) (c : Full) → 0 < length r → row_text (r ++ c ∷ []) ≡ row_text r ++ 44 ∷ full_text c
row_text_push [] c h = absurd (omega arith)
row_text_push (b ∷ []) c h = refl
row_text_push (b ∷ d ∷ ds) c h = ap (λ x. full_text b ++ 44 ∷ x) (row_text_push (d ∷ ds) c (omega arith)) ∙ sym (append_assoc (full_text b) (44 ∷ row_text (d ∷ ds)) (44 ∷ full_text c))

-- the cells up to a place, and the one that stands there
pub row_text-more : (row : List Full) (i : ℕ) (c : Full) → i < length row → c ≡ get_or row i c → 0 < i → row_text (take (i + 1) row) ≡ row_text (take i row) ++ 44 ∷ full_text c
row_text-more row i c h e z =
    let some : 0 < length (take i row) = simp length-take (omega arith) in
    ap row_text (take_more row i c h ∙ ap (λ x. take i row ++ x ∷ []) (sym e)) ∙ row_text_push (take i row) c some

-- the digits of a number, and their value
own : IsNumeralModel (λ ds. all_ascii_digits ds ≡ true) value
own = numerals_by_fold (λ ds. all_ascii_digits ds ≡ true) tells_all_ascii_digits (λ n ds. fold (λ m d. m * 10 + (d - 48)) n ds) (search rules)

lean_decimal : (n : ℕ) → n < 2 ^ 64 → get_or (decimal n) 0 0 ≡ 48 → length (decimal n) ≡ 1
lean_decimal n h e =
    ⊎_elim
    (λ z. ap (λ m. length (decimal m)) z ∙ ap length (decimal_digit 0 (omega arith)))
    (λ z. absurd (omega (arith, first_decimal n (omega arith) h)))
    (cases_eq n 0)

numeral_decimal : (n : ℕ) → n < 10 ^ 12 → Numeral (decimal n)
numeral_decimal n h =
    let fits : n < 2 ^ 64 = omega arith in
    record {
      sized = record { some = decimal_nonempty n fits; few = length-decimal-le 12 n (omega arith) h fits; lean = lean_decimal n fits };
      digits = digits_decimal own n fits;
    }

decimal_numeral : (ds : List ℕ) → Numeral ds → decimal (value ds) ≡ ds
decimal_numeral ds k = decimal-digits_value own ds k.digits k.sized.some k.sized.lean (omega (arith, digits_value_short own ds 12 k.digits k.sized.few))

figures_signed : (z : ℤ) → Short z → Figures z (signed_decimal z)
figures_signed (pos n) h = (numeral_decimal n h, digits_value-decimal own n (omega arith))
figures_signed (negsuc n) h = (decimal (suc n), refl, numeral_decimal (suc n) h, digits_value-decimal own (suc n) (omega arith))

signed_figures : (z : ℤ) (t : List ℕ) → Figures z t → signed_decimal z ≡ t
signed_figures (pos n) t k = ap decimal (sym k.1) ∙ decimal_numeral t k.0
signed_figures (negsuc n) t k = ap (λ m. 45 ∷ decimal m) (sym k.3) ∙ ap (λ ds. 45 ∷ ds) (decimal_numeral k.0 k.2) ∙ sym k.1

short_figures : (z : ℤ) (t : List ℕ) → Figures z t → Short z
short_figures (pos n) t k = omega (arith, k.1, digits_value_short own t 12 k.0.digits k.0.sized.few)
short_figures (negsuc n) t k = omega (arith, k.3, digits_value_short own k.0 12 k.2.digits k.2.sized.few)

-- what is printed of a cell, and the texts that stand for it
cell_means : (c : Full) → Writable c → Writes c (full_text c)
cell_means Missing h = refl
cell_means (Number z) h = figures_signed z h
cell_means (Code c) h = refl
cell_means (YesNo b) h = absurd h

cell_prints : (c : Full) (t : List ℕ) → Writes c t → full_text c ≡ t
cell_prints Missing t h = sym h
cell_prints (Number z) t h = signed_figures z t h
cell_prints (Code c) t h = h
cell_prints (YesNo b) t h = absurd h

cell_only : (c : Full) (t : List ℕ) → Writes c t → Writable c
cell_only Missing t h = tt
cell_only (Number z) t h = short_figures z t h
cell_only (Code c) t h = tt
cell_only (YesNo b) t h = h

-- the same of a row
pub row_means : (r : List Full) → 0 < length r → All Writable r → Means r (row_text r)
row_means [] some h = absurd (omega arith)
row_means (c ∷ []) some h = cell_means c (All-head Writable c [] h)
row_means (c ∷ d ∷ ds) some h =
    (full_text c, row_text (d ∷ ds), refl, cell_means c (All-head Writable c (d ∷ ds) h), row_means (d ∷ ds) (omega arith) (All-tail Writable c (d ∷ ds) h))

pub row_prints : (r : List Full) (line : List ℕ) → Means r line → row_text r ≡ line
row_prints [] line k = absurd k
row_prints (c ∷ []) line k = cell_prints c line k
row_prints (c ∷ d ∷ ds) line k =
    ap (λ t. t ++ 44 ∷ row_text (d ∷ ds)) (cell_prints c k.0 k.3) ∙ ap (λ u. k.0 ++ 44 ∷ u) (row_prints (d ∷ ds) k.1 k.4) ∙ sym k.2

all_only : (r : List Full) (line : List ℕ) → Means r line → All Writable r
all_only [] line k = All-nil Writable
all_only (c ∷ []) line k = All-cons Writable c [] (cell_only c line k) (All-nil Writable)
all_only (c ∷ d ∷ ds) line k = All-cons Writable c (d ∷ ds) (cell_only c k.0 k.3) (all_only (d ∷ ds) k.1 k.4)

pub row_only : (r : List Full) (line : List ℕ) → Means r line → (0 < length r) × All Writable r
row_only r line k = (omega (arith, means_count r line k), all_only r line k)

-- no line that stands for a row has a line feed
one_line : (r : List Full) (line : List ℕ) → Means r line → before 10 line ≡ length line
one_line [] line k = absurd k
one_line (c ∷ []) line k = text_lacks 10 refl (λ e. omega arith) c line k
one_line (c ∷ d ∷ ds) line k =
    let t = text_lacks 10 refl (λ e. omega arith) c k.0 k.3 in
    let u = one_line (d ∷ ds) k.1 k.4 in
    omega (arith, ap (before 10) k.2, ap length k.2, before-append 10 k.0 (44 ∷ k.1) t, length-append k.0 (44 ∷ k.1))

pub row_reads : (r old : List Full) (front rest : List ℕ) → 0 < length r → All Writable r → length old ≡ length r → Read (front ++ (row_text r ++ 10 ∷ rest)) (length front) old (Ok Row) r (length front + length (row_text r) + 1)
row_reads r old front rest some h same =
    let line = row_text r in
    let text = front ++ (line ++ 10 ∷ rest) in
    let k = row_means r some h in
    let left : drop (length front) text ≡ line ++ 10 ∷ rest = drop_at front (line ++ 10 ∷ rest) (length front) refl in
    let count : before 10 (drop (length front) text) ≡ length line = ap (before 10) left ∙ before-append 10 line (10 ∷ rest) (one_line r line k) ∙ omega arith in
    let found : line_at text (length front) ≡ line = ap (λ n. take n (drop (length front) text)) count ∙ ap (take (length line)) left ∙ take_at line (10 ∷ rest) (length line) refl in
    let all : length text ≡ length front + (length line + suc (length rest)) = length-append front (line ++ 10 ∷ rest) ∙ ap (λ n. length front + n) (length-append line (10 ∷ rest)) in
    (omega arith, subst (Means r) (sym found) k, omega arith, sym same)

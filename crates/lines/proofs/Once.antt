-- A text has one meaning, and a reader one answer.
use Rattle.std.proofs.Common.{◌≡◌, ℕ, suc, true, List, [], ◌∷◌, length, get_or, drop, ℤ, pos, negsuc, Ok, Err, Result, sym, refl, ap, ◌∙◌, arith}
use Rattle.std.specs.List.{AllZip}
use Rattle.cells.specs.Codes.{letters, is_code}
use Rattle.cells.specs.declared.full.Full.{Full}
use Rattle.cells.specs.declared.full.Full.TheVariants.{Missing, Number, Code, YesNo}
use Rattle.cells.proofs.Letters.{same_letters}
use Rattle.cells.proofs.Packing.{named}
use Rattle.lines.specs.declared.reader.Answer.{Answer}
use Rattle.lines.specs.declared.reader.Answer.TheVariants.{Row, End}
use Rattle.lines.specs.declared.reader.LineRefusal.{LineRefusal}
use Rattle.lines.specs.declared.reader.LineRefusal.TheVariants.{Miscounted, Malformed}
use Rattle.lines.specs.Written.{Figures, Writes, Means, value}
use Rattle.lines.specs.Rows.{Read}
use Rattle.lines.proofs.Splits.{texts, cells_from, means_count}
use Rattle.lines.proofs.Texts.{first_digit, digit_in, not_figures, not-both}

figures_once : (y z : ℤ) (t : List ℕ) → Figures y t → Figures z t → y ≡ z
figures_once (pos m) (pos n) t h k = ap pos (sym h.1 ∙ k.1)
figures_once (pos m) (negsuc n) t h k = let f = first_digit t h.0 in absurd (omega (arith, digit_in (get_or t 0 0) f, ap (λ x. get_or x 0 0) k.1))
figures_once (negsuc m) (pos n) t h k = let f = first_digit t k.0 in absurd (omega (arith, digit_in (get_or t 0 0) f, ap (λ x. get_or x 0 0) h.1))
figures_once (negsuc m) (negsuc n) t h k =
    let same : h.0 ≡ k.0 = ap (drop 1) (sym h.1 ∙ k.1) in
    let e : suc m ≡ suc n = sym h.3 ∙ ap value same ∙ k.3 in
    ap negsuc (omega arith)

filled : (z : ℤ) (t : List ℕ) → Figures z t → t ≡ [] → ⊥
filled (pos n) t k e = omega (arith, k.0.sized.some, ap length e)
filled (negsuc n) t k e = omega (arith, ap length (sym k.1 ∙ e))

apart : (z : ℤ) (t s : List ℕ) → Figures z t → is_code s ≡ true → s ≡ t → ⊥
apart z t s k h e = not_figures t (not-both (get_or t 0 0) (named t (ap is_code (sym e) ∙ h)).first) z k

pub writes_once : (c d : Full) (t : List ℕ) → Writes c t → Writes d t → c ≡ d
writes_once Missing Missing t h k = refl
writes_once Missing (Number z) t h k = absurd (filled z t k h)
writes_once Missing (Code d) t h k = absurd (omega (arith, (named (letters d.bits) d.named).some, ap length (k ∙ h)))
writes_once Missing (YesNo b) t h k = absurd k
writes_once (Number z) Missing t h k = absurd (filled z t h k)
writes_once (Number y) (Number z) t h k = ap Number (figures_once y z t h k)
writes_once (Number z) (Code d) t h k = absurd (apart z t (letters d.bits) h d.named k)
writes_once (Number z) (YesNo b) t h k = absurd k
writes_once (Code c) Missing t h k = absurd (omega (arith, (named (letters c.bits) c.named).some, ap length (h ∙ k)))
writes_once (Code c) (Number z) t h k = absurd (apart z t (letters c.bits) k c.named h)
writes_once (Code c) (Code d) t h k = ap Code (same_letters c d (h ∙ sym k))
writes_once (Code c) (YesNo b) t h k = absurd k
writes_once (YesNo b) d t h k = absurd h

texts_once : (r s : List Full) (ts : List (List ℕ)) → AllZip Writes r ts → AllZip Writes s ts → r ≡ s
texts_once [] [] ts w v = refl
texts_once [] (d ∷ ds) [] w v = absurd v
texts_once [] (d ∷ ds) (t ∷ ts) w v = absurd w
texts_once (c ∷ cs) s [] w v = absurd w
texts_once (c ∷ cs) [] (t ∷ ts) w v = absurd v
texts_once (c ∷ cs) (d ∷ ds) (t ∷ ts) w v =
    let one = writes_once c d t w.0 v.0 in
    let rest = texts_once cs ds ts w.1 v.1 in
    λ i. one i ∷ rest i

pub means_once : (line : List ℕ) (r s : List Full) → Means r line → Means s line → r ≡ s
means_once line r s h k = texts_once r s (texts line) (cells_from r line h) (cells_from s line k)

pub read_once : (text : List ℕ) (at : ℕ) (old : List Full) (a b : Result Answer LineRefusal) (r s : List Full) (m n : ℕ) → Read text at old a r m → Read text at old b s n → (a ≡ b) × (r ≡ s) × (m ≡ n)
read_once text at old (Ok Row) (Ok Row) r s m n h k = (refl, means_once _ r s h.1 k.1, h.2 ∙ sym k.2)
read_once text at old (Ok Row) (Ok End) r s m n h k = absurd (omega (arith, h.0, k.0))
read_once text at old (Ok Row) (Err Miscounted) r s m n h k = absurd (k.1 (means_count r _ h.1 ∙ h.3))
read_once text at old (Ok Row) (Err Malformed) r s m n h k = absurd (k.2 r h.1)
read_once text at old (Ok End) (Ok Row) r s m n h k = absurd (omega (arith, h.0, k.0))
read_once text at old (Ok End) (Ok End) r s m n h k = (refl, h.1 ∙ sym k.1, h.2 ∙ sym k.2)
read_once text at old (Ok End) (Err Miscounted) r s m n h k = absurd (omega (arith, h.0, k.0))
read_once text at old (Ok End) (Err Malformed) r s m n h k = absurd (omega (arith, h.0, k.0))
read_once text at old (Err Miscounted) (Ok Row) r s m n h k = absurd (h.1 (means_count s _ k.1 ∙ k.3))
read_once text at old (Err Miscounted) (Ok End) r s m n h k = absurd (omega (arith, h.0, k.0))
read_once text at old (Err Miscounted) (Err Miscounted) r s m n h k = (refl, h.2 ∙ sym k.2, h.3 ∙ sym k.3)
read_once text at old (Err Miscounted) (Err Malformed) r s m n h k = absurd (h.1 k.1)
read_once text at old (Err Malformed) (Ok Row) r s m n h k = absurd (h.2 s k.1)
read_once text at old (Err Malformed) (Ok End) r s m n h k = absurd (omega (arith, h.0, k.0))
read_once text at old (Err Malformed) (Err Miscounted) r s m n h k = absurd (k.1 h.1)
read_once text at old (Err Malformed) (Err Malformed) r s m n h k = (refl, h.3 ∙ sym k.3, h.4 ∙ sym k.4)

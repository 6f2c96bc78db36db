-- What a text or a line stands for, or that it stands for nothing.
use Rattle.std.proofs.Common.{◌≡◌, ℕ, ◌-◌, ◌⊎◌, List, [], ◌∷◌, length, get_or, ℤ, pos, negsuc, refl, ap, ◌∙◌, inl, inr, ⊎_elim, arith}
use Rattle.std.specs.List.{AllZip}
use Rattle.std.specs.Str.{all_ascii_digits}
use Rattle.std.proofs.lemmas.List.{nil_from_length}
use Rattle.std.proofs.lemmas.Bool.{cases_lt, cases_eq, cases_Bool, both_ways}
use Rattle.cells.specs.Codes.{is_code, packed}
use Rattle.cells.specs.declared.full.Full.{Full}
use Rattle.cells.specs.declared.full.Full.TheVariants.{Missing, Number, Code}
use Rattle.cells.proofs.Packing.{back}
use Rattle.lines.specs.Written.{Sized, Numeral, Figures, Writes, Means, value}
use Rattle.lines.proofs.Splits.{texts, cells_from, means_from}
use Rattle.lines.proofs.Texts.{no_minus, not_figures, no_cell}

sized_decided : (t : List ℕ) → Sized t ⊎ (Sized t → ⊥)
sized_decided t =
    ⊎_elim
    (λ none. inr (λ s. omega (arith, s.some)))
    (λ some. ⊎_elim
    (λ few. ⊎_elim
    (λ one. inl (record { some = some; few = omega arith; lean = λ _. one }))
    (λ more. ⊎_elim
    (λ z. inr (λ s. more (s.lean z)))
    (λ z. inl (record { some = some; few = omega arith; lean = λ e. absurd (z e) }))
    (cases_eq (get_or t 0 0) 48))
    (cases_eq (length t) 1))
    (λ many. inr (λ s. omega (arith, s.few)))
    (cases_lt (length t) 13))
    (cases_lt (length t) 1)

numeral_decided : (t : List ℕ) → Numeral t ⊎ (Numeral t → ⊥)
numeral_decided t =
    ⊎_elim
    (λ s. ⊎_elim
    (λ d. inl (record { sized = s; digits = d }))
    (λ d. inr (λ n. both_ways _ d n.digits))
    (cases_Bool (all_ascii_digits t)))
    (λ bad. inr (λ n. bad n.sized))
    (sized_decided t)

figures_decided : (t : List ℕ) → ((z : ℤ) × Figures z t) ⊎ ((z : ℤ) → Figures z t → ⊥)
figures_decided [] = inr (not_figures [] refl)
figures_decided (b ∷ ds) =
    ⊎_elim
    (λ m.
    let e : b ∷ ds ≡ 45 ∷ ds = ap (λ x. x ∷ ds) m in
    ⊎_elim
    (λ k. ⊎_elim
    (λ z. inr (no_minus (b ∷ ds) ds e (λ n _ v. omega arith)))
    (λ z. inl (negsuc (value ds - 1), (ds, e, k, omega arith)))
    (cases_eq (value ds) 0))
    (λ k. inr (no_minus (b ∷ ds) ds e (λ n y _. k y)))
    (numeral_decided ds))
    (λ m. ⊎_elim (λ k. inl (pos (value (b ∷ ds)), (k, refl))) (λ k. inr (λ z f. other z f m k)) (numeral_decided (b ∷ ds)))
    (cases_eq b 45)
  where
    other : (z : ℤ) → Figures z (b ∷ ds) → (b ≡ 45 → ⊥) → (Numeral (b ∷ ds) → ⊥) → ⊥
    other (pos n) f m k = k f.0
    other (negsuc n) f m k = m (ap (λ x. get_or x 0 0) f.1)

pub cell_decided : (t : List ℕ) → ((c : Full) × Writes c t) ⊎ ((c : Full) → Writes c t → ⊥)
cell_decided t =
    ⊎_elim
    (λ z. inl (Missing, nil_from_length t z))
    (λ some. ⊎_elim
    (λ h. inl (Code (record { bits = packed t; named = ap is_code (back t h) ∙ h }), back t h))
    (λ h. ⊎_elim
    (λ f. inl (Number f.0, f.1))
    (λ f. inr (no_cell t some f (both_ways _ h)))
    (figures_decided t))
    (cases_Bool (is_code t)))
    (cases_eq (length t) 0)

texts_decided : (ts : List (List ℕ)) → ((r : List Full) × AllZip Writes r ts) ⊎ ((r : List Full) → AllZip Writes r ts → ⊥)
texts_decided [] = inl ([], tt)
texts_decided (t ∷ ts) =
    ⊎_elim
    (λ c. ⊎_elim
    (λ r. inl (c.0 ∷ r.0, (c.1, r.1)))
    (λ none. inr (λ r w. rest r w none))
    (texts_decided ts))
    (λ none. inr (λ r w. first r w none))
    (cell_decided t)
  where
    first : (r : List Full) → AllZip Writes r (t ∷ ts) → ((c : Full) → Writes c t → ⊥) → ⊥
    first [] w none = w
    first (c ∷ cs) w none = none c w.0

    rest : (r : List Full) → AllZip Writes r (t ∷ ts) → ((r : List Full) → AllZip Writes r ts → ⊥) → ⊥
    rest [] w none = w
    rest (c ∷ cs) w none = none cs w.1

pub row_decided : (line : List ℕ) → ((r : List Full) × Means r line) ⊎ ((r : List Full) → Means r line → ⊥)
row_decided line = ⊎_elim (λ d. inl (d.0, means_from d.0 line d.1)) (λ none. inr (λ r k. none r (cells_from r line k))) (texts_decided (texts line))

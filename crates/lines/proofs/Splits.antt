-- A line as the list of the texts between its commas.
use Rattle.std.proofs.Common.{◌≡◌, ℕ, zero, suc, ◌+◌, ◌<◌, Bool, true, false, eqb, List, [], ◌∷◌, ◌++◌, length, get_or, take, set, sym, refl, ap, ◌∙◌, subst, arith}
use Rattle.std.specs.Bool.{MatchBool}
use Rattle.std.specs.List.{All, AllWithin, AllZip, HoldsAt, enumerate_from, slice_split, join_with_byte}
use Rattle.std.proofs.lemmas.List.Splits.{slice_split_none, slice_split_at, length-slice_split, join_with_byte-slice_split}
use Rattle.std.proofs.lemmas.Bool.{not-true}
use Rattle.std.proofs.lemmas.List.Sums.{prefix_len_passes}
use Rattle.std.proofs.lemmas.List.{take_more, take_more_set}
use Rattle.std.proofs.lemmas.List.FromFn.{length-enumerate_from, get_or-enumerate_from}
use Rattle.std.proofs.lemmas.Slice.Zip.{AllZip-long, all_zipped_more}
use Rattle.cells.specs.declared.full.Full.{Full}
use Rattle.lines.specs.Written.{Writes, Means, commas, unlike}
use Rattle.lines.proofs.Texts.{text_lacks}

abbrev pub texts : List ℕ → List (List ℕ)
texts line = slice_split (λ b. eqb b 44) line

pub length-texts : (line : List ℕ) → length (texts line) ≡ commas line + 1
length-texts line = length-slice_split (λ b. eqb b 44) line

-- no cell's text has a comma
plain : (c : Full) (t : List ℕ) → Writes c t → All (λ b. eqb b 44 ≡ false) t
plain c t w k d h = not-true _ (prefix_len_passes (unlike 44) t k d (omega (arith, text_lacks 44 refl (λ e. omega arith) c t w)))

-- the row that a line stands for has a cell for each text
pub cells_from : (r : List Full) (line : List ℕ) → Means r line → AllZip Writes r (texts line)
cells_from [] line k = absurd k
cells_from (c ∷ []) line k = subst (AllZip Writes (c ∷ [])) (sym (slice_split_none (λ b. eqb b 44) line (plain c line k))) (k, tt)
cells_from (c ∷ d ∷ ds) line k =
    subst (AllZip Writes (c ∷ d ∷ ds)) (sym (ap texts k.2 ∙ slice_split_at (λ b. eqb b 44) k.0 44 k.1 (plain c k.0 k.3) refl)) (k.3, cells_from (d ∷ ds) k.1 k.4)

joined : (r : List Full) (ts : List (List ℕ)) → 0 < length ts → AllZip Writes r ts → Means r (join_with_byte 44 ts)
joined r [] some w = absurd (omega arith)
joined [] (t ∷ ts) some w = absurd w
joined (c ∷ []) (t ∷ []) some w = w.0
joined (c ∷ d ∷ ds) (t ∷ []) some w = absurd w.1
joined (c ∷ []) (t ∷ u ∷ us) some w = absurd w.1
joined (c ∷ d ∷ ds) (t ∷ u ∷ us) some w = (t, join_with_byte 44 (u ∷ us), refl, w.0, joined (d ∷ ds) (u ∷ us) (omega arith) w.1)

pub means_from : (r : List Full) (line : List ℕ) → AllZip Writes r (texts line) → Means r line
means_from r line w = subst (Means r) (join_with_byte-slice_split 44 line) (joined r (texts line) (omega (arith, length-texts line)) w)

-- a row has a cell more than its line has commas
pub means_count : (s : List Full) (line : List ℕ) → Means s line → commas line + 1 ≡ length s
means_count s line k = sym (length-texts line) ∙ AllZip-long Writes s (texts line) (cells_from s line k)

-- where each text is a cell's, the line stands for these cells; where one is none's, for no row
each_row : (ts : List (List ℕ)) → AllWithin (λ t. (c : Full) × Writes c t) ts 0 (length ts) → (r : List Full) × AllZip Writes r ts
each_row [] h = ([], tt)
each_row (t ∷ ts) h =
    let c = h 0 t (omega arith) (omega arith) in
    let r = each_row ts (λ k d _ l. h (suc k) d (omega arith) (omega arith)) in
    (c.0 ∷ r.0, (c.1, r.1))

pub bad_text : (r : List Full) (ts : List (List ℕ)) (k : ℕ) → k < length ts → HoldsAt (λ t. (c : Full) → Writes c t → ⊥) ts k → AllZip Writes r ts → ⊥
bad_text r [] k l bad w = absurd (omega arith)
bad_text [] (t ∷ ts) k l bad w = w
bad_text (c ∷ cs) (t ∷ ts) zero l bad w = bad t c w.0
bad_text (c ∷ cs) (t ∷ ts) (suc k) l bad w = bad_text cs ts k (omega arith) bad w.1

pub told_by_texts : (b : Bool) (line : List ℕ) → MatchBool b (AllWithin (λ t. (c : Full) × Writes c t) (texts line) 0 (length (texts line))) ((k : ℕ) × (k < length (texts line)) × HoldsAt (λ t. (c : Full) → Writes c t → ⊥) (texts line) k) → MatchBool b ((row : List Full) × Means row line) ((row : List Full) → Means row line → ⊥)
told_by_texts true line h = let r = each_row (texts line) h in (r.0, means_from r.0 line r.1)
told_by_texts false line h = λ row k. bad_text row (texts line) h.0 h.1 h.2 (cells_from row line k)

-- the row of a line has a cell for the text at a place
pub cell_at : (r : List Full) (ts : List (List ℕ)) (k : ℕ) (t : List ℕ) → AllZip Writes r ts → k < length ts → t ≡ get_or ts k t → (c : Full) × Writes c t
cell_at r [] k t w l e = absurd (omega arith)
cell_at [] (u ∷ us) k t w l e = absurd w
cell_at (c ∷ cs) (u ∷ us) zero t w l e = (c, subst (Writes c) (sym e) w.0)
cell_at (c ∷ cs) (u ∷ us) (suc k) t w l e = cell_at cs us k t w.1 (omega arith) e

-- what one turn of a loop over the texts brings
pub turn : (ts : List (List ℕ)) (i n : ℕ) (t : List ℕ) → (i < length (enumerate_from 0 ts)) × ((n, t) ≡ get_or (enumerate_from 0 ts) i (n, t)) → (i < length ts) × (n ≡ i) × (t ≡ get_or ts i t)
turn ts i n t h =
    let l : i < length ts = omega (arith, h.0, length-enumerate_from 0 ts) in
    let e = h.1 ∙ get_or-enumerate_from 0 ts i (n, t) l in
    (l, ap (λ p. p.0) e ∙ omega arith, ap (λ p. p.1) e)

pub one_more : (ts : List (List ℕ)) (row : List Full) (i n m : ℕ) (c : Full) (t : List ℕ) → AllZip Writes (take i row) (take i ts) → (i < length ts) × (n ≡ i) × (t ≡ get_or ts i t) → i < length row → m ≡ i + 1 → Writes c t → AllZip Writes (take m (set row n c)) (take m ts)
one_more ts row i n m c t so_far h room e w =
    let cells : take i row ++ c ∷ [] ≡ take m (set row n c) = sym (take_more_set row i c room) ∙ ap (λ k. take (i + 1) (set row k c)) (sym h.1) ∙ ap (λ k. take k (set row n c)) (sym e) in
    let back : take i ts ++ t ∷ [] ≡ take m ts = ap (λ u. take i ts ++ u ∷ []) h.2 ∙ sym (take_more ts i t h.0) ∙ ap (λ k. take k ts) (sym e) in
    subst (λ l. AllZip Writes l (take m ts)) cells (subst (AllZip Writes (take i row ++ c ∷ [])) back (all_zipped_more Writes (take i row) (take i ts) c t so_far w))

-- One item more is added to what was brought.
use Rattle.std.proofs.Common.{◌≡◌, ℕ, ◌+◌, Bool, false, cond, List, [], ◌∷◌, ◌++◌, length, vec_items, count_by, sym, refl, ap, ◌∙◌, arith}
use Rattle.std.proofs.lemmas.List.{append_assoc, append-nil, length-append}
use Rattle.std.proofs.lemmas.Grind.{flat_map-append}
use Rattle.std.proofs.lemmas.List.Sums.{sum_by_push}
use Rattle.memory.specs.Items.{Item, batch, wait, fault}
use Rattle.memory.specs.Rows.{cells_of}
use Rattle.sources.specs.declared.drained.Drained.{Drained}
use Rattle.sources.specs.Drained.{rows_of, is_batch_item, is_wait_item, is_fault_item, counted, Brought}

module _ {C : Type 0} where
  rows_append : (xs ys : List (Item C)) → rows_of (xs ++ ys) ≡ rows_of xs ++ rows_of ys
  rows_append [] ys = refl
  rows_append (batch rows ∷ xs) ys = ap (λ r. rows ++ r) (rows_append xs ys) ∙ sym (append_assoc rows (rows_of xs) (rows_of ys))
  rows_append (wait ∷ xs) ys = rows_append xs ys
  rows_append (fault c d ∷ xs) ys = rows_append xs ys

  -- a count that stops
  count_more : (p : Item C → Bool) (taken : List (Item C)) (item : Item C) (n n' : ℕ) → n ≡ counted (count_by p taken) → n' ≡ counted (n + cond (p item) 1 0) → n' ≡ counted (count_by p (taken ++ item ∷ []))
  count_more p taken item n n' e f =
      let more = sum_by_push (λ x. cond (p x) 1 0) taken item in
      omega arith

  count_same : (p : Item C → Bool) (taken : List (Item C)) (item : Item C) (n : ℕ) → n ≡ counted (count_by p taken) → p item ≡ false → n ≡ counted (count_by p (taken ++ item ∷ []))
  count_same p taken item n e none =
      let more = sum_by_push (λ x. cond (p x) 1 0) taken item ∙ ap (λ b. count_by p taken + cond b 1 0) none in
      omega arith

  module _ (taken : List (Item C)) (d d' : Drained C) (h : Brought taken d) where
    pub brought_batch : (rows : List (List C)) → vec_items d'.cells ≡ vec_items d.cells ++ cells_of rows → d'.rows ≡ counted (d.rows + length rows) → d'.batches ≡ counted (d.batches + 1) → d'.waits ≡ d.waits → d'.faults ≡ d.faults → Brought (taken ++ batch rows ∷ []) d'
    brought_batch rows c r b w f =
        let all : rows_of (taken ++ batch rows ∷ []) ≡ rows_of taken ++ rows = rows_append taken (batch rows ∷ []) ∙ ap (λ r. rows_of taken ++ r) (append-nil rows) in
        let long : length (rows_of (taken ++ batch rows ∷ [])) ≡ length (rows_of taken) + length rows = ap length all ∙ length-append (rows_of taken) rows in
        record {
          cells_are = c ∙ ap (λ x. x ++ cells_of rows) h.cells_are ∙ sym (ap cells_of all ∙ flat_map-append (λ r. r) (rows_of taken) rows);
          rows_are = omega (arith, h.rows_are);
          batches_are = count_more is_batch_item taken (batch rows) d.batches d'.batches h.batches_are b;
          waits_are = w ∙ count_same is_wait_item taken (batch rows) d.waits h.waits_are refl;
          faults_are = f ∙ count_same is_fault_item taken (batch rows) d.faults h.faults_are refl;
        }

    -- an item without rows
    module _ (item : Item C) (empty : rows_of (item ∷ []) ≡ []) (c : d'.cells ≡ d.cells) (r : d'.rows ≡ d.rows) where
      same_rows : rows_of (taken ++ item ∷ []) ≡ rows_of taken
      same_rows = rows_append taken (item ∷ []) ∙ ap (λ r. rows_of taken ++ r) empty ∙ append-nil (rows_of taken)

      pub brought_notice : d'.batches ≡ counted (count_by is_batch_item (taken ++ item ∷ [])) → d'.waits ≡ counted (count_by is_wait_item (taken ++ item ∷ [])) → d'.faults ≡ counted (count_by is_fault_item (taken ++ item ∷ [])) → Brought (taken ++ item ∷ []) d'
      brought_notice b w f = record {
        cells_are = ap vec_items c ∙ h.cells_are ∙ ap cells_of (sym same_rows);
        rows_are = r ∙ h.rows_are ∙ ap (λ x. counted (length x)) (sym same_rows);
        batches_are = b;
        waits_are = w;
        faults_are = f;
      }

    pub brought_wait : d'.cells ≡ d.cells → d'.rows ≡ d.rows → d'.batches ≡ d.batches → d'.waits ≡ counted (d.waits + 1) → d'.faults ≡ d.faults → Brought (taken ++ wait ∷ []) d'
    brought_wait c r b w f =
        brought_notice wait refl c r
        (b ∙ count_same is_batch_item taken wait d.batches h.batches_are refl)
        (count_more is_wait_item taken wait d.waits d'.waits h.waits_are w)
        (f ∙ count_same is_fault_item taken wait d.faults h.faults_are refl)

    pub brought_fault : (cause depth : ℕ) → d'.cells ≡ d.cells → d'.rows ≡ d.rows → d'.batches ≡ d.batches → d'.waits ≡ d.waits → d'.faults ≡ counted (d.faults + 1) → Brought (taken ++ fault cause depth ∷ []) d'
    brought_fault cause depth c r b w f =
        brought_notice (fault cause depth) refl c r
        (b ∙ count_same is_batch_item taken (fault cause depth) d.batches h.batches_are refl)
        (w ∙ count_same is_wait_item taken (fault cause depth) d.waits h.waits_are refl)
        (count_more is_fault_item taken (fault cause depth) d.faults d'.faults h.faults_are f)

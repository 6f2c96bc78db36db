-- A batch that was asked for: its rows on the page, and what the present layer makes of it.
use Rattle.std.specs.Prelude.{All}
use Rattle.std.proofs.Common.{◌≡◌, ℕ, ◌*◌, ◌≤◌, Bool, List, map, length, take, Ok, filter, sym, ap, ◌∙◌, subst, mul-le-mul_left, mul-le-mul_right, arith}
use Rattle.std.proofs.lemmas.List.Elements.{recursion_from_All, All-head, All-filter}
use Rattle.memory.specs.Items.{Item, batch}
use Rattle.memory.specs.Rows.{rows_from, cells_of}
use Rattle.memory.proofs.Cuts.{length_cells}
use Rattle.memory.proofs.Taken.{rows_on_page}
use Rattle.sources.specs.declared.answer.SourceAnswer.{SourceAnswer}
use Rattle.sources.specs.declared.answer.SourceAnswer.TheVariants.{Batch}
use Rattle.sources.specs.Asked.{Asked, Taken}
use Rattle.sources.specs.Fits.{Fits}
use Rattle.sources.specs.Present.{has_cell, present}

module _ {C S : Type 0} (items : S → List (Item C)) (most w n columns : ℕ) (s s' : S) (page page' : List C) (answer : SourceAnswer) (fits : All (Fits most w) (items s)) (asked : Asked items (most * w) s s' page page' (Ok answer)) (is : answer ≡ Batch n) (same : columns ≡ w) where
  abbrev pub taken : Taken (items s) (items s') page' (Batch n)
  taken = subst (Taken (items s) (items s') page') is asked.1

  first_fits : Fits most w (batch taken.0)
  first_fits = All-head (Fits most w) (batch taken.0) (items s') (subst (All (Fits most w)) taken.1 fits)

  wide : length (cells_of taken.0) ≡ n * columns
  wide = length_cells w taken.0 (recursion_from_All (λ r. length r ≡ w) taken.0 first_fits.1) ∙ ap (λ k. k * w) (sym taken.2) ∙ ap (λ c. n * c) (sym same)

  -- a page that has room for the largest batch has room for this one
  pub batch_room : length page' ≡ length page → n * columns ≤ length page'
  batch_room long =
      let few : n ≤ most = omega (arith, taken.2, first_fits.0) in
      let e : n * columns ≡ n * w = ap (λ c. n * c) same in
      omega (arith, mul-le-mul_right w few, asked.0)

  -- and no batch has many cells
  pub batch_small : most ≤ 1024 → w ≤ 16 → n * columns ≤ 1024 * 16
  batch_small small narrow =
      let few : n ≤ 1024 = omega (arith, taken.2, first_fits.0) in
      let slim : columns ≤ 16 = omega arith in
      omega (arith, mul-le-mul_right columns few, mul-le-mul_left 1024 slim)

  -- the rows of the batch, read from the page
  pub batch_rows_on_page : rows_from n columns page' ≡ taken.0
  batch_rows_on_page =
      ap (λ c. rows_from n c page') same ∙ ap (λ k. rows_from k w page') taken.2
      ∙ rows_on_page w taken.0 page' (recursion_from_All (λ r. length r ≡ w) taken.0 first_fits.1) taken.3

  -- its cells, read from the page
  pub batch_cells : take (n * columns) page' ≡ cells_of taken.0
  batch_cells = ap (λ k. take k page') (sym wide) ∙ taken.3

  pub layer_batch : (is_missing : C → Bool) (column k : ℕ) (kept : List C) → k ≡ length (filter (has_cell is_missing column) (rows_from n columns page')) → take (k * columns) kept ≡ cells_of (filter (has_cell is_missing column) (rows_from n columns page')) →
      Taken (map (present is_missing column) (items s)) (map (present is_missing column) (items s')) kept (Batch k)
  layer_batch is_missing column k kept count front =
      let keep : List C → Bool = has_cell is_missing column in
      let k-is : k ≡ length (filter keep taken.0) = count ∙ ap (λ r. length (filter keep r)) batch_rows_on_page in
      let all : All (λ r. length r ≡ w) (filter keep taken.0) = All-filter keep (λ r. length r ≡ w) taken.0 first_fits.1 in
      let size : length (cells_of (filter keep taken.0)) ≡ k * columns =
      length_cells w (filter keep taken.0) (recursion_from_All (λ r. length r ≡ w) (filter keep taken.0) all) ∙ ap (λ j. j * w) (sym k-is) ∙ ap (λ c. k * c) (sym same) in
      (filter keep taken.0, ap (map (present is_missing column)) taken.1, k-is, ap (λ j. take j kept) size ∙ front ∙ ap (λ r. cells_of (filter keep r)) batch_rows_on_page)

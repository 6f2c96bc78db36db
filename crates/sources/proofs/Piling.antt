-- Present layers over a table, drained.
use Rattle.std.proofs.Common.{◌≡◌, ℕ, ◌*◌, Bool, List, [], ◌∷◌, map, Ok, Err, filter, Result, ap, ◌∙◌, subst, arith}
use Rattle.std.specs.Prelude.{All}
use Rattle.memory.specs.Items.{Item}
use Rattle.memory.specs.Rows.{cells_of}
use Rattle.sources.specs.declared.drained.DrainError.{DrainError}
use Rattle.sources.specs.declared.drained.DrainError.TheVariants.{PageTooShort, NoMemory}
use Rattle.sources.specs.declared.drained.Drained.{Drained}
use Rattle.sources.specs.declared.present.Present.{Present}
use Rattle.sources.specs.declared.shape.TableShape.{TableShape}
use Rattle.sources.specs.declared.table.TableSource.{TableSource}
use Rattle.sources.specs.Cuts.{whole_rows, batches_of}
use Rattle.sources.specs.Drained.{Brought, Drains}
use Rattle.sources.specs.Fits.{Fits}
use Rattle.sources.specs.Fitting.{table_fits}
use Rattle.sources.specs.Piles.{has_all, present_all}
use Rattle.sources.specs.Present.{present}
use Rattle.sources.specs.Tables.{table_rows, PileDrains}
use Rattle.sources.proofs.Piled.{composed, rows_kept}
use Rattle.sources.proofs.Tables.{all_rows}

module _ {C : Type 0} where
  abbrev pub table_items : TableSource C → List (Item C)
  table_items s = batches_of s.shape.batch (whole_rows s.shape.columns.count s.cells.now)

  abbrev pub pile_items : (C → Bool) → Present (Present (TableSource C)) → List (Item C)
  pile_items is_missing p = map (present is_missing p.column) (map (present is_missing p.inner.column) (table_items p.inner.inner))

  -- a source that was made of a shape and memory
  module _ (t : TableShape) (cells : List C) (s : TableSource C) (shaped : s.shape ≡ t) (rows : whole_rows t.columns.count s.cells.now ≡ table_rows t cells) where
    items_are : table_items s ≡ batches_of t.batch (table_rows t cells)
    items_are = ap (λ x. batches_of x.batch (whole_rows x.columns.count s.cells.now)) shaped ∙ ap (batches_of t.batch) rows

    items_fit : All (Fits 1024 t.columns.count) (batches_of t.batch (table_rows t cells))
    items_fit = subst (λ x. All (Fits 1024 t.columns.count) (batches_of t.batch x)) rows (table_fits t.batch t.columns.count s.cells.now t.small)

    module _ (is_missing : C → Bool) (first second : ℕ) (page page' : List C) (p p' : Present (Present (TableSource C))) (made : p ≡ record { inner = record { inner = s; column = first }; column = second }) where
      needed_is : 1024 * p.inner.inner.shape.columns.count ≡ 1024 * t.columns.count
      needed_is = ap (λ q. 1024 * q.inner.inner.shape.columns.count) made ∙ ap (λ x. 1024 * x.columns.count) shaped

      pile_is : pile_items is_missing p ≡ map (present_all is_missing (first ∷ second ∷ [])) (batches_of t.batch (table_rows t cells))
      pile_is =
          ap (pile_items is_missing) made
          ∙ ap (λ x. map (present is_missing second) (map (present is_missing first) x)) items_are
          ∙ composed is_missing 1024 t.columns.count (first ∷ second ∷ []) (batches_of t.batch (table_rows t cells)) items_fit

      pub pile_drains : (r : Result (Drained C) DrainError) → Drains (pile_items is_missing) (1024 * p.inner.inner.shape.columns.count) p p' page page' r → PileDrains is_missing (first ∷ second ∷ []) t cells page page' r
      pile_drains (Ok d) h =
          let b = subst (λ x. Brought x d) pile_is h.2 in
          let kept = rows_kept is_missing (first ∷ second ∷ []) (batches_of t.batch (table_rows t cells)) ∙ ap (filter (has_all is_missing (first ∷ second ∷ []))) (all_rows t.batch (table_rows t cells) t.filled) in
          (omega (arith, h.0, needed_is), b, b.cells_are ∙ ap cells_of kept)
      pile_drains (Err PageTooShort) h = (omega (arith, h.0, needed_is), h.2)
      pile_drains (Err NoMemory) h = omega (arith, h.0, needed_is)

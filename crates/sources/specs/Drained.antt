-- What a source brings from first to last.
use Rattle.std.specs.Prelude.{◌≡◌, ℕ, ◌<◌, ◌≤◌, Bool, true, false, List, [], ◌++◌, length, Ok, Err, vec_items, count_by, Result}
use Rattle.memory.specs.Items.{Item, batch, wait, fault}
use Rattle.memory.specs.Rows.{cells_of}
pub use Rattle.memory.specs.Counts.{counted}
pub use Rattle.memory.specs.Items.{rows_brought as rows_of}
use Rattle.sources.specs.declared.drained.DrainError.{DrainError}
use Rattle.sources.specs.declared.drained.DrainError.TheVariants.{PageTooShort, NoMemory}
use Rattle.sources.specs.declared.drained.Drained.{Drained}

-- the item is a batch
abbrev pub is_batch_item : {C : Type 0} → Item C → Bool
is_batch_item (batch rows) = true
is_batch_item wait = false
is_batch_item (fault cause depth) = false

-- the item is a wait
abbrev pub is_wait_item : {C : Type 0} → Item C → Bool
is_wait_item (batch rows) = false
is_wait_item wait = true
is_wait_item (fault cause depth) = false

-- the item is a fault
abbrev pub is_fault_item : {C : Type 0} → Item C → Bool
is_fault_item (batch rows) = false
is_fault_item wait = false
is_fault_item (fault cause depth) = true

-- all rows of the items in order, and how many items of each sort there are
pub record Brought {C : Type 0} (items : List (Item C)) (d : Drained C) : Type 0 where
  pub cells_are : vec_items d.cells ≡ cells_of (rows_of items)
  pub rows_are : d.rows ≡ counted (length (rows_of items))
  pub batches_are : d.batches ≡ counted (count_by is_batch_item items)
  pub waits_are : d.waits ≡ counted (count_by is_wait_item items)
  pub faults_are : d.faults ≡ counted (count_by is_fault_item items)

-- with a short page nothing changes; otherwise all items are taken, or some where memory runs out
abbrev pub Drains : {C S : Type 0} → (S → List (Item C)) → ℕ → S → S → List C → List C → Result (Drained C) DrainError → Type 0
Drains items needed s s' page page' (Ok d) = (needed ≤ length page) × (items s' ≡ []) × Brought (items s) d
Drains items needed s s' page page' (Err PageTooShort) = (length page < needed) × (s' ≡ s) × (page' ≡ page)
Drains {C} items needed s s' page page' (Err NoMemory) = (needed ≤ length page) × ((taken : List (Item C)) × (items s ≡ taken ++ items s'))

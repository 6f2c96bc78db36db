-- What a source answers when it is asked with a page.
use Rattle.std.specs.Prelude.{◌≡◌, ℕ, ◌<◌, ◌≤◌, List, [], ◌∷◌, length, take, Ok, Err, Result}
use Rattle.memory.specs.Items.{Item, batch, wait, fault}
use Rattle.memory.specs.Rows.{cells_of}
use Rattle.sources.specs.declared.answer.SourceAnswer.{SourceAnswer}
use Rattle.sources.specs.declared.answer.SourceAnswer.TheVariants.{Batch, Wait, Fault, End}
use Rattle.sources.specs.declared.answer.SourceRefusal.{SourceRefusal}
use Rattle.sources.specs.declared.answer.SourceRefusal.TheVariants.{PageTooShort}

-- the first of the items is taken and answered, the rows of a batch at the front of the page; without items, the end
abbrev pub Taken : {C : Type 0} → List (Item C) → List (Item C) → List C → SourceAnswer → Type 0
Taken {C} items items' page' (Batch n) =
    (rows : List (List C)) × (items ≡ batch rows ∷ items') × (n ≡ length rows) × (take (length (cells_of rows)) page' ≡ cells_of rows)
Taken items items' page' Wait = items ≡ wait ∷ items'
Taken items items' page' (Fault f) = items ≡ fault f.cause f.depth ∷ items'
Taken items items' page' End = (items ≡ []) × (items' ≡ [])

-- a page of fewer cells than are needed is refused, and source and page are as they were
abbrev pub Asked : {C S : Type 0} → (S → List (Item C)) → ℕ → S → S → List C → List C → Result SourceAnswer SourceRefusal → Type 0
Asked items needed s s' page page' (Ok answer) = (needed ≤ length page) × Taken (items s) (items s') page' answer
Asked items needed s s' page page' (Err PageTooShort) = (length page < needed) × (s' ≡ s) × (page' ≡ page)

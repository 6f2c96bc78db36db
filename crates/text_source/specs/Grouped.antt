-- The items of a text: good lines in batches as long as possible, a bad line as a fault of its own.
use Rattle.std.specs.Prelude.{◌+◌, cond, List, [], ◌∷◌, ◌++◌, length, nat_lt}
use Rattle.cells.specs.declared.full.Full.{Full}
use Rattle.lines.specs.Rows.{number_of}
use Rattle.memory.specs.Items.{Item, batch, fault}
use Rattle.texts.specs.Items.{LineItem, good, bad}

-- the rows held so far, as a batch if there are any
abbrev pub flushed : List (List Full) → List (Item Full)
flushed [] = []
flushed (r ∷ rs) = batch (r ∷ rs) ∷ []

-- what the lines bring, with some rows held: a batch ends with its 64th row, before a bad line and at the end
abbrev pub grouped : List (List Full) → List LineItem → List (Item Full)
grouped held [] = flushed held
grouped held (bad e ∷ is) = flushed held ++ fault (number_of e) 0 ∷ grouped [] is
grouped held (good r ∷ is) = cond (nat_lt (length held + 1) 64) (grouped (held ++ r ∷ []) is) (batch (held ++ r ∷ []) ∷ grouped [] is)

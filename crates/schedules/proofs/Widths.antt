-- Every row that a line brings has two cells.
use Rattle.std.proofs.Common.{◌≡◌, ℕ, List, [], ◌∷◌, map, length}
use Rattle.std.specs.List.{flat_map, AllByRecursion}
use Rattle.texts.specs.Items.{LineItem, good, bad, item_of}
use Rattle.texts.proofs.Widths.{Wide, wide_items}
use Rattle.schedules.specs.Blocks.{row_of, good_rows}

wide_rows : (is : List LineItem) → AllByRecursion (Wide 2) is → AllByRecursion (λ r. length r ≡ 2) (flat_map row_of is)
wide_rows [] h = tt
wide_rows (good r ∷ is) h = (h.0, wide_rows is h.1)
wide_rows (bad e ∷ is) h = wide_rows is h.1

pub good_width : (ls : List (List ℕ)) → AllByRecursion (λ r. length r ≡ 2) (good_rows ls)
good_width ls = wide_rows (map (item_of 2) ls) (wide_items 2 ls)

-- Refusals by number.
use Rattle.std.specs.Prelude.{ℕ}
use Rattle.text_source.specs.declared.columns.TextRefusal.{TextRefusal}
use Rattle.text_source.specs.declared.columns.TextRefusal.TheVariants.{Columns}

abbrev pub number_of : TextRefusal → ℕ
number_of Columns = 16

-- The minutes that a text writes.
use Rattle.std.specs.Prelude.{◌≡◌, ℕ, true, List, pos, Ok, Err, Result}
use Rattle.cells.specs.declared.full.Full.TheVariants.{Number}
use Rattle.lines.specs.Written.{Writes}
use Rattle.verdicts.specs.declared.minutes.Minutes.{Minutes}
use Rattle.verdicts.specs.declared.refusal.MinutesRefusal.{MinutesRefusal}
use Rattle.verdicts.specs.Lengths.{are_minutes}

-- the text writes these minutes; where it is refused, it writes no number from 1 to 1,440
abbrev pub ReadMinutes : List ℕ → Result Minutes MinutesRefusal → Type 0
ReadMinutes text (Ok m) = Writes (Number (pos m.count)) text
ReadMinutes text (Err e) = (n : ℕ) → are_minutes n ≡ true → Writes (Number (pos n)) text → ⊥

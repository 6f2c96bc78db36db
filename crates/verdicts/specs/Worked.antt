-- Five pairs of the worked schedule.
use Rattle.std.specs.Prelude.{◌≡◌, ℕ, true, List, [], ◌∷◌, pos, codes, refl}
use Rattle.cells.specs.Codes.{is_code, letters, packed}
use Rattle.cells.specs.declared.full.Full.{Full}
use Rattle.cells.specs.declared.full.Full.TheVariants as full
use Rattle.verdicts.specs.declared.separation.SongColumns.{SongColumns}
use Rattle.verdicts.specs.declared.truth.Truth.{Truth}
use Rattle.verdicts.specs.declared.truth.Truth.TheVariants.{True, False, Absent}
use Rattle.verdicts.specs.Separations.{separation}

-- a code by its letters, where they make one
abbrev pub coded : (bs : List ℕ) → is_code (letters (packed bs)) ≡ true → Full
coded bs ok = full.Code (record { bits = packed bs; named = ok })

abbrev pub at : ℕ → Full
at n = full.Number (pos n)

-- artist in column 0, start in column 1
abbrev pub song : SongColumns
song = record { artist = 0; start = 1 }

pub abba_named : is_code (letters (packed (codes "ABBA"))) ≡ true
unfolding is_code letters packed
abba_named = refl

pub blur_named : is_code (letters (packed (codes "BLUR"))) ≡ true
unfolding is_code letters packed
blur_named = refl

pub cake_named : is_code (letters (packed (codes "CAKE"))) ≡ true
unfolding is_code letters packed
cake_named = refl

abbrev pub abba : Full
abba = coded (codes "ABBA") abba_named

abbrev pub blur : Full
blur = coded (codes "BLUR") blur_named

abbrev pub cake : Full
cake = coded (codes "CAKE") cake_named

-- the planned songs
abbrev pub l0 : List Full
l0 = abba ∷ at 0 ∷ []

abbrev pub l1 : List Full
l1 = blur ∷ at 1200 ∷ []

abbrev pub l2 : List Full
l2 = abba ∷ at 3000 ∷ []

-- the songs that have aired
abbrev pub r0 : List Full
r0 = abba ∷ at 2400 ∷ []

abbrev pub r1 : List Full
r1 = cake ∷ at 3000 ∷ []

abbrev pub r2 : List Full
r2 = blur ∷ full.Missing ∷ []

-- a separation of these rows
abbrev pub apart_by : ℕ → List Full → List Full → Truth
apart_by minutes = separation minutes song song

pub record WorkedPairs : Type 0 where
  pub close : apart_by 40 l2 r0 ≡ True
  -- 2,400 seconds are not less than forty minutes
  pub exactly_forty : apart_by 40 l0 r0 ≡ False
  pub forty_one : apart_by 41 l0 r0 ≡ True
  -- the artist is the same, the start is missing
  pub unknown_start : apart_by 40 l1 r2 ≡ Absent
  -- another artist, so the missing start does not matter
  pub other_artist : apart_by 40 l0 r2 ≡ False

-- The letters of a code and the number that holds them.
use Rattle.std.specs.Prelude.{ℕ, zero, suc, ◌+◌, ◌*◌, ◌/◌, ◌%◌, ◌^◌, Bool, true, cond, ◌&&◌, List, [], ◌∷◌, length, ◌==◌, nat_le, slice_index}
use Rattle.std.specs.Char.{is_ascii_alphabetic, is_ascii_alphanumeric}

-- each byte is an ASCII letter or digit
abbrev pub all_alnum : List ℕ → Bool
all_alnum [] = true
all_alnum (b ∷ bs) = is_ascii_alphanumeric b && all_alnum bs

-- one to eight ASCII letters or digits, a letter first
unfoldable pub is_code : List ℕ → Bool
is_code bs = nat_le 1 (length bs) && (nat_le (length bs) 8 && (is_ascii_alphabetic (slice_index bs 0) && all_alnum bs))

-- the bytes in k places of a number, the first in the highest place, the places past the last byte zero
abbrev pub packed_in : ℕ → List ℕ → ℕ
packed_in zero bs = 0
packed_in (suc k) [] = 0
packed_in (suc k) (b ∷ bs) = b * 256 ^ k + packed_in k bs

-- what stands in k places of a number, from the highest on, up to where the rest is zero
abbrev pub letters_in : ℕ → ℕ → List ℕ
letters_in zero v = []
letters_in (suc k) v = cond (v == 0) [] (v / 256 ^ k ∷ letters_in k (v % 256 ^ k))

-- 64 bits have eight places
unfoldable pub packed : List ℕ → ℕ
packed bs = packed_in 8 bs

unfoldable pub letters : ℕ → List ℕ
letters v = letters_in 8 v

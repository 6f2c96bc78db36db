-- What holds of all codes.
use Rattle.std.specs.Prelude.{◌≡◌, ℕ, ◌^◌, ◌<◌, true, List, codes}
use Rattle.cells.specs.Codes.{is_code, letters, packed}
use Rattle.cells.specs.declared.code.Code.{Code}

pub record CodesStand : Type 0 where
  -- letters that make a code are read back from its number
  pub letters_back : (bs : List ℕ) → is_code bs ≡ true → letters (packed bs) ≡ bs
  -- the letters of a code make that code again
  pub code_back : (c : Code) → (is_code (letters c.bits) ≡ true) × (packed (letters c.bits) ≡ c.bits)
  -- a code's number has 64 bits
  pub fits : (c : Code) → c.bits < 2 ^ 64
  -- codes with the same letters are the same code
  pub apart : (c d : Code) → letters c.bits ≡ letters d.bits → c ≡ d
  -- the number of one code, written out
  pub worked : packed (codes "ABBA") ≡ 0x4142_4241_0000_0000

-- A separation is the same from either side.
use Rattle.std.proofs.Common.{◌≡◌, ℕ, ◌*◌, Bool, eqb, ltb, ℤ, Some, None, Option, refl, ap, arith}
use Rattle.std.proofs.lemmas.Int.{ints}
use Rattle.cells.specs.Kinds.{code_in, number_in}
use Rattle.cells.specs.declared.code.Code.{Code}
use Rattle.verdicts.specs.Truths.{both, truth_of}
use Rattle.verdicts.specs.Separations.{same_code, apart, near, half, cell_in}
use Rattle.verdicts.specs.Laws.{SeparationStands}

eqb_swap : (m n : ℕ) → eqb m n ≡ eqb n m
eqb_swap m n = grind arith

pub same_swap : (c d : Code) → same_code c d ≡ same_code d c
unfolding same_code
same_swap c d = eqb_swap c.bits d.bits

pub apart-swap : (a b : ℤ) → apart a b ≡ apart b a
apart-swap a b = omega (arith, ints)

near-swap : (limit : ℕ) (a b : ℤ) → near limit a b ≡ near limit b a
near-swap limit a b = ap (λ n. ltb n limit) (apart-swap a b)

half-swap : {X : Type 0} (test : X → X → Bool) → ((x y : X) → test x y ≡ test y x) → (a b : Option X) → half test a b ≡ half test b a
half-swap test same None None = refl
half-swap test same None (Some y) = refl
half-swap test same (Some x) None = refl
half-swap test same (Some x) (Some y) = ap truth_of (same x y)

pub separation-swap : SeparationStands
separation-swap minutes a b l r =
    let artists = half-swap same_code same_swap (code_in (cell_in l a.artist)) (code_in (cell_in r b.artist)) in
    let starts = half-swap (near (60 * minutes)) (near-swap (60 * minutes)) (number_in (cell_in l a.start)) (number_in (cell_in r b.start)) in
    λ i. both (artists i) (starts i)

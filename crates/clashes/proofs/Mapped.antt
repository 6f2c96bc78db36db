-- Results whose error was mapped, and errors that are passed up.
use Rattle.std.proofs.Common.{◌≡◌, Ok, Err, Result, sym, refl, ap, ◌∙◌, subst}
use Rattle.std.specs.Result.{MatchResult, IsErrAnd}

-- what `map_err` with f makes of r
abbrev pub Mapped : {A D E : Type 0} → (D → E) → Result A D → Result A E → Type 0
Mapped f r m = MatchResult r (λ x. m ≡ Ok x) (λ d. IsErrAnd m (λ e. e ≡ f d))

pub mapped_ok : {A D E : Type 0} (f : D → E) (r : Result A D) (m : Result A E) (x : A) → Mapped f r m → m ≡ Ok x → r ≡ Ok x
mapped_ok f (Ok y) m x h k = let e : ◌≡◌ {A = Result _ _} (Ok y) (Ok x) = sym h ∙ k in cc
mapped_ok f (Err d) m x h k = absurd (subst (λ t. IsErrAnd t (λ e. e ≡ f d)) k h)

pub mapped_err : {A D E : Type 0} (f : D → E) (r : Result A D) (m : Result A E) (e : E) → Mapped f r m → m ≡ Err e → (d : D) × (r ≡ Err d) × (e ≡ f d)
mapped_err f (Ok y) m e h k = absurd (let c = sym h ∙ k in cc)
mapped_err f (Err d) m e h k = (d, refl, subst (λ t. IsErrAnd t (λ x. x ≡ f d)) k h)

-- an error that is passed up
pub passed_up : {A E : Type 0} (r : Result A E) (e : E) → IsErrAnd r (λ x. x ≡ e) → r ≡ Err e
passed_up (Ok x) e h = absurd h
passed_up (Err x) e h = ap Err h

-- That the items of a text fit, as the trait of sources asks. These are proofs, not definitions.
use Rattle.std.specs.Prelude.{◌≡◌, ℕ, ◌+◌, ◌≤◌, Bool, true, false, cond, List, [], ◌∷◌, ◌++◌, length, nat_lt, All, refl}
use Rattle.std.proofs.Common.{sym, subst, le_trans, le-add_right, add-one-le, lit≤}
use Rattle.std.proofs.lemmas.List.Elements.{All-nil, All-cons, All-head, All-tail, All-append, All-push, All-from_recursion}
use Rattle.std.proofs.lemmas.List.{length_push}
use Rattle.std.proofs.lemmas.Bool.{ltb-true}
use Rattle.cells.specs.declared.full.Full.{Full}
use Rattle.lines.specs.declared.reader.LineRefusal.{LineRefusal}
use Rattle.lines.specs.declared.reader.LineRefusal.TheVariants.{Miscounted, Malformed}
use Rattle.lines.specs.Rows.{number_of}
use Rattle.memory.specs.Items.{Item, batch, fault}
use Rattle.sources.specs.Fits.{Fits}
use Rattle.texts.specs.Items.{LineItem, good, bad, lines_of, items}
use Rattle.texts.proofs.Widths.{Wide, wide_items}
use Rattle.text_source.specs.Grouped.{flushed, grouped}

-- fewer than 64 rows held, each of w cells
pub record Held (w : ℕ) (held : List (List Full)) : Type 0 where
  pub few : length held + 1 ≤ 64
  pub wide : All (λ r. length r ≡ w) held

flushed_fits : (w : ℕ) (held : List (List Full)) → length held ≤ 64 → All (λ r. length r ≡ w) held → All (Fits 64 w) (flushed held)
flushed_fits w [] h wide = All-nil (Fits 64 w)
flushed_fits w (r ∷ rs) h wide = All-cons (Fits 64 w) (batch (r ∷ rs)) [] (h, wide) (All-nil (Fits 64 w))

refusal_fits : (w : ℕ) (e : LineRefusal) → Fits {C = Full} 64 w (fault (number_of e) 0)
refusal_fits w Miscounted = (lit≤ tt, lit≤ tt, lit≤ tt)
refusal_fits w Malformed = (lit≤ tt, lit≤ tt, lit≤ tt)

fits_by : (w : ℕ) (t : Bool) (x y : List (Item Full)) → (t ≡ true → All (Fits 64 w) x) → (t ≡ false → All (Fits 64 w) y) → All (Fits 64 w) (cond t x y)
fits_by w true x y f g = f refl
fits_by w false x y f g = g refl

held_fits : (n : ℕ) → n + 1 ≤ 64 → n ≤ 64
held_fits n h = le_trans (le-add_right n 1) h

none_held : (w : ℕ) → Held w []
none_held w = record { few = lit≤ tt; wide = All-nil (λ r. length r ≡ w) }

grouped_fits : (w : ℕ) (held : List (List Full)) → Held w held → (is : List LineItem) → All (Wide w) is → All (Fits 64 w) (grouped held is)
grouped_fits w held h [] wide = flushed_fits w held (held_fits (length held) h.few) h.wide
grouped_fits w held h (bad e ∷ is) wide =
    All-append (Fits 64 w) (flushed held) (fault (number_of e) 0 ∷ grouped [] is)
    (flushed_fits w held (held_fits (length held) h.few) h.wide)
    (All-cons (Fits 64 w) (fault (number_of e) 0) (grouped [] is) (refusal_fits w e) (grouped_fits w [] (none_held w) is (All-tail (Wide w) (bad e) is wide)))
grouped_fits w held h (good r ∷ is) wide =
    let e = length_push held r in
    let all = All-push (λ x. length x ≡ w) held r h.wide (All-head (Wide w) (good r) is wide) in
    let rest = All-tail (Wide w) (good r) is wide in
    fits_by w (nat_lt (length held + 1) 64) (grouped (held ++ r ∷ []) is) (batch (held ++ r ∷ []) ∷ grouped [] is)
    (λ t. grouped_fits w (held ++ r ∷ []) (record { few = subst (λ n. n + 1 ≤ 64) (sym e) (add-one-le (ltb-true _ _ t)); wide = all }) is rest)
    (λ f. All-cons (Fits 64 w) (batch (held ++ r ∷ [])) (grouped [] is) (subst (λ n. n ≤ 64) (sym e) h.few, all) (grouped_fits w [] (none_held w) is rest))

pub text_fits : (w : ℕ) (bytes : List ℕ) → All (Fits 64 w) (grouped [] (items w bytes))
text_fits w bytes = grouped_fits w [] (none_held w) (items w bytes) (All-from_recursion (Wide w) (items w bytes) (wide_items w (lines_of bytes)))

-- Walking over the lines of a text up to the first empty one.
use Rattle.std.proofs.Common.{◌≡◌, ℕ, zero, suc, ◌+◌, ◌<◌, ◌≤◌, Bool, true, false, cond, not, eqb, ◌⊎◌, List, [], ◌∷◌, ◌++◌, length, get_or, take, drop, sym, subst, refl, ap, ◌∙◌, inl, inr, ⊎_elim, append_assoc, append-nil, arith, length-drop, length-take}
use Rattle.std.specs.List.{prefix_len}
use Rattle.std.proofs.lemmas.List.{drop_all, take_all, take_more, drop-drop}
use Rattle.std.proofs.lemmas.List.Sums.{prefix_len_stops, prefix_len-le-length}
use Rattle.std.proofs.Math.Seq.{take-append_seam, drop-append-add}
use Rattle.std.proofs.lemmas.List.Folds.{length-prefix_len}
use Rattle.std.proofs.lemmas.Bool.{not-false, eqb-true, cases_lt}
use Rattle.lines.specs.Written.{before, unlike, line_at, behind}
use Rattle.texts.specs.Items.{lines_of}
use Rattle.texts.proofs.Firsts.{lines_first, left_behind}
use Rattle.schedules.specs.Blocks.{is_full, first_block, second_block}

-- the first line of what is left, and what is left behind it
pub first_line : (text : List ℕ) (at : ℕ) → at < length text → lines_of (drop at text) ≡ line_at text at ∷ lines_of (drop (behind text at) text)
first_line text at h =
    lines_first (drop at text) (omega (arith, length-drop at text))
    ∙ ap (λ l. line_at text at ∷ lines_of l) (left_behind text at h)

-- the first line feed stays the first when more is put behind it
feed_step : (d : ℕ) (ds x : List ℕ) (t : Bool) → eqb d 10 ≡ t → (before 10 ds < length ds → before 10 (take (before 10 ds) ds ++ 10 ∷ x) ≡ before 10 ds) → cond (not t) (1 + before 10 ds) 0 < suc (length ds) → before 10 (take (cond (not t) (1 + before 10 ds) 0) (d ∷ ds) ++ 10 ∷ x) ≡ cond (not t) (1 + before 10 ds) 0
feed_step d ds x true e more l = refl
feed_step d ds x false e more l =
    let one : 1 + before 10 ds ≡ suc (before 10 ds) = omega arith in
    ap (λ n. before 10 (take n (d ∷ ds) ++ 10 ∷ x)) one
    ∙ ap (λ t. cond (not t) (1 + before 10 (take (before 10 ds) ds ++ 10 ∷ x)) 0) e
    ∙ ap (λ n. 1 + n) (more (omega arith))

feed_first : (ds x : List ℕ) → before 10 ds < length ds → before 10 (take (before 10 ds) ds ++ 10 ∷ x) ≡ before 10 ds
feed_first [] x h = absurd (omega arith)
feed_first (d ∷ ds) x h = feed_step d ds x (eqb d 10) refl (feed_first ds x) h

-- a line with its line feed, and more behind it
line_more : (ds x : List ℕ) → before 10 ds < length ds → lines_of (take (before 10 ds) ds ++ 10 ∷ x) ≡ take (before 10 ds) ds ∷ lines_of x
line_more ds x h =
    let m = before 10 ds in
    let all = take m ds ++ 10 ∷ x in
    let f = feed_first ds x h in
    let next : suc m ≡ length (take m ds) + 1 = omega (arith, length-prefix_len (unlike 10) ds) in
    let long : length (take m ds) ≡ m = length-prefix_len (unlike 10) ds in
    let some : 0 < length all = not-nil (take m ds) x in
    lines_first all some
    ∙ ap (λ n. take n all ∷ lines_of (drop (suc n) all)) f
    ∙ ap (λ l. l ∷ lines_of (drop (suc m) all)) (ap (λ n. take n all) (sym long) ∙ take-append_seam (take m ds) (10 ∷ x))
    ∙ ap (λ l. take m ds ∷ lines_of l) (ap (λ n. drop n all) next ∙ drop-append-add (take m ds) (10 ∷ x) 1)
  where
    not-nil : (xs ys : List ℕ) → 0 < length (xs ++ 10 ∷ ys)
    not-nil [] ys = omega arith
    not-nil (x ∷ xs) ys = omega arith

-- n lines that are not empty lie before the place, and the other lines begin there
pub record Walked (text : List ℕ) (at n : ℕ) : Type 0 where
  pub within : at ≤ length text
  pub count : n + prefix_len is_full (lines_of (drop at text)) ≡ prefix_len is_full (lines_of text)
  pub from_it : lines_of (drop at text) ≡ drop n (lines_of text)
  -- the text is at its end, or a line begins here whatever follows
  pub parted : (at ≡ length text) ⊎ ((x : List ℕ) → lines_of (take at text ++ x) ≡ take n (lines_of text) ++ lines_of x)

pub walked_none : (text : List ℕ) → Walked text 0 0
walked_none text = record { within = omega arith; count = omega arith; from_it = refl; parted = inr (λ x. refl) }

pub walked_at : (text : List ℕ) (at n next m : ℕ) → next ≡ at → m ≡ n → Walked text at n → Walked text next m
walked_at text at n next m a b w = subst (λ k. Walked text k m) (sym a) (subst (Walked text at) (sym b) w)

pub full_some : (l : List ℕ) → 0 < length l → is_full l ≡ true
full_some [] h = absurd (omega arith)
full_some (b ∷ bs) h = refl

-- what lies up to the place behind a line that ends with a line feed
take_behind : (text : List ℕ) (at m : ℕ) → m < length (drop at text) → get_or (drop at text) m 0 ≡ 10 → take (at + m + 1) text ≡ take at text ++ (take m (drop at text) ++ 10 ∷ [])
take_behind [] zero m h e = absurd (omega arith)
take_behind [] (suc at) m h e = absurd (omega arith)
take_behind (t ∷ ts) zero m h e =
    let z : 0 + m + 1 ≡ m + 1 = omega arith in
    ap (λ n. take n (t ∷ ts)) z ∙ take_more (t ∷ ts) m 0 h ∙ ap (λ b. take m (t ∷ ts) ++ b ∷ []) e
take_behind (t ∷ ts) (suc at) m h e =
    let s : suc at + m + 1 ≡ suc (at + m + 1) = omega arith in
    ap (λ n. take n (t ∷ ts)) s ∙ ap (λ l. t ∷ l) (take_behind ts at m h e)

-- the byte at the first line feed
at_feed : (ds : List ℕ) → before 10 ds < length ds → get_or ds (before 10 ds) 0 ≡ 10
at_feed ds h = eqb-true _ _ (not-false _ (prefix_len_stops (unlike 10) ds 0 h))

take_more_first : (k : ℕ) (ls : List (List ℕ)) (l : List ℕ) (rest : List (List ℕ)) → drop k ls ≡ l ∷ rest → take (k + 1) ls ≡ take k ls ++ l ∷ []
take_more_first zero [] l rest e = let z : ◌≡◌ {A = ℕ} 0 1 = cc in absurd (omega arith)
take_more_first zero (x ∷ ls) l rest e = ap (λ y. get_or y 0 [] ∷ []) e
take_more_first (suc k) [] l rest e = let z : ◌≡◌ {A = ℕ} 0 1 = cc in absurd (omega arith)
take_more_first (suc k) (x ∷ ls) l rest e = let s : suc k + 1 ≡ suc (k + 1) = omega arith in ap (λ j. take j (x ∷ ls)) s ∙ ap (λ y. x ∷ y) (take_more_first k ls l rest e)

module _ (text : List ℕ) (at n : ℕ) (w : Walked text at n) (here : at < length text) where
  one_more : lines_of (drop (behind text at) text) ≡ drop (n + 1) (lines_of text)
  one_more = ap (drop 1) (sym (first_line text at here) ∙ w.from_it) ∙ drop-drop 1 n (lines_of text)

  parted_more : (at ≡ length text) ⊎ ((x : List ℕ) → lines_of (take at text ++ x) ≡ take n (lines_of text) ++ lines_of x) → (behind text at ≡ length text) ⊎ ((x : List ℕ) → lines_of (take (behind text at) text ++ x) ≡ take (n + 1) (lines_of text) ++ lines_of x)
  parted_more (inl e) = absurd (omega arith)
  parted_more (inr p) =
      let m = before 10 (drop at text) in
      ⊎_elim
      (λ l.
      let inside : m < length (drop at text) = omega (arith, length-drop at text) in
      let nx : behind text at ≡ at + m + 1 = omega arith in
      let shape : take (behind text at) text ≡ take at text ++ (take m (drop at text) ++ 10 ∷ []) = ap (λ k. take k text) nx ∙ take_behind text at m inside (at_feed (drop at text) inside) in
      let lines : take (n + 1) (lines_of text) ≡ take n (lines_of text) ++ line_at text at ∷ [] = take_more_first n (lines_of text) (line_at text at) _ (sym w.from_it ∙ first_line text at here) in
      inr (λ x.
      ap (λ k. lines_of (k ++ x)) shape
      ∙ ap lines_of (append_assoc (take at text) (take m (drop at text) ++ 10 ∷ []) x ∙ ap (λ k. take at text ++ k) (append_assoc (take m (drop at text)) (10 ∷ []) x))
      ∙ p (take m (drop at text) ++ 10 ∷ x)
      ∙ ap (λ k. take n (lines_of text) ++ k) (line_more (drop at text) x inside)
      ∙ sym (append_assoc (take n (lines_of text)) (line_at text at ∷ []) (lines_of x))
      ∙ ap (λ k. k ++ lines_of x) (sym lines)))
      (λ l. inl (omega arith))
      (cases_lt (at + m) (length text))

  -- one line that is not empty
  pub walked_more : is_full (line_at text at) ≡ true → Walked text (behind text at) (n + 1)
  walked_more full =
      let c : prefix_len is_full (lines_of (drop at text)) ≡ 1 + prefix_len is_full (lines_of (drop (behind text at) text)) =
      ap (prefix_len is_full) (first_line text at here) ∙ ap (λ t. cond t (1 + prefix_len is_full (lines_of (drop (behind text at) text))) 0) full in
      record {
        within = omega arith;
        count = omega (arith, w.count);
        from_it = one_more;
        parted = parted_more w.parted;
      }

-- where an empty line is reached
pub record Apart (text : List ℕ) (end next n : ℕ) : Type 0 where
  pub first : lines_of (take end text) ≡ first_block (lines_of text)
  pub second : lines_of (drop next text) ≡ second_block (lines_of text)
  pub count : n ≡ length (first_block (lines_of text))

pub apart_here : (text : List ℕ) (at n : ℕ) → Walked text at n → at < length text → length (line_at text at) ≡ 0 → Apart text at (behind text at) n
apart_here text at n w here short =
    let ls = lines_of text in
    let m = before 10 (drop at text) in
    let none : m ≡ 0 = omega (arith, length-take m (drop at text), length-drop at text, short) in
    let empty : lines_of (drop at text) ≡ [] ∷ lines_of (drop (behind text at) text) =
    first_line text at here ∙ ap (λ k. take k (drop at text) ∷ lines_of (drop (behind text at) text)) none in
    let c : n ≡ prefix_len is_full ls = omega (arith, w.count, ap (prefix_len is_full) empty) in
    record {
      first = ⊎_elim (λ e. absurd (omega arith)) (λ p. ap lines_of (sym (append-nil (take at text))) ∙ p [] ∙ append-nil (take n ls) ∙ ap (λ m. take m ls) c) w.parted;
      second = ap (drop 1) (sym empty ∙ w.from_it) ∙ drop-drop 1 n ls ∙ ap (λ m. drop (m + 1) ls) c;
      count = omega (arith, length-take (prefix_len is_full ls) ls, prefix_len-le-length is_full ls);
    }

pub apart_end : (text : List ℕ) (at n : ℕ) → Walked text at n → length text ≤ at → Apart text at at n
apart_end text at n w end =
    let ls = lines_of text in
    let none : lines_of (drop at text) ≡ [] = ap lines_of (drop_all at text end) in
    let c : n ≡ prefix_len is_full ls = omega (arith, w.count, ap (prefix_len is_full) none) in
    let all : length ls ≤ n = omega (arith, length-drop n ls, ap length (sym w.from_it ∙ none)) in
    record {
      first = ap lines_of (take_all at text end) ∙ sym (take_all n ls all) ∙ ap (λ m. take m ls) c;
      second = none ∙ sym (drop_all (prefix_len is_full ls + 1) ls (omega arith));
      count = omega (arith, length-take (prefix_len is_full ls) ls, prefix_len-le-length is_full ls);
    }

-- the first line of a text, where it has one
pub line_zero : (text : List ℕ) → get_or (lines_of text) 0 [] ≡ take (before 10 text) text
line_zero [] = refl
line_zero (b ∷ bs) = ap (λ ls. get_or ls 0 []) (lines_first (b ∷ bs) (omega arith))

-- The waits and faults that a probe answers are its source's.
use Rattle.std.proofs.Common.{◌≡◌, ℕ, Bool, true, false, cond, ◌&&◌, eqb, ltb, leb, List, [], ◌∷◌, ◌++◌, map, length, Ok, Err, Result, sym, refl, ap, ◌∙◌, append_assoc}
use Rattle.std.proofs.lemmas.Bool.{eqb-true, eqb-false}
use Rattle.nested_loop.specs.Model.{Setup, Item, batch, wait, fault, some_rest, right_rest_of, left_rest_of}
use Rattle.nested_loop.specs.Loop.{any}
use Rattle.nested_loop.specs.Machine.{State, FetchingRight, ProbeRight, EmitRightUnmatched, ProbeEnd, EmitLeftUnmatched, Done, Probe, is_done, handle, probe_right, Join, Spot, nowhere, at, spot, step_at, become, taken_after, told, told_of, answers_of, after, opened, fresh, emit_right_unmatched, emit_left_unmatched, Answer, On, Batch, Wait, Fault, IsDone, StepRefusal}
use Rattle.nested_loop.specs.Said.{notices, notices_from}
use Rattle.nested_loop.proofs.Spots.{named, Tells, spot_tells}
use Rattle.nested_loop.proofs.Turns.{heard_done}

notices_first : (x : Result Answer StepRefusal) (xs : List (Result Answer StepRefusal)) → notices (x ∷ xs) ≡ notices (x ∷ []) ++ notices xs
notices_first (Ok On) xs = refl
notices_first (Ok (Batch n)) xs = refl
notices_first (Ok Wait) xs = refl
notices_first (Ok (Fault f)) xs = refl
notices_first (Ok IsDone) xs = refl
notices_first (Err e) xs = refl

module _ {C : Type 0} (S : Setup C) where
  -- the waits and faults to come
  abbrev ahead : ℕ → ℕ → State C → List (Item C) → List Answer
  ahead who n FetchingRight is = notices_from who n is
  ahead who n (ProbeRight b ms i) is = notices_from who n is
  ahead who n (EmitRightUnmatched b ms) is = notices_from who n is
  ahead who n ProbeEnd is = []
  ahead who n (EmitLeftUnmatched mine i) is = []
  ahead who n Done is = []

  own : (who k : ℕ) (bits : List Bool) (n : ℕ) (st : State C) (w : List (List C)) (is : List (Item C)) →
      let m = handle S bits n st w is in notices (told who k m.answer ∷ []) ++ ahead who (taken_after st is k) m.state m.items ≡ ahead who k st is
  own who k bits n FetchingRight w [] = refl
  own who k bits n FetchingRight w (batch [] ∷ is) = refl
  own who k bits n FetchingRight w (batch (r ∷ rs) ∷ is) = refl
  own who k bits n FetchingRight w (wait ∷ is) = refl
  own who k bits n FetchingRight w (fault c d ∷ is) = refl
  own who k bits n (ProbeRight b ms i) w is = go (leb S.batch_size (length w)) (ltb i (length S.table)) (some_rest (right_rest_of S.join_type))
    where
      go : (f g h : Bool) → let m = probe_right S f g h bits n b ms i w is in notices (told who k m.answer ∷ []) ++ ahead who k m.state m.items ≡ notices_from who k is
      go true g h = refl
      go false true h = refl
      go false false true = refl
      go false false false = refl
  own who k bits n (EmitRightUnmatched b ms) w is = go (leb S.batch_size (length w))
    where
      go : (f : Bool) → let m = emit_right_unmatched S f bits n b ms w is in notices (told who k m.answer ∷ []) ++ ahead who k m.state m.items ≡ notices_from who k is
      go true = refl
      go false = refl
  own who k bits n ProbeEnd w is = refl
  own who k bits n (EmitLeftUnmatched mine i) w is = go (leb S.batch_size (length w)) (mine && (some_rest (left_rest_of S.join_type) && ltb i (length S.table))) w
    where
      go : (f g : Bool) (w : List (List C)) → let m = emit_left_unmatched S f g bits n mine i w is in notices (told who k m.answer ∷ []) ++ ahead who k m.state m.items ≡ []
      go true g w = refl
      go false true w = refl
      go false false [] = refl
      go false false (x ∷ w) = refl
  own who k bits n Done w is = refl

  -- those that came and those to come
  abbrev Noticed : ℕ → Join C → List ℕ → Probe C → Type 0
  Noticed k J ts p = (q : Probe C) × (named k (after S J ts).probes ≡ q ∷ [])
      × (notices (told_of S k J ts) ++ ahead k q.taken q.state q.items ≡ ahead k p.taken p.state p.items)

  run : (ts : List ℕ) (J : Join C) (k : ℕ) (p : Probe C) → named k J.probes ≡ p ∷ [] → Noticed k J ts p
  run [] J k p e = (p, e, refl)
  run (t ∷ ts) J k p e = go (run ts) (spot t J.probes) (spot_tells t k J.probes) (eqb k t) refl
    where
      Goal : Bool → Spot (Probe C) → Type 0
      Goal b s = let K = (step_at S t s J).join in
          (q : Probe C) × (named k (after S K ts).probes ≡ q ∷ [])
          × (notices (cond b ((step_at S t s J).told ∷ []) [] ++ told_of S k K ts) ++ ahead k q.taken q.state q.items ≡ ahead k p.taken p.state p.items)

      go : (ih : (J : Join C) (k : ℕ) (p : Probe C) → named k J.probes ≡ p ∷ [] → Noticed k J ts p) →
          (s : Spot (Probe C)) → Tells t k s J.probes → (b : Bool) → eqb k t ≡ b → Goal b s
      go ih nowhere h true q = ih J k p e
      go ih nowhere h false q = ih J k p e
      go ih (at bef o aft) h false q =
          let m = handle S J.marks J.unfinished o.state o.waiting o.items in
          ih (step_at S t (at bef o aft) J).join k p ((h (become o m)).1 (λ x. eqb-false k t q (sym x)) ∙ e)
      go ih (at bef o aft) h true q =
          let m = handle S J.marks J.unfinished o.state o.waiting o.items in
          let K = (step_at S t (at bef o aft) J).join in
          let both = (h (become o m)).0 (sym (eqb-true k t q)) in
          let same : o ∷ [] ≡ p ∷ [] = sym both.0 ∙ e in
          let os : o ≡ p = cc in
          let tk : t ≡ k = sym (eqb-true k t q) in
          let i = ih K k (become o m) both.1 in
          let x : Result Answer StepRefusal = told t o.taken m.answer in
          let A : List Answer = ahead k i.0.taken i.0.state i.0.items in (
            i.0,
            i.1,
            ap (λ (z : List Answer). z ++ A) (notices_first x (told_of S k K ts))
                ∙ append_assoc (notices (x ∷ [])) (notices (told_of S k K ts)) A
                ∙ ap (λ (z : List Answer). notices (x ∷ []) ++ z) i.2
                ∙ ap (λ (z : ℕ). notices (told z o.taken m.answer ∷ []) ++ ahead k (taken_after o.state o.items o.taken) m.state m.items) tk
                ∙ own k o.taken J.marks J.unfinished o.state o.waiting o.items
                ∙ ap (λ (z : Probe C). ahead k z.taken z.state z.items) os,
          )

  module _ (sources : List (List (Item C))) (ts : List ℕ) (k : ℕ) (is : List (Item C)) (e : named k (map fresh sources) ≡ fresh is ∷ []) where
    abbrev ended : Noticed k (opened S sources) ts (fresh is)
    ended = run ts (opened S sources) k (fresh is) e

    pub noticed_later : List Answer
    noticed_later = ahead k ended.0.taken ended.0.state ended.0.items

    pub noticed : notices (told_of S k (opened S sources) ts) ++ noticed_later ≡ notices_from k 0 is
    unfolding noticed_later
    noticed = ended.2

    pub noticed_all : any is_done (answers_of S k (opened S sources) ts) ≡ true → noticed_later ≡ []
    unfolding noticed_later
    noticed_all d =
        let r = heard_done S ts k (opened S sources) d in
        let x : ended.0 ∷ [] ≡ r.0 ∷ [] = sym ended.1 ∙ r.1 in
        let y : ended.0 ≡ r.0 = cc in
        ap (λ (z : State C). ahead k ended.0.taken z ended.0.items) (ap (λ (z : Probe C). z.state) y ∙ r.2)

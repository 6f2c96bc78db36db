-- The steps a probe has yet to take, exactly: each step that is not done takes one, and a batch adds one.
use Rattle.std.proofs.Common.{◌≡◌, ℕ, zero, suc, ◌+◌, ◌-◌, ◌*◌, ◌/◌, ◌<◌, ◌≤◌, min, Bool, true, false, cond, ◌&&◌, ◌||◌, eqb, ltb, leb, ◌⊎◌, List, [], ◌∷◌, ◌++◌, length, take, sym, refl, ap, ◌∙◌, subst, ap₂, inl, inr, mul-le-mul_right, suc-mul, mul_comm, arith}
use native.Mathlib.Nat.{div-eq-sub-div, div-eq_of_lt, sub-zero, div-le_of_le-mul}
use Rattle.std.proofs.lemmas.Bool.{ltb-true, ltb-false, cases_lt, eqb-true, eqb-false, ne_eqb, or_right}
use Rattle.nested_loop.specs.Model.{Setup, Item, batch, wait, fault, some_rest, right_rest_of, left_rest_of}
use Rattle.nested_loop.specs.Loop.{any}
use Rattle.nested_loop.specs.Machine.{Outcome, State, FetchingRight, ProbeRight, EmitRightUnmatched, ProbeEnd, EmitLeftUnmatched, Done, Handled, Probe, is_done, is_batch, handle, probe_right, rows_met, group, is_one, is_zero, lower, Join, Spot, nowhere, at, spot, step_at, step, become, answers_of, emitter, fresh, emit_right_unmatched, emit_left_unmatched, flush}
use Rattle.nested_loop.specs.Said.{ceil, full_batches, batches_in, bound}
use Rattle.nested_loop.proofs.Account.{up_to_done, probe_steps, steps}
use Rattle.nested_loop.proofs.Spots.{named, Tells, spot_tells}
use Rattle.nested_loop.proofs.Whole.{live, live-step, still, is_probe_end, count_same}

-- one group less
ceil-step : (m g : ℕ) → 1 ≤ g → 1 ≤ m → ceil (m - min g m) g + 1 ≡ ceil m g
ceil-step m g one pos = go (cases_lt m g)
  where
    e : ceil m g ≡ ((m + (g - 1)) - g) / g + 1
    e = div-eq-sub-div {m = g} {n = m + (g - 1)} (omega arith) (omega arith)

    go : (m < g) ⊎ (g ≤ m) → ceil (m - min g m) g + 1 ≡ ceil m g
    go (inl s) =
        let z : ceil (m - min g m) g ≡ 0 = div-eq_of_lt (omega arith) in
        let y : ((m + (g - 1)) - g) / g ≡ 0 = div-eq_of_lt (omega arith) in
        omega (arith, e, z, y)
    go (inr h) =
        let q : (m - min g m) + (g - 1) ≡ (m + (g - 1)) - g = omega arith in
        let z : ceil (m - min g m) g ≡ ((m + (g - 1)) - g) / g = ap (λ (x : ℕ). x / g) q in
        omega (arith, e, z)

ceil-none : (g : ℕ) → 1 ≤ g → ceil 0 g ≡ 0
ceil-none g one = div-eq_of_lt (omega arith)

ceil_le : (m g : ℕ) → 1 ≤ g → ceil m g ≤ m
ceil_le zero g one = let z = ceil-none g one in omega arith
ceil_le (suc m) g one =
    let k : g * 1 ≤ g * suc m = (let a = mul_comm g 1 in let b = mul_comm g (suc m) in let c = suc-mul m g in omega arith) in
    div-le_of_le-mul g (let a = mul_comm g (suc m) in let c = suc-mul m g in let d = grow m g one in omega arith)
  where
    grow : (m g : ℕ) → 1 ≤ g → m ≤ m * g
    grow m g one = let r = mul-le-mul_right {m = 1} {n = g} m one in let a = mul_comm m g in omega arith

pub is_probe_end_is : {C : Type 0} (S : Setup C) (st : State C) → is_probe_end S st ≡ true → st ≡ ProbeEnd
is_probe_end_is S FetchingRight h = absurd (let z : ◌≡◌ {A = ℕ} 0 1 = cc in omega arith)
is_probe_end_is S (ProbeRight b ms i) h = absurd (let z : ◌≡◌ {A = ℕ} 0 1 = cc in omega arith)
is_probe_end_is S (EmitRightUnmatched b ms) h = absurd (let z : ◌≡◌ {A = ℕ} 0 1 = cc in omega arith)
is_probe_end_is S ProbeEnd h = refl
is_probe_end_is S (EmitLeftUnmatched mine i) h = absurd (let z : ◌≡◌ {A = ℕ} 0 1 = cc in omega arith)
is_probe_end_is S Done h = absurd (let z : ◌≡◌ {A = ℕ} 0 1 = cc in omega arith)

pub no_drop : (n : ℕ) → (is_one n && is_zero n) ≡ false
no_drop zero = refl
no_drop (suc zero) = refl
no_drop (suc (suc n)) = refl

module _ {C : Type 0} (S : Setup C) where
  abbrev L : ℕ
  L = length S.table

  abbrev rests : ℕ
  rests = cond (some_rest (right_rest_of S.join_type)) 1 0

  abbrev emit_steps : Bool → ℕ → ℕ
  emit_steps e i = cond (e && some_rest (left_rest_of S.join_type)) (ceil (L - i) S.batch_size) 0

  -- the steps to come but those that deliver, where e says whether the probe will be the emitter
  abbrev left : Bool → State C → List (Item C) → ℕ
  left e FetchingRight is = (length is + probe_steps S is) + (emit_steps e 0 + 4)
  left e (ProbeRight b ms i) is = ceil (L - i) (group S (length b)) + (1 + rests + ((length is + probe_steps S is) + (emit_steps e 0 + 4)))
  left e (EmitRightUnmatched b ms) is = 1 + ((length is + probe_steps S is) + (emit_steps e 0 + 4))
  left e ProbeEnd is = emit_steps e 0 + 3
  left e (EmitLeftUnmatched mine i) is = emit_steps mine i + 2
  left e Done is = 1

  left_pos : (e : Bool) (st : State C) (is : List (Item C)) → 1 ≤ left e st is
  left_pos e FetchingRight is = omega arith
  left_pos e (ProbeRight b ms i) is = omega arith
  left_pos e (EmitRightUnmatched b ms) is = omega arith
  left_pos e ProbeEnd is = omega arith
  left_pos e (EmitLeftUnmatched mine i) is = omega arith
  left_pos e Done is = omega arith

  -- the account of one outcome
  abbrev Spends : ℕ → ℕ → Outcome C → Type 0
  Spends n n' a = ((is_done a ≡ true) × (is_batch a ≡ false) × (n ≡ 1)) ⊎ ((is_done a ≡ false) × (n' + 1 ≡ n + cond (is_batch a) 1 0))

  group_pos : (r : ℕ) → 1 ≤ group S r
  group_pos r = go (ltb 10 (S.batch_size / r)) refl
    where
      go : (t : Bool) → ltb 10 (S.batch_size / r) ≡ t → 1 ≤ cond t (S.batch_size / r) 1
      go true e = omega (arith, ltb-true 10 _ e)
      go false e = omega arith

  met : (r i : ℕ) → i < L → rows_met S r i ≡ min (group S r) (L - i)
  met r i h = go (ltb 10 (S.batch_size / r))
    where
      go : (t : Bool) → cond t (min (S.batch_size / r) (L - i)) 1 ≡ min (cond t (S.batch_size / r) 1) (L - i)
      go true = refl
      go false = omega arith

  meets : (r i : ℕ) → i < L → ceil (L - (i + rows_met S r i)) (group S r) + 1 ≡ ceil (L - i) (group S r)
  meets r i h =
      let k = met r i h in
      let q : L - (i + rows_met S r i) ≡ (L - i) - min (group S r) (L - i) = omega arith in
      ap (λ (x : ℕ). ceil x (group S r) + 1) q ∙ ceil-step (L - i) (group S r) (group_pos r) (omega arith)

  past : (r i : ℕ) → ltb i L ≡ false → ceil (L - i) (group S r) ≡ 0
  past r i e = let k : L - i ≡ 0 = (let j = ltb-false i L e in omega arith) in ap (λ (x : ℕ). ceil x (group S r)) k ∙ ceil-none (group S r) (group_pos r)

  module _ (one : 1 ≤ S.batch_size) where
    spends : (e : Bool) (bits : List Bool) (n : ℕ) (st : State C) (w : List (List C)) (is : List (Item C)) → (st ≡ ProbeEnd → e ≡ is_one n) →
        let m = handle S bits n st w is in Spends (left e st is) (left e m.state m.items) m.answer
    spends e bits n FetchingRight w [] h = inr (refl, omega arith)
    spends e bits n FetchingRight w (batch [] ∷ is) h = inr (refl, omega arith)
    spends e bits n FetchingRight w (batch (r ∷ rs) ∷ is) h =
        inr (refl, let z : ceil (L - 0) (group S (length (r ∷ rs))) ≡ ceil L (group S (length (r ∷ rs))) = ap (λ (x : ℕ). ceil x (group S (length (r ∷ rs)))) (sub-zero L) in omega (arith, z))
    spends e bits n FetchingRight w (wait ∷ is) h = inr (refl, omega arith)
    spends e bits n FetchingRight w (fault c d ∷ is) h = inr (refl, omega arith)
    spends e bits n (ProbeRight b ms i) w is h = go (leb S.batch_size (length w)) (ltb i L) (some_rest (right_rest_of S.join_type)) refl refl
      where
        go : (f g k : Bool) → ltb i L ≡ g → some_rest (right_rest_of S.join_type) ≡ k →
            let m = probe_right S f g k bits n b ms i w is in Spends (left e (ProbeRight b ms i) is) (left e m.state m.items) m.answer
        go true g k q u = inr (refl, omega arith)
        go false true k q u = inr (refl, omega (arith, meets (length b) i (ltb-true i L q)))
        go false false true q u = let c : rests ≡ 1 = ap (λ (x : Bool). cond {A = ℕ} x 1 0) u in inr (refl, omega (arith, past (length b) i q))
        go false false false q u = let c : rests ≡ 0 = ap (λ (x : Bool). cond {A = ℕ} x 1 0) u in inr (refl, omega (arith, past (length b) i q))
    spends e bits n (EmitRightUnmatched b ms) w is h = go (leb S.batch_size (length w))
      where
        go : (f : Bool) → let m = emit_right_unmatched S f bits n b ms w is in Spends (left e (EmitRightUnmatched b ms) is) (left e m.state m.items) m.answer
        go true = inr (refl, omega arith)
        go false = inr (refl, omega arith)
    spends e bits n ProbeEnd w is h = inr (refl, let z : emit_steps e 0 ≡ emit_steps (is_one n) 0 = ap (λ (x : Bool). emit_steps x 0) (h refl) in omega (arith, z))
    spends e bits n (EmitLeftUnmatched mine i) w is h = go (leb S.batch_size (length w)) mine (some_rest (left_rest_of S.join_type)) (ltb i L) refl refl refl w
      where
        Goal : Bool → Bool → Handled C → Type 0
        Goal a r m = Spends (cond (a && r) (ceil (L - i) S.batch_size) 0 + 2) (left e m.state m.items) m.answer

        none : ltb i L ≡ false → ceil (L - i) S.batch_size ≡ 0
        none q = let k : L - i ≡ 0 = (let j = ltb-false i L q in omega arith) in ap (λ (x : ℕ). ceil x S.batch_size) k ∙ ceil-none S.batch_size one

        same : (a r : Bool) → mine ≡ a → some_rest (left_rest_of S.join_type) ≡ r → (j : ℕ) → emit_steps mine j ≡ cond (a && r) (ceil (L - j) S.batch_size) 0
        same a r x y j = ap₂ (λ (a r : Bool). cond (a && r) (ceil (L - j) S.batch_size) 0) x y

        less : ltb i L ≡ true → ceil (L - min (i + S.batch_size) L) S.batch_size + 1 ≡ ceil (L - i) S.batch_size
        less q =
            let k = ltb-true i L q in
            let p : L - min (i + S.batch_size) L ≡ (L - i) - min S.batch_size (L - i) = omega arith in
            ap (λ (x : ℕ). ceil x S.batch_size + 1) p ∙ ceil-step (L - i) S.batch_size one (omega arith)

        flushed : (w : List (List C)) (a r : Bool) → cond (a && r) (ceil (L - i) S.batch_size) 0 ≡ 0 → emit_steps mine i ≡ 0 → Goal a r (flush S bits n mine i w is)
        flushed [] a r z y = inr (refl, omega arith)
        flushed (x ∷ w) a r z y = inr (refl, omega arith)

        go : (f a r g : Bool) → ltb i L ≡ g → mine ≡ a → some_rest (left_rest_of S.join_type) ≡ r → (w : List (List C)) → Goal a r (emit_left_unmatched S f (a && (r && g)) bits n mine i w is)
        go true a r g q x y w = inr (refl, omega (arith, same a r x y i))
        go false true true true q x y w = inr (refl, omega (arith, same true true x y (min (i + S.batch_size) L), less q))
        go false true true false q x y w = flushed w true true (none q) (same true true x y i ∙ none q)
        go false true false g q x y w = flushed w true false refl (same true false x y i)
        go false false r g q x y w = flushed w false r refl (same false r x y i)
    spends e bits n Done w is h = inl (refl, refl, refl)

  -- who answers done is done
  pub done_is_done : (bits : List Bool) (n : ℕ) (ph : State C) (w : List (List C)) (is : List (Item C)) → is_done (handle S bits n ph w is).answer ≡ true → (handle S bits n ph w is).state ≡ Done
  done_is_done bits n FetchingRight w [] h = absurd (let z : ◌≡◌ {A = ℕ} 0 1 = cc in omega arith)
  done_is_done bits n FetchingRight w (batch [] ∷ is) h = absurd (let z : ◌≡◌ {A = ℕ} 0 1 = cc in omega arith)
  done_is_done bits n FetchingRight w (batch (r ∷ rs) ∷ is) h = absurd (let z : ◌≡◌ {A = ℕ} 0 1 = cc in omega arith)
  done_is_done bits n FetchingRight w (wait ∷ is) h = absurd (let z : ◌≡◌ {A = ℕ} 0 1 = cc in omega arith)
  done_is_done bits n FetchingRight w (fault c d ∷ is) h = absurd (let z : ◌≡◌ {A = ℕ} 0 1 = cc in omega arith)
  done_is_done bits n (ProbeRight b ms i) w is h = go (leb S.batch_size (length w)) (ltb i (length S.table)) (some_rest (right_rest_of S.join_type)) h
    where
      go : (f g k : Bool) → let m = probe_right S f g k bits n b ms i w is in is_done m.answer ≡ true → m.state ≡ Done
      go true g k h = cc
      go false true k h = cc
      go false false true h = cc
      go false false false h = cc
  done_is_done bits n (EmitRightUnmatched b ms) w is h = go (leb S.batch_size (length w)) h
    where
      go : (f : Bool) → let m = emit_right_unmatched S f bits n b ms w is in is_done m.answer ≡ true → m.state ≡ Done
      go true h = cc
      go false h = cc
  done_is_done bits n ProbeEnd w is h = cc
  done_is_done bits n (EmitLeftUnmatched mine i) w is h = go (leb S.batch_size (length w)) (mine && (some_rest (left_rest_of S.join_type) && ltb i (length S.table))) w h
    where
      go : (f g : Bool) (w : List (List C)) → let m = emit_left_unmatched S f g bits n mine i w is in is_done m.answer ≡ true → m.state ≡ Done
      go true g w h = cc
      go false true w h = cc
      go false false [] h = cc
      go false false (x ∷ w) h = cc
  done_is_done bits n Done w is h = refl

  -- a count of none stays
  falls : (bits : List Bool) (n : ℕ) (st : State C) (w : List (List C)) (is : List (Item C)) → (handle S bits n st w is).unfinished ≤ n
  falls bits n st w is = go (is_probe_end S st) refl
    where
      low : (n : ℕ) → lower n ≤ n
      low zero = omega arith
      low (suc n) = omega arith

      go : (b : Bool) → is_probe_end S st ≡ b → (handle S bits n st w is).unfinished ≤ n
      go true e = subst (λ (z : State C). (handle S bits n z w is).unfinished ≤ n) (sym (is_probe_end_is S st e)) (low n)
      go false e = let z = count_same S bits n st w is e in omega arith

  no_emitter : (ts : List ℕ) (J : Join C) → J.unfinished ≡ 0 → emitter S J ts ≡ 0
  no_emitter [] J h = refl
  no_emitter (t ∷ ts) J h =
      ap (λ (n : ℕ). cond (is_one n && is_zero (step S J t).join.unfinished) t (emitter S (step S J t).join ts)) h
      ∙ no_emitter ts (step S J t).join (go (spot t J.probes))
    where
      go : (s : Spot (Probe C)) → (step_at S t s J).join.unfinished ≡ 0
      go nowhere = h
      go (at bef p aft) = let z = falls J.marks J.unfinished p.state p.waiting p.items in omega arith

  module _ (j : ℕ) where
    not-zero : eqb (suc j) 0 ≡ false
    not-zero = ne_eqb (suc j) 0 (λ x. omega arith)

    -- who is past its source does not become the emitter
    never : (ts : List ℕ) (J : Join C) (p : Probe C) → named (suc j) J.probes ≡ p ∷ [] → live p.state ≡ 0 → eqb (suc j) (emitter S J ts) ≡ false
    never [] J p e z = not-zero
    never (t ∷ ts) J p e z = go (never ts) (spot t J.probes) (spot_tells t (suc j) J.probes) (eqb (suc j) t) refl
      where
        Goal : Join C → Type 0
        Goal K = eqb (suc j) (cond (is_one J.unfinished && is_zero K.unfinished) t (emitter S K ts)) ≡ false

        other : (b : Bool) (e : ℕ) → eqb (suc j) t ≡ false → eqb (suc j) e ≡ false → eqb (suc j) (cond b t e) ≡ false
        other true e x y = x
        other false e x y = y

        go : (ih : (J : Join C) (p : Probe C) → named (suc j) J.probes ≡ p ∷ [] → live p.state ≡ 0 → eqb (suc j) (emitter S J ts) ≡ false) →
            (s : Spot (Probe C)) → Tells t (suc j) s J.probes → (b : Bool) → eqb (suc j) t ≡ b → Goal (step_at S t s J).join
        go ih nowhere h b q =
            ap (λ (x : Bool). eqb (suc j) (cond x t (emitter S J ts))) (no_drop J.unfinished) ∙ ih J p e z
        go ih (at bef o aft) h false q =
            let m = handle S J.marks J.unfinished o.state o.waiting o.items in
            other _ (emitter S (step_at S t (at bef o aft) J).join ts) q
            (ih (step_at S t (at bef o aft) J).join p ((h (become o m)).1 (λ x. eqb-false (suc j) t q (sym x)) ∙ e) z)
        go ih (at bef o aft) h true q =
            let m = handle S J.marks J.unfinished o.state o.waiting o.items in
            let both = (h (become o m)).0 (sym (eqb-true (suc j) t q)) in
            let same : o ∷ [] ≡ p ∷ [] = sym both.0 ∙ e in
            let os : o ≡ p = cc in
            let l : live o.state ≡ 0 = ap (λ (x : Probe C). live x.state) os ∙ z in
            let u = (still S J.marks J.unfinished o.state o.waiting o.items l).1 in
            let v = live-step S J.marks J.unfinished o.state o.waiting o.items (omega arith) in
            ap (λ (x : ℕ). eqb (suc j) (cond (is_one J.unfinished && is_zero x) t (emitter S (step_at S t (at bef o aft) J).join ts))) u
            ∙ ap (λ (x : Bool). eqb (suc j) (cond x t (emitter S (step_at S t (at bef o aft) J).join ts))) (no_drop J.unfinished)
            ∙ ih (step_at S t (at bef o aft) J).join (become o m) both.1 (omega arith)

    abbrev Account : ℕ → List (Outcome C) → Type 0
    Account n said =
        (any is_done said ≡ true → length (up_to_done said) ≡ n + batches_in said) × (any is_done said ≡ false → length said + 1 ≤ n + batches_in said)

    -- one more outcome in front; after a done nothing is delivered
    account_more : (n n' : ℕ) (a : Outcome C) (said : List (Outcome C)) → Spends n n' a → (is_done a ≡ true → batches_in said ≡ 0) → Account n' said → Account n (a ∷ said)
    account_more n n' a said (inl d) z r = (
      λ _. let q = z d.0 in
          let x : ◌≡◌ {A = ℕ} (cond (is_batch a) 1 0) 0 = ap (λ (b : Bool). cond b 1 0) d.1 in
          let y : cond (is_done a) [] (up_to_done said) ≡ [] = ap (λ (b : Bool). cond b [] (up_to_done said)) d.0 in
          let w : length (cond (is_done a) [] (up_to_done said)) ≡ 0 = ap length y in
          let v : n ≡ 1 = d.2 in omega arith,
      λ f. absurd (let o = d.0 in let y : (is_done a || any is_done said) ≡ true = ap (λ (b : Bool). b || any is_done said) o in let z : ◌≡◌ {A = ℕ} 0 1 = cc in omega arith),
    )
    account_more n n' a said (inr d) z r = (
      λ t. let q : any is_done said ≡ true = sym (ap (λ (b : Bool). b || any is_done said) d.0) ∙ t in
          let i = r.0 q in
          let y : length (cond (is_done a) [] (up_to_done said)) ≡ length (up_to_done said) = ap (λ (b : Bool). length (cond b [] (up_to_done said))) d.0 in
          let v = d.1 in omega arith,
      λ f. let q : any is_done said ≡ false = sym (ap (λ (b : Bool). b || any is_done said) d.0) ∙ f in
          let i = r.1 q in
          let v = d.1 in omega arith,
    )

    module _ (one : 1 ≤ S.batch_size) where
      -- after done only done
      abbrev QuietAfter : Probe C → List (Outcome C) → Type 0
      QuietAfter p said = p.state ≡ Done → batches_in said ≡ 0

      quiet : (ts : List ℕ) (J : Join C) (p : Probe C) → named (suc j) J.probes ≡ p ∷ [] → QuietAfter p (answers_of S (suc j) J ts)
      quiet [] J p e z = refl
      quiet (t ∷ ts) J p e z = go (quiet ts) (spot t J.probes) (spot_tells t (suc j) J.probes) (eqb (suc j) t) refl
        where
          go : (ih : (J : Join C) (p : Probe C) → named (suc j) J.probes ≡ p ∷ [] → QuietAfter p (answers_of S (suc j) J ts)) →
              (s : Spot (Probe C)) → Tells t (suc j) s J.probes → (b : Bool) → eqb (suc j) t ≡ b →
              batches_in (cond b ((step_at S t s J).answer ∷ []) [] ++ answers_of S (suc j) (step_at S t s J).join ts) ≡ 0
          go ih nowhere h true q = omega (arith, ih J p e z)
          go ih nowhere h false q = ih J p e z
          go ih (at bef o aft) h false q =
              let m = handle S J.marks J.unfinished o.state o.waiting o.items in
              ih (step_at S t (at bef o aft) J).join p ((h (become o m)).1 (λ x. eqb-false (suc j) t q (sym x)) ∙ e) z
          go ih (at bef o aft) h true q =
              let m = handle S J.marks J.unfinished o.state o.waiting o.items in
              let both = (h (become o m)).0 (sym (eqb-true (suc j) t q)) in
              let same : o ∷ [] ≡ p ∷ [] = sym both.0 ∙ e in
              let os : o ≡ p = cc in
              let l : o.state ≡ Done = ap (λ (x : Probe C). x.state) os ∙ z in
              let r = ih (step_at S t (at bef o aft) J).join (become o m) both.1 (ap (λ (x : State C). (handle S J.marks J.unfinished x o.waiting o.items).state) l) in
              let b : is_batch m.answer ≡ false = ap (λ (x : State C). is_batch (handle S J.marks J.unfinished x o.waiting o.items).answer) l in
              let c : ◌≡◌ {A = ℕ} (cond (is_batch m.answer) 1 0) 0 = ap (λ (x : Bool). cond x 1 0) b in
              omega (arith, r, c)

      account : (ts : List ℕ) (J : Join C) (p : Probe C) → named (suc j) J.probes ≡ p ∷ [] →
          Account (left (eqb (suc j) (emitter S J ts)) p.state p.items) (answers_of S (suc j) J ts)
      account [] J p e = (λ f. absurd (let z : ◌≡◌ {A = ℕ} 0 1 = cc in omega arith), λ _. omega (arith, left_pos (eqb (suc j) (emitter S J [])) p.state p.items))
      account (t ∷ ts) J p e = go (account ts) (spot t J.probes) (spot_tells t (suc j) J.probes) (eqb (suc j) t) refl
        where
          n : ℕ
          n = J.unfinished

          flag : Join C → Bool
          flag K = eqb (suc j) (cond (is_one n && is_zero K.unfinished) t (emitter S K ts))

          -- another's step does not change whether this probe will be the emitter
          elsewhere : (K : Join C) → eqb (suc j) t ≡ false → flag K ≡ eqb (suc j) (emitter S K ts)
          elsewhere K q = sub (is_one n && is_zero K.unfinished) refl
            where
              zero_is : (x : ℕ) → (is_one n && is_zero x) ≡ true → x ≡ 0
              zero_is zero h = refl
              zero_is (suc x) h = absurd (let y = shut (is_one n) in let z : ◌≡◌ {A = ℕ} 0 1 = cc in omega arith)
                where
                  shut : (b : Bool) → (b && false) ≡ false
                  shut true = refl
                  shut false = refl

              sub : (b : Bool) → (is_one n && is_zero K.unfinished) ≡ b → eqb (suc j) (cond b t (emitter S K ts)) ≡ eqb (suc j) (emitter S K ts)
              sub true h = q ∙ sym not-zero ∙ sym (ap (eqb (suc j)) (no_emitter ts K (zero_is K.unfinished h)))
              sub false h = refl

          Goal : Join C → List (Outcome C) → Type 0
          Goal K said = Account (left (flag K) p.state p.items) said

          go : (ih : (J : Join C) (p : Probe C) → named (suc j) J.probes ≡ p ∷ [] → Account (left (eqb (suc j) (emitter S J ts)) p.state p.items) (answers_of S (suc j) J ts)) →
              (s : Spot (Probe C)) → Tells t (suc j) s J.probes → (b : Bool) → eqb (suc j) t ≡ b →
              Goal (step_at S t s J).join (cond b ((step_at S t s J).answer ∷ []) [] ++ answers_of S (suc j) (step_at S t s J).join ts)
          go ih nowhere h true q = absurd (let z : p ∷ [] ≡ [] = sym e ∙ h (sym (eqb-true (suc j) t q)) in let y : ◌≡◌ {A = ℕ} 0 1 = cc in omega arith)
          go ih nowhere h false q = subst (λ (x : Bool). Account (left x p.state p.items) (answers_of S (suc j) J ts)) (sym (elsewhere J q)) (ih J p e)
          go ih (at bef o aft) h false q =
              let m = handle S J.marks J.unfinished o.state o.waiting o.items in
              let K = (step_at S t (at bef o aft) J).join in
              subst (λ (x : Bool). Account (left x p.state p.items) (answers_of S (suc j) K ts)) (sym (elsewhere K q))
              (ih K p ((h (become o m)).1 (λ x. eqb-false (suc j) t q (sym x)) ∙ e))
          go ih (at bef o aft) h true q =
              subst (λ (x : Probe C). Account (left (flag K) x.state x.items) (m.answer ∷ said)) os
              (account_more (left (flag K) o.state o.items) (left (flag K) m.state m.items) m.answer said
              (spends one (flag K) J.marks n o.state o.waiting o.items flag_end)
              (λ d. quiet ts K (become o m) both.1 (done_is_done J.marks n o.state o.waiting o.items d))
              (subst (λ (x : ℕ). Account x said) (sub (is_probe_end S o.state) refl) (ih K (become o m) both.1)))
            where
              m : Handled C
              m = handle S J.marks J.unfinished o.state o.waiting o.items

              K : Join C
              K = (step_at S t (at bef o aft) J).join

              said : List (Outcome C)
              said = answers_of S (suc j) K ts

              both : (named (suc j) J.probes ≡ o ∷ []) × (named (suc j) K.probes ≡ become o m ∷ [])
              both = (h (become o m)).0 (sym (eqb-true (suc j) t q))

              os : o ≡ p
              os = let same : o ∷ [] ≡ p ∷ [] = sym both.0 ∙ e in cc

              -- at the end of its source it is the emitter if it is the last
              flag_end : o.state ≡ ProbeEnd → flag K ≡ is_one n
              flag_end s = last n m.unfinished (ap (λ (x : State C). (handle S J.marks n x o.waiting o.items).unfinished) s)
                where
                  past_it : live m.state ≡ 0
                  past_it = ap (λ (x : State C). live (handle S J.marks n x o.waiting o.items).state) s

                  no : eqb (suc j) (emitter S K ts) ≡ false
                  no = never ts K (become o m) both.1 past_it

                  last : (n u : ℕ) → u ≡ lower n → eqb (suc j) (cond (is_one n && is_zero u) t (emitter S K ts)) ≡ is_one n
                  last zero u x = no
                  last (suc zero) u x = ap (λ (y : ℕ). eqb (suc j) (cond (is_zero y) t (emitter S K ts))) x ∙ q
                  last (suc (suc n)) u x = no

              sub : (b : Bool) → is_probe_end S o.state ≡ b → left (eqb (suc j) (emitter S K ts)) m.state m.items ≡ left (flag K) m.state m.items
              sub true s =
                  let r = is_probe_end_is S o.state s in
                  ap (λ (x : State C). left (eqb (suc j) (emitter S K ts)) (handle S J.marks n x o.waiting o.items).state (handle S J.marks n x o.waiting o.items).items) r
                  ∙ sym (ap (λ (x : State C). left (flag K) (handle S J.marks n x o.waiting o.items).state (handle S J.marks n x o.waiting o.items).items) r)
              sub false s =
                  let c = count_same S J.marks n o.state o.waiting o.items s in
                  let f : flag K ≡ eqb (suc j) (emitter S K ts) =
                  ap (λ (x : ℕ). eqb (suc j) (cond (is_one n && is_zero x) t (emitter S K ts))) c ∙ ap (λ (x : Bool). eqb (suc j) (cond x t (emitter S K ts))) (no_drop n) in
                  ap (λ (x : Bool). left x m.state m.items) (sym f)

      pub exact : (is : List (Item C)) (ts : List ℕ) (J : Join C) → named (suc j) J.probes ≡ fresh is ∷ [] →
          let said = answers_of S (suc j) J ts in
          any is_done said ≡ true → length (up_to_done said) ≡ steps S is (eqb (suc j) (emitter S J ts)) (batches_in said)
      exact is ts J e h =
          let a = (account ts J (fresh is) e).0 h in
          let z : emit_steps (eqb (suc j) (emitter S J ts)) 0 ≡ cond (eqb (suc j) (emitter S J ts) && some_rest (left_rest_of S.join_type)) (ceil L S.batch_size) 0 =
          ap (λ (x : ℕ). cond (eqb (suc j) (emitter S J ts) && some_rest (left_rest_of S.join_type)) (ceil x S.batch_size) 0) (sub-zero L) in
          omega (arith, a, z)

      -- what is taken covers the first done
      any-take : (n : ℕ) (said : List (Outcome C)) → any is_done said ≡ true → length (up_to_done said) ≤ n → any is_done (take n said) ≡ true
      any-take n [] h l = absurd (let z : ◌≡◌ {A = ℕ} 0 1 = cc in omega arith)
      any-take zero (a ∷ said) h l = absurd (omega arith)
      any-take (suc n) (a ∷ said) h l = go (is_done a) refl h l (any-take n said)
        where
          go : (b : Bool) → is_done a ≡ b → (b || any is_done said) ≡ true → length (a ∷ cond b [] (up_to_done said)) ≤ suc n →
              (any is_done said ≡ true → length (up_to_done said) ≤ n → any is_done (take n said) ≡ true) → (is_done a || any is_done (take n said)) ≡ true
          go true e h l ih = ap (λ (b : Bool). b || any is_done (take n said)) e
          go false e h l ih = or_right (is_done a) (any is_done (take n said)) (ih h (omega arith))

      few : (is : List (Item C)) → probe_steps S is ≤ full_batches is * (L + 2)
      few [] = omega arith
      few (batch [] ∷ is) = few is
      few (batch (r ∷ rs) ∷ is) = omega (arith, few is, suc-mul (full_batches is) (L + 2), ceil_le L (group S (length (r ∷ rs))) (group_pos (length (r ∷ rs))), less (some_rest (right_rest_of S.join_type)))
        where
          less : (b : Bool) → cond b 1 0 ≤ 1
          less true = omega arith
          less false = omega arith
      few (wait ∷ is) = few is
      few (fault c d ∷ is) = few is

      pub in_time : (is : List (Item C)) (ts : List ℕ) (J : Join C) → named (suc j) J.probes ≡ fresh is ∷ [] →
          let said = answers_of S (suc j) J ts in
          bound S is (batches_in said) ≤ length said → any is_done (take (bound S is (batches_in said)) said) ≡ true
      in_time is ts J e late = go (any is_done said) refl
        where
          said : List (Outcome C)
          said = answers_of S (suc j) J ts

          emit_le : (b : Bool) → cond b (ceil (L - 0) S.batch_size) 0 ≤ ceil L S.batch_size
          emit_le true = omega (arith, ap (λ (x : ℕ). ceil x S.batch_size) (sub-zero L))
          emit_le false = omega arith

          fits : left (eqb (suc j) (emitter S J ts)) FetchingRight is + batches_in said ≤ bound S is (batches_in said)
          fits = omega (arith, few is, emit_le (eqb (suc j) (emitter S J ts) && some_rest (left_rest_of S.join_type)))

          go : (b : Bool) → any is_done said ≡ b → any is_done (take (bound S is (batches_in said)) said) ≡ true
          go true h = any-take (bound S is (batches_in said)) said h (omega (arith, (account ts J (fresh is) e).0 h, fits))
          go false h = absurd (omega (arith, (account ts J (fresh is) e).1 h, fits))

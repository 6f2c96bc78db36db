-- A list of actual calls is a run of the model.
use Rattle.std.proofs.Common.{◌≡◌, ℕ, zero, suc, ◌+◌, ◌-◌, ◌<◌, ◌≤◌, Bool, true, false, cond, ◌&&◌, eqb, List, [], ◌∷◌, ◌++◌, map, length, get_or, take, drop, set, replicate, None, Result, sym, refl, ap, ◌∙◌, subst, ap₂, append_assoc, append-nil, arith}
use Rattle.std.specs.List.{AllByRecursion}
use Rattle.std.proofs.lemmas.List.{map_push, set_split}
use Rattle.std.proofs.lemmas.Bool.{eq-eqb, ne_eqb}
use Rattle.memory.specs.Items.{Item}
use Rattle.memory.specs.Rows.{rows_from}
use Rattle.memory.proofs.Cuts.{length-rows_from}
use Rattle.memory.proofs.Pages.{rows_front}
use Rattle.nested_loop.specs.declared.answer.Answer.{Answer}
use Rattle.nested_loop.specs.declared.answer.StepRefusal.{StepRefusal}
use Rattle.nested_loop.specs.Model.{Setup}
use Rattle.nested_loop.specs.Machine.{Outcome, Probe, Tally, Join, Handled, handle, asks, rows_in, become, tallied, Spot, nowhere, at, behind, spot, step, step_at, after, answers, answers_of, told_of, emitter, is_one, is_zero, no_marks, fresh, all_probes_done, waiting_at}
use Rattle.nested_loop.specs.Machine as machine
use Rattle.nested_loop.specs.Said.{seen, Upheld}
use Rattle.nested_loop.proofs.Spots.{whole, spot-whole}
use Rattle.nested_loop.proofs.Whole.{all-parts}
use Rattle.nested_loop.proofs.Room.{Wide, wide_step, wide_run, wide_open}
use Rattle.nested_loop.proofs.All as model-runs
use Rattle.runs.specs.Records.{Terms, ProbeView, JoinView, fresh_view, view_at, Call}
use Rattle.runs.specs.Calls.{setup_of, probe_of, refusal_of, Moves, call_probe, call_handled, call_setup, Stepped}
use Rattle.runs.specs.Lists.{Setting, setting_setup, Kept, items_at, Fronts, Continues, follow, with_join, Steps, opened, stepped, refusing, shown, outcome_of, calls_of, emitter_of, waiting_view, all_answered, seen_of}
use Rattle.runs.proofs.Shown.{table_is, state_same, read_back}
use Rattle.runs.proofs.Branches.{Accepted, accepted}

-- as many times the same as there are elements
same_each : {X Y : Type 0} (y : Y) (xs : List X) → replicate (length xs) y ≡ map (λ x. y) xs
same_each y [] = refl
same_each {X} {Y} y (x ∷ xs) = ap (λ (z : List Y). y ∷ z) (same_each y xs)

-- the element at a number
spot-get_or : {X : Type 0} (j : ℕ) (xs : List X) (d : X) → j < length xs → spot (suc j) xs ≡ at (take j xs) (get_or xs j d) (drop (suc j) xs)
spot-get_or j [] d h = absurd (omega arith)
spot-get_or zero (x ∷ xs) d h = refl
spot-get_or (suc j) (x ∷ xs) d h = ap (behind x) (spot-get_or j xs d (omega arith))

-- The model's join that records and memory show
module _ {C : Type 0} where
  abbrev shown_probe : Terms → Kept C → ℕ → ProbeView → Probe C
  shown_probe o k n v = probe_of o v (k.items n) (k.right n) (k.waiting n)

  abbrev model : Terms → Kept C → ℕ → List ProbeView → List (Probe C)
  model o k n [] = []
  model o k n (v ∷ vs) = shown_probe o k n v ∷ model o k (suc n) vs

  abbrev model_of : Kept C → Join C
  model_of k = record { marks = k.join.marks; unfinished = k.join.unfinished; probes = model k.join.terms k 1 k.join.probes; tally = k.join.tally }

  waiting_shown : (o : Terms) (k : Kept C) (n t : ℕ) (vs : List ProbeView) → waiting_view t vs ≡ waiting_at t (model o k n vs)
  waiting_shown o k n t [] = refl
  waiting_shown o k n zero (v ∷ vs) = refl
  waiting_shown o k n (suc zero) (v ∷ vs) = sym (length-rows_from v.waiting (length o.columns) (k.waiting n))
  waiting_shown o k n (suc (suc t)) (v ∷ vs) = waiting_shown o k (suc n) (suc t) vs

  answered_shown : (o : Terms) (k : Kept C) (n : ℕ) (vs : List ProbeView) → all_answered vs ≡ all_probes_done (model o k n vs)
  answered_shown o k n [] = refl
  answered_shown o k n (v ∷ vs) = ap (λ (b : Bool). v.answered && b) (answered_shown o k (suc n) vs)

  -- the record at a number is the model's probe at that number
  abbrev Shows : Terms → Kept C → ℕ → ℕ → Spot ProbeView → Spot (Probe C) → Type 0
  Shows o k n j nowhere s = Unit {0}
  Shows o k n j (at bef v aft) s = (s ≡ at (model o k n bef) (shown_probe o k (n + j) v) (model o k (suc (n + j)) aft)) × (length bef ≡ j)

  shows_behind : (o : Terms) (k : Kept C) (n j : ℕ) (w : ProbeView) (s : Spot ProbeView) (u : Spot (Probe C)) → Shows o k (suc n) j s u → Shows o k n (suc j) (behind w s) (behind (shown_probe o k n w) u)
  shows_behind o k n j w nowhere u h = tt
  shows_behind o k n j w (at bef v aft) u h = (
    ap (behind (shown_probe o k n w)) h.0
        ∙ ap (λ (x : ℕ). at (shown_probe o k n w ∷ model o k (suc n) bef) (shown_probe o k x v) (model o k (suc x) aft)) (let e : suc n + j ≡ n + suc j = omega arith in e),
    let l = h.1 in omega arith,
  )

  shows : (o : Terms) (k : Kept C) (j n : ℕ) (vs : List ProbeView) → Shows o k n j (spot (suc j) vs) (spot (suc j) (model o k n vs))
  shows o k j n [] = tt
  shows o k zero n (v ∷ vs) = (ap (λ (x : ℕ). at [] (shown_probe o k x v) (model o k (suc x) vs)) (let e : n ≡ n + 0 = omega arith in e), refl)
  shows o k (suc j) n (v ∷ vs) = shows_behind o k n j v (spot (suc j) vs) (spot (suc j) (model o k (suc n) vs)) (shows o k j (suc n) vs)

  module _ (o : Terms) (k : Kept C) (c : Call C) where
    elsewhere : (n : ℕ) (v : ProbeView) → (c.probe ≡ n → ⊥) → shown_probe o (follow k c) n v ≡ shown_probe o k n v
    elsewhere n v h =
        ap (λ (b : Bool). probe_of o v (cond b c.items' (k.items n)) (cond b c.right' (k.right n)) (cond b c.waiting' (k.waiting n))) (ne_eqb c.probe n h)

    here : (n : ℕ) (v : ProbeView) → c.probe ≡ n → shown_probe o (follow k c) n v ≡ probe_of o v c.items' c.right' c.waiting'
    here n v h =
        ap (λ (b : Bool). probe_of o v (cond b c.items' (k.items n)) (cond b c.right' (k.right n)) (cond b c.waiting' (k.waiting n))) (eq-eqb c.probe n h)

    beyond : (n : ℕ) (vs : List ProbeView) → c.probe < n → model o (follow k c) n vs ≡ model o k n vs
    beyond n [] h = refl
    beyond n (v ∷ vs) h = ap₂ (λ (x : Probe C) (y : List (Probe C)). x ∷ y) (elsewhere n v (λ e. omega arith)) (beyond (suc n) vs (omega arith))

    follows : (n : ℕ) (bef : List ProbeView) (next : ProbeView) (aft : List ProbeView) → c.probe ≡ n + length bef →
        model o (follow k c) n (bef ++ next ∷ aft) ≡ model o k n bef ++ probe_of o next c.items' c.right' c.waiting' ∷ model o k (suc c.probe) aft
    follows n [] next aft e =
        let f : c.probe ≡ n = omega arith in
        ap₂ (λ (x : Probe C) (y : List (Probe C)). x ∷ y) (here n next f)
        (beyond (suc n) aft (omega arith) ∙ ap (λ (z : ℕ). model o k (suc z) aft) (sym f))
    follows n (b ∷ bef) next aft e =
        ap₂ (λ (x : Probe C) (y : List (Probe C)). x ∷ y) (elsewhere n b (λ f. omega arith)) (follows (suc n) bef next aft (omega arith))

-- One accepted call is one step of the model
module _ {C : Type 0} (Z : Setting C) where
  abbrev pub S : Setup C
  S = setting_setup Z

  abbrev pub J₀ : Join C
  J₀ = machine.opened S Z.sources

  -- what the run keeps of the opening
  pub record Sound (j : JoinView) : Type 0 where
    pub terms : j.terms ≡ Z.terms
    pub left_columns : j.left_columns ≡ Z.left_columns
    pub left_rows : j.left_rows ≡ length Z.table

  pub record One (k : Kept C) (c : Call C) : Type 0 where
    pub join : (step S (model_of (with_join k c.join)) c.probe).join ≡ model_of (follow k c)
    pub answer : (step S (model_of (with_join k c.join)) c.probe).answer ≡ outcome_of c
    pub told : (step S (model_of (with_join k c.join)) c.probe).told ≡ c.answer
    pub sound : Sound c.join'

  module _ (k : Kept C) (c : Call C) (rows : AllByRecursion (λ l. length l ≡ Z.left_columns) Z.table) (so : Sound c.join) (con : Continues Z k c)
      (wide : AllByRecursion (λ p. Wide S p.waiting) (model_of (with_join k c.join)).probes) where
    abbrev o : Terms
    o = c.join.terms

    same_setup : call_setup Z.cells c ≡ S
    same_setup =
        let t : rows_from c.join.left_rows c.join.left_columns c.left ≡ Z.table =
        ap₂ (λ (n m : ℕ). rows_from n m c.left) so.left_rows so.left_columns ∙ table_is Z.left_columns Z.table c.left rows con.left in
        λ i. setup_of Z.cells (so.terms i) (t i) (λ l r. con.says l r i)

    moved : (bef : List ProbeView) (v : ProbeView) (aft : List ProbeView) (p : Probe C) → Moves S p c (call_handled S p c) → ((x : ProbeView) → set c.join.probes (c.probe - 1) x ≡ bef ++ x ∷ aft) → (j : ℕ) → c.probe ≡ suc j → length bef ≡ j →
        spot c.probe (model o k 1 c.join.probes) ≡ at (model o k 1 bef) p (model o k (suc c.probe) aft) → One k c
    moved bef v aft p M put j cj lj sp = record {
      join =
          ap (λ (z : Spot (Probe C)). (step_at S c.probe z K).join) sp
          ∙ sym (ap (λ (z : JoinView). model_of (record { join = z; items = (follow k c).items; right = (follow k c).right; waiting = (follow k c).waiting })) M.join
          ∙ ap (λ (z : List (Probe C)). record { marks = m.marks; unfinished = m.unfinished; probes = z; tally = tallied c.join.tally (asks S p.state p.waiting) m.answer })
          (ap (model o (follow k c) 1) (put (view_at c.probe c.join')) ∙ follows o k c 1 bef (view_at c.probe c.join') aft (omega arith)
          ∙ ap (λ (z : Probe C). model o k 1 bef ++ z ∷ model o k (suc c.probe) aft) M.view));
      answer =
          ap (λ (z : Spot (Probe C)). (step_at S c.probe z K).answer) sp
          ∙ sym (ap₂ (λ (x : Result Answer StepRefusal) (y : List C). shown x (length o.columns) y) M.answer M.out
          ∙ read_back c.probe p.taken (length o.columns) m.answer _ wide_out);
      told = ap (λ (z : Spot (Probe C)). (step_at S c.probe z K).told) sp ∙ sym M.answer;
      sound = record {
        terms = ap (λ (z : JoinView). z.terms) M.join ∙ so.terms;
        left_columns = ap (λ (z : JoinView). z.left_columns) M.join ∙ so.left_columns;
        left_rows = ap (λ (z : JoinView). z.left_rows) M.join ∙ so.left_rows;
      };
    }
      where
        K : Join C
        K = model_of (with_join k c.join)

        m : Handled C
        m = handle S c.join.marks c.join.unfinished p.state p.waiting p.items

        wide_p : Wide S p.waiting
        wide_p =
            let w = subst (λ (z : Spot (Probe C)). whole z K.probes) sp (spot-whole c.probe K.probes) in
            (all-parts (λ p. Wide S p.waiting) (model o k 1 bef) (p ∷ model o k (suc c.probe) aft) (subst (λ (z : List (Probe C)). AllByRecursion (λ p. Wide S p.waiting) z) w wide)).1.0

        wide_out : AllByRecursion (λ r. length r ≡ length o.columns) (rows_in m.answer)
        wide_out =
            subst (λ (z : Terms). AllByRecursion (λ r. length r ≡ length z.columns) (rows_in m.answer)) (sym so.terms)
            (wide_step S c.join.marks c.join.unfinished p.state p.waiting p.items wide_p).1

    one : Stepped Z.cells c → refusal_of c ≡ None → One k c
    one st acc = number c.probe refl
      where
        A : Accepted c
        A = accepted c acc

        fronts : Fronts (with_join k c.join) c
        fronts = subst (λ (z : JoinView). Fronts (with_join k z) c) (sym con.join) con.fronts

        vs : List ProbeView
        vs = c.join.probes

        v : ProbeView
        v = view_at c.probe c.join

        p : Probe C
        p = shown_probe o k c.probe v

        same : call_probe c ≡ p
        same = λ x. record {
          state = state_same o.right_columns v c.right (k.right c.probe) v.state fronts.0 x;
          waiting = rows_front v.waiting (length o.columns) c.waiting (k.waiting c.probe) fronts.1 x;
          items = con.items x;
          taken = v.taken;
          answered = v.answered;
        }

        number : (t : ℕ) → c.probe ≡ t → One k c
        number zero e = absurd (let r = A.from_one in omega arith)
        number (suc j) e =
            let l : j < length vs = (let r = A.among in omega arith) in
            let i : c.probe - 1 ≡ j = omega arith in
            let n : 1 + j ≡ c.probe = omega arith in
            let w : ProbeView = get_or vs j fresh_view in
            let vw : w ≡ v = ap (λ (x : ℕ). get_or vs x fresh_view) (sym i) in
            let h : Shows o k 1 j (at (take j vs) w (drop (suc j) vs)) (spot (suc j) (model o k 1 vs)) =
            subst (λ (s : Spot ProbeView). Shows o k 1 j s (spot (suc j) (model o k 1 vs))) (spot-get_or j vs fresh_view l) (shows o k j 1 vs) in
            moved (take j vs) v (drop (suc j) vs) p
            (subst (λ (z : Probe C). Moves S z c (call_handled S z c)) same (subst (λ (z : Setup C). Moves z (call_probe c) c (call_handled z (call_probe c) c)) same_setup (st.accepts acc)))
            (λ x. ap (λ (y : ℕ). set vs y x) i ∙ set_split vs j x l)
            j e h.1
            (ap (λ (t : ℕ). spot t (model o k 1 vs)) e ∙ h.0
            ∙ ap₂ (λ (x : ℕ) (y : ProbeView). at (model o k 1 (take j vs)) (shown_probe o k x y) (model o k (suc x) (drop (suc j) vs))) n vw)

-- One more turn at the end
module _ {C : Type 0} (S : Setup C) where
  after_push : (ts : List ℕ) (t : ℕ) (J : Join C) → after S J (ts ++ t ∷ []) ≡ (step S (after S J ts) t).join
  after_push [] t J = refl
  after_push (u ∷ ts) t J = after_push ts t (step S J u).join

  answers_push : (ts : List ℕ) (t : ℕ) (J : Join C) → answers S J (ts ++ t ∷ []) ≡ answers S J ts ++ (step S (after S J ts) t).answer ∷ []
  answers_push [] t J = refl
  answers_push (u ∷ ts) t J = ap (λ (z : List (Outcome C)). (step S J u).answer ∷ z) (answers_push ts t (step S J u).join)

  answers_of_push : (k : ℕ) (ts : List ℕ) (t : ℕ) (J : Join C) → answers_of S k J (ts ++ t ∷ []) ≡ answers_of S k J ts ++ cond (eqb k t) ((step S (after S J ts) t).answer ∷ []) []
  answers_of_push k [] t J = append-nil (cond (eqb k t) ((step S J t).answer ∷ []) [])
  answers_of_push k (u ∷ ts) t J =
      let x : List (Outcome C) = cond (eqb k u) ((step S J u).answer ∷ []) [] in
      ap (λ (z : List (Outcome C)). x ++ z) (answers_of_push k ts t (step S J u).join) ∙ sym (append_assoc x (answers_of S k (step S J u).join ts) _)

  told_of_push : (k : ℕ) (ts : List ℕ) (t : ℕ) (J : Join C) → told_of S k J (ts ++ t ∷ []) ≡ told_of S k J ts ++ cond (eqb k t) ((step S (after S J ts) t).told ∷ []) []
  told_of_push k [] t J = append-nil (cond (eqb k t) ((step S J t).told ∷ []) [])
  told_of_push k (u ∷ ts) t J =
      let x : List (Result Answer StepRefusal) = cond (eqb k u) ((step S J u).told ∷ []) [] in
      ap (λ (z : List (Result Answer StepRefusal)). x ++ z) (told_of_push k ts t (step S J u).join) ∙ sym (append_assoc x (told_of S k (step S J u).join ts) _)

  -- the probe and the count of unfinished probes before and after each step
  abbrev drops : Join C → List ℕ → List (ℕ × ℕ × ℕ)
  drops J [] = []
  drops J (t ∷ ts) = (t, J.unfinished, (step S J t).join.unfinished) ∷ drops (step S J t).join ts

  drops_push : (ts : List ℕ) (t : ℕ) (J : Join C) → drops J (ts ++ t ∷ []) ≡ drops J ts ++ (t, (after S J ts).unfinished, (step S (after S J ts) t).join.unfinished) ∷ []
  drops_push [] t J = refl
  drops_push (u ∷ ts) t J = ap (λ (z : List (ℕ × ℕ × ℕ)). (u, J.unfinished, (step S J u).join.unfinished) ∷ z) (drops_push ts t (step S J u).join)

abbrev first_drop : List (ℕ × ℕ × ℕ) → ℕ
first_drop [] = 0
first_drop (d ∷ ds) = cond (is_one d.1 && is_zero d.2) d.0 (first_drop ds)

emitter-drop : {C : Type 0} (S : Setup C) (ts : List ℕ) (J : Join C) → emitter S J ts ≡ first_drop (drops S J ts)
emitter-drop S [] J = refl
emitter-drop S (t ∷ ts) J = ap (λ (z : ℕ). cond (is_one J.unfinished && is_zero (step S J t).join.unfinished) t z) (emitter-drop S ts (step S J t).join)

module _ {C : Type 0} where
  abbrev drop_of : Call C → ℕ × ℕ × ℕ
  drop_of c = (c.probe, c.join.unfinished, c.join'.unfinished)

  abbrev turn_of : Call C → ℕ
  turn_of c = c.probe

  abbrev answer_of : Call C → Result Answer StepRefusal
  answer_of c = c.answer

  emitter_calls : (cs : List (Call C)) → emitter_of cs ≡ first_drop (map drop_of cs)
  emitter_calls [] = refl
  emitter_calls (c ∷ cs) = ap (λ (z : ℕ). cond (is_one c.join.unfinished && is_zero c.join'.unfinished) c.probe z) (emitter_calls cs)

  calls_push : (t : ℕ) (cs : List (Call C)) (c : Call C) → calls_of t (cs ++ c ∷ []) ≡ calls_of t cs ++ cond (eqb t c.probe) (c ∷ []) []
  calls_push t [] c = append-nil (cond (eqb t c.probe) (c ∷ []) [])
  calls_push t (d ∷ cs) c =
      let x : List (Call C) = cond (eqb t d.probe) (d ∷ []) [] in
      ap (λ (z : List (Call C)). x ++ z) (calls_push t cs c) ∙ sym (append_assoc x (calls_of t cs) (cond (eqb t c.probe) (c ∷ []) []))

  map_calls : {Y : Type 0} (f : Call C → Y) (t : ℕ) (cs : List (Call C)) (c : Call C) → map f (calls_of t (cs ++ c ∷ [])) ≡ map f (calls_of t cs) ++ cond (eqb t c.probe) (f c ∷ []) []
  map_calls {Y} f t cs c = ap (map f) (calls_push t cs c) ∙ go (eqb t c.probe)
    where
      go : (b : Bool) → map f (calls_of t cs ++ cond b (c ∷ []) []) ≡ map f (calls_of t cs) ++ cond b (f c ∷ []) []
      go true = map_push f (calls_of t cs) c
      go false = ap (map f) (append-nil (calls_of t cs)) ∙ sym (append-nil (map f (calls_of t cs)))

module _ {C : Type 0} (Z : Setting C) where
  pub record Bridged (k : Kept C) (cs : List (Call C)) : Type 0 where
    pub sound : Sound Z k.join
    pub model : model_of k ≡ after (S Z) (J₀ Z) (map turn_of cs)
    pub all : map outcome_of cs ≡ answers (S Z) (J₀ Z) (map turn_of cs)
    pub by : (t : ℕ) → map outcome_of (calls_of t cs) ≡ answers_of (S Z) t (J₀ Z) (map turn_of cs)
    pub told : (t : ℕ) → map answer_of (calls_of t cs) ≡ told_of (S Z) t (J₀ Z) (map turn_of cs)
    pub drop : map drop_of cs ≡ drops (S Z) (J₀ Z) (map turn_of cs)
    pub rows : AllByRecursion (λ l. length l ≡ Z.left_columns) Z.table
    pub size : 1 ≤ Z.terms.batch_size
    pub some : 1 ≤ length Z.sources

  open_probes : (o : Terms) (k : Kept C) (n : ℕ) (ss : List (List (Item C))) → ((j : ℕ) → k.items (n + j) ≡ items_at (suc j) ss) → model o k n (map (λ s. fresh_view) ss) ≡ map fresh ss
  open_probes o k n [] h = refl
  open_probes o k n (s ∷ ss) h =
      ap₂ (λ (x : Probe C) (y : List (Probe C)). x ∷ y)
      (ap fresh (ap k.items (let e : n ≡ n + 0 = omega arith in e) ∙ h 0))
      (open_probes o k (suc n) ss (λ j. ap k.items (let e : suc n + j ≡ n + suc j = omega arith in e) ∙ h (suc j)))

  pub bridge : {k : Kept C} {cs : List (Call C)} → Steps Z k cs → Bridged k cs
  bridge (opened k f) = record {
    sound = record {
      terms = ap (λ (z : JoinView). z.terms) f.join;
      left_columns = ap (λ (z : JoinView). z.left_columns) f.join;
      left_rows = ap (λ (z : JoinView). z.left_rows) f.join;
    };
    model =
        ap (λ (z : JoinView). model_of (with_join k z)) f.join
        ∙ ap₂ (λ (x : List Bool) (z : List (Probe C)). record { marks = x; unfinished = length Z.sources; probes = z; tally = record { rows = 0; batches = 0; pairs = 0 } })
        (same_each false Z.table)
        (ap (model Z.terms k 1) (same_each fresh_view Z.sources) ∙ open_probes Z.terms k 1 Z.sources (λ j. f.items (1 + j) ∙ ap (λ (t : ℕ). items_at t Z.sources) (let e : 1 + j ≡ suc j = omega arith in e)));
    all = refl;
    by = λ t. refl;
    told = λ t. refl;
    drop = refl;
    rows = f.rows;
    size = f.size;
    some = f.some;
  }
  bridge (stepped {k} {cs} s c st acc con) = go (bridge s)
    where
      t : ℕ
      t = c.probe

      ts : List ℕ
      ts = map turn_of cs

      push : map turn_of (cs ++ c ∷ []) ≡ ts ++ t ∷ []
      push = map_push turn_of cs c

      go : Bridged k cs → Bridged (follow k c) (cs ++ c ∷ [])
      go b = record {
        sound = O.sound;
        model = sym O.join ∙ ap (λ (J : Join C). (step (S Z) J t).join) eq ∙ sym (after_push (S Z) ts t (J₀ Z)) ∙ ap (after (S Z) (J₀ Z)) (sym push);
        all = map_push outcome_of cs c ∙ ap₂ (λ (x : List (Outcome C)) (y : Outcome C). x ++ y ∷ []) b.all out ∙ sym (answers_push (S Z) ts t (J₀ Z)) ∙ ap (answers (S Z) (J₀ Z)) (sym push);
        by = λ u. map_calls outcome_of u cs c ∙ ap₂ (λ (x : List (Outcome C)) (y : Outcome C). x ++ cond (eqb u t) (y ∷ []) []) (b.by u) out
            ∙ sym (answers_of_push (S Z) u ts t (J₀ Z)) ∙ ap (answers_of (S Z) u (J₀ Z)) (sym push);
        told = λ u. map_calls answer_of u cs c ∙ ap₂ (λ (x : List (Result Answer StepRefusal)) (y : Result Answer StepRefusal). x ++ cond (eqb u t) (y ∷ []) []) (b.told u) said
            ∙ sym (told_of_push (S Z) u ts t (J₀ Z)) ∙ ap (told_of (S Z) u (J₀ Z)) (sym push);
        drop = map_push drop_of cs c
            ∙ ap₂ (λ (x : List (ℕ × ℕ × ℕ)) (y : ℕ × ℕ × ℕ). x ++ y ∷ []) b.drop
            (ap₂ (λ (x y : ℕ). (t, x, y)) (ap (λ (J : Join C). J.unfinished) eq) (ap (λ (J : Join C). J.unfinished) (sym O.join) ∙ ap (λ (J : Join C). (step (S Z) J t).join.unfinished) eq))
            ∙ sym (drops_push (S Z) ts t (J₀ Z)) ∙ ap (drops (S Z) (J₀ Z)) (sym push);
        rows = b.rows;
        size = b.size;
        some = b.some;
      }
        where
          eq : model_of (with_join k c.join) ≡ after (S Z) (J₀ Z) ts
          eq = ap (λ (z : JoinView). model_of (with_join k z)) con.join ∙ b.model

          wide : AllByRecursion (λ p. Wide (S Z) p.waiting) (model_of (with_join k c.join)).probes
          wide = subst (λ (J : Join C). AllByRecursion (λ p. Wide (S Z) p.waiting) J.probes) (sym eq) (wide_run (S Z) ts (J₀ Z) (wide_open (S Z) Z.sources))

          O : One Z k c
          O = one Z k c b.rows (subst (Sound Z) (sym con.join) b.sound) con wide st acc

          out : outcome_of c ≡ (step (S Z) (after (S Z) (J₀ Z) ts) t).answer
          out = sym O.answer ∙ ap (λ (J : Join C). (step (S Z) J t).answer) eq

          said : c.answer ≡ (step (S Z) (after (S Z) (J₀ Z) ts) t).told
          said = sym O.told ∙ ap (λ (J : Join C). (step (S Z) J t).told) eq
  bridge (refusing {k} {cs} s x e) = subst (λ (j : JoinView). Bridged (with_join k j) cs) (sym (x.same ∙ e)) (bridge s)

  seen_is : {k : Kept C} {cs : List (Call C)} → Bridged k cs → seen_of k cs ≡ seen (S Z) (J₀ Z) (map turn_of cs)
  seen_is {k} {cs} b =
      let J : Join C = after (S Z) (J₀ Z) (map turn_of cs) in
      let em : emitter_of cs ≡ emitter (S Z) (J₀ Z) (map turn_of cs) = emitter_calls cs ∙ ap first_drop b.drop ∙ sym (emitter-drop (S Z) (map turn_of cs) (J₀ Z)) in
      let w : (t : ℕ) → waiting_view t k.join.probes ≡ waiting_at t J.probes =
      λ t. waiting_shown k.join.terms k 1 t k.join.probes ∙ ap (λ (K : Join C). waiting_at t K.probes) b.model in
      let y : k.join.tally ≡ J.tally = ap (λ (K : Join C). K.tally) b.model in
      let f : all_answered k.join.probes ≡ all_probes_done J.probes =
      answered_shown k.join.terms k 1 k.join.probes ∙ ap (λ (K : Join C). all_probes_done K.probes) b.model in
      λ i. record {
        all = b.all i;
        by = λ t. b.by t i;
        told = λ t. b.told t i;
        emitter = em i;
        waiting = λ t. w t i;
        tally = y i;
        finished = f i;
      }

  pub holds : (k : Kept C) (cs : List (Call C)) → Steps Z k cs → Upheld (S Z) Z.sources (seen_of k cs)
  holds k cs s =
      let b = bridge s in
      subst (Upheld (S Z) Z.sources) (sym (seen_is b)) (model-runs.stands C (S Z) Z.sources (map turn_of cs) b.size b.some)

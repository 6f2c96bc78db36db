-- What every handler shares: the handler of a known state, rows that are delivered, and a step that writes nothing.
use Rattle.std.proofs.Common.{◌≡◌, ℕ, ◌-◌, ◌*◌, ◌≤◌, Bool, List, ◌++◌, length, take, drop, Ok, sym, refl, ap, ◌∙◌, subst, rules}
use Rattle.memory.specs.Items.{Item}
use Rattle.memory.specs.Marks.{bits_of}
use Rattle.memory.specs.Rows.{cells_of}
use Rattle.join_types.specs.Types.{row_of}
use Rattle.join_types.specs.declared.kind.JoinType.{JoinType}
use Rattle.join_types.specs.Laws.{TypesStand}
use Rattle.nested_loop.specs.Model.{Setup, right_rest_of}
use Rattle.nested_loop.specs.Machine.{State, Handled, handled, handle, deliver, delivers, on, taken_after}
use Rattle.nested_loop.specs.declared.answer.NLJState.{NLJState}
use Rattle.nested_loop.specs.declared.answer.NLJState.TheVariants as nlj
use Rattle.nested_loop.specs.declared.answer.Answer.{Answer}
use Rattle.nested_loop.specs.declared.answer.Answer.TheVariants.{On, Batch}
use Rattle.opening.specs.declared.plan.Plan.{Plan}
use Rattle.runs.specs.Records.{ProbeView}
use Rattle.runs.specs.Calls.{state_of, largest_after, Unread}
use Rattle.join.specs.declared.record.Probe.{Probe}
use Rattle.join.specs.View.{probe_view, state_at}
use Rattle.join.specs.Handled.{Around, around, waiting_rows, handled_by, Handles, with_waiting, with_state}
use Rattle.join.specs.Sound.{Sound, room_of}
use Rattle.join.proofs.Quiet.{no_rows, or-none}
use Rattle.join.proofs.Delivering.{taken_rows}

-- the right rest of a type is the left rest of its mirror
pub right-rest : (k : JoinType) → (row_of k).right_rest ≡ right_rest_of k
right-rest = (let laws : TypesStand = search rules in laws).rests

-- a record whose batch, marks, index and emitter flag stay
pub unread_same : (s : NLJState) (v n : ProbeView) → n.rows ≡ v.rows → n.marks ≡ v.marks → n.index ≡ v.index → n.emits ≡ v.emits → Unread s v n
unread_same nlj.FetchingRight v n a b c d = (a, b, c, d)
unread_same nlj.ProbeRight v n a b c d = d
unread_same nlj.EmitRightUnmatched v n a b c d = (c, d)
unread_same nlj.ProbeEnd v n a b c d = (a, b, c, d)
unread_same nlj.EmitLeftUnmatched v n a b c d = (a, b)
unread_same nlj.Done v n a b c d = (a, b, c, d)

-- the state does not depend on how many rows wait
state_waiting : {C : Type 0} (s : NLJState) (p : Probe) (k c : ℕ) (right : List C) → state_of c (probe_view (with_waiting p k)) right s ≡ state_of c (probe_view p) right s
state_waiting nlj.FetchingRight p k c right = refl
state_waiting nlj.ProbeRight p k c right = refl
state_waiting nlj.EmitRightUnmatched p k c right = refl
state_waiting nlj.ProbeEnd p k c right = refl
state_waiting nlj.EmitLeftUnmatched p k c right = refl
state_waiting nlj.Done p k c right = refl

-- fewer rows wait: the record stays sound
pub sound_waiting : (plan : Plan) (p p' : Probe) (k : ℕ) → Sound plan p → k ≤ room_of plan p.largest → p' ≡ with_waiting p k → Sound plan p'
sound_waiting plan p p' k s h e = subst (Sound plan) (sym e) (record { rows = s.rows; largest = s.largest; waiting = h; placed = s.placed })

-- in a state in which no source is asked
pub largest_is : (most : ℕ) (p : Probe) (s : NLJState) → p.state ≡ s → largest_after (probe_view p) s most ≡ p.largest → p.largest ≡ largest_after (probe_view p) p.state most
largest_is most p s e h = sym (ap (λ (x : NLJState). largest_after (probe_view p) x most) e ∙ h)

module _ {C : Type 0} (plan : Plan) (who most : ℕ) (p : Probe) where
  -- the state of a probe whose state is known
  pub state_is : (s : NLJState) (right : List C) → p.state ≡ s → state_at plan p right ≡ state_of plan.list.right_columns (probe_view p) right s
  state_is s right e = ap (λ (x : NLJState). state_of plan.list.right_columns (probe_view p) right x) e

  -- in a state in which no item is taken
  pub taken_is : (s : NLJState) (right : List C) (items : List (Item C)) → p.state ≡ s → taken_after (state_of plan.list.right_columns (probe_view p) right s) items p.taken ≡ p.taken →
      p.taken ≡ taken_after (state_at plan p right) items p.taken
  taken_is s right items e h = sym (ap (λ (x : State C). taken_after x items p.taken) (state_is s right e) ∙ h)

  -- what the handler does where its branch is known
  pub handles_by : (S : Setup C) (p' : Probe) (a a' : Around C) (r : Answer) (m : Handled C) → handled_by S plan p a ≡ m → Handles plan who most p p' a a' r m → Handles plan who most p p' a a' r (handled_by S plan p a)
  handles_by S p' a a' r m e h = subst (Handles plan who most p p' a a' r) (sym e) h

  pub handles_as : (p' : Probe) (a a' : Around C) (r r' : Answer) (m : Handled C) → r ≡ r' → Handles plan who most p p' a a' r' m → Handles plan who most p p' a a' r m
  handles_as p' a a' r r' m e h = subst (λ (x : Answer). Handles plan who most p p' a a' x m) (sym e) h

  module _ (S : Setup C) (a : Around C) (s : NLJState) (is : p.state ≡ s) where
    abbrev bits : List Bool
    bits = bits_of plan.left_rows a.marks

    abbrev known : State C
    known = state_of plan.list.right_columns (probe_view p) a.right s

    -- the handler of the known state
    pub at_state : handled_by S plan p a ≡ handle S bits a.unfinished known (waiting_rows plan p a.waiting) a.items
    at_state = ap (λ (x : State C). handle S bits a.unfinished x (waiting_rows plan p a.waiting) a.items) (state_is s a.right is)

    -- it delivers
    pub delivers_at : handle S bits a.unfinished known (waiting_rows plan p a.waiting) a.items ≡ deliver S bits a.unfinished known (waiting_rows plan p a.waiting) a.items →
        handled_by S plan p a ≡ deliver S bits a.unfinished (state_at plan p a.right) (waiting_rows plan p a.waiting) a.items
    delivers_at h = at_state ∙ h ∙ sym (ap (λ (x : State C). deliver S bits a.unfinished x (waiting_rows plan p a.waiting) a.items) (state_is s a.right is))

  -- the first k waiting rows are delivered
  pub delivered : (s : NLJState) (marks : List ℕ) (n : ℕ) (items : List (Item C)) (right waiting waiting' out out' : List C) (p' : Probe) (r : Answer) (k : ℕ) → p.state ≡ s →
      taken_after (state_of plan.list.right_columns (probe_view p) right s) items p.taken ≡ p.taken → largest_after (probe_view p) s most ≡ p.largest →
      r ≡ Batch k → p' ≡ with_waiting p (p.waiting - k) → k ≤ p.waiting →
      out' ≡ cells_of (take k (waiting_rows plan p waiting)) ++ drop (length (take k (waiting_rows plan p waiting)) * plan.list.count) out →
      waiting_rows plan p' waiting' ≡ drop k (waiting_rows plan p waiting) →
      Handles plan who most p p' (around marks n items right waiting out) (around marks n items right waiting' out') r
      (handled (delivers (take k (waiting_rows plan p waiting))) (bits_of plan.left_rows marks) n (state_at plan p right) (drop k (waiting_rows plan p waiting)) items)
  delivered s marks n items right waiting waiting' out out' p' r k is tk lg er ep few eo el = record {
    marks = refl;
    unfinished = refl;
    state = ap (λ (q : Probe). state_at plan q right) ep ∙ state_waiting p.state p (p.waiting - k) plan.list.right_columns right;
    waiting = el;
    items = refl;
    answer = ap (λ (x : Answer). Ok x) er ∙ ap (λ (x : ℕ). Ok (Batch x)) (sym (taken_rows k p.waiting plan.list.count waiting few));
    out = eo;
    taken = ap (λ (q : Probe). q.taken) ep ∙ taken_is s right items is tk;
    answered = ap (λ (q : Probe). q.answered) ep ∙ or-none p.answered;
    unread = subst (λ (q : Probe). Unread q.state (probe_view p) (probe_view q)) (sym ep) (unread_same p.state (probe_view p) (probe_view (with_waiting p (p.waiting - k))) refl refl refl refl);
    largest = ap (λ (q : Probe). q.largest) ep ∙ largest_is most p s is lg;
  }

  -- another state, and nothing else
  pub passes : (S : Setup C) (s s' : NLJState) (a : Around C) (st : State C) → p.state ≡ s →
      taken_after (state_of plan.list.right_columns (probe_view p) a.right s) a.items p.taken ≡ p.taken → largest_after (probe_view p) s most ≡ p.largest →
      state_at plan (with_state p s') a.right ≡ st →
      Handles plan who most p (with_state p s') a a On (handled on (bits_of plan.left_rows a.marks) a.unfinished st (waiting_rows plan p a.waiting) a.items)
  passes S s s' a st is tk lg e = record {
    marks = refl;
    unfinished = refl;
    state = e;
    waiting = refl;
    items = refl;
    answer = refl;
    out = no_rows plan.list.count a.out;
    taken = taken_is s a.right a.items is tk;
    answered = or-none p.answered;
    unread = unread_same s' (probe_view p) (probe_view (with_state p s')) refl refl refl refl;
    largest = largest_is most p s is lg;
  }

  -- rows are appended behind those that wait
  pub appends : (s : NLJState) (p' : Probe) (marks : List ℕ) (n : ℕ) (items : List (Item C)) (right waiting waiting' out : List C) (st : State C) (rows : List (List C)) → p.state ≡ s →
      taken_after (state_of plan.list.right_columns (probe_view p) right s) items p.taken ≡ p.taken → largest_after (probe_view p) s most ≡ p.largest →
      p'.taken ≡ p.taken → p'.answered ≡ p.answered → p'.largest ≡ p.largest → Unread p'.state (probe_view p) (probe_view p') → state_at plan p' right ≡ st →
      waiting_rows plan p' waiting' ≡ waiting_rows plan p waiting ++ rows →
      Handles plan who most p p' (around marks n items right waiting out) (around marks n items right waiting' out) On
      (handled on (bits_of plan.left_rows marks) n st (waiting_rows plan p waiting ++ rows) items)
  appends s p' marks n items right waiting waiting' out st rows is tk lg et ea el un e w = record {
    marks = refl;
    unfinished = refl;
    state = e;
    waiting = w;
    items = refl;
    answer = refl;
    out = no_rows plan.list.count out;
    taken = et ∙ taken_is s right items is tk;
    answered = ea ∙ or-none p.answered;
    unread = un;
    largest = el ∙ largest_is most p s is lg;
  }

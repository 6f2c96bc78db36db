-- What is seen of a run, and all that is promised of it, together. Promises.antt has each promise by itself.
use Rattle.std.specs.Prelude.{◌≡◌, ℕ, suc, ◌+◌, ◌-◌, ◌*◌, ◌≤◌, max, Bool, true, cond, List, [], ◌∷◌, ◌++◌, length, take, Ok, Err, Result, ◌==◌}
use Rattle.std.specs.List.Sorted.{IsPermutation}
use Rattle.std.specs.List.{flat_map, AllByRecursion}
pub use Rattle.memory.specs.Counts.{parts as ceil}
use Rattle.nested_loop.specs.Model.{Setup, Item, batch, wait, fault, counted}
use Rattle.nested_loop.specs.Loop.{any, right_rows, nested, item_rows, left_rest_rows}
use Rattle.nested_loop.specs.Machine.{Outcome, refused, on, delivers, waits, faults, says_done, is_done, is_batch, rows_in, opened, after, answers, answers_of, told_of, emitter, Join, Tally, all_probes_done, waiting_at, Answer, On, Batch, Wait, Fault, IsDone, StepRefusal}

-- how many of the items are batches that have a row
abbrev pub full_batches : {C : Type 0} → List (Item C) → ℕ
full_batches [] = 0
full_batches (batch [] ∷ is) = full_batches is
full_batches (batch (r ∷ rs) ∷ is) = suc (full_batches is)
full_batches (wait ∷ is) = full_batches is
full_batches (fault c d ∷ is) = full_batches is

-- how many of the outcomes are batches
abbrev pub batches_in : {C : Type 0} → List (Outcome C) → ℕ
batches_in [] = 0
batches_in (a ∷ xs) = cond (is_batch a) 1 0 + batches_in xs

-- the batches among the outcomes
abbrev pub batches_of : {C : Type 0} → List (Outcome C) → List (List (List C))
batches_of [] = []
batches_of (refused ∷ xs) = batches_of xs
batches_of (on ∷ xs) = batches_of xs
batches_of (delivers rs ∷ xs) = rs ∷ batches_of xs
batches_of (waits ∷ xs) = batches_of xs
batches_of (faults c d ∷ xs) = batches_of xs
batches_of (says_done ∷ xs) = batches_of xs

-- cut into n rows with the remainder last
abbrev pub Cut : {X : Type 0} → ℕ → List (List X) → Type 0
Cut n [] = Unit {0}
Cut n (b ∷ []) = (1 ≤ length b) × (length b ≤ n)
Cut n (b ∷ c ∷ bs) = (length b ≡ n) × Cut n (c ∷ bs)

-- the waits and faults among what a caller was told
abbrev pub notices : List (Result Answer StepRefusal) → List Answer
notices [] = []
notices (Ok On ∷ xs) = notices xs
notices (Ok (Batch n) ∷ xs) = notices xs
notices (Ok Wait ∷ xs) = Wait ∷ notices xs
notices (Ok (Fault f) ∷ xs) = Fault f ∷ notices xs
notices (Ok IsDone ∷ xs) = notices xs
notices (Err e ∷ xs) = notices xs

-- those of a source, with the probe that asks it and how many items that took before
abbrev pub notices_from : {C : Type 0} → ℕ → ℕ → List (Item C) → List Answer
notices_from who n [] = []
notices_from who n (batch b ∷ is) = notices_from who (counted (suc n)) is
notices_from who n (wait ∷ is) = Wait ∷ notices_from who (counted (suc n)) is
notices_from who n (fault c d ∷ is) = Fault (record { cause = c; depth = d; probe = who; items = n }) ∷ notices_from who (counted (suc n)) is

abbrev pub item_size : {C : Type 0} → Item C → ℕ
item_size (batch b) = length b
item_size wait = 0
item_size (fault c d) = 0

module _ {C : Type 0} (S : Setup C) where
  -- by this own step a probe is done that has these items at opening and delivers so many batches
  abbrev pub bound : List (Item C) → ℕ → ℕ
  bound is d = length is + full_batches is * (length S.table + 2) + ceil (length S.table) S.batch_size + d + 4

-- what is seen of a run: the outcomes in time, those of each probe, what its caller was told, the emitter (0: none yet),
-- how many rows wait at each probe, the tally and whether all probes have answered done
pub record Seen (C : Type 0) : Type 0 where
  pub all : List (Outcome C)
  pub by : ℕ → List (Outcome C)
  pub told : ℕ → List (Result Answer StepRefusal)
  pub emitter : ℕ
  pub waiting : ℕ → ℕ
  pub tally : Tally
  pub finished : Bool

abbrev pub seen : {C : Type 0} → Setup C → Join C → List ℕ → Seen C
seen S J ts = record {
  all = answers S J ts;
  by = λ k. answers_of S k J ts;
  told = λ k. told_of S k J ts;
  emitter = emitter S J ts;
  waiting = λ k. waiting_at k (after S J ts).probes;
  tally = (after S J ts).tally;
  finished = all_probes_done (after S J ts).probes;
}

-- the rows delivered, in time, and those of probe k
abbrev pub delivered : {C : Type 0} → Seen C → List (List C)
delivered v = flat_map rows_in v.all

abbrev pub delivered_by : {C : Type 0} → ℕ → Seen C → List (List C)
delivered_by k v = flat_map rows_in (v.by k)

abbrev pub is_done_by : {C : Type 0} → ℕ → Seen C → Bool
is_done_by k v = any is_done (v.by k)

-- the promise about probe k, whose source has these items
pub record ProbeUpheld {C : Type 0} (S : Setup C) (sources : List (List (Item C))) (k : ℕ) (is : List (Item C)) (v : Seen C) : Type 0 where
  -- done by the bound, over its own answers
  pub in_time : let n = bound S is (batches_in (v.by k)) in n ≤ length (v.by k) → any is_done (take n (v.by k)) ≡ true
  pub in_cuts : Cut S.batch_size (batches_of (v.by k))
  -- its rows in order, the emitter's left rest last; those that come later are none when it is done
  pub later : List (List C)
  pub in_order : delivered_by k v ++ later ≡ item_rows S is ++ cond (k == v.emitter) (left_rest_rows S sources) []
  pub to_the_end : is_done_by k v ≡ true → later ≡ []
  -- its source's waits and faults
  pub noticed_later : List Answer
  pub noticed : notices (v.told k) ++ noticed_later ≡ notices_from k 0 is
  pub noticed_all : is_done_by k v ≡ true → noticed_later ≡ []
  pub in_room : (m : ℕ) → AllByRecursion (λ i. item_size i ≤ m) is → v.waiting k ≤ (S.batch_size - 1) + max S.batch_size m

-- every probe has answered done
abbrev pub Finished : {C : Type 0} → List (List (Item C)) → Seen C → Type 0
Finished sources v = (k : ℕ) → 1 ≤ k → k ≤ length sources → is_done_by k v ≡ true

-- the promise about a run of a join that was opened over these sources
pub record Upheld {C : Type 0} (S : Setup C) (sources : List (List (Item C))) (v : Seen C) : Type 0 where
  pub each : (bef : List (List (Item C))) (is : List (Item C)) (aft : List (List (Item C))) → sources ≡ bef ++ is ∷ aft → ProbeUpheld S sources (suc (length bef)) is v
  -- with the rows that are lacking, each row as often as the nested loop has it; none are lacking when all are done
  pub lacking : List (List C)
  pub at_most : IsPermutation (delivered v ++ lacking) (nested S sources)
  pub exactly : Finished sources v → IsPermutation (delivered v) (nested S sources)
  pub emits : Finished sources v → (1 ≤ v.emitter) × (v.emitter ≤ length sources)
  pub rows : v.tally.rows ≡ counted (length (delivered v))
  pub batches : v.tally.batches ≡ counted (batches_in v.all)
  pub pairs : Finished sources v → v.tally.pairs ≡ counted (length S.table * length (flat_map right_rows sources))
  pub all_done : v.finished ≡ true → Finished sources v
  pub none_else : Finished sources v → v.finished ≡ true

-- over one kind of cell
abbrev pub Stands : Type 0 → Type 0
Stands C = (S : Setup C) (sources : List (List (Item C))) (ts : List ℕ) → 1 ≤ S.batch_size → 1 ≤ length sources → Upheld S sources (seen S (opened S sources) ts)

-- What is promised of every list of steps from a freshly opened join, one statement each.
use Rattle.std.specs.Prelude.{◌≡◌, ℕ, suc, ◌+◌, ◌-◌, ◌*◌, ◌≤◌, max, true, cond, List, [], ◌∷◌, ◌++◌, length, take, ◌==◌}
use Rattle.std.specs.List.Sorted.{IsPermutation}
use Rattle.std.specs.List.{flat_map, AllByRecursion}
use Rattle.nested_loop.specs.Model.{Setup, Item, counted}
use Rattle.nested_loop.specs.Loop.{any, right_rows, nested, item_rows, left_rest_rows}
use Rattle.nested_loop.specs.Machine.{is_done, opened, Answer}
use Rattle.nested_loop.specs.Said.{Seen, seen, delivered, delivered_by, is_done_by, Finished, bound, batches_in, batches_of, Cut, notices, notices_from, item_size}
use Rattle.nested_loop.specs.Bags.{InBags, exchanged, IsJoined}

-- what is seen of a run: the join is opened over the sources, and its probes take these turns; a turn that names no probe is refused
abbrev pub ran : {C : Type 0} → Setup C → List (List (Item C)) → List ℕ → Seen C
ran S sources turns = seen S (opened S sources) turns

-- of every run: a batch size and a number of probes that are not 0 are all that is asked
abbrev pub EveryRun : (C : Type 0) → (Setup C → List (List (Item C)) → Seen C → Type 0) → Type 0
EveryRun C P = (S : Setup C) (sources : List (List (Item C))) (turns : List ℕ) → 1 ≤ S.batch_size → 1 ≤ length sources → P S sources (ran S sources turns)

-- of every probe of such a run, numbered from 1, with the items of its source
abbrev pub EveryProbe : (C : Type 0) → (Setup C → List (List (Item C)) → Seen C → ℕ → List (Item C) → Type 0) → Type 0
EveryProbe C P =
    EveryRun C (λ S sources v. (before : List (List (Item C))) (items : List (Item C)) (after : List (List (Item C))) →
    sources ≡ before ++ items ∷ after → P S sources v (suc (length before)) items)

-- no row came more often than the nested loop has it: with the rows that are lacking, they are the nested loop's
abbrev pub NeverMoreOften : Type 0 → Type 0
NeverMoreOften C = EveryRun C (λ S sources v. (lacking : List (List C)) × IsPermutation (delivered v ++ lacking) (nested S sources))

-- probe k's rows so far, and those to come, are its own sequence: batch by batch pairs and then right rest, and the left rest last from the
-- emitter; none are to come when it is done
pub record InOrder {C : Type 0} (S : Setup C) (sources : List (List (Item C))) (v : Seen C) (k : ℕ) (items : List (Item C)) : Type 0 where
  pub later : List (List C)
  pub in_order : delivered_by k v ++ later ≡ item_rows S items ++ cond (k == v.emitter) (left_rest_rows S sources) []
  pub to_the_end : is_done_by k v ≡ true → later ≡ []

-- when every probe has answered done, every row came exactly as often as in the nested loop, and one probe was the emitter: the one whose step
-- brought the count of unfinished probes to 0; and each probe's rows come in order, at any time
pub record ExactlyWhenFinished (C : Type 0) : Type 0 where
  pub exactly : EveryRun C (λ S sources v. Finished sources v → IsPermutation (delivered v) (nested S sources))
  pub one_emits : EveryRun C (λ S sources v. Finished sources v → (1 ≤ v.emitter) × (v.emitter ≤ length sources))
  pub in_order : EveryProbe C InOrder

-- each probe's batches have B rows, but the last, which has 1 to B
abbrev pub WithinCuts : Type 0 → Type 0
WithinCuts C = EveryProbe C (λ S sources v k items. Cut S.batch_size (batches_of (v.by k)))

-- a probe with n items, m of them batches that have a row, that delivered D batches has answered done by its own accepted step
-- n + m (L + 2) + ⌈L / B⌉ + D + 4
abbrev pub WithinBound : Type 0 → Type 0
WithinBound C =
    EveryProbe C (λ S sources v k items. let most = bound S items (batches_in (v.by k)) in
    most ≤ length (v.by k) → any is_done (take most (v.by k)) ≡ true)

-- what a probe answered of waits and faults, and what it has yet to answer, are its source's, in order, each fault with cause, depth, probe and
-- the items taken before
pub record Noticed {C : Type 0} (S : Setup C) (sources : List (List (Item C))) (v : Seen C) (k : ℕ) (items : List (Item C)) : Type 0 where
  pub later : List Answer
  pub in_order : notices (v.told k) ++ later ≡ notices_from k 0 items
  pub to_the_end : is_done_by k v ≡ true → later ≡ []

abbrev pub NoticesCome : Type 0 → Type 0
NoticesCome C = EveryProbe C Noticed

-- the tally has the rows and batches delivered, and says whether every probe has answered done; then the pairs asked are L × the right rows.
-- Counts stop at the largest number of 64 bits. What waits at a probe never passes B − 1 + the larger of B and its largest batch
pub record IsTallied (C : Type 0) : Type 0 where
  pub rows : EveryRun C (λ S sources v. v.tally.rows ≡ counted (length (delivered v)))
  pub batches : EveryRun C (λ S sources v. v.tally.batches ≡ counted (batches_in v.all))
  pub pairs : EveryRun C (λ S sources v. Finished sources v → v.tally.pairs ≡ counted (length S.table * length (flat_map right_rows sources)))
  pub says_so : EveryRun C (λ S sources v. v.finished ≡ true → Finished sources v)
  pub only_then : EveryRun C (λ S sources v. Finished sources v → v.finished ≡ true)
  pub room : EveryProbe C (λ S sources v k items. (largest : ℕ) → AllByRecursion (λ i. item_size i ≤ largest) items → v.waiting k ≤ (S.batch_size - 1) + max S.batch_size largest)

-- two finished runs, one with the other's sides exchanged: mirror type, verdict turned about, left and right swapped in the output list; all
-- rows brought are the other's left table, in any order, and its left rows are brought, each once. Whatever the probes, batches, batch sizes
-- and turns, they deliver the same rows equally often
abbrev pub Mirrors : Type 0 → Type 0
Mirrors C = (S : Setup C) (sources others : List (List (Item C))) (table : List (List C)) (size : ℕ) (turns turns' : List ℕ) →
    1 ≤ S.batch_size → 1 ≤ size → 1 ≤ length sources → 1 ≤ length others →
    IsPermutation (flat_map right_rows sources) table → IsPermutation S.table (flat_map right_rows others) →
    Finished sources (ran S sources turns) → Finished others (ran (exchanged S table size) others turns') →
    IsPermutation (delivered (ran S sources turns)) (delivered (ran (exchanged S table size) others turns'))

-- however the right rows are spread over sources and batches, and in whatever order the rows of both sides stand
abbrev pub OfTwoBags : Type 0 → Type 0
OfTwoBags C = (S : Setup C) → InBags S

-- inner, left, right and full are the joined table of ISO/IEC 9075-2, cut to the output list
abbrev pub IsJoinedTable : Type 0 → Type 0
IsJoinedTable C = (S : Setup C) → IsJoined S

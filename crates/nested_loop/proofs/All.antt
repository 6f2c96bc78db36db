-- The promise about every run of the model.
use Rattle.std.proofs.Common.{◌≡◌, ℕ, suc, ◌≤◌, List, [], ◌∷◌, ◌++◌, map, length, ap, ◌∙◌, arith}
use lib.ListN.{length-map}
use Rattle.nested_loop.specs.Model.{Item}
use Rattle.nested_loop.specs.Machine.{opened, fresh, after, Join}
use Rattle.nested_loop.specs.Said.{Stands, ProbeUpheld, Finished, seen}
use Rattle.nested_loop.proofs.Spots.{named, named_open}
use Rattle.nested_loop.proofs.Whole.{total}
use Rattle.nested_loop.proofs.Time
use Rattle.nested_loop.proofs.Cuts
use Rattle.nested_loop.proofs.Turns
use Rattle.nested_loop.proofs.Order
use Rattle.nested_loop.proofs.Notices
use Rattle.nested_loop.proofs.Room
use Rattle.nested_loop.proofs.Tally

pub stands : (C : Type 0) → Stands C
stands C S sources ts one some = record {
  each = λ bef is aft e. each bef is aft e;
  lacking = total S (after S J ts);
  at_most = Turns.at_most S sources ts some;
  exactly = Turns.exactly S sources ts some;
  emits = emits;
  rows = Tally.rows S sources ts;
  batches = Tally.batches S sources ts;
  pairs = Tally.pairs S sources ts;
  all_done = Tally.done_all S sources ts;
  none_else = Tally.all_of_done S sources ts;
}
  where
    J : Join C
    J = opened S sources

    each : (bef : List (List (Item C))) (is : List (Item C)) (aft : List (List (Item C))) → sources ≡ bef ++ is ∷ aft → ProbeUpheld S sources (suc (length bef)) is (seen S J ts)
    each bef is aft e =
        let k : ℕ = suc (length bef) in
        let n : named k (map fresh sources) ≡ fresh is ∷ [] = ap (λ (z : List (List (Item C))). named k (map fresh z)) e ∙ named_open bef is aft in
        record {
          in_time = Time.in_time S (length bef) one is ts J n;
          in_cuts = Cuts.in_cuts S one k is ts J n;
          later = Order.later S sources ts some k is n;
          in_order = Order.in_order S sources ts some k is n;
          to_the_end = Order.to_the_end S sources ts some k is n;
          noticed_later = Notices.noticed_later S sources ts k is n;
          noticed = Notices.noticed S sources ts k is n;
          noticed_all = Notices.noticed_all S sources ts k is n;
          in_room = Room.in_room S one sources ts k is n;
        }

    emits : Finished sources (seen S J ts) → (1 ≤ (seen S J ts).emitter) × ((seen S J ts).emitter ≤ length sources)
    emits f =
        let v = (Turns.all_run S ts J (Turns.inv_open S sources)).0 in
        let z = (Turns.nothing_left S (after S J ts).marks (after S J ts).probes (Turns.all_done S sources ts f)).1 in
        let c = v.counted in
        let r = Order.emitter_range S ts J some (omega arith) in
        let l = length-map sources (fresh {C = C}) in
        (r.0, let x = r.1 in omega arith)

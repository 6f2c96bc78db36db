-- Each promise, from what holds of every run.
use Rattle.nested_loop.specs.Promises.{NeverMoreOften, ExactlyWhenFinished, WithinCuts, WithinBound, NoticesCome, IsTallied, Mirrors, OfTwoBags, IsJoinedTable}
use Rattle.nested_loop.proofs.All.{stands}
use Rattle.nested_loop.proofs.Iso.{tables}

pub never_more_often : (C : Type 0) → NeverMoreOften C
never_more_often C S sources ts b p = let u = stands C S sources ts b p in (u.lacking, u.at_most)

pub exactly_when_finished : (C : Type 0) → ExactlyWhenFinished C
exactly_when_finished C = record {
  exactly = λ S sources ts b p. (stands C S sources ts b p).exactly;
  one_emits = λ S sources ts b p. (stands C S sources ts b p).emits;
  in_order = λ S sources ts b p bef is aft e. let u = (stands C S sources ts b p).each bef is aft e in record { later = u.later; in_order = u.in_order; to_the_end = u.to_the_end };
}

pub within_cuts : (C : Type 0) → WithinCuts C
within_cuts C S sources ts b p bef is aft e = ((stands C S sources ts b p).each bef is aft e).in_cuts

pub within_bound : (C : Type 0) → WithinBound C
within_bound C S sources ts b p bef is aft e = ((stands C S sources ts b p).each bef is aft e).in_time

pub notices_come : (C : Type 0) → NoticesCome C
notices_come C S sources ts b p bef is aft e =
    let u = (stands C S sources ts b p).each bef is aft e in
    record { later = u.noticed_later; in_order = u.noticed; to_the_end = u.noticed_all }

pub is_tallied : (C : Type 0) → IsTallied C
is_tallied C = record {
  rows = λ S sources ts b p. (stands C S sources ts b p).rows;
  batches = λ S sources ts b p. (stands C S sources ts b p).batches;
  pairs = λ S sources ts b p. (stands C S sources ts b p).pairs;
  says_so = λ S sources ts b p. (stands C S sources ts b p).all_done;
  only_then = λ S sources ts b p. (stands C S sources ts b p).none_else;
  room = λ S sources ts b p bef is aft e. ((stands C S sources ts b p).each bef is aft e).in_room;
}

pub mirrors : (C : Type 0) → Mirrors C
mirrors C S sources others table size ts us b b' p p' right left f g =
    (tables C).mirrored S sources others table size _ _ right left (stands C S sources ts b p) (stands C _ others us b' p') f g

pub of_two_bags : (C : Type 0) → OfTwoBags C
of_two_bags C S = (tables C).in_bags S

pub is_joined_table : (C : Type 0) → IsJoinedTable C
is_joined_table C S = (tables C).is_joined S

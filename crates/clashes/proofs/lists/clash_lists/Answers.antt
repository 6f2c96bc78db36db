use Rattle.std.proofs.Common.{◌≡◌, Ok, Err, sym, ap, ◌∙◌, subst}
use Rattle.std.proofs.lemmas.List.{take_rest}
use Rattle.memory.specs.Rows.{rows_in}
use Rattle.texts.specs.Items.{lines_of}
use Rattle.schedules.specs.Blocks.{first_block, second_block}
use Rattle.schedules.specs.Reads.{ReadSongs}
use Rattle.clashes.specs.declared.error.InputError.TheVariants.{Schedule, Log}
use Rattle.clashes.specs.Lists.{Compared, Listed, songs_of}
use Rattle.clashes.proofs.Mapped.{mapped_ok, mapped_err, passed_up}
use Rattle.clashes.proofs.Songs.{even, song_rows}
use Rattle.clashes.proofs.lists.clash_lists.Goals as goal
use Rattle.clashes.proofs.lists.clash_lists.Goals.{In_ok-schedule, After-map_err-2, In_ok-log}

-- the schedule is what the first block brings
schedule : (c : In_ok-schedule) → ReadSongs (first_block (lines_of c.args.text.now)) (Ok c.in_ok-schedule.schedule)
schedule c =
    let r = mapped_ok Schedule c.read_songs.result c.map_err.result c.in_ok-schedule.schedule c.map_err.ensures.cases c.in_ok-schedule.was in
    subst (ReadSongs (first_block (lines_of c.args.text.now))) r (subst (λ ls. ReadSongs ls c.read_songs.result) c.find_gap-gap.ensures.first c.read_songs.ensures)

-- the log is read from the second block
log : (c : After-map_err-2) → ReadSongs (second_block (lines_of c.args.text.now)) c.read_songs-2.result
log c = subst (λ ls. ReadSongs ls c.read_songs-2.result) (ap lines_of (take_rest c.args.text.now c.find_gap-gap.result.next) ∙ c.find_gap-gap.ensures.second) c.read_songs-2.ensures

logged : (c : In_ok-log) → ReadSongs (second_block (lines_of c.args.text.now)) c.read_songs-2.result → ReadSongs (second_block (lines_of c.args.text.now)) (Ok c.in_ok-log.log)
logged c = subst (ReadSongs (second_block (lines_of c.args.text.now))) (mapped_ok Log c.read_songs-2.result c.map_err-2.result c.in_ok-log.log c.map_err-2.ensures.cases c.in_ok-log.was)

pub returns-in_err-log : goal.returns-in_err-log
returns-in_err-log c =
    let at = goal.at.returns-in_err-log c in
    let ls = lines_of c.args.text.now in
    let e = mapped_err Log c.read_songs-2.result c.map_err-2.result c.in_err-log.field-0.0 c.map_err-2.ensures.cases c.in_err-log.was in
    subst (Listed ls c.args.separations.first.count c.args.separations.second.count) (sym (passed_up c.from_residual-in_err-log.result c.in_err-log.field-0.0 c.from_residual-in_err-log.ensures.1 ∙ ap Err e.2))
    ((c.in_ok-schedule.schedule, schedule at.In_ok-schedule), subst (ReadSongs (second_block ls)) e.1 (log at.After-map_err-2))

pub song_rows-left-requires : goal.song_rows-left-requires
song_rows-left-requires c = even _ _ (c.deref.ensures.value ∙ (schedule (goal.at.song_rows-left-requires c).In_ok-schedule).1.1)

pub song_rows-right-requires : goal.song_rows-right-requires
song_rows-right-requires c =
    let at = goal.at.song_rows-right-requires c in
    even _ _ (c.deref-2.ensures.value ∙ (logged at.In_ok-log (log at.After-map_err-2)).1.1)

pub returns : goal.returns
returns c =
    let at = goal.at.returns c in
    let ls = lines_of c.args.text.now in
    let first = schedule at.In_ok-schedule in
    let second = logged at.In_ok-log (log at.After-map_err-2) in
    let planned : rows_in c.song_rows-left.result ≡ songs_of (first_block ls) = c.song_rows-left.ensures ∙ song_rows _ _ (c.deref.ensures.value ∙ first.1.1) in
    let aired : rows_in c.song_rows-right.result ≡ songs_of (second_block ls) = c.song_rows-right.ensures ∙ song_rows _ _ (c.deref-2.ensures.value ∙ second.1.1) in
    let compared = subst (λ rs. Compared (rows_in c.song_rows-left.result) rs c.args.separations.first.count c.args.separations.second.count c.in_ok-lists.lists) aired c.in_ok-lists.ensures in
    (first, second, c.find_gap-gap.ensures.count, subst (λ rs. Compared rs (songs_of (second_block ls)) c.args.separations.first.count c.args.separations.second.count c.in_ok-lists.lists) planned compared)

-- The worked schedule, over the real cells and the real separation (docs/RULES.md, "The worked schedule").
use Rattle.std.specs.Prelude.{◌≡◌, ℕ, true, false, List, [], ◌∷◌, ◌++◌, replicate, Ok}
use Rattle.std.specs.List.{flat_map}
use Rattle.cells.specs.declared.full.Full.{Full}
use Rattle.cells.specs.declared.full.Full.TheVariants.{Missing, YesNo}
use Rattle.verdicts.specs.Worked.{WorkedPairs, apart_by, l0, l1, l2, r0, r1, r2}
use Rattle.nested_loop.specs.Model.{Setup, Item, batch, wait, fault, JoinType, Inner, Left, Full as FullJoin, LeftMark, RightAnti, ColumnIndex, LeftSide, RightSide, MarkSide}
use Rattle.nested_loop.specs.Loop.{nested}
use Rattle.nested_loop.specs.Machine.{opened, after, all_probes_done, emitter, answers, answers_of, told_of, rows_met, on, delivers, says_done, rows_in, On, Wait, Fault}
use Rattle.nested_loop.specs.Said.{bound}

-- a join of the planned songs under a separation
abbrev pub setup : JoinType → ℕ → ℕ → List ColumnIndex → Setup Full
setup k minutes b columns = record {
  missing = Missing;
  yes = YesNo true;
  no = YesNo false;
  join_type = k;
  batch_size = b;
  columns = columns;
  table = l0 ∷ l1 ∷ l2 ∷ [];
  verdict = apart_by minutes;
}

-- the first aired song alone in a batch, the other two in another
abbrev pub items : List (Item Full)
items = batch (r0 ∷ []) ∷ batch (r1 ∷ r2 ∷ []) ∷ []

abbrev pub at_left : ℕ → ColumnIndex
at_left c = record { index = c; side = LeftSide }

abbrev pub at_right : ℕ → ColumnIndex
at_right c = record { index = c; side = RightSide }

abbrev pub the_mark : ColumnIndex
the_mark = record { index = 0; side = MarkSide }

-- artist and start of both sides
abbrev pub both_songs : List ColumnIndex
both_songs = at_left 0 ∷ at_left 1 ∷ at_right 0 ∷ at_right 1 ∷ []

-- padding
abbrev pub none : List Full
none = Missing ∷ Missing ∷ []

-- a table of n rows, for the number of left rows that a step meets
abbrev pub table_of : ℕ → ℕ → Setup Full
table_of n b = record {
  missing = Missing;
  yes = YesNo true;
  no = YesNo false;
  join_type = Inner;
  batch_size = b;
  columns = [];
  table = replicate n [];
  verdict = apart_by 40;
}

-- left 40 with batches of two rows
abbrev pub left_40 : Setup Full
left_40 = setup Left 40 2 both_songs

-- two probes, the second with the later batch
abbrev pub two_sources : List (List (Item Full))
two_sources = (batch (r0 ∷ []) ∷ []) ∷ (batch (r1 ∷ r2 ∷ []) ∷ []) ∷ []

-- the first probe goes to its end, then the second
abbrev pub two_turns : List ℕ
two_turns = replicate 12 1 ++ replicate 14 2

pub record Worked : Type 0 where
  -- single pairs
  pub pairs : WorkedPairs
  pub inner_40 : nested (setup Inner 40 2 both_songs) (items ∷ []) ≡ (l2 ++ r0) ∷ []
  pub inner_90 : nested (setup Inner 90 2 both_songs) (items ∷ []) ≡ (l0 ++ r0) ∷ (l2 ++ r0) ∷ []
  pub full_40 : nested (setup FullJoin 40 2 both_songs) (items ∷ []) ≡ (l2 ++ r0) ∷ (none ++ r1) ∷ (none ++ r2) ∷ (l0 ++ none) ∷ (l1 ++ none) ∷ []
  pub left_mark_40 : nested (setup LeftMark 40 2 (the_mark ∷ [])) (items ∷ []) ≡ (YesNo false ∷ []) ∷ (YesNo false ∷ []) ∷ (YesNo true ∷ []) ∷ []
  pub right_anti_40 : nested (setup RightAnti 40 2 (at_right 0 ∷ at_right 1 ∷ [])) (items ∷ []) ≡ r1 ∷ r2 ∷ []
  -- B 11 and a batch of one: eleven left rows meet it together, though there be more; B 110 and a batch of eleven: one
  pub together : rows_met (table_of 11 11) 1 0 ≡ 11
  pub no_more : rows_met (table_of 40 11) 1 0 ≡ 11
  pub what_remains : rows_met (table_of 40 11) 1 33 ≡ 7
  pub one_by_one : rows_met (table_of 11 110) 11 0 ≡ 1
  -- left 40, one probe, B 2: batches of two rows and of one, done at step 18, where the bound allows 20
  pub steps : answers left_40 (opened left_40 (items ∷ [])) (replicate 18 1)
      ≡ on ∷ on ∷ on ∷ on ∷ on ∷ on ∷ on ∷ on ∷ on ∷ on ∷ on ∷ on ∷ on
      ∷ delivers ((l2 ++ r0) ∷ (l0 ++ none) ∷ []) ∷ on ∷ delivers ((l1 ++ none) ∷ []) ∷ on ∷ says_done ∷ []
  pub allowed : bound left_40 items 2 ≡ 20
  pub tallied : (after left_40 (opened left_40 (items ∷ [])) (replicate 18 1)).tally ≡ record { rows = 3; batches = 2; pairs = 9 }
  -- a wait and a fault are answered as they come, the fault with its cause, depth, probe and the items taken before
  pub told : told_of left_40 1 (opened left_40 ((wait ∷ fault 17 2 ∷ []) ∷ [])) (1 ∷ 1 ∷ 1 ∷ [])
      ≡ Ok Wait ∷ Ok (Fault (record { cause = 17; depth = 2; probe = 1; items = 1 })) ∷ Ok On ∷ []
  -- two probes: the pair from the first, the two songs that nothing matched from the second, which ends last
  pub first_probe : flat_map rows_in (answers_of left_40 1 (opened left_40 two_sources) two_turns) ≡ (l2 ++ r0) ∷ []
  pub second_probe : flat_map rows_in (answers_of left_40 2 (opened left_40 two_sources) two_turns) ≡ (l0 ++ none) ∷ (l1 ++ none) ∷ []
  pub second_emits : emitter left_40 (opened left_40 two_sources) two_turns ≡ 2
  pub all_done : all_probes_done (after left_40 (opened left_40 two_sources) two_turns).probes ≡ true

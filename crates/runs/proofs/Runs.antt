-- The promises about lists of calls.
use Rattle.std.proofs.Common.{◌≡◌, sym, ap, ◌∙◌, subst}
use Rattle.std.proofs.lemmas.List.Sorted.{IsPermutation-trans}
use Rattle.nested_loop.specs.Model.{Setup}
use Rattle.nested_loop.specs.Loop.{nested}
use Rattle.nested_loop.specs.Machine.{answers}
use Rattle.nested_loop.specs.Said.{Upheld, delivered}
use Rattle.nested_loop.specs.Bags.{exchanged}
use Rattle.nested_loop.proofs.Mirror.{mirrored}
use Rattle.nested_loop.proofs.Iso.{is_joined}
use Rattle.runs.specs.Records.{Cells}
use Rattle.runs.specs.Calls.{Stepped}
use Rattle.runs.specs.Lists.{setting_setup, stepped, refusing, seen_of}
use Rattle.runs.specs.Promised.{RunsHold, RunsGoOn, RunsStay, RunsAgree, RunsMirror, RunsJoin}
use Rattle.runs.proofs.Bridge.{S, J₀, bridge, holds}

pub hold : (C : Type 0) → RunsHold C
hold C Z = holds Z

pub stay : (C D : Type 0) → RunsStay C D
stay C D z c st e h Z k cs s j = refusing s (record { join = c.join; join' = c.join'; number = e; same = (st.refuses e h).join }) j

pub go_on : (C : Type 0) → RunsGoOn C
go_on C z c st = record {
  did = st;
  on = λ Z k cs same s con acc. stepped s c (subst (λ (w : Cells C). Stepped w c) (sym same) st) acc con;
  stays = λ Z k cs s j e h. stay C C z c st e h Z k cs s j;
}

pub agree : (C : Type 0) → RunsAgree C
agree C Z k l cs ds s r e = (bridge Z s).all ∙ ap (answers (S Z) (J₀ Z)) e ∙ sym (bridge Z r).all

pub mirror : (C : Type 0) → RunsMirror C
mirror C Z W k l cs ds m s r f g =
    let same : setting_setup W ≡ exchanged (setting_setup Z) W.table W.terms.batch_size =
    λ i. record {
      missing = (m.cells i).missing;
      yes = (m.cells i).yes;
      no = (m.cells i).no;
      join_type = m.join_type i;
      batch_size = W.terms.batch_size;
      columns = m.columns i;
      table = W.table;
      verdict = λ x y. m.says x y i;
    } in
    mirrored (setting_setup Z) Z.sources W.sources W.table W.terms.batch_size (seen_of k cs) (seen_of l ds) m.table m.sources
    (holds Z k cs s) (subst (λ (U : Setup C). Upheld U W.sources (seen_of l ds)) same (holds W l ds r)) f g

pub join : (C : Type 0) → RunsJoin C
join C Z k cs s f h b c =
    let a = (bridge Z s).rows in
    let j = is_joined (setting_setup Z) Z.sources Z.left_columns Z.terms.right_columns h a b c in
    (j.0, j.1, IsPermutation-trans (delivered (seen_of k cs)) (nested (setting_setup Z) Z.sources) _ ((holds Z k cs s).exactly f) j.2)

-- A setup with the parts of a call: what holds of every such setup, and does not name it, holds by this one.
use Rattle.std.proofs.Common.{List, [], refl}
use Rattle.verdicts.specs.declared.truth.Truth.{Truth}
use Rattle.nested_loop.specs.Model.{Setup}
use Rattle.probing.specs.declared.output.JoinOutput.{JoinOutput}
use Rattle.probing.specs.Met.{PairsBy}
use Rattle.probing.specs.Rests.{RestsBy}

module _ {C : Type 0} (none aye nay : C) (says : List C → List C → Truth) (o : JoinOutput) where
  abbrev pub setup_by : Setup C
  setup_by = record { missing = none; yes = aye; no = nay; join_type = o.join_type; batch_size = 0; columns = o.columns.now; table = []; verdict = says }

  pub pairs_by : PairsBy setup_by none says o
  pairs_by = record { missing_is = refl; verdict_is = refl; type_is = refl; columns_are = refl }

  pub rests_by : RestsBy setup_by none aye nay o
  rests_by = record { missing_is = refl; yes_is = refl; no_is = refl; type_is = refl; columns_are = refl }

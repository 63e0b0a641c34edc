-- Each change is of its own node, and the parts stand in the order of their kinds.
use Rattle.std.specs.Prelude.{map}
use Rattle.std.proofs.Common.{◌∙◌, ap, subst}
use Rattle.mtn_basic_io.specs.Spelling.{spelling}
use Rattle.mtn_changes.specs.ChangesText.{AreChanges}
use Rattle.mtn_changes.specs.Stanzas.{stanza_of}
use Rattle.mtn_between.specs.Between.{between}
use Rattle.mtn_between.proofs.Ordered.{ascends}
use Rattle.mtn_between.proofs.Lawful.{lawful, only_order}
use Rattle.mtn_between.proofs.laws.between_is_lawful.Goals as goal

pub returns : goal.returns
returns c = record {
  lawful = λ old new so sn spell_old spell_new. lawful old new so sn spell_old spell_new;
  sorted = λ old new so sn sorted is. only_order (between old new) sorted (ascends old new so sn) is;
  reads_back = λ old new text so sn w.
      let e = only_order (between old new) w.sorted (ascends old new so sn) w.is in
      record { lawful = subst AreChanges e w.lawful; spelled = w.spelled ∙ ap (λ cs. spelling (map stanza_of cs)) e };
}

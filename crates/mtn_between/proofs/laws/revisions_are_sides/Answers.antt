-- By what holds of each grown history.
use Rattle.mtn_changeset_laws.proofs.Stepping.{unborn_at}
use Rattle.mtn_between.proofs.laws.revisions_are_sides.Goals as goal

pub returns : goal.returns
returns c log p new above grown low fresh tells spell = record {
  sane = grown.sane p low;
  spellable = spell;
  unborn = unborn_at log p new grown.born fresh;
  born = λ n e h. (tells n.birth).1 (grown.born p n e h);
}

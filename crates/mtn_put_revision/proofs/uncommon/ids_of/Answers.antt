-- Position by position.
use Rattle.std.proofs.Common.{◌<◌, ℕ, List, sym, subst, arith}
use Rattle.std.proofs.lemmas.List.{take_all}
use Rattle.std.proofs.lemmas.List.Elements.{All-get_or}
use Rattle.mtn_put_revision.specs.Finding.{AreIdsAt}
use Rattle.mtn_put_revision.proofs.Looking.{at_item, ids_more}
use Rattle.mtn_put_revision.proofs.uncommon.ids_of.Goals as goal

pub id_at-requires : goal.id_at-requires
id_at-requires g c = subst (λ p. p < c.args.draft.now.pending.count) (sym c.at-item.is) (All-get_or (λ p. p < c.args.draft.now.pending.count) c.args.positions.now c.loop-at.at-index c.at-item.result c.loop-at-test.true c.requires)

pub loop-at-preserved : goal.loop-at-preserved
loop-at-preserved g c = record {
  ids = λ f s d. ids_more d.stands.history c.args.positions.now c.loop-at.at-index c.at-item.result c.in_ok-id_at.field-0 c.loop-at.ids c.add_id.new.ids
      (at_item c.args.positions.now c.loop-at.at-index c.at-item.result c.at-item.result c.loop-at-test.true c.at-item.is) (c.in_ok-id_at.ensures f s d) c.in_ok-add_id.ensures (c.loop-at.invariant.ids f s d);
}

pub returns : goal.returns
returns g c = λ f s d. subst (λ (ps : List ℕ). AreIdsAt d.stands.history ps c.loop-at.ids) (take_all c.loop-at.at-index c.args.positions.now (omega (arith, c.loop-at-test.false))) (c.loop-at.invariant.ids f s d)

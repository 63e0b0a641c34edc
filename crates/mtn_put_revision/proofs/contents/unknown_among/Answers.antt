-- Change by change.
use Rattle.std.proofs.Common.{◌≡◌, ◌∙◌, ℕ, List, sym, ap, subst, arith, ◌≤◌, ◌+◌, [], ◌∷◌, Ok, length, Err, Option}
use Rattle.std.proofs.lemmas.List.{take_all}
use Rattle.mtn_model.specs.State.{State}
use Rattle.mtn_ports.proofs.KeptLemmas.{stays_trans}
use Rattle.mtn_history.specs.Stands.{IsFounded}
use Rattle.mtn_history.specs.declared.pending.Pending.{Pending}
use Rattle.mtn_put_revision.specs.Finding.{unknown_in, first_unknown}
use Rattle.mtn_put_revision.proofs.Grounds.{back_plain, moved}
use Rattle.mtn_put_revision.proofs.Looking.{at_item, first_here, first_past}
use Rattle.std.proofs.lemmas.Result.{err_from_is_err_and}
use Rattle.mtn_changes.specs.declared.change.Change.{Change}
use Rattle.mtn_ports.specs.Ident.{MakesIds}
use Rattle.mtn_put_revision.specs.Reads.{LooksFew, brought}
use Rattle.mtn_put_revision.proofs.Counting.{brought_more, brought_within, looks_last, looks_on}
use Rattle.std.specs.Prelude.{Result}
use Rattle.mtn_base.specs.declared.id.Id.{Id}
use Rattle.mtn_history.specs.declared.errors.StoreError.{StoreError}
use Rattle.mtn_put_revision.proofs.contents.unknown_among.Goals as goal

pub returns-in_err-id-clause-stays : goal.returns-in_err-id-clause-stays
returns-in_err-id-clause-stays g c = stays_trans g.K.Keeper.contents g.K.Keeper.leaves g.K.Keeper.faults _ _ _ c.loop-change.invariant.stays c.unknown_of.ensures.stays

pub returns-in-Some-clause-stays : goal.returns-in-Some-clause-stays
returns-in-Some-clause-stays g c = stays_trans g.K.Keeper.contents g.K.Keeper.leaves g.K.Keeper.faults _ _ _ c.loop-change.invariant.stays c.unknown_of.ensures.stays

pub returns-in-Some-clause-found : goal.returns-in-Some-clause-found
returns-in-Some-clause-found g c = λ f s d.
    let told = g.K.Keeper.contents c.unknown_of.new.draft.keeper.now in
    let here = (subst (λ (p : Pending). (f : List ℕ → List ℕ) (s : State) → IsFounded f told p s → c.in_ok-id.field-0 ≡ unknown_in s.files c.change-item.result) c.loop-change.invariant.pending c.in_ok-id.ensures.found) f s d in
    first_here s.files c.args.changes.now c.loop-change.change-index c.change-item.result c.in-Some.id (at_item c.args.changes.now c.loop-change.change-index c.change-item.result c.change-item.result c.loop-change-test.true c.change-item.is)
    (c.loop-change.invariant.found f s (back_plain f (g.K.Keeper.contents c.loop-change.draft.keeper.now) told c.args.draft.now.pending c.loop-change.draft.pending s c.loop-change.invariant.pending c.unknown_of.ensures.stays.same d)) (sym c.in-Some.is ∙ here)

pub loop-change-preserved : goal.loop-change-preserved
loop-change-preserved g c = record {
  same_reference = c.unknown_of.ensures.same_reference ∙ c.loop-change.invariant.same_reference;
  stays = stays_trans g.K.Keeper.contents g.K.Keeper.leaves g.K.Keeper.faults _ _ _ c.loop-change.invariant.stays c.unknown_of.ensures.stays;
  pending = c.unknown_of.ensures.pending ∙ c.loop-change.invariant.pending;
  found = λ f s d.
      let told = g.K.Keeper.contents c.unknown_of.new.draft.keeper.now in
      let here = (subst (λ (p : Pending). (f : List ℕ → List ℕ) (s : State) → IsFounded f told p s → c.in_ok-id.field-0 ≡ unknown_in s.files c.change-item.result) c.loop-change.invariant.pending c.in_ok-id.ensures.found) f s d in
      first_past s.files c.args.changes.now c.loop-change.change-index c.change-item.result (at_item c.args.changes.now c.loop-change.change-index c.change-item.result c.change-item.result c.loop-change-test.true c.change-item.is)
      (c.loop-change.invariant.found f s (back_plain f (g.K.Keeper.contents c.loop-change.draft.keeper.now) told c.args.draft.now.pending c.loop-change.draft.pending s c.loop-change.invariant.pending c.unknown_of.ensures.stays.same d)) (sym c.in_default.is ∙ here);
  reads = λ f s d ids.
      let told = g.K.Keeper.contents c.unknown_of.new.draft.keeper.now in
      let at = at_item c.args.changes.now c.loop-change.change-index c.change-item.result c.change-item.result c.loop-change-test.true c.change-item.is in
      let few = moved (λ (p : Pending). (f : List ℕ → List ℕ) (s : State) → IsFounded f told p s → MakesIds f → LooksFew (g.K.Keeper.reads c.loop-change.draft.keeper.now) (g.K.Keeper.reads c.unknown_of.new.draft.keeper.now) (length (brought (c.change-item.result ∷ []))) (Ok c.in_ok-id.field-0)) c.loop-change.draft.pending c.args.draft.now.pending c.loop-change.invariant.pending c.in_ok-id.ensures.reads f s d ids in
      let so_far = c.loop-change.invariant.reads f s (back_plain f (g.K.Keeper.contents c.loop-change.draft.keeper.now) told c.args.draft.now.pending c.loop-change.draft.pending s c.loop-change.invariant.pending c.unknown_of.ensures.stays.same d) ids in
      subst (λ n. g.K.Keeper.reads c.unknown_of.new.draft.keeper.now ≤ g.K.Keeper.reads c.args.draft.now.keeper.now + n) (sym (brought_more c.args.changes.now c.loop-change.change-index c.change-item.result at))
      (looks_on (g.K.Keeper.reads c.args.draft.now.keeper.now) (g.K.Keeper.reads c.loop-change.draft.keeper.now) (g.K.Keeper.reads c.unknown_of.new.draft.keeper.now) _ _ c.in_ok-id.field-0 c.in_default.is few so_far);
}

pub returns-clause-found : goal.returns-clause-found
returns-clause-found g c = λ f s d. sym (ap (first_unknown s.files) (sym (take_all c.loop-change.change-index c.args.changes.now (omega (arith, c.loop-change-test.false)))) ∙ c.loop-change.invariant.found f s d)

pub returns-in_err-id-clause-reads : goal.returns-in_err-id-clause-reads
returns-in_err-id-clause-reads g c = λ f s d ids.
    let told = g.K.Keeper.contents c.unknown_of.new.draft.keeper.now in
    let at = at_item c.args.changes.now c.loop-change.change-index c.change-item.result c.change-item.result c.loop-change-test.true c.change-item.is in
    let few = moved (λ (p : Pending). (f : List ℕ → List ℕ) (s : State) → IsFounded f told p s → MakesIds f → LooksFew (g.K.Keeper.reads c.loop-change.draft.keeper.now) (g.K.Keeper.reads c.unknown_of.new.draft.keeper.now) (length (brought (c.change-item.result ∷ []))) c.unknown_of.result) c.loop-change.draft.pending c.args.draft.now.pending c.loop-change.invariant.pending c.unknown_of.ensures.reads f s d ids in
    let so_far = c.loop-change.invariant.reads f s (back_plain f (g.K.Keeper.contents c.loop-change.draft.keeper.now) told c.args.draft.now.pending c.loop-change.draft.pending s c.loop-change.invariant.pending c.unknown_of.ensures.stays.same d) ids in
    let p = err_from_is_err_and c.from_residual.result c.from_residual.ensures.1 in
    subst (λ (r : Result (Option Id) StoreError). LooksFew (g.K.Keeper.reads c.args.draft.now.keeper.now) (g.K.Keeper.reads c.unknown_of.new.draft.keeper.now) (length (brought c.args.changes.now)) r) (sym (p.1 ∙ ap Err p.2)) (looks_last (g.K.Keeper.reads c.args.draft.now.keeper.now) (g.K.Keeper.reads c.loop-change.draft.keeper.now) (g.K.Keeper.reads c.unknown_of.new.draft.keeper.now) _ _ _ c.unknown_of.result few so_far (brought_within c.args.changes.now c.loop-change.change-index c.change-item.result at))

pub returns-in-Some-clause-reads : goal.returns-in-Some-clause-reads
returns-in-Some-clause-reads g c = λ f s d ids.
    let told = g.K.Keeper.contents c.unknown_of.new.draft.keeper.now in
    let at = at_item c.args.changes.now c.loop-change.change-index c.change-item.result c.change-item.result c.loop-change-test.true c.change-item.is in
    let few = moved (λ (p : Pending). (f : List ℕ → List ℕ) (s : State) → IsFounded f told p s → MakesIds f → LooksFew (g.K.Keeper.reads c.loop-change.draft.keeper.now) (g.K.Keeper.reads c.unknown_of.new.draft.keeper.now) (length (brought (c.change-item.result ∷ []))) c.unknown_of.result) c.loop-change.draft.pending c.args.draft.now.pending c.loop-change.invariant.pending c.unknown_of.ensures.reads f s d ids in
    let so_far = c.loop-change.invariant.reads f s (back_plain f (g.K.Keeper.contents c.loop-change.draft.keeper.now) told c.args.draft.now.pending c.loop-change.draft.pending s c.loop-change.invariant.pending c.unknown_of.ensures.stays.same d) ids in
    looks_last (g.K.Keeper.reads c.args.draft.now.keeper.now) (g.K.Keeper.reads c.loop-change.draft.keeper.now) (g.K.Keeper.reads c.unknown_of.new.draft.keeper.now) _ _ _ c.unknown_of.result few so_far (brought_within c.args.changes.now c.loop-change.change-index c.change-item.result at)

pub returns-clause-reads : goal.returns-clause-reads
returns-clause-reads g c = λ f s d ids.
    subst (λ (cs : List Change). g.K.Keeper.reads c.loop-change.draft.keeper.now ≤ g.K.Keeper.reads c.args.draft.now.keeper.now + length (brought cs)) (take_all c.loop-change.change-index c.args.changes.now (omega (arith, c.loop-change-test.false))) (c.loop-change.invariant.reads f s d ids)

-- Edge by edge.
use Rattle.std.proofs.Common.{◌≡◌, ◌∙◌, ℕ, List, None, Some, refl, sym, ap, subst, arith, ◌≤◌, ◌+◌, Ok, Option, length, Err}
use Rattle.mtn_changes.specs.declared.change.Change.{Change}
use Rattle.mtn_changes.specs.declared.change.Edge.{Edge}
use Rattle.mtn_model.specs.State.{State}
use Rattle.mtn_ports.proofs.KeptLemmas.{stays_trans, stays_itself}
use Rattle.mtn_history.specs.Stands.{IsFounded}
use Rattle.mtn_history.specs.declared.pending.Pending.{Pending}
use Rattle.mtn_put_revision.specs.Finding.{first_unknown}
use Rattle.mtn_put_revision.proofs.Grounds.{back_plain, moved}
use Rattle.mtn_put_revision.proofs.Looking.{at_item, edge_here, edge_past, edges_begin, edges_end, edges_found}
use Rattle.std.specs.Prelude.{Result}
use Rattle.std.proofs.lemmas.List.{take_all}
use Rattle.std.proofs.lemmas.Result.{err_from_is_err_and}
use Rattle.mtn_base.specs.declared.id.Id.{Id}
use Rattle.mtn_ports.specs.Ident.{MakesIds}
use Rattle.mtn_history.specs.declared.errors.StoreError.{StoreError}
use Rattle.mtn_replay.specs.Making.{new_contents}
use Rattle.mtn_put_revision.specs.Reads.{LooksFew, brought}
use Rattle.mtn_put_revision.proofs.Counting.{contents_more, contents_within, looks_last, looks_on}
use Rattle.mtn_put_revision.proofs.contents.unknown_content.Goals as goal

pub loop-edge-init : goal.loop-edge-init
loop-edge-init g c = record { same_reference = refl; stays = stays_itself g.K.Keeper.contents g.K.Keeper.leaves g.K.Keeper.faults c.args.draft.now.keeper.now; pending = refl; found = λ f s d. edges_begin s.files; reads = λ f s d ids. omega arith }

pub returns-in_err-id-clause-stays : goal.returns-in_err-id-clause-stays
returns-in_err-id-clause-stays g c = stays_trans g.K.Keeper.contents g.K.Keeper.leaves g.K.Keeper.faults _ _ _ c.loop-edge.invariant.stays c.unknown_among.ensures.stays

pub returns-in-Some-clause-stays : goal.returns-in-Some-clause-stays
returns-in-Some-clause-stays g c = stays_trans g.K.Keeper.contents g.K.Keeper.leaves g.K.Keeper.faults _ _ _ c.loop-edge.invariant.stays c.unknown_among.ensures.stays

pub returns-in-Some-clause-found : goal.returns-in-Some-clause-found
returns-in-Some-clause-found g c = λ f s d.
    let told = g.K.Keeper.contents c.unknown_among.new.draft.keeper.now in
    let here = (subst (λ (p : Pending). (f : List ℕ → List ℕ) (s : State) → IsFounded f told p s → c.in_ok-id.field-0 ≡ first_unknown s.files c.edge-item.result.changes) c.loop-edge.invariant.pending (subst (λ (cs : List Change). (f : List ℕ → List ℕ) (s : State) → IsFounded f told c.loop-edge.draft.pending s → c.in_ok-id.field-0 ≡ first_unknown s.files cs) (c.as_slice.ensures ∙ ap (λ (x : Edge). x.changes) c.edge.view_is) c.in_ok-id.ensures.found)) f s d in
    edges_found s.files c.args.edges.now (Some c.in-Some.id) (edge_here s.files c.args.edges.now c.loop-edge.edge-index c.edge-item.result c.in-Some.id (at_item c.args.edges.now c.loop-edge.edge-index c.edge-item.result c.edge-item.result c.loop-edge-test.true c.edge-item.is)
    (c.loop-edge.invariant.found f s (back_plain f (g.K.Keeper.contents c.loop-edge.draft.keeper.now) told c.args.draft.now.pending c.loop-edge.draft.pending s c.loop-edge.invariant.pending c.unknown_among.ensures.stays.same d)) (sym c.in-Some.is ∙ here))

pub loop-edge-preserved : goal.loop-edge-preserved
loop-edge-preserved g c = record {
  same_reference = c.unknown_among.ensures.same_reference ∙ c.loop-edge.invariant.same_reference;
  stays = stays_trans g.K.Keeper.contents g.K.Keeper.leaves g.K.Keeper.faults _ _ _ c.loop-edge.invariant.stays c.unknown_among.ensures.stays;
  pending = c.unknown_among.ensures.pending ∙ c.loop-edge.invariant.pending;
  found = λ f s d.
      let told = g.K.Keeper.contents c.unknown_among.new.draft.keeper.now in
      let here = (subst (λ (p : Pending). (f : List ℕ → List ℕ) (s : State) → IsFounded f told p s → c.in_ok-id.field-0 ≡ first_unknown s.files c.edge-item.result.changes) c.loop-edge.invariant.pending (subst (λ (cs : List Change). (f : List ℕ → List ℕ) (s : State) → IsFounded f told c.loop-edge.draft.pending s → c.in_ok-id.field-0 ≡ first_unknown s.files cs) (c.as_slice.ensures ∙ ap (λ (x : Edge). x.changes) c.edge.view_is) c.in_ok-id.ensures.found)) f s d in
      edge_past s.files c.args.edges.now c.loop-edge.edge-index c.edge-item.result (at_item c.args.edges.now c.loop-edge.edge-index c.edge-item.result c.edge-item.result c.loop-edge-test.true c.edge-item.is)
      (c.loop-edge.invariant.found f s (back_plain f (g.K.Keeper.contents c.loop-edge.draft.keeper.now) told c.args.draft.now.pending c.loop-edge.draft.pending s c.loop-edge.invariant.pending c.unknown_among.ensures.stays.same d)) (sym c.in_default.is ∙ here);
  reads = λ f s d ids.
      let told = g.K.Keeper.contents c.unknown_among.new.draft.keeper.now in
      let at = at_item c.args.edges.now c.loop-edge.edge-index c.edge-item.result c.edge-item.result c.loop-edge-test.true c.edge-item.is in
      let few = subst (λ (cs : List Change). LooksFew (g.K.Keeper.reads c.loop-edge.draft.keeper.now) (g.K.Keeper.reads c.unknown_among.new.draft.keeper.now) (length (brought cs)) (Ok c.in_ok-id.field-0)) (c.as_slice.ensures ∙ ap (λ (x : Edge). x.changes) c.edge.view_is) (moved (λ (p : Pending). (f : List ℕ → List ℕ) (s : State) → IsFounded f told p s → MakesIds f → LooksFew (g.K.Keeper.reads c.loop-edge.draft.keeper.now) (g.K.Keeper.reads c.unknown_among.new.draft.keeper.now) (length (brought c.as_slice.result.now)) (Ok c.in_ok-id.field-0)) c.loop-edge.draft.pending c.args.draft.now.pending c.loop-edge.invariant.pending c.in_ok-id.ensures.reads f s d ids) in
      let so_far = c.loop-edge.invariant.reads f s (back_plain f (g.K.Keeper.contents c.loop-edge.draft.keeper.now) told c.args.draft.now.pending c.loop-edge.draft.pending s c.loop-edge.invariant.pending c.unknown_among.ensures.stays.same d) ids in
      subst (λ n. g.K.Keeper.reads c.unknown_among.new.draft.keeper.now ≤ g.K.Keeper.reads c.args.draft.now.keeper.now + n) (sym (contents_more c.args.edges.now c.loop-edge.edge-index c.edge-item.result at))
      (looks_on (g.K.Keeper.reads c.args.draft.now.keeper.now) (g.K.Keeper.reads c.loop-edge.draft.keeper.now) (g.K.Keeper.reads c.unknown_among.new.draft.keeper.now) _ _ c.in_ok-id.field-0 c.in_default.is few so_far);
}

pub returns-clause-found : goal.returns-clause-found
returns-clause-found g c = λ f s d. edges_found s.files c.args.edges.now None (sym (edges_end s.files c.args.edges.now c.loop-edge.edge-index (omega (arith, c.loop-edge-test.false)) (c.loop-edge.invariant.found f s d)))

pub returns-in_err-id-clause-reads : goal.returns-in_err-id-clause-reads
returns-in_err-id-clause-reads g c = λ f s d ids.
    let told = g.K.Keeper.contents c.unknown_among.new.draft.keeper.now in
    let at = at_item c.args.edges.now c.loop-edge.edge-index c.edge-item.result c.edge-item.result c.loop-edge-test.true c.edge-item.is in
    let few = subst (λ (cs : List Change). LooksFew (g.K.Keeper.reads c.loop-edge.draft.keeper.now) (g.K.Keeper.reads c.unknown_among.new.draft.keeper.now) (length (brought cs)) c.unknown_among.result) (c.as_slice.ensures ∙ ap (λ (x : Edge). x.changes) c.edge.view_is) (moved (λ (p : Pending). (f : List ℕ → List ℕ) (s : State) → IsFounded f told p s → MakesIds f → LooksFew (g.K.Keeper.reads c.loop-edge.draft.keeper.now) (g.K.Keeper.reads c.unknown_among.new.draft.keeper.now) (length (brought c.as_slice.result.now)) c.unknown_among.result) c.loop-edge.draft.pending c.args.draft.now.pending c.loop-edge.invariant.pending c.unknown_among.ensures.reads f s d ids) in
    let so_far = c.loop-edge.invariant.reads f s (back_plain f (g.K.Keeper.contents c.loop-edge.draft.keeper.now) told c.args.draft.now.pending c.loop-edge.draft.pending s c.loop-edge.invariant.pending c.unknown_among.ensures.stays.same d) ids in
    let p = err_from_is_err_and c.from_residual.result c.from_residual.ensures.1 in
    subst (λ (r : Result (Option Id) StoreError). LooksFew (g.K.Keeper.reads c.args.draft.now.keeper.now) (g.K.Keeper.reads c.unknown_among.new.draft.keeper.now) (length (new_contents c.args.edges.now)) r) (sym (p.1 ∙ ap Err p.2)) (looks_last (g.K.Keeper.reads c.args.draft.now.keeper.now) (g.K.Keeper.reads c.loop-edge.draft.keeper.now) (g.K.Keeper.reads c.unknown_among.new.draft.keeper.now) _ _ _ c.unknown_among.result few so_far (contents_within c.args.edges.now c.loop-edge.edge-index c.edge-item.result at))

pub returns-in-Some-clause-reads : goal.returns-in-Some-clause-reads
returns-in-Some-clause-reads g c = λ f s d ids.
    let told = g.K.Keeper.contents c.unknown_among.new.draft.keeper.now in
    let at = at_item c.args.edges.now c.loop-edge.edge-index c.edge-item.result c.edge-item.result c.loop-edge-test.true c.edge-item.is in
    let few = subst (λ (cs : List Change). LooksFew (g.K.Keeper.reads c.loop-edge.draft.keeper.now) (g.K.Keeper.reads c.unknown_among.new.draft.keeper.now) (length (brought cs)) c.unknown_among.result) (c.as_slice.ensures ∙ ap (λ (x : Edge). x.changes) c.edge.view_is) (moved (λ (p : Pending). (f : List ℕ → List ℕ) (s : State) → IsFounded f told p s → MakesIds f → LooksFew (g.K.Keeper.reads c.loop-edge.draft.keeper.now) (g.K.Keeper.reads c.unknown_among.new.draft.keeper.now) (length (brought c.as_slice.result.now)) c.unknown_among.result) c.loop-edge.draft.pending c.args.draft.now.pending c.loop-edge.invariant.pending c.unknown_among.ensures.reads f s d ids) in
    let so_far = c.loop-edge.invariant.reads f s (back_plain f (g.K.Keeper.contents c.loop-edge.draft.keeper.now) told c.args.draft.now.pending c.loop-edge.draft.pending s c.loop-edge.invariant.pending c.unknown_among.ensures.stays.same d) ids in
    looks_last (g.K.Keeper.reads c.args.draft.now.keeper.now) (g.K.Keeper.reads c.loop-edge.draft.keeper.now) (g.K.Keeper.reads c.unknown_among.new.draft.keeper.now) _ _ _ c.unknown_among.result few so_far (contents_within c.args.edges.now c.loop-edge.edge-index c.edge-item.result at)

pub returns-clause-reads : goal.returns-clause-reads
returns-clause-reads g c = λ f s d ids.
    subst (λ (es : List Edge). g.K.Keeper.reads c.loop-edge.draft.keeper.now ≤ g.K.Keeper.reads c.args.draft.now.keeper.now + length (new_contents es)) (take_all c.loop-edge.edge-index c.args.edges.now (omega (arith, c.loop-edge-test.false))) (c.loop-edge.invariant.reads f s d ids)

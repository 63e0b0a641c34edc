-- Both sides, and the lesser first.
use Rattle.std.proofs.Common.{◌≡◌, ◌∙◌, ℕ, List, Ok, Some, Err, sym, ap, subst}
use Rattle.std.specs.declared.cmp.Ordering.TheVariants.{Equal}
use Rattle.std.proofs.lemmas.Result.{err_from_is_err_and}
use Rattle.mtn_base.specs.Ids.{by_id}
use Rattle.mtn_base.specs.declared.id.Id.{Id}
use Rattle.mtn_base.specs.declared.refusal.Cause.TheVariants.{Related}
use Rattle.mtn_history.specs.Marked.{FindsRosters}
use Rattle.mtn_history.specs.Stands.{IsFounded}
use Rattle.mtn_history.specs.declared.pending.Pending.{Pending}
use Rattle.mtn_history.proofs.Founding.{back, grown}
use Rattle.mtn_model.specs.State.{State}
use Rattle.mtn_plans.specs.Sides.{related, right_of}
use Rattle.mtn_ports.proofs.KeptLemmas.{stays_trans}
use Rattle.mtn_put_revision.proofs.Grounds.{moved}
use Rattle.mtn_merge.specs.Sides.{Compares, FindsSides}
use Rattle.mtn_merge.proofs.Comparing.{both_known, equal_sides, greater_sides, less_sides, related_itself, same_ids}
use Rattle.mtn_merge.proofs.Damaging.{kept_damage, lesser_compared}
use Rattle.mtn_merge.proofs.Finding.{compared_sides, lost_sides}
use Rattle.mtn_merge.proofs.sides.sides_of.Goals as goal

pub returns-in_err-both-clause-finds : goal.returns-in_err-both-clause-finds
returns-in_err-both-clause-finds g c = λ f s d.
    let p = err_from_is_err_and c.from_residual.result c.from_residual.ensures.1 in
    subst (FindsSides d.stands.history c.args.a c.args.b) (sym (p.1 ∙ ap Err p.2)) (lost_sides d.stands.history c.args.a c.args.b c.in_err-both.field-0.0 (c.in_err-both.ensures.found f s d))

pub compare-requires-clause-sides : goal.compare-requires-clause-sides
compare-requires-clause-sides g c = λ f s d.
    let told = g.K.Keeper.contents c.rosters_of.new.self.keeper.now in
    let found = moved (λ (y : Pending). (f : List ℕ → List ℕ) (s : State) → (d : IsFounded f told y s) → FindsRosters d.stands.history c.args.a c.args.b (Ok c.in_ok-both.both)) c.args.draft.now.pending c.rosters_of.new.self.pending
    (sym c.in_ok-both.ensures.asks.pending) c.in_ok-both.ensures.found f s d in
    (record { place = found.0; marked = found.1 }, record { place = found.2; marked = found.3 })

pub compare-requires-in-Greater-clause-sides : goal.compare-requires-in-Greater-clause-sides
compare-requires-in-Greater-clause-sides g c = λ f s d.
    let told = g.K.Keeper.contents c.rosters_of.new.self.keeper.now in
    let found = moved (λ (y : Pending). (f : List ℕ → List ℕ) (s : State) → (d : IsFounded f told y s) → FindsRosters d.stands.history c.args.a c.args.b (Ok c.in_ok-both.both)) c.args.draft.now.pending c.rosters_of.new.self.pending
    (sym c.in_ok-both.ensures.asks.pending) c.in_ok-both.ensures.found f s d in
    (record { place = found.2; marked = found.3 }, record { place = found.0; marked = found.1 })

pub returns-in-Less-clause-stays : goal.returns-in-Less-clause-stays
returns-in-Less-clause-stays g c = stays_trans g.K.Keeper.contents g.K.Keeper.leaves g.K.Keeper.faults _ _ _ c.in_ok-both.ensures.asks.stays c.compare.ensures.stays

pub returns-in-Less-clause-finds : goal.returns-in-Less-clause-finds
returns-in-Less-clause-finds g c = λ f s d.
    let h = d.stands.history in
    let a = c.args.a in
    let b = c.args.b in
    let both = c.in_ok-both.both in
    let mid = g.K.Keeper.contents c.rosters_of.new.self.keeper.now in
    let told = g.K.Keeper.contents c.compare.new.draft.keeper.now in
    let p = c.args.draft.now.pending in
    let found = c.in_ok-both.ensures.found f s (back f mid told p s c.compare.ensures.stays.same d) in
    let is = moved (λ (y : Pending). (f : List ℕ → List ℕ) (s : State) → (d : IsFounded f told y s) → Compares d.stands.history a b c.compare.result) c.rosters_of.new.self.pending p c.in_ok-both.ensures.asks.pending c.compare.ensures.compares f s d in
    let sides = less_sides a b (sym c.order_of.ensures ∙ c.in-Less.is) in
    compared_sides h a b a b sides.0 sides.1 (both_known h a b both.left both.right found.0 found.2) c.compare.result is

pub returns-in-Less-clause-damaged : goal.returns-in-Less-clause-damaged
returns-in-Less-clause-damaged g c = kept_damage (g.K.Keeper.contents c.compare.new.draft.keeper.now) c.args.draft.now.pending c.rosters_of.new.self.pending c.compare.result c.in_ok-both.ensures.asks.pending c.compare.ensures.damaged

pub returns-in-Equal-clause-finds : goal.returns-in-Equal-clause-finds
returns-in-Equal-clause-finds g c = λ f s d.
    let h = d.stands.history in
    let a = c.args.a in
    let b = c.args.b in
    let both = c.in_ok-both.both in
    let told = g.K.Keeper.contents c.rosters_of.new.self.keeper.now in
    let found = c.in_ok-both.ensures.found f s d in
    let eq : by_id a b ≡ Equal = sym c.order_of.ensures ∙ c.in-Equal.is in
    let sides = equal_sides a b eq in
    both_known h a b both.left both.right found.0 found.2
    ∙ ap (λ i. related h i (right_of a b)) sides.0 ∙ ap (λ i. related h a i) sides.1
    ∙ subst (λ (x : Id). related h a x ≡ Some (Related a x)) (same_ids a b eq) (related_itself h (grown f told c.args.draft.now.pending s d) a both.left found.0)

pub returns-in-Greater-clause-stays : goal.returns-in-Greater-clause-stays
returns-in-Greater-clause-stays g c = stays_trans g.K.Keeper.contents g.K.Keeper.leaves g.K.Keeper.faults _ _ _ c.in_ok-both.ensures.asks.stays c.compare-in-Greater.ensures.stays

pub returns-in-Greater-clause-finds : goal.returns-in-Greater-clause-finds
returns-in-Greater-clause-finds g c = λ f s d.
    let h = d.stands.history in
    let a = c.args.a in
    let b = c.args.b in
    let both = c.in_ok-both.both in
    let mid = g.K.Keeper.contents c.rosters_of.new.self.keeper.now in
    let told = g.K.Keeper.contents c.compare-in-Greater.new.draft.keeper.now in
    let p = c.args.draft.now.pending in
    let found = c.in_ok-both.ensures.found f s (back f mid told p s c.compare-in-Greater.ensures.stays.same d) in
    let is = moved (λ (y : Pending). (f : List ℕ → List ℕ) (s : State) → (d : IsFounded f told y s) → Compares d.stands.history b a c.compare-in-Greater.result) c.rosters_of.new.self.pending p c.in_ok-both.ensures.asks.pending c.compare-in-Greater.ensures.compares f s d in
    let sides = greater_sides a b (sym c.order_of.ensures ∙ c.in-Greater.is) in
    compared_sides h a b b a sides.0 sides.1 (both_known h a b both.left both.right found.0 found.2) c.compare-in-Greater.result is

pub returns-in-Greater-clause-lesser : goal.returns-in-Greater-clause-lesser
returns-in-Greater-clause-lesser g c =
    let sides = greater_sides c.args.a c.args.b (sym c.order_of.ensures ∙ c.in-Greater.is) in
    lesser_compared c.compare-in-Greater.result _ _ c.compare-in-Greater.ensures.left c.compare-in-Greater.ensures.right sides.2

pub returns-in-Greater-clause-damaged : goal.returns-in-Greater-clause-damaged
returns-in-Greater-clause-damaged g c =
    kept_damage (g.K.Keeper.contents c.compare-in-Greater.new.draft.keeper.now) c.args.draft.now.pending c.rosters_of.new.self.pending c.compare-in-Greater.result c.in_ok-both.ensures.asks.pending c.compare-in-Greater.ensures.damaged

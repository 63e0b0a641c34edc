-- By what is held under the id.
use Rattle.std.proofs.Common.{sym, subst, arith, ◌-◌}
use Rattle.std.specs.Prelude.{◌≡◌, IfErr, IfSome, OnErr}
use Rattle.mtn_ports.specs.Kept.{with_all}
use Rattle.mtn_ports.proofs.KeptLemmas.{stays_trans}
use Rattle.mtn_history.specs.Damage.{IsDamage}
use Rattle.mtn_history.specs.Errors.{IfStoreDamage}
use Rattle.mtn_history.specs.Meta.{IsMetaOf}
use Rattle.mtn_history.specs.Stands.{IsDraft}
use Rattle.mtn_history.specs.declared.pending.Pending.{Pending}
use Rattle.mtn_put_revision.proofs.Deciding.{held_other, held_same, none_under, other_under, same_under}
use Rattle.mtn_put_revision.proofs.Planning.{planned_on}
use Rattle.mtn_put_revision.proofs.Counting.{bound_behind}
use Rattle.mtn_put_revision.proofs.put.put_revision_as.Goals as goal

pub put_new-requires-clause-new : goal.put_new-requires-clause-new
put_new-requires-clause-new g c κs within = λ f x s tells draft.
    none_under s c.args.id c.args.text.now c.in_ok-same.field-0 (c.in_ok-same.ensures.held f x s tells (subst (λ (q : Pending). IsDraft f x q s) c.in_ok-same.ensures.pending draft)) c.in_default.is

pub put_new-requires-clause-planned : goal.put_new-requires-clause-planned
put_new-requires-clause-planned g c κs within =
    planned_on (g.I.Ident.meaning c.args.ident.now) (g.K.Keeper.contents c.args.draft.now.keeper.now) (g.K.Keeper.contents c.held_text.new.draft.keeper.now) c.args.draft.now.pending c.held_text.new.draft.pending c.args.text.now c.args.tree
    c.in_ok-same.ensures.stays.same c.in_ok-same.ensures.pending c.requires.planned

pub returns-in_default-clause-stays : goal.returns-in_default-clause-stays
returns-in_default-clause-stays g c = stays_trans g.K.Keeper.contents g.K.Keeper.leaves g.K.Keeper.faults _ _ _ c.in_ok-same.ensures.stays c.put_new.ensures.stays

pub returns-in_default-clause-accepts : goal.returns-in_default-clause-accepts
returns-in_default-clause-accepts g c = λ x s tells draft.
    c.put_new.ensures.accepts x s tells (subst (λ (q : Pending). IsDraft (g.I.Ident.meaning c.args.ident.now) x q s) (sym c.in_ok-same.ensures.pending) draft)

pub returns-in_default-clause-err : goal.returns-in_default-clause-err
returns-in_default-clause-err g c = subst (λ (q : Pending). OnErr c.put_new.result (c.put_new.new.draft.pending ≡ q)) c.in_ok-same.ensures.pending c.put_new.ensures.err

pub returns-in_default-clause-damaged : goal.returns-in_default-clause-damaged
returns-in_default-clause-damaged g c =
    subst (λ (q : Pending). IfSome (g.K.Keeper.contents c.put_new.new.draft.keeper.now) (λ x. IsMetaOf (with_all x q.batch) (record { count = q.count; is_new = q.is_new }) →
    IfErr c.put_new.result (λ e. IfStoreDamage e (IsDamage (with_all x q.batch))))) c.in_ok-same.ensures.pending c.put_new.ensures.damaged

pub returns-then-same-clause-accepts : goal.returns-then-same-clause-accepts
returns-then-same-clause-accepts g c = λ x s tells draft.
    held_same (g.I.Ident.meaning c.args.ident.now) (g.K.Keeper.contents c.held_text.new.draft.keeper.now) x c.args.draft.now.pending s tells draft c.args.text.now (omega (arith, c.if-text-gt-MAX_TEXT.false)) c.args.id c.requires.id c.held_text.new.draft.pending
    (same_under s c.args.id c.args.text.now c.in_ok-same.field-0 c.in-Some.same (c.in_ok-same.ensures.held (g.I.Ident.meaning c.args.ident.now) x s tells draft) c.in-Some.is c.if-same.true) c.in_ok-same.ensures.pending

pub returns-clause-accepts : goal.returns-clause-accepts
returns-clause-accepts g c = λ x s tells draft.
    held_other (g.I.Ident.meaning c.args.ident.now) (g.K.Keeper.contents c.held_text.new.draft.keeper.now) x c.args.draft.now.pending s tells draft c.args.text.now (omega (arith, c.if-text-gt-MAX_TEXT.false)) c.args.id c.requires.id c.collided.result c.held_text.new.draft.pending
    (other_under s c.args.id c.args.text.now c.in_ok-same.field-0 c.in-Some.same (c.in_ok-same.ensures.held (g.I.Ident.meaning c.args.ident.now) x s tells draft) c.in-Some.is c.if-same.false) c.collided.ensures

pub returns-in_default-clause-reads : goal.returns-in_default-clause-reads
returns-in_default-clause-reads g c = λ x s n tells draft bound.
    let f = g.I.Ident.meaning c.args.ident.now in
    let least = bound.least in
    let first = c.in_ok-same.ensures.reads in
    let then = c.put_new.ensures.reads x s (n - 1) tells (subst (λ (q : Pending). IsDraft f x q s) (sym c.in_ok-same.ensures.pending) draft) (bound_behind 1 37 f s c.args.text.now n bound) in
    omega (arith, first, then, least)

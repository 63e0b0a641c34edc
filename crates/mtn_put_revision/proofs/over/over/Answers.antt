-- The plan's tree, or that of the edges.
use Rattle.std.proofs.Common.{ℕ, List, Ok, sym, ap, arith}
use Rattle.std.specs.Prelude.{IfErr, IfSome, OnOk}
use Rattle.mtn_roster_deltas.specs.Numbering.{shown}
use Rattle.mtn_model.specs.State.{State}
use Rattle.mtn_ports.specs.Kept.{with_all}
use Rattle.mtn_ports.proofs.KeptLemmas.{stays_trans}
use Rattle.mtn_make_roster.specs.Basis.{Underlies}
use Rattle.mtn_history.specs.Stands.{IsFounded}
use Rattle.mtn_history.specs.declared.pending.Pending.{Pending}
use Rattle.mtn_history.proofs.Founding.{back}
use Rattle.mtn_history.proofs.Knowing.{told_back}
use Rattle.mtn_put_revision.specs.Finding.{IsRefusal, made_refusal_of}
use Rattle.mtn_put_revision.specs.Keeping.{Accepts, AreParents, IsFirstRebuilt, IsNew}
use Rattle.mtn_put_revision.proofs.Grounds.{moved}
use Rattle.mtn_put_revision.proofs.Counting.{as_pending}
use Rattle.mtn_put_revision.proofs.over.over.Goals as goal

pub returns-then-kept-clause-accepts : goal.returns-then-kept-clause-accepts
returns-then-kept-clause-accepts g c = λ s d new.
    let f = g.I.Ident.meaning c.args.ident.now in
    let p = c.args.draft.now.pending in
    c.in_ok-kept.ensures.accepts f s d (c.requires.planned s (back f (g.K.Keeper.contents c.args.draft.now.keeper.now) (g.K.Keeper.contents c.over_plan.new.draft.keeper.now) p s c.over_plan.ensures.stays.same d)) new c.if-kept.true

pub over_edges-requires-clause-based : goal.over_edges-requires-clause-based
over_edges-requires-clause-based g c κs within =
    let mid = g.K.Keeper.contents c.over_plan.new.draft.keeper.now in
    let p = c.args.draft.now.pending in
    let known = c.args.known.now in
    moved (λ (x : Pending). (f : List ℕ → List ℕ) (s : State) → (d : IsFounded f mid x s) →
    Underlies d.stands.history c.args.fresh.now.read.now.edges c.args.basis.now c.args.fresh.now.id × AreParents d.stands.history d.stands.kept c.args.fresh.now.read.now.edges known.places.now (shown known.entries.now) known.depth) p c.over_plan.new.draft.pending (sym (c.in_ok-kept.ensures.unkept (ap Ok c.if-kept.false)))
    (λ f s d. c.requires.based f s (back f (g.K.Keeper.contents c.args.draft.now.keeper.now) mid p s c.over_plan.ensures.stays.same d))

pub over_edges-requires-clause-first : goal.over_edges-requires-clause-first
over_edges-requires-clause-first g c κs within =
    let mid = g.K.Keeper.contents c.over_plan.new.draft.keeper.now in
    let known = c.args.known.now in
    let p = c.args.draft.now.pending in
    moved (λ (x : Pending). IfSome mid (λ y. IsFirstRebuilt (with_all y x.batch) known.places.now (shown known.entries.now) known.depth)) p c.over_plan.new.draft.pending (sym (c.in_ok-kept.ensures.unkept (ap Ok c.if-kept.false)))
    (told_back (g.K.Keeper.contents c.args.draft.now.keeper.now) mid (λ y. IsFirstRebuilt (with_all y p.batch) known.places.now (shown known.entries.now) known.depth) c.over_plan.ensures.stays.same c.requires.first)

pub returns-clause-stays : goal.returns-clause-stays
returns-clause-stays g c = stays_trans g.K.Keeper.contents g.K.Keeper.leaves g.K.Keeper.faults _ _ _ c.over_plan.ensures.stays c.over_edges.ensures.stays

pub returns-clause-accepts : goal.returns-clause-accepts
returns-clause-accepts g c = moved (λ (q : Pending). (s : State) → (d : IsFounded (g.I.Ident.meaning c.args.ident.now) (g.K.Keeper.contents c.over_edges.new.draft.keeper.now) q s) → IsNew (g.I.Ident.meaning c.args.ident.now) d.stands.history c.args.fresh.now → OnOk c.over_edges.result (Accepts (g.I.Ident.meaning c.args.ident.now) d.records s d.stands.history c.args.fresh.now c.over_edges.new.draft.pending)) c.over_plan.new.draft.pending c.args.draft.now.pending (c.in_ok-kept.ensures.unkept (ap Ok c.if-kept.false)) c.over_edges.ensures.accepts

pub returns-clause-refused : goal.returns-clause-refused
returns-clause-refused g c = moved (λ (q : Pending). (s : State) → (d : IsFounded (g.I.Ident.meaning c.args.ident.now) (g.K.Keeper.contents c.over_edges.new.draft.keeper.now) q s) → IfErr c.over_edges.result (IsRefusal (made_refusal_of (g.I.Ident.meaning c.args.ident.now) s.files d.stands.history c.args.fresh.now.id c.args.fresh.now.read.now))) c.over_plan.new.draft.pending c.args.draft.now.pending (c.in_ok-kept.ensures.unkept (ap Ok c.if-kept.false)) c.over_edges.ensures.refused

pub returns-clause-reads : goal.returns-clause-reads
returns-clause-reads g c = λ f s d ids.
    let last = g.K.Keeper.contents c.over_edges.new.draft.keeper.now in
    let p = c.args.draft.now.pending in
    let first = c.over_plan.ensures.reads f s (back f (g.K.Keeper.contents c.over_plan.new.draft.keeper.now) last p s c.over_edges.ensures.stays.same d) in
    let then = c.over_edges.ensures.reads f s (as_pending f last p c.over_plan.new.draft.pending s (c.in_ok-kept.ensures.unkept (ap Ok c.if-kept.false)) d) ids in
    omega (arith, first, then)

pub returns-in_err-kept-clause-reads : goal.returns-in_err-kept-clause-reads
returns-in_err-kept-clause-reads g c = λ f s d ids. let first = c.over_plan.ensures.reads f s d in omega (arith, first)

pub returns-then-kept-clause-reads : goal.returns-then-kept-clause-reads
returns-then-kept-clause-reads g c = λ f s d ids. let first = c.over_plan.ensures.reads f s d in omega (arith, first)

-- By what is refused of a new text.
use Rattle.std.proofs.Common.{sym}
use Rattle.mtn_replay.specs.Lawful.{Spells}
use Rattle.mtn_history.proofs.Founding.{founded}
use Rattle.mtn_entry_laws.proofs.Short.{text_bounds}
use Rattle.mtn_put_revision.proofs.Deciding.{accepted_parts, new_kept, result_damage, text_none}
use Rattle.mtn_put_revision.proofs.put.put_new.Goals as goal

pub accept-requires-clause-new : goal.accept-requires-clause-new
accept-requires-clause-new g c κs within = λ f s d. text_none f s.files s.log d.stands.history c.args.id d.stands.spelled (c.requires.new f d.records s d.tells d.draft)

pub returns-clause-accepts : goal.returns-clause-accepts
returns-clause-accepts g c = λ x s tells draft.
    let f = g.I.Ident.meaning c.args.ident.now in
    let last = g.K.Keeper.contents c.accept.new.draft.keeper.now in
    let pend = c.args.draft.now.pending in
    let d = founded f last x pend s tells draft in
    let spells : Spells c.args.text.now c.in-Ok.read = record { reads = c.in-Ok.ensures.ok; stanzas = c.in-Ok.ensures.stanzas } in
    new_kept f last x pend s tells draft c.args.text.now c.requires.short c.args.id c.requires.id c.in-Ok.read spells c.accept.result c.accept.new.draft.pending
    (c.requires.new f x s (c.accept.ensures.stays.same x tells) draft) (c.accept.ensures.refused s d) c.accept.ensures.damaged
    (accepted_parts c.accept.result f x s d.stands.history _ c.accept.new.draft.pending (c.accept.ensures.accepts s d (record { short = c.requires.short; id = sym c.requires.id; spells = spells })))

pub returns-clause-damaged : goal.returns-clause-damaged
returns-clause-damaged g c = result_damage (g.K.Keeper.contents c.accept.new.draft.keeper.now) c.args.draft.now.pending c.accept.result c.accept.ensures.damaged

pub accept-requires-clause-bounded : goal.accept-requires-clause-bounded
accept-requires-clause-bounded g c κs alive = text_bounds c.args.text.now c.in-Ok.read c.in-Ok.ensures.ok c.requires.short

pub returns-clause-reads : goal.returns-clause-reads
returns-clause-reads g c = λ x s n tells draft bound.
    let f = g.I.Ident.meaning c.args.ident.now in
    let ids = (g.met.I.Ident g.world.𝓛 g.world.𝓜 g.world.𝓡 ((λ s x. x), (λ x. x), (λ x. x), λ x. x)).makes_ids c.args.ident.now in
    let d = founded f (g.K.Keeper.contents c.accept.new.draft.keeper.now) x c.args.draft.now.pending s tells draft in
    let spells : Spells c.args.text.now c.in-Ok.read = record { reads = c.in-Ok.ensures.ok; stanzas = c.in-Ok.ensures.stanzas } in
    c.accept.ensures.reads f s d ids n bound.least (bound.known d.stands.history c.in-Ok.read d.stands.spelled spells)

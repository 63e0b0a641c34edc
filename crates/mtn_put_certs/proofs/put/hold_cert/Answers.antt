use Rattle.std.proofs.Common.{sym, ap, ◌∙◌}
use Rattle.mtn_put_certs.proofs.CertLemmas.{held_new, held_same}
use Rattle.mtn_put_certs.proofs.put.hold_cert.Goals as goal

pub returns-then-branch-clause-holds : goal.returns-then-branch-clause-holds
returns-then-branch-clause-holds g c f d s told draft known =
    held_same f (g.K.Keeper.contents c.get.new.self.keeper.now) c.args.draft.now.pending c.get.new.self.pending c.args.cert.now c.deref.result.now c.get.new.out.items
    (c.deref.ensures.value ∙ c.in_ok-key.ensures.key) c.get.ensures.asks.pending c.in_ok-key.ensures.lawful c.in_ok-key.ensures.revision c.in_ok-key.ensures.made_by d s told draft
    c.in_ok-get.field-0 c.in_ok-get.ensures.found c.if-branch.true

pub returns-clause-holds : goal.returns-clause-holds
returns-clause-holds g c f d s told draft known =
    let now = ap (λ h. g.K.Keeper.contents h.now) (sym c.in_ok-keep.ensures.keeper) ∙ told in
    held_new f (g.K.Keeper.contents c.get.new.self.keeper.now) c.args.draft.now.pending c.get.new.self.pending c.args.cert.now c.deref-2.result.now c.get.new.out.items
    (c.deref-2.ensures.value ∙ c.in_ok-key.ensures.key) c.get.ensures.asks.pending c.in_ok-key.ensures.lawful c.in_ok-key.ensures.revision c.in_ok-key.ensures.made_by d s now draft
    known c.keep.new.self.pending c.in_ok-keep.ensures.ok

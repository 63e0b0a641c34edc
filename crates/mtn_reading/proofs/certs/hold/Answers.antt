use Rattle.std.specs.Prelude.{IfSome}
use Rattle.std.proofs.Common.{ℕ, List, sym, ap, ◌∙◌, subst}
use Rattle.mtn_model.specs.Table.{body_at}
use Rattle.mtn_ports.specs.Kept.{IsBody, with_all}
use Rattle.mtn_reading.proofs.CertReading.{holds_new, holds_same}
use Rattle.mtn_reading.proofs.certs.hold.Goals as goal

pub returns-then-branch-clause-holds : goal.returns-then-branch-clause-holds
returns-then-branch-clause-holds g c f d s told draft known =
    holds_same f (g.K.Keeper.contents c.get.new.self.keeper.now) c.args.draft.now.pending c.get.new.self.pending _ c.deref.result.now c.get.new.out.items
    (c.deref.ensures.value ∙ c.in_ok-key.ensures.key) c.get.ensures.asks.pending c.requires.lawful c.in_ok-key.ensures.revision c.in_ok-key.ensures.made_by d s told draft
    c.in_ok-get.field-0 c.in_ok-get.ensures.found c.if-branch.true

pub returns-clause-holds : goal.returns-clause-holds
returns-clause-holds g c f d s told draft known =
    let now = ap (λ h. g.K.Keeper.contents h.now) (sym c.in_ok-keep.ensures.keeper) ∙ told in
    let found = subst (λ (k : List ℕ). IfSome (g.K.Keeper.contents c.get.new.self.keeper.now) (λ x. IsBody (body_at (with_all x c.args.draft.now.pending.batch) 8 k) c.in_ok-get.field-0 c.get.new.out.items))
    (c.deref.ensures.value ∙ sym c.deref-2.ensures.value) c.in_ok-get.ensures.found in
    holds_new f (g.K.Keeper.contents c.get.new.self.keeper.now) c.args.draft.now.pending c.get.new.self.pending _ c.deref-2.result.now c.get.new.out.items
    (c.deref-2.ensures.value ∙ c.in_ok-key.ensures.key) c.get.ensures.asks.pending c.requires.lawful c.in_ok-key.ensures.revision c.in_ok-key.ensures.made_by d s now draft
    c.in_ok-get.field-0 found c.if-branch.false known c.keep.new.self.pending c.in_ok-keep.ensures.ok

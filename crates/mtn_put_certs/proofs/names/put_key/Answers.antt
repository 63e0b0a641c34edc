use Rattle.std.proofs.Common.{sym, ap, ◌∙◌}
use Rattle.mtn_put_certs.proofs.KeyLemmas.{named_new, named_other, named_same}
use Rattle.mtn_put_certs.proofs.names.put_key.Goals as goal

pub returns-then-not-branch-clause-accepts : goal.returns-then-not-branch-clause-accepts
returns-then-not-branch-clause-accepts g c f d s told draft =
    named_new f (g.K.Keeper.contents c.get.new.self.keeper.now) c.args.draft.now.pending c.get.new.self.pending c.args.id c.args.name.now c.as_slice-key.result.now c.get.new.out.items c.in_ok-get.field-0
    c.in_ok-get.ensures.found c.as_slice-key.ensures.value c.get.ensures.asks.pending d s (ap (λ h. g.K.Keeper.contents h.now) (sym c.in_ok-keep.ensures.keeper) ∙ told) draft
    c.keep.new.self.pending c.if-not-branch.true c.in_ok-keep.ensures.ok (record { twenty = c.as_slice-key.ensures.count; bytes = c.as_slice-key.ensures.bytes }) c.requires

pub returns-then-eq-clause-accepts : goal.returns-then-eq-clause-accepts
returns-then-eq-clause-accepts g c f d s told draft =
    named_same f (g.K.Keeper.contents c.get.new.self.keeper.now) c.args.draft.now.pending c.get.new.self.pending c.args.id c.args.name.now c.as_slice-key.result.now c.get.new.out.items c.in_ok-get.field-0
    c.in_ok-get.ensures.found c.as_slice-key.ensures.value c.get.ensures.asks.pending d s told draft
    c.as_slice.result.now c.if-not-branch.false c.as_slice.ensures.value (sym c.eq.ensures ∙ c.if-eq.true)

pub returns-clause-accepts : goal.returns-clause-accepts
returns-clause-accepts g c f d s told draft =
    named_other f (g.K.Keeper.contents c.get.new.self.keeper.now) c.args.draft.now.pending c.get.new.self.pending c.args.id c.args.name.now c.as_slice-key.result.now c.get.new.out.items c.in_ok-get.field-0
    c.in_ok-get.ensures.found c.as_slice-key.ensures.value c.get.ensures.asks.pending d s told draft
    c.as_slice.result.now c.from_vec.result c.if-not-branch.false c.as_slice.ensures.value c.from_vec.ensures (sym c.eq.ensures ∙ c.if-eq.false)

use Rattle.std.proofs.Common.{sym, ap, ◌∙◌, Some}
use Rattle.mtn_put_certs.proofs.KeyLemmas.{none, there}
use Rattle.mtn_put_certs.proofs.HeldLemmas.{no_field}
use Rattle.mtn_put_certs.proofs.names.key_name.Goals as goal

pub returns-then-not-branch-clause-found : goal.returns-then-not-branch-clause-found
returns-then-not-branch-clause-found g c f d s told draft =
    none f (g.K.Keeper.contents c.get.new.self.keeper.now) c.args.draft.now.pending c.get.new.self.pending c.args.id c.args.id.0 c.as_slice.result.now c.get.new.out.items c.in_ok-get.field-0
    c.in_ok-get.ensures.found c.as_slice.ensures.value c.get.ensures.asks.pending d s told draft c.if-not-branch.true

pub returns-clause-found : goal.returns-clause-found
returns-clause-found g c f d s told draft =
    there f (g.K.Keeper.contents c.get.new.self.keeper.now) c.args.draft.now.pending c.get.new.self.pending c.args.id c.args.id.0 c.as_slice.result.now c.get.new.out.items c.in_ok-get.field-0
    c.in_ok-get.ensures.found c.as_slice.ensures.value c.get.ensures.asks.pending d s told draft c.if-not-branch.false ∙ ap Some (sym c.from_vec.ensures)

pub returns-then-not-is_field-clause-sound : goal.returns-then-not-is_field-clause-sound
returns-then-not-is_field-clause-sound g c f d s told draft =
    no_field f (g.K.Keeper.contents c.get.new.self.keeper.now) c.args.draft.now.pending d s c.bad.result c.as_slice.result.now c.as_slice-then-not-is_field.result.now c.deref-then-not-is_field.result.now c.deref.result.now c.get.new.out.items
    c.in_ok-get.field-0 told draft c.in_ok-get.ensures.found c.if-not-branch.false (c.as_slice-then-not-is_field.ensures.value ∙ sym c.as_slice.ensures.value) c.deref-then-not-is_field.ensures.value c.deref.ensures.value
    (sym c.is_field.ensures ∙ c.if-not-is_field.true) c.bad.ensures.damaged

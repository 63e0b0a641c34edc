use Rattle.std.proofs.Common.{refl}
use Rattle.std.proofs.lemmas.Result.{IfOk-weaker}
use Rattle.mtn_put_certs.proofs.HeldLemmas.{at_told, behind_told, no_cert_is_damaged, of_all, told_if}
use Rattle.mtn_put_certs.proofs.held.certs.Goals as goal

pub returns-clause-found : goal.returns-clause-found
returns-clause-found g c f d s told draft =
    IfOk-weaker c.certs_behind.result _ _ (λ v read. of_all s _ v.items refl (behind_told f d c.args.draft.now.pending s _ v.items draft read))
    (at_told (g.K.Keeper.contents c.certs_behind.new.draft.keeper.now) d _ told c.certs_behind.ensures.read)

pub returns-clause-recorded : goal.returns-clause-recorded
returns-clause-recorded g c =
    told_if (g.K.Keeper.contents c.certs_behind.new.draft.keeper.now) _
    (λ d at. IfOk-weaker c.certs_behind.result _ _ (λ v read x among. ((read x).0 among).0) (at_told (g.K.Keeper.contents c.certs_behind.new.draft.keeper.now) d _ at c.certs_behind.ensures.read))

pub returns-clause-sound : goal.returns-clause-sound
returns-clause-sound g c f d s told draft = no_cert_is_damaged f (g.K.Keeper.contents c.certs_behind.new.draft.keeper.now) c.args.draft.now.pending d s c.certs_behind.result told draft c.certs_behind.ensures.damaged

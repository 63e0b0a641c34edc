use Rattle.std.proofs.lemmas.Result.{IfOk-weaker}
use Rattle.mtn_put_certs.proofs.HeldLemmas.{at_told, behind_told, no_cert_is_damaged, of_revision}
use Rattle.mtn_put_certs.proofs.held.certs_of.Goals as goal

pub returns-clause-found : goal.returns-clause-found
returns-clause-found g c f d s told draft =
    IfOk-weaker c.certs_behind.result _ _
    (λ v read. of_revision f d c.args.draft.now.pending s draft c.args.revision c.as_slice.result.now v.items c.as_slice.ensures.value (record { twenty = c.as_slice.ensures.count; bytes = c.as_slice.ensures.bytes })
    (behind_told f d c.args.draft.now.pending s _ v.items draft read))
    (at_told (g.K.Keeper.contents c.certs_behind.new.draft.keeper.now) d _ told c.certs_behind.ensures.read)

pub returns-clause-sound : goal.returns-clause-sound
returns-clause-sound g c f d s told draft = no_cert_is_damaged f (g.K.Keeper.contents c.certs_behind.new.draft.keeper.now) c.args.draft.now.pending d s c.certs_behind.result told draft c.certs_behind.ensures.damaged

use Rattle.std.proofs.lemmas.Result.{IfOk-weaker}
use Rattle.mtn_put_certs.proofs.HeldLemmas.{no_key_is_damaged}
use Rattle.mtn_put_certs.proofs.NameLemmas.{names_in_order, names_told}
use Rattle.mtn_put_certs.proofs.names.names_of.Goals as goal

pub returns-clause-found : goal.returns-clause-found
returns-clause-found g c f d s told draft =
    IfOk-weaker c.names_at.result _ _ (λ v is. names_told s.keys c.args.certs.now c.in_ok-ids.ids.items c.deref.result.now v.items c.deref.ensures.value c.in_ok-ids.ensures is) (c.names_at.ensures.found f d s told draft)

pub returns-clause-ascending : goal.returns-clause-ascending
returns-clause-ascending g c f d s told draft =
    IfOk-weaker c.names_at.result _ _ (λ v is. names_in_order s.keys c.args.certs.now c.in_ok-ids.ids.items c.deref.result.now v.items c.deref.ensures.value c.in_ok-ids.ensures is) (c.names_at.ensures.found f d s told draft)

pub returns-clause-sound : goal.returns-clause-sound
returns-clause-sound g c f d s told draft = no_key_is_damaged f (g.K.Keeper.contents c.names_at.new.draft.keeper.now) c.args.draft.now.pending d s c.names_at.result told draft c.names_at.ensures.damaged

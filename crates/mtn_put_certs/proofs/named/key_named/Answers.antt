use Rattle.mtn_put_certs.proofs.NamedLemmas.{have_name, id_damaged, never_no_id, none_alone, one_alone}
use Rattle.mtn_put_certs.proofs.named.key_named.Goals as goal

pub returns-in_default-clause-found : goal.returns-in_default-clause-found
returns-in_default-clause-found g c f d s told draft =
    none_alone s.keys c.args.name.now c.in_ok-named.named.items c.deref.result.now c.deref.ensures.value (have_name f c.args.draft.now.pending d s c.in_ok-named.named.items c.args.name.now draft (c.in_ok-named.ensures.read d told)) c.in_default.ensures

pub returns-in-Some-id_of-clause-found : goal.returns-in-Some-id_of-clause-found
returns-in-Some-id_of-clause-found g c f d s told draft =
    one_alone s.keys c.args.name.now c.in_ok-named.named.items c.deref.result.now c.in-Some.key.now c.in-Some-id_of.id c.deref.ensures.value (have_name f c.args.draft.now.pending d s c.in_ok-named.named.items c.args.name.now draft (c.in_ok-named.ensures.read d told)) c.in-Some.ensures c.in-Some-id_of.ensures

pub returns-clause-sound : goal.returns-clause-sound
returns-clause-sound g c f d s told draft =
    never_no_id f d c.args.draft.now.pending s c.bad.result c.in_ok-named.named.items c.deref.result.now c.in-Some.key.now c.args.name.now draft c.deref.ensures.value (c.in_ok-named.ensures.read d told) c.in-Some.ensures c.in-None.ensures c.bad.ensures.damaged

pub returns-clause-damaged : goal.returns-clause-damaged
returns-clause-damaged g c =
    id_damaged (g.K.Keeper.contents c.keys_named.new.draft.keeper.now) c.args.draft.now.pending c.bad.result c.in_ok-named.named.items c.deref.result.now c.in-Some.key.now c.args.name.now c.deref.ensures.value c.in_ok-named.ensures.read c.in-Some.ensures c.in-None.ensures c.bad.ensures.damaged

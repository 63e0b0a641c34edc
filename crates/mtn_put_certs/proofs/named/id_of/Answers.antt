use Rattle.mtn_put_certs.proofs.NamedLemmas.{whole_id}
use Rattle.mtn_put_certs.proofs.named.id_of.Goals as goal

pub returns-then-is_empty : goal.returns-then-is_empty
returns-then-is_empty c =
    whole_id 20 c.in_ok-id.id.now c.in_ok-id.rest.now c.args.key.now c.is_empty.result c.in_ok-id.ensures.cases.0 c.in_ok-id.ensures.cases.2 c.is_empty.ensures c.if-is_empty.true

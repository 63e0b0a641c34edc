use Rattle.mtn_base.proofs.IdLemmas.{read_back, refused}
use Rattle.mtn_base.proofs.id.decoded.Goals as goal

pub returns-in-Ok-clause-value : goal.returns-in-Ok-clause-value
returns-in-Ok-clause-value c = read_back c.args.text.now c.decode_to_slice.new.out c.decode_to_slice.result c.in-Ok.field-0 c.requires c.decode_to_slice.ensures.value c.in-Ok.is

pub returns-in-Err-clause-found : goal.returns-in-Err-clause-found
returns-in-Err-clause-found c = (λ no. cc, λ forty. absurd (refused c.args.text.now c.decode_to_slice.new.out c.decode_to_slice.result c.in-Err.field-0 c.requires c.decode_to_slice.ensures.value c.in-Err.is forty))

use Rattle.std.proofs.Common.{Err, ap, arith}
use Rattle.std.proofs.lemmas.Grind.{common_steps}
use Rattle.mtn_old_stores.proofs.ReadLemmas.{read_more, read_none}
use Rattle.mtn_old_stores.proofs.cert.read_parts.Goals as goal

pub returns-else-is_empty : goal.returns-else-is_empty
returns-else-is_empty c = read_more c.args.key.now c.in-Ok.parts c.in-Ok.rest.now c.in-Ok.ensures.ok (λ e. grind (arith, common_steps))

pub returns-in-Err-Bad : goal.returns-in-Err-Bad
returns-in-Err-Bad c = read_none c.args.key.now (c.in-Err-Bad.ensures.bad (ap Err c.in-Err-Bad.field-0-is))

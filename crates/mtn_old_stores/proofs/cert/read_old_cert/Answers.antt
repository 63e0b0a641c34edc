use Rattle.std.proofs.Common.{subst}
use Rattle.mtn_old_stores.specs.Reading.{IsPartsOf}
use Rattle.mtn_old_stores.proofs.ReadLemmas.{cert_found, no_cert}
use Rattle.mtn_old_stores.proofs.cert.read_old_cert.Goals as goal

pub returns-in-None : goal.returns-in-None
returns-in-None c = no_cert c.args.key.now (subst (IsPartsOf c.args.key.now) c.in-None.is c.in_ok-parts.ensures)

pub returns-in-Some : goal.returns-in-Some
returns-in-Some c = cert_found c.args.key.now c.in-Some.parts c.cert_of.result (subst (IsPartsOf c.args.key.now) c.in-Some.is c.in_ok-parts.ensures) c.cert_of.ensures

use Rattle.mtn_certs.specs.Order.{cert_cmp}
use Rattle.mtn_certs.proofs.Certs.{certs_total, exact_certs}
use Rattle.mtn_certs.proofs.Ordered.{ordered_alike, ordered_ascends, ordered_same}
use Rattle.mtn_certs.proofs.laws.one_order.Goals as goal

pub returns-clause-ascending : goal.returns-clause-ascending
returns-clause-ascending c = ordered_ascends cert_cmp certs_total exact_certs

pub returns-clause-same : goal.returns-clause-same
returns-clause-same c = ordered_same cert_cmp certs_total exact_certs

pub returns-clause-one : goal.returns-clause-one
returns-clause-one c = ordered_alike cert_cmp certs_total exact_certs

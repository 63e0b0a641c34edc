-- The certificates of a revision in their order.
use Rattle.std.specs.Prelude.{Contains}
use Rattle.std.proofs.Common.{◌≡◌, ◌↔◌, List}
use Rattle.mtn_base.specs.declared.id.Id.{Id}
use Rattle.mtn_certs.specs.Certificates.{Certificate}
use Rattle.mtn_certs.specs.Order.{cert_cmp, in_order}
use Rattle.mtn_certs.proofs.Certs.{certs_total, exact_certs}
use Rattle.mtn_certs.proofs.Ordered.{ordered_ascends, ordered_same}
use Rattle.mtn_exports.specs.Exports.{AreCertsOf}
use Rattle.mtn_model.specs.State.{Holds, State}

pub certs_listed : (s : State) (id : Id) (certs : List Certificate) → ((x : Certificate) → Contains certs x ↔ (Holds s.certs x × (x.revision ≡ id))) → AreCertsOf s id (in_order certs)
certs_listed s id certs held = record {
  ascending = ordered_ascends cert_cmp certs_total exact_certs certs;
  exact = λ x. let o = ordered_same cert_cmp certs_total exact_certs certs x in (λ c. (held x).0 (o.0 c), λ h. o.1 ((held x).1 h));
}

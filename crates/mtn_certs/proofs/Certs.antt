-- The order of certificates.
use Rattle.std.specs.declared.cmp.Ordering.{Ordering}
use Rattle.std.specs.declared.cmp.Ordering.TheVariants.{Less, Equal, Greater}
use Rattle.std.specs.Ordering.{ordering_then}
use Rattle.std.specs.Cmp.{IsTotalOrder, on_total, then_total}
use Rattle.std.proofs.Common.{◌≡◌, refl}
use Rattle.mtn_base.proofs.IdOrder.{by_id_total}
use Rattle.mtn_base.proofs.Orders.{bytes_total, exact_bytes}
use Rattle.mtn_certs.specs.Certificates.{Certificate}
use Rattle.mtn_certs.specs.Order.{cert_cmp}

pub certs_total : IsTotalOrder cert_cmp
certs_total =
    then_total (then_total (then_total (then_total
    (on_total (λ (c : Certificate). c.name) bytes_total)
    (on_total (λ (c : Certificate). c.key) by_id_total))
    (on_total (λ (c : Certificate). c.value) bytes_total))
    (on_total (λ (c : Certificate). c.signature) bytes_total))
    (on_total (λ (c : Certificate). c.revision) by_id_total)

both_equal : (a b : Ordering) → ordering_then a b ≡ Equal → (a ≡ Equal) × (b ≡ Equal)
both_equal Less b h = absurd cc
both_equal Equal b h = (refl, h)
both_equal Greater b h = absurd cc

-- certificates that tie are one
pub exact_certs : (a b : Certificate) → cert_cmp a b ≡ Equal → a ≡ b
exact_certs a b h =
    let r = both_equal _ _ h in
    let s = both_equal _ _ r.0 in
    let v = both_equal _ _ s.0 in
    let k = both_equal _ _ v.0 in
    λ i. record {
      revision = record { 0 = exact_bytes a.revision.0 b.revision.0 r.1 i };
      name = exact_bytes a.name b.name k.0 i;
      key = record { 0 = exact_bytes a.key.0 b.key.0 k.1 i };
      value = exact_bytes a.value b.value v.1 i;
      signature = exact_bytes a.signature b.signature s.1 i;
    }

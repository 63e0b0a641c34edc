-- The order in which certificates are listed: by name, key, value and signature, byte by byte (our choice), and those of
-- several revisions that are alike in all four by their revision.
use Rattle.std.specs.Prelude.{List}
use Rattle.std.specs.Ordering.{ordering_then}
use Rattle.std.specs.declared.cmp.Ordering.{Ordering}
use Rattle.mtn_base.specs.Ids.{by_id}
use Rattle.mtn_base.specs.Lists.{ordered}
use Rattle.mtn_base.specs.Names.{bytes_cmp}
use Rattle.mtn_certs.specs.Certificates.{Certificate}

abbrev pub cert_cmp : Certificate → Certificate → Ordering
cert_cmp a b =
    ordering_then (ordering_then (ordering_then (ordering_then (bytes_cmp a.name b.name) (by_id a.key b.key)) (bytes_cmp a.value b.value)) (bytes_cmp a.signature b.signature)) (by_id a.revision b.revision)

-- the certificates of a list in this order, each once
abbrev pub in_order : List Certificate → List Certificate
in_order = ordered cert_cmp (λ c. c)

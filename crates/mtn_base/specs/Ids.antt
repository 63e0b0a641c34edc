-- Ids in their order.
use Rattle.std.specs.Prelude.{List}
use Rattle.std.specs.declared.cmp.Ordering.{Ordering}
use Rattle.mtn_base.specs.Names.{bytes_cmp}
use Rattle.mtn_base.specs.declared.id.Id.{Id}
use Rattle.mtn_base.specs.Lists.{ordered}

-- the order of ids: byte by byte
abbrev pub by_id : Id → Id → Ordering
by_id x y = bytes_cmp x.0 y.0

-- ids ascending, each once
abbrev pub in_id_order : List Id → List Id
in_id_order = ordered by_id (λ i. i)

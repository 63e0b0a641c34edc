-- Ids that were put in order.
use Rattle.std.specs.Prelude.{Contains}
use Rattle.std.specs.List.Sorted.{IsStrictlySortedBy}
use Rattle.std.proofs.Common.{◌≡◌, ◌↔◌, List, subst, sym}
use Rattle.mtn_base.specs.Lists.{IsListOf}
use Rattle.mtn_base.specs.declared.id.Id.{Id}
use Rattle.mtn_base.specs.Ids.{by_id, in_id_order}
use Rattle.mtn_base.proofs.IdOrder.{in_order_ascends, in_order_same}

-- ids that were put in order
pub by_id_once : (given ids once : List Id) → ids ≡ given → once ≡ in_id_order ids → IsListOf by_id (Contains given) once
by_id_once given ids once is put = record {
  ascending = subst (IsStrictlySortedBy by_id) (sym put) (in_order_ascends ids);
  exact = λ x. subst (λ l. Contains l x ↔ Contains given x) (sym put) (subst (λ l. Contains (in_id_order ids) x ↔ Contains l x) is (in_order_same ids x));
}

use Rattle.std.specs.Prelude.{Contains}
use Rattle.std.proofs.Common.{List, sym, subst}
use Rattle.mtn_base.specs.declared.id.Id.{Id}
use Rattle.mtn_cases_packets.proofs.asking.heads_of.Goals as goal

pub heads-requires : goal.heads-requires
heads-requires c r member =
    c.are_held.ensures c.if-not-are_held.false r (subst (λ (l : List Id). Contains l r) (sym c.deref.ensures.value) ((c.in-Ok.ensures.exact r).1 member))

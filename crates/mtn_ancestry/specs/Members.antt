-- The positions of a set.
use Rattle.std.specs.Prelude.{ℕ, List}
use Rattle.mtn_ancestry.specs.declared.set.Members.{Members}
use Rattle.mtn_ancestry.specs.declared.set.Members.TheVariants.{One, Listed}

abbrev pub members_of : Members → List ℕ
members_of (One one) = one
members_of (Listed items) = items.value.items

-- The components of a path, its own or shared.
use Rattle.std.specs.Prelude.{ℕ, List}
use Rattle.mtn_base.specs.declared.path.Comps.{Comps}
use Rattle.mtn_base.specs.declared.path.Comps.TheVariants.{Own, Shared}

abbrev pub comps_of : Comps → List (List ℕ)
comps_of (Own comps) = comps.items
comps_of (Shared comps) = comps.value.items

-- The key that has a name.
use Rattle.std.specs.Prelude.{◌≡◌, ℕ, List, Option, Some, None}
use Rattle.std.specs.FinMap.{get}
use Rattle.mtn_base.specs.declared.id.Id.{Id}
use Rattle.mtn_model.specs.Table.{Table}

-- the id has the name, and no other has it
pub record IsAlone (keys : Table) (name : List ℕ) (id : Id) : Type 0 where
  pub has : get keys id.0 ≡ Some name
  pub alone : (other : List ℕ) → get keys other ≡ Some name → other ≡ id.0

-- the id that alone has a name, if there is one
abbrev pub IsKeyOf : Table → List ℕ → Option Id → Type 0
IsKeyOf keys name (Some id) = IsAlone keys name id
IsKeyOf keys name None = (id : Id) → IsAlone keys name id → ⊥

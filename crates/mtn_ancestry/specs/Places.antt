-- How a graph finds a revision by its id.
use Rattle.std.specs.Prelude.{◌≡◌, ℕ, List, Some, nat_eq}
use Rattle.std.specs.Cmp.Lexicographic.{pointwise}
use Rattle.std.specs.declared.hash.FoldHasher.{FoldHasher}
use Rattle.std.specs.declared.hash.BuildHasherDefault.{BuildHasherDefault}
use Rattle.std.specs.HashMap.{get, HashMap}
use Rattle.mtn_base.specs.declared.id.Id.{Id}
use Rattle.mtn_ancestry.specs.declared.pos.LogEntry.{LogEntry}
use Rattle.mtn_ancestry.specs.Ancestors.{ParentsAreEarlier}
use Rattle.mtn_ancestry.specs.Log.{parents_of, id_at}

-- the table has the place of each id of the log, and no other; parents stand before their children
pub record HasPlaces (log : List LogEntry) (places : HashMap (List ℕ) ℕ (BuildHasherDefault FoldHasher)) : Type 0 where
  pub earlier : ParentsAreEarlier (parents_of log)
  pub known : (id : Id) (at : ℕ) → get (pointwise nat_eq) places id.0 ≡ Some at → id_at log at ≡ Some id
  pub listed : (id : Id) (at : ℕ) → id_at log at ≡ Some id → get (pointwise nat_eq) places id.0 ≡ Some at

-- Which history a graph of revisions tells.
use Rattle.std.specs.Prelude.{◌≡◌, ℕ, List, length, Some, slice_get}
use Rattle.mtn_ancestry.specs.Log.{list_of}
use Rattle.mtn_ancestry.specs.declared.pos.LogEntry.{LogEntry}
use Rattle.mtn_history_laws.specs.History.{Revision}

-- the graph is that of a history
pub record IsGraphOf (h : List Revision) (entries : List LogEntry) : Type 0 where
  pub long : length entries ≡ length h
  pub each : (r : ℕ) (e : LogEntry) (v : Revision) → slice_get entries r ≡ Some e → slice_get h r ≡ Some v → (e.id ≡ v.id) × (list_of e.parents ≡ v.parents)

-- The ancestors of revisions, by the ids that a graph has.
use Rattle.std.specs.Prelude.{◌≡◌, ◌≢◌, ℕ, List, Some}
use Rattle.mtn_ancestry.specs.Ancestors.{IsAncestor}
use Rattle.mtn_ancestry.specs.Log.{id_at, parents_of}
use Rattle.mtn_ancestry.specs.declared.pos.LogEntry.{LogEntry}
use Rattle.mtn_base.specs.declared.id.Id.{Id}

-- the revision stands at a
abbrev pub StandsAt : List LogEntry → Id → ℕ → Type 0
StandsAt log x a = id_at log a ≡ Some x

abbrev pub IsIdAt : List LogEntry → ℕ → Id → Type 0
IsIdAt log a x = id_at log a ≡ Some x

-- the graph has the revision
abbrev pub IsHeldBy : List LogEntry → Id → Type 0
IsHeldBy log x = (a : ℕ) × StandsAt log x a

-- x is r or an ancestor of it
abbrev pub IsAbove : List LogEntry → Id → Id → Type 0
IsAbove log x r = (a b : ℕ) × StandsAt log x a × StandsAt log r b × IsAncestor (parents_of log) a b

-- x is another revision than r, and an ancestor of it
abbrev pub IsProperlyAbove : List LogEntry → Id → Id → Type 0
IsProperlyAbove log x r = (x ≢ r) × IsAbove log x r

-- The numbers that the nodes of a marked tree get.
use Rattle.std.specs.Prelude.{◌≡◌, ℕ, ◌+◌, ◌<◌, not, List, map, find, filter, Option, Some, None, is_some, option_map, Contains}
use Rattle.std.specs.Borrow.{Bor}
use Rattle.std.specs.List.{AllByRecursion, flat_map, position_from}
use Rattle.mtn_base.specs.Names.{same_name}
use Rattle.mtn_base.specs.declared.name.NodeName.{NodeName}
use Rattle.mtn_marking.specs.Marking.{MarkedTree}
use Rattle.mtn_roster.specs.declared.entry.Entry.{Entry}
use Rattle.mtn_roster.specs.Tree.{Tree}
use Rattle.mtn_roster.specs.Walk.{by_path}
use Rattle.mtn_records.specs.declared.entry.NumberedEntry.{NumberedEntry}
use Rattle.mtn_roster_deltas.specs.Chain.{Entries, number_of}
use Rattle.mtn_roster_deltas.specs.Spelled.{Spells}

-- all entries of some lists
abbrev pub all_of : List Entries → Entries
all_of known = flat_map (λ es. es) known

-- entries behind references
abbrev pub shown : List (Bor Entries) → List Entries
shown known = map (λ (b : Bor Entries). b.now) known

-- the number that a node has among some entries
abbrev pub number_among : Entries → NodeName → Option ℕ
number_among es n = option_map number_of (find (λ e. same_name e.node n) es)

-- the nodes that have none there
abbrev pub unnumbered : Entries → List NodeName → List NodeName
unnumbered es ns = filter (λ n. not (is_some (number_among es n))) ns

-- the nodes of a tree without a number, as the walk meets them: depth first, parents first, children in byte order
abbrev pub fresh : List Entries → Tree → List NodeName
fresh known t = unnumbered (all_of known) (map (λ (e : Entry). e.name) (by_path t))

-- a number that is there, or that of a place among the next ones
abbrev pub or_next : ℕ → Option ℕ → Option ℕ → Option ℕ
or_next next (Some n) place = Some n
or_next next None place = option_map (λ k. next + k) place

-- the number of a node: its own among some entries, or the next by its place in a list
abbrev pub number_by : ℕ → Entries → List NodeName → NodeName → Option ℕ
number_by next es met n = or_next next (number_among es n) (position_from (λ m. same_name m n) 0 met)

-- the number of a node of the tree
abbrev pub number_in : List Entries → ℕ → Tree → NodeName → Option ℕ
number_in known next t n = number_by next (all_of known) (fresh known t) n

-- Known numbers are from 1 and below the next, one for each node, and no two nodes have one
pub record AreKnown (known : List Entries) (next : ℕ) : Type 0 where
  pub next_from_one : 0 < next
  pub from_one : (e : NumberedEntry) → Contains (all_of known) e → 0 < e.number
  pub below : (e : NumberedEntry) → Contains (all_of known) e → e.number < next
  pub one_number : (e f : NumberedEntry) → Contains (all_of known) e → Contains (all_of known) f → e.node ≡ f.node → e.number ≡ f.number
  pub one_node : (e f : NumberedEntry) → Contains (all_of known) e → Contains (all_of known) f → e.number ≡ f.number → e.node ≡ f.node

-- The entries spell the marked tree, and each has the number of its node
pub record IsNumbering (known : List Entries) (next : ℕ) (t : MarkedTree) (new : Entries) : Type 0 where
  pub spells : Spells new t
  pub numbers : AllByRecursion (λ (e : NumberedEntry). number_in known next t.tree e.node ≡ Some e.number) new

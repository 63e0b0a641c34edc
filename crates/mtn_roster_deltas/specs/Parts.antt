-- What the private steps hand on.
use Rattle.std.specs.Prelude.{◌≡◌, ◌⊎◌, ℕ, List, Contains, [], ◌∷◌, ◌++◌, IsTrue, Option, MatchOption, map}
use Rattle.std.specs.Ordering.{nat_cmp}
use Rattle.mtn_base.specs.Names.{bytes_cmp}
use Rattle.mtn_records.specs.declared.entry.NumberedAttr.{NumberedAttr}
use Rattle.mtn_records.specs.declared.entry.NumberedEntry.{NumberedEntry}
use Rattle.mtn_records.specs.declared.record.RosterRecord.{RosterRecord}
use Rattle.mtn_roster.specs.declared.entry.Entry.{Entry}
use Rattle.mtn_base.specs.Lists.{rises}
use Rattle.mtn_roster_deltas.specs.Spelled.{IsEntryOf}
use Rattle.mtn_roster_deltas.specs.Chain.{Entries, ascend, with_all, after_all}

-- The first of two lists put together, if any, and what is left of both
pub record GivesNext (es cs : Entries) (next : Option NumberedEntry) (es_left cs_left : Entries) : Type 0 where
  pub first : MatchOption next (with_all cs es ≡ []) (λ e. with_all cs es ≡ e ∷ with_all cs_left es_left)
  pub entries : IsTrue (ascend es_left)
  pub changed : IsTrue (ascend cs_left)

-- what is put together so far, and what is left of both
pub record MergesTo (whole done es cs : Entries) : Type 0 where
  pub so_far : whole ≡ done ++ with_all cs es
  pub entries : IsTrue (ascend es)
  pub changed : IsTrue (ascend cs)

-- records give what those that are left make of the entries at hand, of which the numbers ascend
pub record GoesOn (whole : Option Entries) (depth : ℕ) (es : Entries) (left : List RosterRecord) : Type 0 where
  pub so_far : whole ≡ after_all depth es left
  pub rising : IsTrue (ascend es)

abbrev pub numbered_key : NumberedAttr → List ℕ
numbered_key a = a.key

-- what a tree has of the entry's node, and its keys ascend
pub record IsKeyedEntryOf (es : Entries) (e : NumberedEntry) (n : Entry) : Type 0 where
  pub entry : IsEntryOf es e n
  pub keys : IsTrue (rises bytes_cmp (map numbered_key e.attrs))

-- what differs between two lists, gone and changed, element by element
pub record Differs (es ns : Entries) (gone : List ℕ) (changed : Entries) : Type 0 where
  pub gone_up : IsTrue (rises nat_cmp gone)
  pub gone_old : (k : ℕ) → Contains gone k → (f : NumberedEntry) × Contains es f × (f.number ≡ k)
  pub gone_not : (k : ℕ) → Contains gone k → (f : NumberedEntry) → Contains ns f → f.number ≡ k → ⊥
  pub gone_all : (f : NumberedEntry) → Contains es f → ((h : NumberedEntry) → Contains ns h → h.number ≡ f.number → ⊥) → Contains gone f.number
  pub changed_up : IsTrue (ascend changed)
  pub changed_new : (f : NumberedEntry) → Contains changed f → Contains ns f
  pub changed_not : (f : NumberedEntry) → Contains changed f → Contains es f → ⊥
  pub others : (f : NumberedEntry) → Contains ns f → Contains changed f ⊎ Contains es f

-- What is found so far, with what differs in what is left, is what differs between two lists
pub record Continues (base after : Entries) (gone : List ℕ) (changed es ns : Entries) : Type 0 where
  pub olds : IsTrue (ascend es)
  pub news : IsTrue (ascend ns)
  pub goes : (more_gone : List ℕ) (more_changed : Entries) → Differs es ns more_gone more_changed → Differs base after (gone ++ more_gone) (changed ++ more_changed)

-- the same number, birth, node, parent and name
pub record IsSameHead (e f : NumberedEntry) : Type 0 where
  pub number : e.number ≡ f.number
  pub birth : e.birth_at ≡ f.birth_at
  pub parent : e.parent ≡ f.parent
  pub name : e.name ≡ f.name
  pub node : e.node ≡ f.node

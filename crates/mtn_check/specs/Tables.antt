-- The records of one table, by key, and the first that breaks a rule.
use Rattle.std.specs.Prelude.{◌≡◌, ◌<◌, ◌≤◌, ◌⊎◌, ℕ, zero, suc, List, [], length, Option, Some, None}
use Rattle.std.specs.List.{Contains}
use Rattle.mtn_model.specs.Table.{Contents, body_at}
use Rattle.mtn_ports.specs.Kept.{IsAbove}
use Rattle.mtn_check.specs.declared.few.Tallies.{Tallies}
use Rattle.mtn_check.specs.declared.few.Tally.{Tally}
use Rattle.mtn_history.specs.declared.errors.Damage.{Damage}
use Rattle.mtn_history.specs.declared.errors.Damage.TheVariants.{Bad}

-- what is asked of a key and its body
abbrev pub KeyRule : Type 1
KeyRule = List ℕ → List ℕ → Type 0

-- every record of a table keeps the rule
abbrev pub AllIn : ℕ → KeyRule → Contents → Type 0
AllIn table rule c = (key body : List ℕ) → body_at c table key ≡ Some body → rule key body

-- the first record of a table that breaks the rule
pub record IsBreakIn (table : ℕ) (rule : KeyRule) (c : Contents) (d : Damage) : Type 0 where
  pub key : List ℕ
  pub body : List ℕ
  pub shown : d ≡ Bad table key body
  pub held : body_at c table key ≡ Some body
  pub broken : rule key body → ⊥
  pub earlier : (k b : List ℕ) → IsAbove k key → body_at c table k ≡ Some b → rule k b

-- no record stands above a key and below another
abbrev pub IsNoneBetween : ℕ → Contents → List ℕ → List ℕ → Type 0
IsNoneBetween table c last key = (other : List ℕ) → IsAbove last other → IsAbove other key → body_at c table other ≡ None

-- the key of the next record above another, which keeps the rule; or none is above
abbrev pub IsNextKept : ℕ → KeyRule → Contents → List ℕ → Option (List ℕ) → Type 0
IsNextKept table rule c last None = (other : List ℕ) → IsAbove last other → body_at c table other ≡ None
IsNextKept table rule c last (Some key) =
    IsAbove last key × ((body : List ℕ) → body_at c table key ≡ Some body → rule key body) × IsNoneBetween table c last key

-- the next record above a key breaks the rule
pub record IsNextBroken (table : ℕ) (rule : KeyRule) (c : Contents) (last : List ℕ) (d : Damage) : Type 0 where
  pub key : List ℕ
  pub body : List ℕ
  pub shown : d ≡ Bad table key body
  pub held : body_at c table key ≡ Some body
  pub broken : rule key body → ⊥
  pub above : IsAbove last key
  pub between : IsNoneBetween table c last key

-- the tables from one up to another, which is not one of them, have no record
abbrev pub AreEmpty : ℕ → ℕ → Contents → Type 0
AreEmpty from to c = (table : ℕ) (key : List ℕ) → from ≤ table → table < to → body_at c table key ≡ None

-- the first record of these tables
pub record IsFirstOf (from to : ℕ) (c : Contents) (d : Damage) : Type 0 where
  pub table : ℕ
  pub key : List ℕ
  pub body : List ℕ
  pub shown : d ≡ Bad table key body
  pub after : from ≤ table
  pub before : table < to
  pub held : body_at c table key ≡ Some body
  pub tables : AreEmpty from table c
  pub keys : (k : List ℕ) → IsAbove k key → body_at c table k ≡ None

-- a table has no more records than so many: the keys of all are among so many
abbrev pub HasAtMost : ℕ → ℕ → Contents → Type 0
HasAtMost table most c = (keys : List (List ℕ)) × (length keys ≤ most) × AllIn table (λ key body. Contains keys key) c

-- it has no more, or each keeps the rule
abbrev pub IsFewOrKept : ℕ → ℕ → KeyRule → Contents → Type 0
IsFewOrKept table most rule c = HasAtMost table most c ⊎ AllIn table rule c

-- so many keys up to one, which is the last of them: each follows the one before
abbrev pub IsCountTo : ℕ → Contents → ℕ → List ℕ → Type 0
IsCountTo table c zero key = key ≡ []
IsCountTo table c (suc i) key = (last : List ℕ) × IsCountTo table c i last × IsAbove last key × ((body : List ℕ) × (body_at c table key ≡ Some body)) × IsNoneBetween table c last key

-- counted up to the last key found, and no further than so many
abbrev pub IsTally : ℕ → ℕ → Contents → Tally → Type 0
IsTally table most c t = IsCountTo table c t.found t.last.items × (t.found ≤ most)

-- texts, records of the log and rosters, no further than there are revisions
pub record AreTallied (n : ℕ) (c : Contents) (t : Tallies) : Type 0 where
  pub texts : IsTally 3 n c t.texts
  pub log : IsTally 4 n c t.log
  pub rosters : IsTally 5 n c t.rosters

-- Records that are looked at by table and key, and the first that breaks a rule. The order is our choice.
use Rattle.std.specs.Prelude.{◌≡◌, ◌<◌, ◌⊎◌, ℕ, List, Some}
use Rattle.std.specs.Cmp.Lexicographic.{slice_cmp}
use Rattle.std.specs.Ordering.{nat_cmp}
use Rattle.std.specs.declared.cmp.Ordering.TheVariants.{Less}
use Rattle.mtn_model.specs.Table.{Contents, body_at}
use Rattle.mtn_history.specs.declared.errors.Damage.{Damage}
use Rattle.mtn_history.specs.declared.errors.Damage.TheVariants.{Bad}

-- what is asked of the record of a table, a key and a body
abbrev pub Rule : Type 1
Rule = ℕ → List ℕ → List ℕ → Type 0

-- every record keeps the rule
abbrev pub AllKeep : Rule → Contents → Type 0
AllKeep rule c = (table : ℕ) (key body : List ℕ) → body_at c table key ≡ Some body → rule table key body

-- a lesser table, or there a lesser key
abbrev pub IsBefore : ℕ → List ℕ → ℕ → List ℕ → Type 0
IsBefore t k table key = (t < table) ⊎ ((t ≡ table) × (slice_cmp nat_cmp k key ≡ Less))

-- the first record that breaks the rule
pub record IsFirstBreak (rule : Rule) (c : Contents) (d : Damage) : Type 0 where
  pub table : ℕ
  pub key : List ℕ
  pub body : List ℕ
  pub shown : d ≡ Bad table key body
  pub held : body_at c table key ≡ Some body
  pub broken : rule table key body → ⊥
  pub earlier : (t : ℕ) (k b : List ℕ) → IsBefore t k table key → body_at c t k ≡ Some b → rule t k b

-- Records that stand for no state.
use Rattle.std.specs.Prelude.{◌≡◌, ◌<◌, ◌⊎◌, ℕ, List, Some, None, ⊤}
use Rattle.mtn_model.specs.State.{State}
use Rattle.mtn_model.specs.Table.{Contents, body_at}
use Rattle.mtn_history.specs.declared.errors.Damage.{Damage}
use Rattle.mtn_history.specs.declared.errors.Damage.TheVariants.{Bad, Missing}
use Rattle.mtn_history.specs.Certificates.{CertDamage, KeyDamage}
use Rattle.mtn_history.specs.Logs.{LogDamage, IsHeldAt}
use Rattle.mtn_history.specs.Meta.{Counted, MetaDamage}
use Rattle.mtn_history.specs.Places.{PlaceDamage}
use Rattle.mtn_history.specs.Rosters.{RosterDamage, IsRosterHeld}
use Rattle.mtn_history.specs.Stands.{Stands}
use Rattle.mtn_history.specs.Texts.{TextDamage}

-- a record that is there
abbrev pub IsBad : Damage → Type 0
IsBad (Bad table key body) = ⊤
IsBad (Missing table key) = ⊥

-- A record of the log or of a roster, at a position of the log, with which no history goes on: its numbers are too great, a node's
-- birth is known to one side alone or is the new revision, or the log has another id than the text that names the position. Such
-- records stand for no state
pub record UnfitDamage (c : Contents) (d : Damage) : Type 0 where
  pub count : ℕ
  pub counted : Counted c count
  pub place : ℕ
  pub below : place < count
  pub bad : IsBad d
  pub held : IsHeldAt c place d ⊎ IsRosterHeld c place d
  pub unfit : (f : List ℕ → List ℕ) (s : State) → Stands f c s → ⊥

-- A record that fails its reader or cannot stand beside the others, or a key that another record asks for: of
-- table 1, 3, 4, 5, 7 or 8.
abbrev pub IsDamage : Contents → Damage → Type 0
IsDamage c d = MetaDamage c d ⊎ (TextDamage c d ⊎ (LogDamage c d ⊎ (RosterDamage c d ⊎ (PlaceDamage c d ⊎ (UnfitDamage c d ⊎ (KeyDamage c d ⊎ CertDamage c d))))))

-- a bad record is one of the contents, and a missing one is not
abbrev pub IsShown : Contents → Damage → Type 0
IsShown c (Bad table key body) = body_at c table key ≡ Some body
IsShown c (Missing table key) = body_at c table key ≡ None

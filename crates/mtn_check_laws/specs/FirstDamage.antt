-- What a check of a store looks at, in order, and the first damage that it finds. The layout and the order are our choice; which
-- texts, files and certificates are lawful stands in `mtn_replay`, `mtn_model` and `mtn_certs`.
use Rattle.std.specs.Prelude.{◌≡◌, ◌<◌, ◌≤◌, ◌⊎◌, ℕ, true, List, [], ◌++◌, length, Some, None, IsSome, slice_get}
use Rattle.mtn_base.specs.declared.limits.TheConstants.{MAX_LOG, MAX_TEXT}
use Rattle.mtn_certs.specs.Certificates.{Certificate, IsIdBytes, is_field}
use Rattle.mtn_history_laws.specs.History.{Revision}
use Rattle.mtn_replay.specs.Lawful.{IsNext}
use Rattle.mtn_replay.specs.Texts.{text_under}
use Rattle.mtn_model.specs.State.{Logged}
use Rattle.mtn_model.specs.Table.{Contents, body_at}
use Rattle.mtn_records.specs.Bounds.{IsRosterAt}
use Rattle.mtn_records.specs.Fields.{number_text}
use Rattle.mtn_records.specs.declared.record.LogRecord.{LogRecord}
use Rattle.mtn_records.specs.declared.record.RosterRecord.{RosterRecord}
use Rattle.mtn_history.specs.declared.errors.Damage.{Damage}
use Rattle.mtn_history.specs.declared.errors.Damage.TheVariants.{Bad, Missing}
use Rattle.mtn_history.specs.Certificates.{IsCertKey}
use Rattle.mtn_history.specs.Logs.{UnloggedAt, RepeatedAt}
use Rattle.mtn_history.specs.Meta.{count_key, version_key, version, VersionDamage}
use Rattle.mtn_history.specs.Revisions.{Kept, IsRosterOf}
use Rattle.mtn_history.specs.Stands.{IsOther}
use Rattle.mtn_check_laws.specs.Records.{Rule, AllKeep, IsFirstBreak}
use Rattle.mtn_check_laws.specs.Fronts.{Front, IsEntered, IsTextAt, IsTold, IsKeptNext, IsFrontAt}

-- a store without `count` has no record at all
abbrev pub NoRecord : Rule
NoRecord table key body = ⊥

-- table 1 has `count` and `version` alone
abbrev pub IsMetaKey : Rule
IsMetaKey table key body = table ≡ 1 → (key ≡ count_key) ⊎ (key ≡ version_key)

-- every table has its use; table 6 may hold anything
abbrev pub IsUsed : Rule
IsUsed table key body = IsOther table → ⊥

-- a file is within its limit, under the id that the ident gives it
abbrev pub IsFileRecord : (List ℕ → List ℕ) → Rule
IsFileRecord f table key body = table ≡ 2 → (length body ≤ MAX_TEXT) × (f body ≡ key)

-- a text, a record of the log and a roster are those of a revision of the log
pub record IsPlacedIn (front : Front) (table : ℕ) (key body : List ℕ) : Type 0 where
  pub text : table ≡ 3 → (r : ℕ) × (l : Logged) × (slice_get front.log r ≡ Some l) × (l.id ≡ key)
  pub log : table ≡ 4 → (r : ℕ) × (r < length front.history) × (key ≡ number_text r)
  pub roster : table ≡ 5 → (r : ℕ) × (r < length front.history) × (key ≡ number_text r)

-- the name of a key is a field, under an id
abbrev pub IsNameRecord : Rule
IsNameRecord table key body = table ≡ 7 → IsIdBytes key × (is_field body ≡ true)

-- a certificate is lawful and of a revision of the log, and its record has no body
pub record IsCertOf (front : Front) (key body : List ℕ) : Type 0 where
  pub cert : Certificate
  pub is : IsCertKey key cert
  pub spoken_of : IsSome (text_under front.log cert.revision.0)
  pub bare : body ≡ []

abbrev pub IsCertRecord : Front → Rule
IsCertRecord front table key body = table ≡ 8 → IsCertOf front key body

-- `count` is a number of revisions, in eight bytes
pub record IsCount (c : Contents) (n : ℕ) : Type 0 where
  pub held : body_at c 1 count_key ≡ Some (number_text n)
  pub limit : n ≤ MAX_LOG

-- `count` is held and is none
pub record WrongCount (c : Contents) (d : Damage) : Type 0 where
  pub body : List ℕ
  pub shown : d ≡ Bad 1 count_key body
  pub held : body_at c 1 count_key ≡ Some body
  pub broken : (n : ℕ) → n ≤ MAX_LOG → body ≡ number_text n → ⊥

-- what is right before the walk along the log begins
pub record IsBegun (f : List ℕ → List ℕ) (c : Contents) (n : ℕ) : Type 0 where
  pub count : IsCount c n
  pub version : body_at c 1 version_key ≡ Some version
  pub meta : AllKeep IsMetaKey c
  pub used : AllKeep IsUsed c
  pub files : AllKeep (IsFileRecord f) c

-- no text with this position that is lawful there stands under the id
abbrev pub TextDamageAt : (List ℕ → List ℕ) → Contents → ℕ → Front → LogRecord → Damage → Type 0
TextDamageAt f c r front entry (Bad table key body) = (table ≡ 3) × (key ≡ entry.id.0) × (body_at c 3 key ≡ Some body)
    × ((l : Logged) (v : Revision) → l.id ≡ entry.id.0 → body ≡ number_text r ++ l.text → IsNext f (c 2) front.history l v → ⊥)
TextDamageAt f c r front entry (Missing table key) = (table ≡ 3) × (key ≡ entry.id.0) × (body_at c 3 key ≡ None)

-- the record of the log tells other parents or another next number than the text
abbrev pub TellDamageAt : Contents → ℕ → Front → LogRecord → Revision → Damage → Type 0
TellDamageAt c r front entry v (Bad table key body) = (table ≡ 4) × (key ≡ number_text r) × (body_at c 4 key ≡ Some body) × (IsTold front entry v → ⊥)
TellDamageAt c r front entry v (Missing table key) = ⊥

-- no record that is due stands there; a delta with an entry that the base has as it is, is none that is due
abbrev pub RosterDamageAt : Contents → ℕ → Front → Revision → Damage → Type 0
RosterDamageAt c r front v (Bad table key body) = (table ≡ 5) × (key ≡ number_text r) × (body_at c 5 key ≡ Some body)
    × ((new : Kept) (roster : RosterRecord) → IsKeptNext front.history front.kept v new → IsRosterAt r body roster → IsRosterOf front.kept v.parents new roster → ⊥)
RosterDamageAt c r front v (Missing table key) = (table ≡ 5) × (key ≡ number_text r) × (body_at c 5 key ≡ None)

-- the first damage of a position, over the front below it
pub data IsDamageAt (f : List ℕ → List ℕ) (c : Contents) (r : ℕ) (front : Front) (d : Damage) : Type 0 where
  at_log : UnloggedAt c r d ⊎ RepeatedAt c r d → IsDamageAt f c r front d
  at_text : (entry : LogRecord) → IsEntered c r front entry → TextDamageAt f c r front entry d → IsDamageAt f c r front d
  at_telling : (entry : LogRecord) (l : Logged) (v : Revision) → IsEntered c r front entry → IsTextAt f c r front entry.id l v →
      TellDamageAt c r front entry v d → IsDamageAt f c r front d
  at_roster : (entry : LogRecord) (l : Logged) (v : Revision) → IsEntered c r front entry → IsTextAt f c r front entry.id l v → IsTold front entry v →
      RosterDamageAt c r front v d → IsDamageAt f c r front d

-- what is right before the records beside the walk are looked at: each position has its records
pub record IsWalked (f : List ℕ → List ℕ) (c : Contents) (n : ℕ) (front : Front) : Type 0 where
  pub begun : IsBegun f c n
  pub positions : IsFrontAt f c n front

-- The first damage of contents: each step is reached where those before it find none
pub data IsFirstDamage (f : List ℕ → List ℕ) (c : Contents) (d : Damage) : Type 0 where
  in_new : body_at c 1 count_key ≡ None → IsFirstBreak NoRecord c d → IsFirstDamage f c d
  in_count : WrongCount c d → IsFirstDamage f c d
  in_version : (n : ℕ) → IsCount c n → VersionDamage c d → IsFirstDamage f c d
  in_meta : (n : ℕ) → IsCount c n → body_at c 1 version_key ≡ Some version → IsFirstBreak IsMetaKey c d → IsFirstDamage f c d
  in_others : (n : ℕ) → IsCount c n → body_at c 1 version_key ≡ Some version → AllKeep IsMetaKey c → IsFirstBreak IsUsed c d → IsFirstDamage f c d
  in_files : (n : ℕ) → IsCount c n → body_at c 1 version_key ≡ Some version → AllKeep IsMetaKey c → AllKeep IsUsed c →
      IsFirstBreak (IsFileRecord f) c d → IsFirstDamage f c d
  in_walk : (n r : ℕ) (front : Front) → IsBegun f c n → r < n → IsFrontAt f c r front → IsDamageAt f c r front d → IsFirstDamage f c d
  unplaced : (n : ℕ) (front : Front) → IsWalked f c n front → IsFirstBreak (IsPlacedIn front) c d → IsFirstDamage f c d
  in_names : (n : ℕ) (front : Front) → IsWalked f c n front → AllKeep (IsPlacedIn front) c → IsFirstBreak IsNameRecord c d → IsFirstDamage f c d
  in_certs : (n : ℕ) (front : Front) → IsWalked f c n front → AllKeep (IsPlacedIn front) c → AllKeep IsNameRecord c →
      IsFirstBreak (IsCertRecord front) c d → IsFirstDamage f c d

-- nothing is held
pub record HoldsNothing (c : Contents) : Type 0 where
  pub count : body_at c 1 count_key ≡ None
  pub none : AllKeep NoRecord c

-- every step finds none
pub record IsWhole (f : List ℕ → List ℕ) (c : Contents) : Type 0 where
  pub number : ℕ
  pub front : Front
  pub walked : IsWalked f c number front
  pub placed : AllKeep (IsPlacedIn front) c
  pub names : AllKeep IsNameRecord c
  pub certs : AllKeep (IsCertRecord front) c

-- no step finds damage
abbrev pub IsClean : (List ℕ → List ℕ) → Contents → Type 0
IsClean f c = HoldsNothing c ⊎ IsWhole f c

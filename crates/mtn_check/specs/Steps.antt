-- The steps of a check, each with what it asks of records and what it finds. The layout and the order are our choice
-- (`mtn_check_laws`).
use Rattle.std.specs.Prelude.{◌≡◌, ◌<◌, ◌≤◌, ◌⊎◌, ◌++◌, ℕ, true, List, [], Option, Some, None, IsSome, length}
use Rattle.mtn_base.specs.declared.limits.TheConstants.{MAX_LOG, MAX_TEXT}
use Rattle.mtn_certs.specs.Certificates.{Certificate, IsIdBytes, is_field}
use Rattle.mtn_model.specs.Table.{Contents, body_at}
use Rattle.mtn_records.specs.Fields.{number_text, IsNumber}
use Rattle.mtn_records.specs.declared.record.LogRecord.{LogRecord}
use Rattle.mtn_history.specs.Certificates.{IsCertKey}
use Rattle.mtn_history.specs.Logs.{IsLogged}
use Rattle.mtn_history.specs.Meta.{count_key, version_key}
use Rattle.mtn_history.specs.declared.errors.Damage.{Damage}
use Rattle.mtn_check_laws.specs.Records.{AllKeep, IsFirstBreak}
use Rattle.mtn_check_laws.specs.Fronts.{Front, IsFrontAt}
use Rattle.mtn_check_laws.specs.FirstDamage.{HoldsNothing, IsBegun, IsCertRecord, IsCount, IsFirstDamage, IsNameRecord, IsPlacedIn, IsWalked}
use Rattle.mtn_check.specs.Tables.{KeyRule}

-- the number whose text bytes are, if they are one's
abbrev pub IsNumberIn : List ℕ → Option ℕ → Type 0
IsNumberIn bytes (Some n) = IsNumber n × (bytes ≡ number_text n)
IsNumberIn bytes None = (n : ℕ) → IsNumber n → bytes ≡ number_text n → ⊥

-- the number whose text bytes begin with, if they do with one's
abbrev pub IsNumberBefore : List ℕ → Option ℕ → Type 0
IsNumberBefore bytes (Some n) = IsNumber n × ((rest : List ℕ) × (bytes ≡ number_text n ++ rest))
IsNumberBefore bytes None = (n : ℕ) (rest : List ℕ) → IsNumber n → bytes ≡ number_text n ++ rest → ⊥

-- the number of revisions whose text bytes are, if they are one's
abbrev pub IsCountIn : List ℕ → Option ℕ → Type 0
IsCountIn bytes (Some n) = (n ≤ MAX_LOG) × (bytes ≡ number_text n)
IsCountIn bytes None = (n : ℕ) → n ≤ MAX_LOG → bytes ≡ number_text n → ⊥

-- table 1 has `count` and `version`
abbrev pub MetaRule : KeyRule
MetaRule key body = (key ≡ count_key) ⊎ (key ≡ version_key)

-- a file is within its limit, under the id that the ident gives it
abbrev pub FileRule : (List ℕ → List ℕ) → KeyRule
FileRule f key body = (length body ≤ MAX_TEXT) × (f body ≡ key)

-- a text names a position below the count, and the log has its id there
pub record IsTextOf (c : Contents) (count : ℕ) (key body : List ℕ) : Type 0 where
  pub place : ℕ
  pub rest : List ℕ
  pub whole : body ≡ number_text place ++ rest
  pub below : place < count
  pub entry : LogRecord
  pub logged : IsLogged c place entry
  pub same : entry.id.0 ≡ key

-- the key is a position below the count
abbrev pub PlaceRule : ℕ → KeyRule
PlaceRule count key body = (place : ℕ) × (place < count) × (key ≡ number_text place)

-- the name of a key is a field, under an id
abbrev pub NameRule : KeyRule
NameRule key body = IsIdBytes key × (is_field body ≡ true)

-- a certificate is lawful, of a revision that has a text, and its record has no body
pub record IsCertIn (c : Contents) (key body : List ℕ) : Type 0 where
  pub cert : Certificate
  pub is : IsCertKey key cert
  pub spoken_of : IsSome (body_at c 3 cert.revision.0)
  pub bare : body ≡ []

-- what `count` says, if there is one: nothing is held where there is none
abbrev pub IsCountOf : Contents → Option ℕ → Type 0
IsCountOf c (Some n) = IsCount c n
IsCountOf c None = HoldsNothing c

-- the first damage, whatever the ident
abbrev pub IsDamageOfAny : Contents → Damage → Type 0
IsDamageOfAny c d = (f : List ℕ → List ℕ) → IsFirstDamage f c d

-- what is right before the walk, over a `count`, and the first damage there
abbrev pub Begins : (List ℕ → List ℕ) → Contents → Type 0
Begins f c = (n : ℕ) → IsCount c n → IsBegun f c n

abbrev pub IsEarlyDamage : (List ℕ → List ℕ) → Contents → Damage → Type 0
IsEarlyDamage f c d = (n : ℕ) → IsCount c n → IsFirstDamage f c d

-- each position has its records and there are no others in their tables, or the first of these, over whatever front the log has
abbrev pub ArePlaced : ℕ → Contents → Type 0
ArePlaced n c = (f : List ℕ → List ℕ) (front : Front) → IsFrontAt f c n front → AllKeep (IsPlacedIn front) c

abbrev pub IsUnplaced : ℕ → Contents → Damage → Type 0
IsUnplaced n c d = (f : List ℕ → List ℕ) (front : Front) → IsFrontAt f c n front → IsFirstBreak (IsPlacedIn front) c d

-- the records beside the walk are right
pub record IsRight (front : Front) (c : Contents) : Type 0 where
  pub placed : AllKeep (IsPlacedIn front) c
  pub names : AllKeep IsNameRecord c
  pub certs : AllKeep (IsCertRecord front) c

abbrev pub IsRightBeside : ℕ → Contents → Type 0
IsRightBeside n c = (f : List ℕ → List ℕ) (front : Front) → IsFrontAt f c n front → IsRight front c

-- the first damage there, where the walk finds none
abbrev pub IsLateDamage : ℕ → Contents → Damage → Type 0
IsLateDamage n c d = (f : List ℕ → List ℕ) (front : Front) → IsWalked f c n front → IsFirstDamage f c d

-- no step finds damage in contents with so many revisions
pub record IsWholeOf (f : List ℕ → List ℕ) (c : Contents) (n : ℕ) : Type 0 where
  pub front : Front
  pub walked : IsWalked f c n front
  pub right : IsRight front c

-- or nothing is held
abbrev pub Counts : (List ℕ → List ℕ) → Contents → ℕ → Type 0
Counts f c n = (HoldsNothing c × (n ≡ 0)) ⊎ IsWholeOf f c n

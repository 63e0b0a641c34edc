-- The history that the texts of a log spell, and lawful states.
use Rattle.std.specs.Prelude.{◌≡◌, ◌≤◌, ℕ, List, length, take, Some, None, IsSome, slice_get}
use Rattle.std.specs.FinMap.{get}
use Rattle.mtn_base.specs.Hex.{id_of}
use Rattle.mtn_base.specs.declared.limits.TheConstants.{MAX_TEXT}
use Rattle.mtn_basic_io.specs.Spelling.{AreStanzas}
use Rattle.mtn_certs.specs.Certificates.{Certificate}
use Rattle.mtn_changes.specs.declared.change.Revision.{Revision as Spelled}
use Rattle.mtn_changes.specs.RevisionText.{IsRevisionText, revision_stanzas}
use Rattle.mtn_history_laws.specs.History.{Revision}
use Rattle.mtn_model.specs.Table.{Table}
use Rattle.mtn_model.specs.State.{Logged, State, AreCertificates, AreFiles, AreKeys, Holds}
use Rattle.mtn_replay.specs.Making.{made, place_of, refusal_of}
use Rattle.mtn_replay.specs.Texts.{text_under}

-- the text spells this revision, whose ids are twenty bytes each
pub record Spells (text : List ℕ) (r : Spelled) : Type 0 where
  pub reads : IsRevisionText text r
  pub stanzas : AreStanzas (revision_stanzas r)

-- A text of the log, and the revision that it makes of the history before it: within its limit, of a new id
-- that is the ident's, and accepted by every rule
pub record IsNext (f : List ℕ → List ℕ) (files : Table) (h : List Revision) (l : Logged) (v : Revision) : Type 0 where
  pub short : length l.text ≤ MAX_TEXT
  pub id : f l.text ≡ l.id
  pub fresh : place_of h (id_of l.id) ≡ None
  pub read : Spelled
  pub spells : Spells l.text read
  pub accepted : refusal_of f files h (id_of l.id) read ≡ None
  pub made : v ≡ made h (id_of l.id) read.edges

-- every file of the one table is in the other
abbrev pub Keeps : Table → Table → Type 0
Keeps files more = (id bytes : List ℕ) → get files id ≡ Some bytes → get more id ≡ Some bytes

-- the revisions of a log, each made of the history before it
pub record IsHistory (f : List ℕ → List ℕ) (files : Table) (log : List Logged) (h : List Revision) : Type 0 where
  pub long : length h ≡ length log
  pub each : (k : ℕ) (l : Logged) (v : Revision) → slice_get log k ≡ Some l → slice_get h k ≡ Some v → IsNext f files (take k h) l v

-- A lawful state: its files, a log that spells a history, certificates that each speak of a revision of the log, and key names
pub record IsLawful (f : List ℕ → List ℕ) (s : State) : Type 0 where
  pub files : AreFiles f s.files
  pub history : List Revision
  pub log : IsHistory f s.files s.log history
  pub certs : AreCertificates s.certs
  pub spoken_of : (c : Certificate) → Holds s.certs c → IsSome (text_under s.log c.revision.0)
  pub keys : AreKeys s.keys

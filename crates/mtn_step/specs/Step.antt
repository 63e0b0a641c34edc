-- What a command does to a state, and what it answers.
use Rattle.std.specs.Prelude.{◌≡◌, List, [], ◌∷◌, ◌++◌, length, codes, decimal, Option, Some, None, Result, Ok, Err, ℕ, Bool, true, false}
use Rattle.std.specs.FinMap.{get}
use Rattle.std.specs.List.{flat_map}
use Rattle.hex.specs.Hex.{encode_lower}
use Rattle.mtn_answers.specs.Lines.{IsGraph}
use Rattle.mtn_answers.specs.Queries.{IsAnswer, first_unknown, ids_of}
use Rattle.mtn_answers.specs.Views.{TextAnswer, manifest_at, corresponding_at, IsContentChanged, IsRoster}
use Rattle.mtn_answers.specs.declared.query.Line.{Line}
use Rattle.mtn_answers.specs.declared.query.Query.{Query}
use Rattle.mtn_base.specs.Refusals.{refusal_text}
use Rattle.mtn_base.specs.Hex.{id_of}
use Rattle.mtn_base.specs.declared.id.Id.{Id}
use Rattle.mtn_base.specs.declared.refusal.Cause.{Cause}
use Rattle.mtn_base.specs.declared.refusal.Cause.TheVariants.{BadField, NoBranch, NotOld, OneHead, UnknownFile, UnknownRevision}
use Rattle.mtn_base.specs.declared.refusal.Field.TheVariants.{Signature}
use Rattle.mtn_basic_io.specs.Spelling.{spelling}
use Rattle.mtn_certs.specs.Certificates.{Certificate, certificate}
use Rattle.mtn_certs.specs.declared.cert.KeyName.{KeyName}
use Rattle.mtn_base.specs.declared.refusal.Refusal.{Refusal}
use Rattle.mtn_changeset_laws.specs.Changes.{or_else}
use Rattle.mtn_conflicts.specs.ConflictText.{conflict_stanzas}
use Rattle.mtn_conflicts.specs.declared.lists.Conflicts.{Conflicts}
use Rattle.mtn_generated.specs.Growing.{GrowthAnswer, Generates}
use Rattle.mtn_generated.specs.Growing.Stop.{Refused, Conflicting}
use Rattle.mtn_generated.specs.Numbered.{summary_text}
use Rattle.mtn_history_laws.specs.History.{Revision}
use Rattle.mtn_exports.specs.Exports.{IsExported}
use Rattle.mtn_imports.specs.Imports.{Kept, ReadsInput, kept_text}
use Rattle.mtn_certs.specs.GivenTables.{IsTableOf}
use Rattle.mtn_model.specs.Outcome.{Outcome}
use Rattle.mtn_model.specs.State.{State}
use Rattle.mtn_model.specs.declared.status.Status.TheVariants as status
use Rattle.mtn_plans.specs.Plans.{Looks, Merges, Plan}
use Rattle.mtn_plans.specs.declared.outcome.MergeOutcome.TheVariants.{Conflicted, Merged}
use Rattle.mtn_replay.specs.Accepting.{Decides}
use Rattle.mtn_replay.specs.Certificates.{with_cert, with_key}
use Rattle.mtn_replay.specs.Files.{file_refusal, with_file}
use Rattle.mtn_replay.specs.Lawful.{IsHistory}
use Rattle.mtn_replay.specs.Texts.{text_under}
use Rattle.mtn_step.specs.declared.call.Call.{Call}
use Rattle.mtn_step.specs.declared.call.Call.TheVariants.{PutFile, PutRevision, GetFile, GetRevision, GetManifestOf, GetRoster, GetContentChanged, GetCorrespondingPath, Ask, Graph, Merge, ShowConflicts, Cert, Certs, Key, Heads, Branches, Commit, MergeHeads, Packets, Read, Generate, Check, Migrate}
use Rattle.mtn_step.specs.declared.call.Said.{Said}
use Rattle.mtn_step.specs.Certifying.{AreBranches, AreCertsOf, AreHeads, certs_text, held_refusal, key_refusal, merge_said, said_certs, said_refusal, signature_of, value_lines, with_certs}

-- an id's digits and LF
abbrev pub id_line : List ℕ → List ℕ
id_line id = encode_lower id ++ 10 ∷ []

abbrev pub refusal_line : Cause → List ℕ
refusal_line cause = refusal_text (record { packet = 0; cause = cause })

-- what was done, and answered
abbrev pub done : State → List ℕ → Outcome
done new output = record { state = new; output = output; status = status.Ok }

-- the line of a refusal; the state is left
abbrev pub refused : Cause → State → Outcome
refused cause old = record { state = old; output = refusal_line cause; status = status.Refused }

-- the refusal, if there is one, and else what was done
abbrev pub unless : Option Cause → State → State → List ℕ → Outcome
unless None old new output = done new output
unless (Some cause) old new output = refused cause old

-- what is held, or the refusal that nothing is
abbrev pub found : Cause → State → Option (List ℕ) → Outcome
found cause s None = refused cause s
found cause s (Some bytes) = done s bytes

-- what a revision's text comes to: its first refusal, or the state with it and its id
pub record PutsRevision (f : List ℕ → List ℕ) (text : List ℕ) (s : State) (o : Outcome) : Type 0 where
  pub refusal : Option Cause
  pub after : State
  pub decides : Decides f s text refusal after
  pub is : o ≡ unless refusal s after (id_line (f text))

-- an answer, which leaves the state
abbrev pub told : State → TextAnswer → Outcome
told s (Ok text) = done s text
told s (Err cause) = refused cause s

-- a fact of the history that the log of a state spells
abbrev pub OfHistory : (List ℕ → List ℕ) → State → (List Revision → Type 0) → Type 0
OfHistory f s P = (h : List Revision) × IsHistory f s.files s.log h × P h

-- the outcome of a question about a history, whose answer is such
abbrev pub Viewed : (TextAnswer → Type 0) → State → Outcome → Type 0
Viewed Is s o = (answer : TextAnswer) × Is answer × (o ≡ told s answer)

-- ids, one a line
abbrev pub id_lines : List Id → List ℕ
id_lines ids = flat_map (λ (id : Id). id_line id.0) ids

-- what a query of a history is answered with: the refusal of an unknown id, if there is one, and else its ids
abbrev pub Asked : List Revision → Query → State → Option Id → Outcome → Type 0
Asked h query s (Some id) o = o ≡ refused (UnknownRevision id) s
Asked h query s None o = (ids : List Id) × IsAnswer h query ids × (o ≡ done s (id_lines ids))

-- a revision's id and its parents', with one space before each, and LF
abbrev pub line_text : Line → List ℕ
line_text line = encode_lower line.id.0 ++ flat_map (λ (parent : Id). 32 ∷ encode_lower parent.0) line.parents ++ 10 ∷ []

-- what the graph of a history is answered with
abbrev pub Graphed : List Revision → State → Outcome → Type 0
Graphed h s o = (lines : List Line) × IsGraph h lines × (o ≡ done s (flat_map line_text lines))

-- the conflicts that keep a merge from being made; the state is left
abbrev pub conflicted : State → List ℕ → Outcome
conflicted old output = record { state = old; output = output; status = status.Conflicts }

abbrev pub conflict_text : Id → Id → Conflicts → List ℕ
conflict_text left right conflicts = spelling (conflict_stanzas left right conflicts)

-- what a text of a revision comes to once it is made, as by putting it
abbrev pub Ending : Type 1
Ending = List ℕ → State → Outcome → Type 0

-- what is done by the plan of a merge
abbrev pub Ended : Ending → State → Outcome → Plan → Type 0
Ended ends s o (Err cause) = o ≡ refused cause s
Ended ends s o (Ok (Conflicted left right conflicts)) = o ≡ conflicted s (conflict_text left right conflicts)
Ended ends s o (Ok (Merged text)) = ends text s o

-- what is answered by the plan that shows conflicts
abbrev pub Shown : State → Outcome → Plan → Type 0
Shown s o (Err cause) = o ≡ refused cause s
Shown s o (Ok (Conflicted left right conflicts)) = o ≡ done s (conflict_text left right conflicts)
Shown s o (Ok (Merged text)) = ⊥

-- there is a plan of this kind, and this is done by it
abbrev pub Planned : (Plan → Type 0) → (Plan → Type 0) → Type 0
Planned Is Does = (plan : Plan) × Is plan × Does plan

-- what a certificate comes to: its signature spells nothing, or it is refused, or it is held
abbrev pub certified : State → Id → List ℕ → Id → List ℕ → Option (List ℕ) → Outcome
certified s revision name key value None = refused (BadField Signature) s
certified s revision name key value (Some signature) =
    let c = certificate revision name key value signature in unless (held_refusal s c) s (with_cert s c) []

-- what the certificates of a revision are answered with, where its text is this
abbrev pub Listed : State → Id → Outcome → Option (List ℕ) → Type 0
Listed s id o None = o ≡ refused (UnknownRevision id) s
Listed s id o (Some text) = (certs : List Certificate) × AreCertsOf s id certs × (o ≡ done s (certs_text s certs))

-- what a revision's text comes to that is put with what is said of it, also where the text is held
pub record Commits (f : List ℕ → List ℕ) (said : Said) (text : List ℕ) (s : State) (o : Outcome) : Type 0 where
  pub refusal : Option Cause
  pub after : State
  pub decides : Decides f s text refusal after
  pub is : o ≡ unless (or_else refusal (said_refusal said)) s (with_certs after (said_certs (id_of (f text)) said)) (id_line (f text))

-- what a merge of the two least of these heads comes to
abbrev pub HeadsMerged : (Id → Id → Plan → Type 0) → (Id → Id → Ending) → State → Outcome → List Id → Type 0
HeadsMerged Is ends s o [] = o ≡ refused NoBranch s
HeadsMerged Is ends s o (head ∷ []) = o ≡ refused (OneHead head) s
HeadsMerged Is ends s o (left ∷ right ∷ rest) = Planned (Is left right) (Ended (ends left right) s o)

-- what the packets of an input come to: their refusal, if there is one, and else the state with all of them
abbrev pub read_outcome : Option Refusal → State → State → Kept → Outcome
read_outcome None old after new = done after (kept_text new)
read_outcome (Some refusal) old after new = record { state = old; output = refusal_text refusal; status = status.Refused }

pub record ReadsPackets (f : List ℕ → List ℕ) (input : List ℕ) (s : State) (o : Outcome) : Type 0 where
  pub refusal : Option Refusal
  pub after : State
  pub new : Kept
  pub reads : ReadsInput f s input refusal after new
  pub is : o ≡ read_outcome refusal s after new

-- what n generated revisions are answered with: their summary, the refusal, or the conflicts of a merge
abbrev pub Generated : ℕ → State → GrowthAnswer → Outcome → Type 0
Generated n s (Ok g) o = o ≡ done g.state (summary_text n g.tips.last)
Generated n s (Err (Refused cause)) o = o ≡ refused cause s
Generated n s (Err (Conflicting left right conflicts)) o = o ≡ conflicted s (conflict_text left right conflicts)

-- `ok`, the number of revisions, and LF
abbrev pub sound_text : State → List ℕ
sound_text s = codes "ok " ++ decimal (length s.log) ++ 10 ∷ []

-- why a state, which is of the present form, is not migrated: the first fault of the key table, and else that it is not old
abbrev pub not_migrated : Result (List KeyName) Cause → Cause
not_migrated (Err cause) = cause
not_migrated (Ok table) = NotOld

-- The outcome of a command over a state, one line a command; f is what the ident makes of a text.
abbrev pub Steps : (List ℕ → List ℕ) → Call → List ℕ → State → Outcome → Type 0
Steps f PutFile payload s o = o ≡ unless (file_refusal f s payload) s (with_file f s payload) (id_line (f payload))
Steps f PutRevision payload s o = PutsRevision f payload s o
Steps f (GetFile id) payload s o = o ≡ found (UnknownFile id) s (get s.files id.0)
Steps f (GetRevision id) payload s o = o ≡ found (UnknownRevision id) s (text_under s.log id.0)
Steps f (GetManifestOf id) payload s o = OfHistory f s (λ h. Viewed (λ answer. answer ≡ manifest_at h id) s o)
Steps f (GetRoster id) payload s o = OfHistory f s (λ h. Viewed (IsRoster h id) s o)
Steps f (GetContentChanged id path) payload s o = OfHistory f s (λ h. Viewed (IsContentChanged h id path) s o)
Steps f (GetCorrespondingPath id path other) payload s o = OfHistory f s (λ h. Viewed (λ answer. answer ≡ corresponding_at h id path other) s o)
Steps f (Ask query) payload s o = OfHistory f s (λ h. Asked h query s (first_unknown h (ids_of query)) o)
Steps f Graph payload s o = OfHistory f s (λ h. Graphed h s o)
Steps f (Merge a b resolves) payload s o = OfHistory f s (λ h. Planned (Merges f s.files h a b resolves payload) (Ended (PutsRevision f) s o))
Steps f (ShowConflicts a b) payload s o = OfHistory f s (λ h. Planned (Looks h a b) (Shown s o))
Steps f (Cert revision name key value signature) payload s o = o ≡ certified s revision name key value (signature_of signature)
Steps f (Certs id) payload s o = Listed s id o (text_under s.log id.0)
Steps f (Key id name) payload s o = o ≡ unless (key_refusal s id name) s (with_key s id name) []
Steps f (Heads branch) payload s o = OfHistory f s (λ h. (ids : List Id) × AreHeads s h branch ids × (o ≡ done s (id_lines ids)))
Steps f Branches payload s o = (branches : List (List ℕ)) × AreBranches s branches × (o ≡ done s (value_lines branches))
Steps f (Commit said) payload s o = Commits f said payload s o
Steps f (MergeHeads branch author date key resolves) payload s o = OfHistory f s (λ h. (ids : List Id) × AreHeads s h branch ids ×
    HeadsMerged (λ left right. Merges f s.files h left right resolves payload) (λ left right. Commits f (merge_said key author branch date left right)) s o ids)
Steps f (Packets id have) payload s o = OfHistory f s (λ h. Viewed (IsExported s h id have) s o)
Steps f Read payload s o = ReadsPackets f payload s o
Steps f (Generate n) payload s o = (answer : GrowthAnswer) × Generates f n s answer × Generated n s answer o
Steps f Check payload s o = o ≡ done s (sound_text s)
Steps f Migrate payload s o = (given : Result (List KeyName) Cause) × IsTableOf payload given × (o ≡ refused (not_migrated given) s)

-- whether a command takes a payload, one line a command
abbrev pub takes_payload : Call → Bool
takes_payload PutFile = true
takes_payload PutRevision = true
takes_payload (GetFile id) = false
takes_payload (GetRevision id) = false
takes_payload (GetManifestOf id) = false
takes_payload (GetRoster id) = false
takes_payload (GetContentChanged id path) = false
takes_payload (GetCorrespondingPath id path other) = false
takes_payload (Ask query) = false
takes_payload Graph = false
takes_payload (Merge a b resolves) = resolves
takes_payload (ShowConflicts a b) = false
takes_payload (Cert revision name key value signature) = false
takes_payload (Certs id) = false
takes_payload (Key id name) = false
takes_payload (Heads branch) = false
takes_payload Branches = false
takes_payload (Commit said) = true
takes_payload (MergeHeads branch author date key resolves) = resolves
takes_payload (Packets id have) = false
takes_payload Read = true
takes_payload (Generate n) = false
takes_payload Check = false
takes_payload Migrate = true

-- What certificates, key names and branches come to, without the outcome of a command. The commands are Monotone's (cert, certs,
-- heads, branches, commit); the names of keys, the order of the refusals and the limits are our choice.
use Rattle.std.specs.Prelude.{◌≡◌, ℕ, List, [], ◌∷◌, ◌++◌, length, nat_le, codes, Option, Some, None, if◌then◌else◌, option_map, option_and_then}
use Rattle.std.specs.FinMap.{get}
use Rattle.std.specs.List.{flat_map}
use Rattle.base64.specs.Engines.{standard}
use Rattle.base64.specs.GeneralPurpose.{decoded_of}
use Rattle.hex.specs.Hex.{encode_lower}
use Rattle.mtn_answers.specs.Queries.{IsProperlyAbove}
use Rattle.mtn_base.specs.Ids.{by_id}
use Rattle.mtn_base.specs.Lists.{IsListOf}
use Rattle.mtn_base.specs.Names.{bytes_cmp}
use Rattle.mtn_base.specs.declared.id.Id.{Id}
use Rattle.mtn_base.specs.declared.limits.TheConstants.{MAX_TEXT}
use Rattle.mtn_base.specs.declared.refusal.Cause.{Cause}
use Rattle.mtn_base.specs.declared.refusal.Cause.TheVariants.{BadField, KeyNamed, TextTooLong}
use Rattle.mtn_base.specs.declared.refusal.Field.TheVariants.{Key}
use Rattle.mtn_basic_io.specs.Spelling.{spelling}
use Rattle.mtn_branches.specs.Branches.{IsBranch, IsHead, IsMember}
use Rattle.mtn_certs.specs.Certificates.{Certificate, certificate, fault_of, is_field}
use Rattle.mtn_certs.specs.Listing.{stanzas_of}
use Rattle.mtn_certs.specs.Order.{cert_cmp}
use Rattle.mtn_certs.specs.declared.cert.CertError.{CertError}
use Rattle.mtn_certs.specs.declared.cert.CertError.TheVariants as fault
use Rattle.mtn_changeset_laws.specs.Changes.{or_else}
use Rattle.mtn_history_laws.specs.History.{Revision}
use Rattle.mtn_model.specs.State.{Holds, State}
use Rattle.mtn_replay.specs.Certificates.{cert_refusal, other_name, with_cert}
use Rattle.mtn_step.specs.declared.call.Said.{Said}

-- the bytes of a signature, which is strict base64 (RFC 4648) where there is one
abbrev pub signature_of : Option (List ℕ) → Option (List ℕ)
signature_of None = Some []
signature_of (Some text) = decoded_of standard text

-- the cause of a certificate's fault
abbrev pub fault_cause : CertError → Option Cause
fault_cause (fault.BadField field) = Some (BadField field)
fault_cause (fault.TextTooLong length) = Some (TextTooLong length)
fault_cause fault.NoMemory = None

-- why a certificate is not held: a rule that it breaks, and else a revision that the log does not have
abbrev pub held_refusal : State → Certificate → Option Cause
held_refusal s c = or_else (option_and_then fault_cause (fault_of c)) (cert_refusal s c)

-- why a key is not given a name: one that is no field, and else another that it has
abbrev pub key_refusal : State → Id → List ℕ → Option Cause
key_refusal s id name = if is_field name then option_map (λ held. KeyNamed id held) (other_name s id name) else Some (BadField Key)

-- the certificates of a revision, in the order of lists
abbrev pub AreCertsOf : State → Id → List Certificate → Type 0
AreCertsOf s id certs = IsListOf cert_cmp (λ c. Holds s.certs c × (c.revision ≡ id)) certs

-- certificates as text, with the names of their keys
abbrev pub certs_text : State → List Certificate → List ℕ
certs_text s certs = spelling (stanzas_of (λ key. get s.keys key.0) certs)

-- the heads of a branch: members that no member has as a proper ancestor
abbrev pub AreHeads : State → List Revision → List ℕ → List Id → Type 0
AreHeads s h branch ids = IsListOf by_id (IsHead (IsProperlyAbove h) (IsMember (Holds s.certs) branch)) ids

-- the branches that have a member
abbrev pub AreBranches : State → List (List ℕ) → Type 0
AreBranches s branches = IsListOf bytes_cmp (IsBranch (Holds s.certs)) branches

-- values, one a line
abbrev pub value_lines : List (List ℕ) → List ℕ
value_lines values = flat_map (λ value. value ++ 10 ∷ []) values

-- a value that has more bytes than the limit
abbrev pub value_refusal : List ℕ → Option Cause
value_refusal value = if nat_le (length value) MAX_TEXT then None else Some (TextTooLong (length value))

-- the first of these values that is too long
abbrev pub values_refusal : List (List ℕ) → Option Cause
values_refusal [] = None
values_refusal (value ∷ rest) = or_else (value_refusal value) (values_refusal rest)

-- what is said of a revision that is committed
abbrev pub said_refusal : Said → Option Cause
said_refusal said = values_refusal (said.author ∷ said.branch ∷ said.changelog ∷ said.date ∷ [])

-- the certificates that say it, unsigned
abbrev pub said_certs : Id → Said → List Certificate
said_certs id said =
    certificate id (codes "author") said.key said.author []
    ∷ certificate id (codes "branch") said.key said.branch []
    ∷ certificate id (codes "changelog") said.key said.changelog []
    ∷ certificate id (codes "date") said.key said.date []
    ∷ []

-- the certificates are held, one after the other
abbrev pub with_certs : State → List Certificate → State
with_certs s [] = s
with_certs s (c ∷ rest) = with_certs (with_cert s c) rest

-- the changelog of a merge of two heads
abbrev pub merge_log : Id → Id → List ℕ
merge_log left right = codes "merge of '" ++ encode_lower left.0 ++ codes "'\n     and '" ++ encode_lower right.0 ++ codes "'"

-- what is said of it
abbrev pub merge_said : Id → List ℕ → List ℕ → List ℕ → Id → Id → Said
merge_said key author branch date left right =
    record { author = author; branch = branch; changelog = merge_log left right; date = date; key = key }

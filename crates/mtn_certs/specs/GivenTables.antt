-- The key table that a payload is, and why it is refused. The limit of 64 MiB and the order are our choice.
use Rattle.std.specs.Prelude.{◌≡◌, ◌≤◌, ◌<◌, ◌⊎◌, ℕ, List, ◌∷◌, length, map, Option, Some, None, Result, Ok, Err}
use Rattle.mtn_base.specs.declared.limits.TheConstants.{MAX_TEXT}
use Rattle.mtn_base.specs.declared.refusal.Cause.{Cause}
use Rattle.mtn_base.specs.declared.refusal.Cause.TheVariants.{TextTooLong, NotText, BadStanza, BadOrder, Repeated}
use Rattle.mtn_basic_io.specs.Spelling.{AreStanzas}
use Rattle.mtn_certs.specs.declared.cert.KeyName.{KeyName}
use Rattle.mtn_certs.specs.declared.key_error.KeyTextError.{KeyTextError}
use Rattle.mtn_certs.specs.declared.key_error.KeyTextError.TheVariants as text
use Rattle.mtn_certs.specs.KeyTables.{header, stanza_of, IsKeysText, IsKeysFault}

-- the cause of a text's fault
abbrev pub text_cause : KeyTextError → Option Cause
text_cause (text.NotText offset) = Some (NotText offset)
text_cause (text.BadStanza number) = Some (BadStanza number)
text_cause (text.BadOrder number) = Some (BadOrder number)
text_cause (text.Repeated number) = Some (Repeated number)
text_cause text.NoMemory = None

-- the text spells this key table, whose ids are twenty bytes each
pub record Spells (payload : List ℕ) (keys : List KeyName) : Type 0 where
  pub reads : IsKeysText payload keys
  pub stanzas : AreStanzas (header ∷ map stanza_of keys)

-- it spells none
pub record IsUnread (payload : List ℕ) (cause : Cause) : Type 0 where
  pub fault : KeyTextError
  pub faulty : IsKeysFault payload fault
  pub named : text_cause fault ≡ Some cause

-- the key table of a payload, or its first fault: it is longer than 64 MiB; it spells none
abbrev pub IsTableOf : List ℕ → Result (List KeyName) Cause → Type 0
IsTableOf payload (Ok keys) = (length payload ≤ MAX_TEXT) × Spells payload keys
IsTableOf payload (Err cause) = ((MAX_TEXT < length payload) × (cause ≡ TextTooLong (length payload))) ⊎ ((length payload ≤ MAX_TEXT) × IsUnread payload cause)

-- The resolutions that a merge is given, and why they are refused. The limit of 64 MiB and the order are our choice.
use Rattle.std.specs.Prelude.{◌≡◌, ◌≤◌, ◌<◌, ◌⊎◌, ℕ, Bool, true, false, List, [], ◌∷◌, length, map, filter_map, find, is_none, Option, Some, None, option_map, Result, Ok, Err}
use Rattle.std.specs.FinMap.{get}
use Rattle.mtn_base.specs.declared.id.Id.{Id}
use Rattle.mtn_base.specs.declared.limits.TheConstants.{MAX_TEXT}
use Rattle.mtn_base.specs.declared.refusal.Cause.{Cause}
use Rattle.mtn_base.specs.declared.refusal.Cause.TheVariants.{TextTooLong, NotText, BadStanza, BadOrder, Repeated, UnknownFile, UnknownNode, NotADirectory, NotAConflict}
use Rattle.mtn_basic_io.specs.Spelling.{AreStanzas}
use Rattle.mtn_conflicts.specs.declared.lists.Conflicts.{Conflicts}
use Rattle.mtn_decide.specs.Decisions.{Merge}
use Rattle.mtn_model.specs.Table.{Table}
use Rattle.mtn_resolve.specs.declared.error.OverrideError.{OverrideError}
use Rattle.mtn_resolve.specs.declared.error.OverrideError.TheVariants as one
use Rattle.mtn_resolve.specs.declared.error.ResolveTextError.{ResolveTextError}
use Rattle.mtn_resolve.specs.declared.error.ResolveTextError.TheVariants as text
use Rattle.mtn_resolve.specs.declared.resolution.Resolution.{Resolution}
use Rattle.mtn_resolve.specs.Faults.{AreFitting, IsOverrideFault}
use Rattle.mtn_resolve.specs.Overriding.{pick_in}
use Rattle.mtn_resolve.specs.Texts.{header, stanza_of, IsResolutionsText, IsResolutionsFault}

-- the cause of a text's fault
abbrev pub text_cause : ResolveTextError → Option Cause
text_cause (text.NotText place) = Some (NotText place)
text_cause (text.BadStanza number) = Some (BadStanza number)
text_cause (text.BadOrder number) = Some (BadOrder number)
text_cause (text.Repeated number) = Some (Repeated number)
text_cause text.NoMemory = None

-- the text spells these resolutions, whose ids are twenty bytes each
pub record Spells (payload : List ℕ) (rs : List Resolution) : Type 0 where
  pub reads : IsResolutionsText payload rs
  pub stanzas : AreStanzas (header ∷ map stanza_of rs)

-- it spells none
pub record IsUnread (payload : List ℕ) (cause : Cause) : Type 0 where
  pub fault : ResolveTextError
  pub faulty : IsResolutionsFault payload fault
  pub named : text_cause fault ≡ Some cause

-- the resolutions of a text, or why it is refused: it is longer than 64 MiB; it spells none
abbrev pub IsRead : List ℕ → Result (List Resolution) Cause → Type 0
IsRead payload (Ok rs) = (length payload ≤ MAX_TEXT) × Spells payload rs
IsRead payload (Err cause) = ((MAX_TEXT < length payload) × (cause ≡ TextTooLong (length payload))) ⊎ ((length payload ≤ MAX_TEXT) × IsUnread payload cause)

-- those that a merge is given: none, or those of its payload
abbrev pub IsGiven : Bool → List ℕ → Result (List Resolution) Cause → Type 0
IsGiven false payload given = given ≡ Ok []
IsGiven true payload given = IsRead payload given

-- the cause of a resolution that does not fit
abbrev pub override_cause : OverrideError → Option Cause
override_cause (one.UnknownNode number) = Some (UnknownNode number)
override_cause (one.NotADirectory number) = Some (NotADirectory number)
override_cause (one.NotAConflict number) = Some (NotAConflict number)
override_cause one.NoMemory = None

-- the first content that resolutions pick and that is not held
abbrev pub unknown_pick : Table → List Resolution → Option Cause
unknown_pick files rs = option_map UnknownFile (find (λ (id : Id). is_none (get files id.0)) (filter_map pick_in rs))

-- one of them does not fit the decisions before any
pub record IsUnfit (m : Merge) (c : Conflicts) (rs : List Resolution) (cause : Cause) : Type 0 where
  pub fault : OverrideError
  pub unfit : IsOverrideFault m c rs fault
  pub named : override_cause fault ≡ Some cause

-- why resolutions are refused, if they are: the first that does not fit; the first content that is not held
abbrev pub IsChecked : Table → Merge → Conflicts → List Resolution → Option Cause → Type 0
IsChecked files m c rs None = AreFitting m c rs × (unknown_pick files rs ≡ None)
IsChecked files m c rs (Some cause) = IsUnfit m c rs cause ⊎ (AreFitting m c rs × (unknown_pick files rs ≡ Some cause))

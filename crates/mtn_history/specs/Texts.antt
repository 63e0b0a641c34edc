-- The text of a revision: what is found, and what is damage.
use Rattle.std.specs.Prelude.{◌≡◌, ◌<◌, ℕ, List, length, Some, None, Result, Ok, Err}
use Rattle.mtn_base.specs.declared.id.Id.{Id}
use Rattle.mtn_base.specs.declared.refusal.Cause.TheVariants.{UnknownRevision}
use Rattle.mtn_model.specs.State.{State}
use Rattle.mtn_model.specs.Table.{Contents, body_at}
use Rattle.mtn_history.specs.declared.errors.Damage.{Damage}
use Rattle.mtn_history.specs.declared.errors.Damage.TheVariants.{Bad, Missing}
use Rattle.mtn_history.specs.declared.errors.HistoryError.{HistoryError}
use Rattle.mtn_history.specs.declared.errors.HistoryError.TheVariants.{Refused, Store}
use Rattle.mtn_history.specs.Errors.{IfDamage}
use Rattle.mtn_replay.specs.Texts.{text_under}

-- the answer to `text_of`, and the text that was read
abbrev pub FindsText : State → Id → Result (Unit {0}) HistoryError → List ℕ → Type 0
FindsText s id (Ok done) out = text_under s.log id.0 ≡ Some out
FindsText s id (Err (Refused cause)) out = (cause ≡ UnknownRevision id) × (text_under s.log id.0 ≡ None)
FindsText s id (Err (Store e)) out = IfDamage e (λ _. ⊥)

-- a record of table 3 that has no position
abbrev pub TextDamage : Contents → Damage → Type 0
TextDamage c (Bad table key body) = (table ≡ 3) × (body_at c 3 key ≡ Some body) × (length body < 8)
TextDamage c (Missing table key) = ⊥

-- An error over a draft comes from its cause.
use Rattle.std.proofs.Common.{◌≡◌, ◌≤◌, ℕ, Bool, true, List, Option, Some, None, Result, Ok, Err, inl, inr, refl, arith}
use Rattle.std.specs.Prelude.{IfSome}
use Rattle.mtn_history.specs.Damage.{IsDamage}
use Rattle.mtn_history.specs.Meta.{IsMetaOf}
use Rattle.mtn_history.specs.declared.errors.Damage.{Damage}
use Rattle.mtn_history.specs.declared.errors.HistoryError.{HistoryError}
use Rattle.mtn_history.specs.declared.errors.HistoryError.TheVariants.{Refused, Store}
use Rattle.mtn_history.specs.declared.errors.StoreError.TheVariants.{Failed, Damaged, NoMemory}
use Rattle.mtn_history.specs.declared.pending.Pending.{Pending}
use Rattle.mtn_model.specs.Table.{Contents}
use Rattle.mtn_ports.specs.Causes.{Rose}
use Rattle.mtn_ports.specs.Kept.{with_all}
use Rattle.mtn_history.specs.declared.errors.StoreError.{StoreError}
use Rattle.mtn_frame.specs.declared.works.Reply.{Reply}
use Rattle.mtn_commands.specs.declared.error.CommandError.{CommandError}
use Rattle.mtn_commands.specs.declared.error.CommandError.TheVariants as command
use Rattle.mtn_history.specs.Errors.{IfDamage, IfStoreDamage}
use Rattle.mtn_reading.specs.Unfit.{SpoilsReading}
use Rattle.mtn_commands.specs.Drafts.{CommandReason, Counts, HasCommandReason, HasReason, HasReplyReason, IsCommandDamage, Reason, drafted}

-- an error comes from its cause
pub reason_told : (told : Option Contents) (p : Pending) (before now : ℕ) (e : HistoryError) → (e ≡ Store Failed → Rose before now) →
    IfSome told (λ c. IsMetaOf (with_all c p.batch) (record { count = p.count; is_new = p.is_new }) → IfStoreDamage e (IsDamage (with_all c p.batch))) → Counts p told → HasReason (drafted p told) before now (Err e)
reason_told told p before now (Refused cause) rose damaged counts = tt
reason_told told p before now (Store Failed) rose damaged counts = rose refl
reason_told told p before now (Store NoMemory) rose damaged counts = tt
reason_told None p before now (Store (Damaged d)) rose damaged counts = tt
reason_told (Some c) p before now (Store (Damaged d)) rose damaged counts = damaged counts

pub reason_of : (told : Option Contents) (before now : ℕ) (e : StoreError) → (e ≡ Failed → Rose before now) → IfSome told (λ c. IfDamage e (IsDamage c)) → Reason told before now e
reason_of told before now Failed rose damage = rose refl
reason_of told before now NoMemory rose damage = tt
reason_of told before now (Damaged d) rose damage = damage

wider : (told : Option Contents) (a b c d : ℕ) (e : StoreError) → a ≤ b → c ≤ d → Reason told b c e → Reason told a d e
wider told a b c d Failed lo hi rose = omega arith
wider told a b c d NoMemory lo hi reason = tt
wider told a b c d (Damaged x) lo hi reason = reason

pub wider_reason : (told : Option Contents) (a b c d : ℕ) (r : Result Reply HistoryError) → a ≤ b → c ≤ d → HasReplyReason told b c r → HasReplyReason told a d r
wider_reason told a b c d (Ok reply) lo hi reason = tt
wider_reason told a b c d (Err (Refused cause)) lo hi reason = tt
wider_reason told a b c d (Err (Store e)) lo hi reason = wider told a b c d e lo hi reason

-- the same of a command
as_damage : (f : List ℕ → List ℕ) (reading : Bool) (told : Option Contents) (d : Damage) → IfSome told (λ c. IsDamage c d) → IfSome told (λ c. IsCommandDamage f reading c d)
as_damage f reading None d damage = tt
as_damage f reading (Some c) d damage = inl damage

pub command_reason : (f : List ℕ → List ℕ) (reading : Bool) (told : Option Contents) (before now : ℕ) (e : StoreError) → Reason told before now e → CommandReason f reading told before now e
command_reason f reading told before now Failed reason = reason
command_reason f reading told before now NoMemory reason = tt
command_reason f reading told before now (Damaged d) reason = as_damage f reading told d reason

-- where packets are read
pub reading_reason : (f : List ℕ → List ℕ) (told : Option Contents) (before now : ℕ) (e : StoreError) → (e ≡ Failed → Rose before now) → IfSome told (λ c. IfDamage e (SpoilsReading f c)) → CommandReason f true told before now e
reading_reason f told before now Failed rose damage = rose refl
reading_reason f told before now NoMemory rose damage = tt
reading_reason f None before now (Damaged d) rose damage = tt
reading_reason f (Some c) before now (Damaged d) rose (inl own) = inl own
reading_reason f (Some c) before now (Damaged d) rose (inr unfit) = inr (refl, unfit)

wider_command : (f : List ℕ → List ℕ) (reading : Bool) (told : Option Contents) (a b c d : ℕ) (e : StoreError) → a ≤ b → c ≤ d → CommandReason f reading told b c e → CommandReason f reading told a d e
wider_command f reading told a b c d Failed lo hi rose = omega arith
wider_command f reading told a b c d NoMemory lo hi reason = tt
wider_command f reading told a b c d (Damaged x) lo hi reason = reason

pub wider_command_reason : (f : List ℕ → List ℕ) (reading : Bool) (told : Option Contents) (a b c d : ℕ) (r : Result Reply CommandError) → a ≤ b → c ≤ d → HasCommandReason f reading told b c r → HasCommandReason f reading told a d r
wider_command_reason f reading told a b c d (Ok reply) lo hi reason = tt
wider_command_reason f reading told a b c d (Err (command.Refused refusal)) lo hi reason = tt
wider_command_reason f reading told a b c d (Err (command.Store e)) lo hi reason = wider_command f reading told a b c d e lo hi reason

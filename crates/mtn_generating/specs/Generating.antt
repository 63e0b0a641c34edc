-- What the calls of the generator answer over a draft, and what is pending then.
use Rattle.std.specs.Prelude.{◌≡◌, ℕ, List, Option, Some, None, Result, Ok, Err, IfErr, IfSome, ⊤}
use Rattle.mtn_base.specs.declared.refusal.Cause.{Cause}
use Rattle.mtn_conflicts.specs.ConflictText.{IsLesser}
use Rattle.mtn_generated.specs.Growing.{GrowthAnswer, Generates, Grown, files_refusal, grown, with_files}
use Rattle.mtn_generated.specs.Growing.Stop.{Conflicting, Refused}
use Rattle.mtn_generated.specs.Numbered.{summary_text}
use Rattle.mtn_history.specs.Errors.{IfDamage, IfStoreDamage}
use Rattle.mtn_history.specs.Stands.{IsDraft}
use Rattle.mtn_history.specs.declared.errors.Damage.{Damage}
use Rattle.mtn_history.specs.declared.errors.HistoryError.{HistoryError}
use Rattle.mtn_history.specs.declared.errors.HistoryError.TheVariants as history
use Rattle.mtn_history.specs.declared.errors.StoreError.TheVariants.{Failed}
use Rattle.mtn_history.specs.declared.pending.Pending.{Pending}
use Rattle.mtn_model.specs.State.{State}
use Rattle.mtn_model.specs.Table.{Contents}
use Rattle.mtn_ports.specs.Causes.{Rose}
use Rattle.mtn_ports.specs.Kept.{Stays}
use Rattle.mtn_generating.specs.Numbered.{tips_of}
use Rattle.mtn_generating.specs.Unfit.{IsShownWith}
use Rattle.mtn_generating.specs.declared.error.GenerateError.{GenerateError}
use Rattle.mtn_generating.specs.declared.error.GenerateError.TheVariants as error
use Rattle.mtn_generating.specs.declared.work.Tips.{Tips}

-- a fact of the damage, if the error is one
abbrev pub IfGenerateDamage : GenerateError → (Damage → Type 0) → Type 0
IfGenerateDamage (error.Conflicting left right conflicts) P = ⊤
IfGenerateDamage (error.Failed e) P = IfStoreDamage e P

-- of two sides with conflicts the lesser id is the left one
abbrev pub IsOrdered : GenerateError → Type 0
IsOrdered (error.Conflicting left right conflicts) = IsLesser left right
IsOrdered (error.Failed e) = ⊤

-- why there is no tree, over a state: the fault of its edge, and no damage comes
abbrev pub IsTreeless : Option Cause → GenerateError → Type 0
IsTreeless fault (error.Conflicting left right conflicts) = ⊥
IsTreeless fault (error.Failed (history.Refused cause)) = fault ≡ Some cause
IsTreeless fault (error.Failed (history.Store e)) = IfDamage e (λ _. ⊥)

-- why it ends, over a state: it is so of the answer, and no damage comes
abbrev pub Ends : GenerateError → (GrowthAnswer → Type 0) → Type 0
Ends (error.Conflicting left right conflicts) Is = Is (Err (Conflicting left right conflicts))
Ends (error.Failed (history.Refused cause)) Is = Is (Err (Refused cause))
Ends (error.Failed (history.Store e)) Is = IfDamage e (λ _. ⊥)

-- the tips, and a draft that stands for the state that was reached; or why it ends
abbrev pub Reaches : (List ℕ → List ℕ) → Contents → (GrowthAnswer → Type 0) → Result Tips GenerateError → Pending → Type 0
Reaches f c Is (Ok tips) p = (t : State) × Is (Ok (grown t (tips_of tips))) × IsDraft f c p t
Reaches f c Is (Err e) p = Ends e Is

-- What each call does over a draft. `Comes` says what it is to come to from a state
pub record Goes (f : List ℕ → List ℕ) {K : Type 0} (contents : K → Option Contents) (leaves : K → Contents → Type 0) (faults : K → ℕ) (old new : K) (before after : Pending)
    (Comes : State → GrowthAnswer → Type 0) (result : Result Tips GenerateError) : Type 0 where
  pub stays : Stays contents leaves faults old new
  pub done : (c : Contents) (s : State) → contents new ≡ Some c → IsDraft f c before s → Reaches f c (Comes s) result after
  pub ordered : IfErr result IsOrdered
  pub damaged : IfSome (contents new) (λ c. IfErr result (λ e. IfGenerateDamage e (IsShownWith c)))
  pub failed : result ≡ Err (error.Failed (history.Store Failed)) → Rose (faults old) (faults new)

-- texts that are kept as files: a draft that stands for the state with all of them, or the first refusal
abbrev pub PutsFiles : (List ℕ → List ℕ) → Contents → State → List (List ℕ) → Result (Unit {0}) HistoryError → Pending → Type 0
PutsFiles f c s texts (Ok done) p = (files_refusal f s texts ≡ None) × IsDraft f c p (with_files f s texts)
PutsFiles f c s texts (Err (history.Refused cause)) p = files_refusal f s texts ≡ Some cause
PutsFiles f c s texts (Err (history.Store e)) p = IfDamage e (λ _. ⊥)

-- the summary of what grew, and a draft that stands for it
abbrev pub Summed : (List ℕ → List ℕ) → Contents → State → ℕ → List ℕ → Pending → Type 0
Summed f c s n text p = (g : Grown) × Generates f n s (Ok g) × (text ≡ summary_text n g.tips.last) × IsDraft f c p g.state

-- the same, or why it ends
abbrev pub Sums : (List ℕ → List ℕ) → Contents → State → ℕ → Result (List ℕ) GenerateError → Pending → Type 0
Sums f c s n (Ok text) p = Summed f c s n text p
Sums f c s n (Err e) p = Ends e (Generates f n s)

-- The answer of `generate` over a draft that stands for a state: the summary of what grew, and a draft that stands for it; or the
-- refusal by which nothing is kept
abbrev pub TellsGrowth : (List ℕ → List ℕ) → Contents → State → ℕ → Result (List ℕ) HistoryError → Pending → Type 0
TellsGrowth f c s n (Ok text) p = Summed f c s n text p
TellsGrowth f c s n (Err (history.Refused cause)) p = Generates f n s (Err (Refused cause))
TellsGrowth f c s n (Err (history.Store e)) p = IfDamage e (λ _. ⊥)

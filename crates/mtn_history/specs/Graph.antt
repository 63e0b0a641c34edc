-- The graph that a draft tells.
use Rattle.std.proofs.Common.{◌∙◌, refl}
use Rattle.std.specs.Prelude.{◌≡◌, ℕ, List, length, Option, IfSome}
use Rattle.mtn_ancestry.specs.Ancestors.{ParentsAreEarlier}
use Rattle.mtn_history_laws.specs.History.{parents_at}
use Rattle.mtn_model.specs.Table.{Contents}
use Rattle.mtn_model.specs.State.{State}
use Rattle.mtn_ports.specs.Causes.{Rose}
use Rattle.mtn_ports.specs.Kept.{Stays, with_all}
use Rattle.mtn_ports.proofs.KeptLemmas.{stays_itself, stays_trans, rose_before}
use Rattle.mtn_history.specs.declared.errors.StoreError.{StoreError}
use Rattle.mtn_history.specs.declared.errors.StoreError.TheVariants.{Failed, Damaged, NoMemory}
use Rattle.mtn_history.specs.declared.pending.Pending.{Pending}
use Rattle.mtn_history.specs.Logs.{WrongBelow}
use Rattle.mtn_history.specs.Stands.{IsFounded}

-- the number of revisions, and the parents of each, of the history of the state that it stands for
pub record TellsGraph (told : Option Contents) (p : Pending) (count : ℕ) (graph : ℕ → List ℕ) : Type 0 where
  pub ident : List ℕ → List ℕ
  pub state : State
  pub founded : IsFounded ident told p state
  pub number : count ≡ length founded.stands.history
  pub parents : graph ≡ parents_at founded.stands.history
  pub earlier : ParentsAreEarlier graph

-- a fault has its cause since an earlier moment, and a damage is one of the log as it is told now
abbrev pub IsGraphError : ℕ → Option Contents → ℕ → Pending → StoreError → Type 0
IsGraphError before told now p Failed = Rose before now
IsGraphError before told now p (Damaged d) = IfSome told (λ c. WrongBelow p.count (with_all c p.batch) d)
IsGraphError before told now p NoMemory = Unit {0}

-- calls that only ask leave what is told, and what is pending
pub record StaysDraft {K : Type 0} (contents : K → Option Contents) (leaves : K → Contents → Type 0) (faults : K → ℕ) (old new : K) (before after : Pending) : Type 0 where
  pub stays : Stays contents leaves faults old new
  pub pending : after ≡ before

pub draft_stays : {K : Type 0} (contents : K → Option Contents) (leaves : K → Contents → Type 0) (faults : K → ℕ) (k : K) (p : Pending) → StaysDraft contents leaves faults k k p p
draft_stays contents leaves faults k p = record { stays = stays_itself contents leaves faults k; pending = refl }

pub draft_stays_on : {K : Type 0} (contents : K → Option Contents) (leaves : K → Contents → Type 0) (faults : K → ℕ) (k l m : K) (p q r : Pending) →
    StaysDraft contents leaves faults k l p q → StaysDraft contents leaves faults l m q r → StaysDraft contents leaves faults k m p r
draft_stays_on contents leaves faults k l m p q r a b = record { stays = stays_trans contents leaves faults k l m a.stays b.stays; pending = b.pending ∙ a.pending }

pub graph_error_before : {K : Type 0} (contents : K → Option Contents) (leaves : K → Contents → Type 0) (faults : K → ℕ) (k l : K) (told : Option Contents) (now : ℕ) (p q r : Pending) (e : StoreError) →
    StaysDraft contents leaves faults k l p q → IsGraphError (faults l) told now r e → IsGraphError (faults k) told now r e
graph_error_before contents leaves faults k l told now p q r Failed stays e = rose_before (faults k) (faults l) now stays.stays.later e
graph_error_before contents leaves faults k l told now p q r (Damaged d) stays e = e
graph_error_before contents leaves faults k l told now p q r NoMemory stays e = tt

-- From flags to the list that a call answers.
use Rattle.std.proofs.Common.{◌≡◌, ◌↔◌, ℕ, List, Bool, Result, Ok, Err, IfOk, Vec, Global, sym, subst}
use Rattle.mtn_base.specs.declared.no_memory.NoMemory.{NoMemory}
use Rattle.mtn_ancestry.specs.declared.pos.LogEntry.{LogEntry}
use Rattle.mtn_ancestry.specs.Sets.{IsFlagged, IsAscendingListOf}

pub same_list : (P Q : ℕ → Type 0) → ((x : ℕ) → P x ↔ Q x) → (xs : List ℕ) → IsAscendingListOf P xs → IsAscendingListOf Q xs
same_list P Q e xs l = record {
  ascending = l.ascending;
  exact = λ x. (λ c. (e x).0 ((l.exact x).0 c), λ q. (l.exact x).1 ((e x).1 q));
}

pub set_answered : (Q : List LogEntry → ℕ → Type 0) (log now : List LogEntry) (flags seen : List Bool) (items : List ℕ) (r : Result (List ℕ) NoMemory) →
    log ≡ now → seen ≡ flags → ((x : ℕ) → IsFlagged flags x ↔ Q log x) → IsAscendingListOf (IsFlagged seen) items → IfOk r (λ s. s ≡ items) → IfOk r (IsAscendingListOf (Q now))
set_answered Q log now flags seen items (Err n) e f g l h = tt
set_answered Q log now flags seen items (Ok s) e f g l h =
    subst (λ o. IsAscendingListOf (Q o) s) e
    (same_list (IsFlagged flags) (Q log) g s (subst (IsAscendingListOf (IsFlagged flags)) (sym h) (subst (λ w. IsAscendingListOf (IsFlagged w) items) f l)))

pub list_answered : (Q : ℕ → Type 0) (flags seen : List Bool) (r : Result (Vec ℕ Global) NoMemory) →
    seen ≡ flags → ((x : ℕ) → IsFlagged flags x ↔ Q x) → IfOk r (λ v. IsAscendingListOf (IsFlagged seen) v.items) → IfOk r (λ v. IsAscendingListOf Q v.items)
list_answered Q flags seen (Err n) f g h = tt
list_answered Q flags seen (Ok v) f g h = same_list (IsFlagged flags) Q g v.items (subst (λ w. IsAscendingListOf (IsFlagged w) v.items) f h)

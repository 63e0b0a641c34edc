-- Resolutions fit decisions, or one of them is the first that does not.
use Rattle.std.specs.List.{AllByRecursion}
use Rattle.std.proofs.Common.{◌≡◌, ◌≢◌, ◌⊎◌, ◌+◌, ℕ, List, [], ◌∷◌, ◌++◌, length, append_assoc, append-nil, Option, Some, None, inl, inr, refl, sym, ◌∙◌, subst}
use Rattle.mtn_decide.specs.Decisions.{Merge}
use Rattle.mtn_conflicts.specs.declared.lists.Conflicts.{Conflicts}
use Rattle.mtn_resolve.specs.declared.resolution.Resolution.{Resolution}
use Rattle.mtn_resolve.specs.declared.fault.Fault.{Fault}
use Rattle.mtn_resolve.specs.declared.fault.Fault.TheVariants as one
use Rattle.mtn_resolve.specs.declared.error.OverrideError.{OverrideError}
use Rattle.mtn_resolve.specs.declared.error.OverrideError.TheVariants.{NoMemory}
use Rattle.mtn_resolve.specs.Faults.{fault_of, AreFitting, IsFaultAt, IsOverrideFault, numbered_of}

all_more : {X : Type 0} (P : X → Type 0) (xs : List X) (x : X) → AllByRecursion P xs → P x → AllByRecursion P (xs ++ x ∷ [])
all_more P [] x h g = (g, tt)
all_more P (y ∷ xs) x h g = (h.0, all_more P xs x h.1 g)

module _ (m : Merge) (c : Conflicts) (rs : List Resolution) where
  abbrev IsChecked : Type 0
  IsChecked = AreFitting m c rs ⊎ ((e : OverrideError) × (e ≢ NoMemory) × IsOverrideFault m c rs e)

  told : (n : ℕ) (why : Fault) → IsFaultAt m c rs n why → (numbered_of why n ≢ NoMemory) × IsOverrideFault m c rs (numbered_of why n)
  told n one.UnknownNode f = ((λ e. cc e), f)
  told n one.NotADirectory f = ((λ e. cc e), f)
  told n one.NotAConflict f = ((λ e. cc e), f)

  from : (rest before : List Resolution) → rs ≡ before ++ rest → AreFitting m c before → IsChecked
  from [] before e fits = inl (subst (AreFitting m c) (sym (e ∙ append-nil before)) fits)
  from (r ∷ rest) before e fits = at (λ none. from rest (before ++ r ∷ []) (e ∙ sym (append_assoc before (r ∷ []) rest)) (all_more (λ q. fault_of m c q ≡ None) before r fits none)) (fault_of m c r) refl
    where
      at : (fault_of m c r ≡ None → IsChecked) → (o : Option Fault) → fault_of m c r ≡ o → IsChecked
      at go None is = go is
      at go (Some why) is =
          let t = told (length before + 2) why (record { before = before; resolution = r; rest = rest; whole = e; place = refl; fitting = fits; fault = is }) in
          inr (numbered_of why (length before + 2), t.0, t.1)

  pub some_override : IsChecked
  some_override = from rs [] refl tt

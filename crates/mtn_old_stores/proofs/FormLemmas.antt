-- The form of a store.
use Rattle.std.specs.Prelude.{IfErr, IfSome, IsSome, is_some}
use Rattle.std.proofs.Common.{◌≡◌, ◌⊎◌, inl, inr, ℕ, Bool, true, false, List, Option, Some, None, Result, Ok, Err, refl, sym, ap, ◌∙◌, subst}
use Rattle.mtn_history.specs.Errors.{IfDamage}
use Rattle.mtn_history.specs.Meta.{count_key, version, version_key}
use Rattle.mtn_history.specs.Stands.{Stands}
use Rattle.mtn_history.specs.declared.errors.Damage.{Damage}
use Rattle.mtn_history.specs.declared.errors.Damage.TheVariants.{Bad, Missing}
use Rattle.mtn_history.specs.declared.errors.StoreError.{StoreError}
use Rattle.mtn_history.specs.declared.errors.StoreError.TheVariants.{Damaged, Failed, NoMemory}
use Rattle.mtn_history.proofs.MetaLemmas.{held_version, none_held}
use Rattle.mtn_model.specs.State.{State}
use Rattle.mtn_model.specs.Table.{Contents, body_at}
use Rattle.mtn_old_stores.specs.Older.{OldState, StandsOld, old_version}
use Rattle.mtn_old_stores.specs.Reading.{FormDamage, IsOlder}
use Rattle.mtn_old_stores.proofs.Bare.{clash, count_held, held_old, versions_differ}

pub older_form : (f : List ℕ → List ℕ) (c : Contents) (s : OldState) → StandsOld f c s → (b : Bool) → IsOlder c b → b ≡ true
older_form f c s stands true is = refl
older_form f c s stands false (inl none) = absurd (clash (body_at c 1 count_key) _ (count_held f c s stands) none)
older_form f c s stands false (inr present) = absurd (versions_differ (body_at c 1 version_key) (held_old f c s stands) present)

pub present_form : (f : List ℕ → List ℕ) (c : Contents) (t : State) → Stands f c t → (b : Bool) → IsOlder c b → b ≡ false
present_form f c t stands false is = refl
present_form f c t (inl new) true is = absurd (clash (body_at c 1 version_key) old_version is.1 (none_held c t version_key new))
present_form f c t (inr stands) true is = absurd (versions_differ (body_at c 1 version_key) is.1 (held_version f c t stands))

one_body : (o : Option (List ℕ)) (a b : List ℕ) → o ≡ Some a → o ≡ Some b → a ≡ b
one_body o a b x y = cc

there_not : (o : Option (List ℕ)) → IsSome o → o ≡ None → ⊥
there_not o some none = let there : is_some o ≡ true = some in let not_there : is_some o ≡ false = ap is_some none in let both : true ≡ false = sym there ∙ not_there in cc

no_form_damage : (f : List ℕ → List ℕ) (c : Contents) (s : OldState) (t : State) (d : Damage) → StandsOld f c s ⊎ Stands f c t → FormDamage c d → ⊥
no_form_damage f c s t (Bad table key body) (inl old) damage = damage.1.4 (one_body (body_at c 1 version_key) body old_version damage.1.2 (held_old f c s old))
no_form_damage f c s t (Missing table key) (inl old) damage = clash (body_at c 1 version_key) old_version (held_old f c s old) damage.1.2
no_form_damage f c s t d (inr (inl new)) damage = there_not (body_at c 1 count_key) damage.0 (none_held c t count_key new)
no_form_damage f c s t (Bad table key body) (inr (inr stands)) damage = damage.1.3 (one_body (body_at c 1 version_key) body version damage.1.2 (held_version f c t stands))
no_form_damage f c s t (Missing table key) (inr (inr stands)) damage = clash (body_at c 1 version_key) version (held_version f c t stands) damage.1.2

pub never_form_damaged : {T : Type 0} (f : List ℕ → List ℕ) (told : Option Contents) (c : Contents) (s : OldState) (t : State) (r : Result T StoreError) → told ≡ Some c → StandsOld f c s ⊎ Stands f c t →
    IfSome told (λ d. IfErr r (λ e. IfDamage e (FormDamage d))) → IfErr r (λ e. IfDamage e (λ _. ⊥))
never_form_damaged f told c s t (Ok x) at stands damaged = tt
never_form_damaged f told c s t (Err (Damaged d)) at stands damaged = no_form_damage f c s t d stands (subst (λ o. IfSome o (λ e. FormDamage e d)) at damaged)
never_form_damaged f told c s t (Err Failed) at stands damaged = tt
never_form_damaged f told c s t (Err NoMemory) at stands damaged = tt

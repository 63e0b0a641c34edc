-- The record under an id, and whether an earlier revision has it.
use Rattle.std.specs.Prelude.{IfErr, IfSome, IsSome}
use Rattle.std.proofs.Common.{◌≡◌, ℕ, true, false, cond, List, Option, Some, None, Result, Err, refl, sym, ap, ◌∙◌, subst, inl, inr}
use Rattle.mtn_history.specs.Errors.{IfDamage}
use Rattle.mtn_history.specs.declared.errors.Damage.TheVariants.{Bad, Missing}
use Rattle.mtn_history.specs.declared.errors.StoreError.{StoreError}
use Rattle.mtn_history.specs.declared.errors.StoreError.TheVariants.{Failed, Damaged, NoMemory}
use Rattle.mtn_model.specs.Table.{Contents, body_at}
use Rattle.mtn_ports.specs.Kept.{Same}
use Rattle.mtn_records.specs.Fields.{number_text}
use Rattle.mtn_check_log.specs.Below.{is_text_of}
use Rattle.mtn_check_log.specs.Positions.{IsMisplaced, IsRecordOf, IsUntold}
use Rattle.mtn_check_log.proofs.Keys.{text_missing, text_shown}
use Rattle.mtn_check_log.proofs.Showing.{both_told}

-- there is none
pub missing_untold : {X : Type 0} (told : Option Contents) (r : ℕ) (id log : List ℕ) (result : Result X StoreError) (e : StoreError) → result ≡ Err e →
    IfSome told (λ c. IfDamage e (λ d. (d ≡ Missing 3 id) × (body_at c 3 id ≡ None))) → IfSome told (λ c. IfErr result (λ x. IfDamage x (IsUntold c r id log)))
missing_untold told r id log result e is lost = subst (λ y. IfSome told (λ c. IfErr y (λ x. IfDamage x (IsUntold c r id log)))) (sym is) (by told e lost)
  where
    by : (now : Option Contents) (x : StoreError) → IfSome now (λ c. IfDamage x (λ d. (d ≡ Missing 3 id) × (body_at c 3 id ≡ None))) → IfSome now (λ c. IfDamage x (IsUntold c r id log))
    by None x fact = tt
    by (Some c) Failed fact = tt
    by (Some c) NoMemory fact = tt
    by (Some c) (Damaged d) fact = inr (text_missing r c id fact.1, subst (IsMisplaced c r id) (sym fact.0) (refl, refl, fact.1))

-- an earlier revision has it
pub earlier_untold : {X : Type 0} (old new : Option Contents) (r : ℕ) (id log body : List ℕ) (result : Result X StoreError) (e : StoreError) → result ≡ Err e → Same old new → IfSome old (λ c. body_at c 3 id ≡ Some body) →
    IfSome new (λ c. IfDamage e (λ d. (is_text_of r c id body ≡ true) × (d ≡ Bad 4 (number_text r) log))) → IfSome new (λ c. IfErr result (λ x. IfDamage x (IsUntold c r id log)))
earlier_untold old new r id log body result e is same held told =
    subst (λ y. IfSome new (λ c. IfErr y (λ x. IfDamage x (IsUntold c r id log)))) (sym is)
    (both_told old new (λ c. body_at c 3 id ≡ Some body) (λ c. IfDamage e (λ d. (is_text_of r c id body ≡ true) × (d ≡ Bad 4 (number_text r) log))) (λ c. IfDamage e (IsUntold c r id log)) same
    (λ c there wrong. by c there e wrong) held told)
  where
    by : (c : Contents) → body_at c 3 id ≡ Some body → (x : StoreError) → IfDamage x (λ d. (is_text_of r c id body ≡ true) × (d ≡ Bad 4 (number_text r) log)) → IfDamage x (IsUntold c r id log)
    by c there Failed d = tt
    by c there NoMemory d = tt
    by c there (Damaged x) d = inl (subst (λ (o : Option (List ℕ)). IsSome o) (sym (text_shown r c id body there ∙ ap (λ b. cond b (Some body) None) d.0)) refl, d.1)

-- no earlier revision has it
pub found_record : (old new : Option Contents) (r : ℕ) (id body : List ℕ) → Same old new → IfSome old (λ c. body_at c 3 id ≡ Some body) →
    IfSome new (λ c. is_text_of r c id body ≡ false) → IfSome new (λ c. IsRecordOf c r id body)
found_record old new r id body same held told =
    both_told old new (λ c. body_at c 3 id ≡ Some body) (λ c. is_text_of r c id body ≡ false) (λ c. IsRecordOf c r id body) same
    (λ c there fresh. record { new = text_shown r c id body there ∙ ap (λ b. cond b (Some body) None) fresh; held = there }) held told

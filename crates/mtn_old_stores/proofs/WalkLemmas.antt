-- The certificates of an older store, record by record.
use Rattle.std.specs.Prelude.{Contains, IfErr, IfSome, IsSome, is_some}
use Rattle.std.proofs.Common.{◌≡◌, ◌↔◌, inl, inr, ℕ, ◌<◌, true, false, List, [], ◌∷◌, ◌++◌, length, length-append, arith, Option, Some, None, Result, Ok, Err, refl, sym, ap, ◌∙◌, subst}
use Rattle.mtn_history.specs.Errors.{IfDamage}
use Rattle.mtn_history.specs.declared.errors.Damage.{Damage}
use Rattle.mtn_history.specs.declared.errors.Damage.TheVariants.{Bad, Missing}
use Rattle.mtn_history.specs.declared.errors.StoreError.{StoreError}
use Rattle.mtn_history.specs.declared.errors.StoreError.TheVariants.{Damaged, Failed, NoMemory}
use Rattle.mtn_model.specs.Table.{Contents, body_at}
use Rattle.mtn_ports.specs.Kept.{IsAbove, Same}
use Rattle.mtn_records.specs.Fields.{field_text}
use Rattle.mtn_put_certs.proofs.Walking.{AreUpTo, at_end, none_yet, one_more}
use Rattle.mtn_old_stores.specs.Older.{HoldsOld, OldCertificate, OldState, StandsOld, old_key}
use Rattle.mtn_old_stores.specs.Reading.{AreAllOld, IsNextOld, IsOldRecorded, OldCertDamage}
use Rattle.mtn_old_stores.proofs.OldOrder.{one_old_key}

never : (o : Option (List ℕ)) → o ≡ None → IsSome o → ⊥
never o none some = let there : is_some o ≡ true = some in let not_there : is_some o ≡ false = ap is_some none in let both : true ≡ false = sym there ∙ not_there in cc

-- ---- what was read so far

abbrev pub AreRead : Contents → List ℕ → List OldCertificate → Type 0
AreRead c last certs = AreUpTo (IsOldRecorded c) old_key last certs

-- the keys are not empty
not_empty : (k : List ℕ) → 0 < length k → IsAbove [] k
not_empty [] some = absurd (omega (arith, some))
not_empty (b ∷ k) some = refl

long_key : (c : Contents) (x : OldCertificate) → IsOldRecorded c x → IsAbove [] (old_key x)
long_key c x own =
    let others : List ℕ = field_text x.name ++ (field_text x.key ++ (field_text x.value ++ field_text x.signature)) in
    let long = length-append x.revision.0 others in
    let twenty = own.key.revision.twenty in
    not_empty (old_key x) (omega (arith, long, twenty))

pub none_read : (told : Option Contents) (last : List ℕ) (certs : List OldCertificate) → last ≡ [] → certs ≡ [] → IfSome told (λ c. AreRead c last certs)
none_read None last certs first none = tt
none_read (Some c) last certs first none = subst (λ l. AreRead c l certs) (sym first) (subst (AreRead c []) (sym none) (none_yet (IsOldRecorded c) old_key [] (long_key c)))

cert_more : (c : Contents) (last key : List ℕ) (certs : List OldCertificate) (x : OldCertificate) → IsNextOld c last key (Some x) → AreRead c last certs → AreRead c key (certs ++ x ∷ [])
cert_more c last key certs x next so_far =
    one_more (IsOldRecorded c) old_key last key certs (λ y own above under. never (body_at c 6 (old_key y)) (next.2 (old_key y) above under) own.there) so_far x next.0
    (λ y own same. one_old_key x y next.0.key.lawful next.0.key.revision own.key.lawful own.key.revision (sym next.1 ∙ sym same))

pub one_more_cert : (old new : Option Contents) (last key : List ℕ) (certs more : List OldCertificate) (x : OldCertificate) (found : Option OldCertificate) → Same old new → found ≡ Some x → more ≡ certs ++ x ∷ [] →
    IfSome new (λ c. IsNextOld c last key found) → IfSome old (λ c. AreRead c last certs) → IfSome new (λ c. AreRead c key more)
one_more_cert old None last key certs more x found kept is made next so_far = tt
one_more_cert old (Some c) last key certs more x found kept is made next so_far =
    subst (AreRead c key) (sym made) (cert_more c last key certs x (subst (IsNextOld c last key) is next) (subst (λ o. IfSome o (λ e. AreRead e last certs)) (kept c refl) so_far))

pub all_read : (old new : Option Contents) (last key : List ℕ) (certs : List OldCertificate) (found : Option OldCertificate) → Same old new → found ≡ None → IfSome new (λ c. IsNextOld c last key found) → IfSome old (λ c. AreRead c last certs) →
    IfSome new (λ c. AreAllOld c certs)
all_read old None last key certs found kept is next so_far = tt
all_read old (Some c) last key certs found kept is next so_far =
    let none : IsNextOld c last key None = subst (IsNextOld c last key) is next in
    at_end (IsOldRecorded c) old_key last certs (λ y own above. never (body_at c 6 (old_key y)) (none (old_key y) above) own.there) (subst (λ o. IfSome o (λ e. AreRead e last certs)) (kept c refl) so_far)

-- ---- over an older state

body_of : (o : Option (List ℕ)) → IsSome o → (body : List ℕ) × (o ≡ Some body)
body_of (Some body) some = (body, refl)
body_of None some = absurd cc

pub are_held : (f : List ℕ → List ℕ) (c : Contents) (s : OldState) (certs : List OldCertificate) → StandsOld f c s → AreAllOld c certs → (x : OldCertificate) → Contains certs x ↔ HoldsOld s.certs x
are_held f c s certs stands read x = (
  λ among.
      let own = (read x).0 among in
      let body = body_of (body_at c 6 (old_key x)) own.there in
      let o = stands.certs.only (old_key x) body.0 body.1 in
      subst (HoldsOld s.certs) (sym (one_old_key x o.0 own.key.lawful own.key.revision (stands.lawful.certs o.0 o.1) (stands.lawful.revisions o.0 o.1) o.2)) o.1,
  λ held. (read x).1 (record {
    key = record { whole = refl; lawful = stands.lawful.certs x held; revision = stands.lawful.revisions x held };
    there = ap is_some (stands.certs.each x held);
  }),
)

one_body : (o : Option (List ℕ)) (a b : List ℕ) → o ≡ Some a → o ≡ Some b → a ≡ b
one_body o a b x y = cc

no_damage : (f : List ℕ → List ℕ) (c : Contents) (s : OldState) (d : Damage) → StandsOld f c s → OldCertDamage c d → ⊥
no_damage f c s (Missing table key) stands damage = damage
no_damage f c s (Bad table key body) stands damage =
    let o = stands.certs.only key body damage.1 in
    elim damage.2 [
      | inl full ↦ full (one_body (body_at c 6 key) body [] damage.1 (ap (body_at c 6) o.2 ∙ stands.certs.each o.0 o.1))
      | inr none ↦ none o.0 (record { whole = o.2; lawful = stands.lawful.certs o.0 o.1; revision = stands.lawful.revisions o.0 o.1 })
    ]

pub never_damaged : {T : Type 0} (f : List ℕ → List ℕ) (told : Option Contents) (c : Contents) (s : OldState) (r : Result T StoreError) → told ≡ Some c → StandsOld f c s →
    IfSome told (λ d. IfErr r (λ e. IfDamage e (OldCertDamage d))) → IfErr r (λ e. IfDamage e (λ _. ⊥))
never_damaged f told c s (Ok x) at stands damaged = tt
never_damaged f told c s (Err (Damaged d)) at stands damaged = no_damage f c s d stands (subst (λ o. IfSome o (λ e. OldCertDamage e d)) at damaged)
never_damaged f told c s (Err Failed) at stands damaged = tt
never_damaged f told c s (Err NoMemory) at stands damaged = tt

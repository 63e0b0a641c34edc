-- What a migration ends with.
use Rattle.std.specs.Prelude.{Contains, IfErr, IfOk}
use Rattle.std.specs.FinMap.{len}
use Rattle.std.specs.List.{AllByRecursion}
use Rattle.std.proofs.Common.{◌≡◌, ◌↔◌, inl, inr, ℕ, Bool, true, false, List, [], ◌∷◌, ◌++◌, length, append_assoc, Some, None, Result, Ok, Err, refl, sym, ap, ◌∙◌, subst}
use Rattle.mtn_certs.specs.Certificates.{Certificate}
use Rattle.mtn_certs.specs.declared.cert.KeyName.{KeyName}
use Rattle.mtn_history.specs.Errors.{IfDamage}
use Rattle.mtn_history.specs.Meta.{version, version_key}
use Rattle.mtn_history.specs.Records.{put_of}
use Rattle.mtn_history.specs.Stands.{StandsFor}
use Rattle.mtn_history.specs.declared.errors.HistoryError.{HistoryError}
use Rattle.mtn_history.specs.declared.errors.HistoryError.TheVariants.{Refused, Store}
use Rattle.mtn_history.specs.declared.errors.StoreError.{StoreError}
use Rattle.mtn_history.specs.declared.errors.StoreError.TheVariants.{NoMemory}
use Rattle.mtn_certs.specs.GivenTables.{IsTableOf}
use Rattle.mtn_certs.specs.KeyTables.{IsKeyTable}
use Rattle.mtn_model.specs.State.{State}
use Rattle.mtn_model.specs.Table.{Contents}
use Rattle.mtn_ports.specs.Kept.{with_all}
use Rattle.mtn_ports.specs.declared.batch.Put.{Put}
use Rattle.mtn_old_stores.specs.Older.{HoldsOld, OldCertificate, OldState, StandsOld}
use Rattle.mtn_old_stores.specs.Migrating.{cert_puts, key_puts, migrated, migrating_puts, under_ids}
use Rattle.mtn_old_stores.proofs.AnyOrder.{any_order}
use Rattle.mtn_old_stores.proofs.Migration.{of_set}
use Rattle.mtn_migrating.specs.Migration.{Declines, Does, IsMigratingPut}
use Rattle.mtn_migrating.specs.Working.{IsLacking, IsUntabled, Makes, counts_text}
use Rattle.mtn_migrating.specs.declared.migrating.Migration.{Migration}
use Rattle.mtn_migrating.proofs.Adding.{joined}

pub no_damage : (e : StoreError) → e ≡ NoMemory → IfDamage e (λ _. ⊥)
no_damage e is = subst (λ x. IfDamage x (λ _. ⊥)) (sym is) tt

pub not_both : (b : Bool) → b ≡ true → b ≡ false → ⊥
not_both true is other = cc
not_both false is other = cc

-- ---- a payload that is no key table

pub untabled_older : (f : List ℕ → List ℕ) (c : Contents) (s : OldState) (payload : List ℕ) (e : HistoryError) → IsUntabled payload e → Does f c s payload (Err e)
untabled_older f c s payload (Refused cause) is = (Err cause, is, refl)
untabled_older f c s payload (Store e) is = no_damage e is

pub untabled_present : (f : List ℕ → List ℕ) (s : State) (payload : List ℕ) (e : HistoryError) → IsUntabled payload e → Declines f s payload (Err e)
untabled_present f s payload (Refused cause) is = (Err cause, is, refl)
untabled_present f s payload (Store e) is = no_damage e is

-- ---- over an older store

module _ (f : List ℕ → List ℕ) (c : Contents) (s : OldState) (payload : List ℕ) (table : List KeyName) (certs : List OldCertificate) (given : IsTableOf payload (Ok table)) (names : IsKeyTable table)
    (stands : StandsOld f c s) (are : (x : OldCertificate) → Contains certs x ↔ HoldsOld s.certs x) (count : length certs ≡ len s.certs) where
  makes : (m : Migration) → Makes table certs m → Does f c s payload (Ok m)
  makes m is =
      let by = of_set table s.certs certs are s refl None is.known in
      let said : m.text ≡ counts_text (length table) (len s.certs) = is.text ∙ ap (counts_text (length table)) count in (
        migrated table s,
        (Ok table, given, (by.0, λ i. (migrated table s, said i))),
        subst (λ b. StandsFor f (with_all c b) (migrated table s)) (sym is.puts) (any_order table s f c certs (record { names = names; ids = is.ids }) stands are),
      )

  lacks : (e : HistoryError) → IsLacking table certs e → Does f c s payload (Err e)
  lacks (Refused cause) is =
      let by = of_set table s.certs certs are s refl (Some is.0) is.1 in
      (Ok table, given, (by.0, by.1, is.2 ∙ by.2))
  lacks (Store e) is = no_damage e is

  ends : (r : Result Migration HistoryError) → IfOk r (Makes table certs) → IfErr r (IsLacking table certs) → Does f c s payload r
  ends (Ok m) ok err = makes m ok
  ends (Err e) ok err = lacks e err

  pub ends_older : (t : List KeyName) (q : List OldCertificate) (r : Result Migration HistoryError) → t ≡ table → q ≡ certs → IfOk r (Makes t q) → IfErr r (IsLacking t q) → Does f c s payload r
  ends_older t q r same also ok err =
      ends r (subst (λ x. IfOk r (Makes x certs)) same (subst (λ x. IfOk r (Makes t x)) also ok)) (subst (λ x. IfErr r (IsLacking x certs)) same (subst (λ x. IfErr r (IsLacking t x)) also err))

-- ---- the puts

all_certs : (xs : List Certificate) → AllByRecursion IsMigratingPut (cert_puts xs)
all_certs [] = tt
all_certs (x ∷ xs) = (inr (inr refl), all_certs xs)

all_keys : (table : List KeyName) → AllByRecursion IsMigratingPut (key_puts table)
all_keys [] = tt
all_keys (k ∷ table) = (inr (inl refl), all_keys table)

pub puts_beside : (table : List KeyName) (certs : List OldCertificate) (r : Result Migration HistoryError) → IfOk r (Makes table certs) → IfOk r (λ m. AllByRecursion IsMigratingPut m.batch)
puts_beside table certs (Ok m) is =
    subst (AllByRecursion IsMigratingPut) (sym is.puts) (inl (refl, refl), joined IsMigratingPut (cert_puts (under_ids table certs)) (key_puts table) (all_certs (under_ids table certs)) (all_keys table))
puts_beside table certs (Err e) is = tt

-- the version, the certificates and the names, one behind the other
pub whole : (table : List KeyName) (certs : List OldCertificate) (a b c : List Put) → a ≡ put_of 1 version_key version ∷ [] → b ≡ a ++ cert_puts (under_ids table certs) → c ≡ b ++ key_puts table → c ≡ migrating_puts table certs
whole table certs a b c first second third =
    third ∙ ap (λ l. l ++ key_puts table) (second ∙ ap (λ l. l ++ cert_puts (under_ids table certs)) first) ∙ append_assoc (put_of 1 version_key version ∷ []) (cert_puts (under_ids table certs)) (key_puts table)

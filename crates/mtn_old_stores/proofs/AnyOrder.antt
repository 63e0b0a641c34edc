-- In whatever order the certificates are taken, they make one state.
use Rattle.std.specs.Prelude.{Contains}
use Rattle.std.specs.Cmp.{tied_itself}
use Rattle.std.specs.FinMap.{get, keys, same_map}
use Rattle.std.specs.Ordering.{eq_by_cmp, is_eq}
use Rattle.std.proofs.Common.{◌≡◌, ◌↔◌, ⊎_elim, ◌||◌, ℕ, Bool, true, false, List, [], ◌∷◌, ◌++◌, Option, Some, None, refl, sym, ap, ◌∙◌, subst}
use Rattle.mtn_base.proofs.Finding.{Split}
use Rattle.mtn_base.proofs.IdOrder.{contains_split, split_contains}
use Rattle.mtn_certs.specs.Certificates.{Certificate}
use Rattle.mtn_certs.specs.declared.cert.KeyName.{KeyName}
use Rattle.mtn_certs.proofs.Certs.{certs_total, exact_certs}
use Rattle.mtn_history.specs.Stands.{StandsFor}
use Rattle.mtn_model.specs.State.{Holds, State}
use Rattle.mtn_model.specs.Table.{Contents}
use Rattle.mtn_ports.specs.Kept.{with_all}
use Rattle.mtn_replay.specs.Certificates.{with_cert}
use Rattle.mtn_replay.proofs.FileLemmas.{no_certificate}
use Rattle.mtn_old_stores.specs.Older.{HoldsOld, OldCertificate, OldState, StandsOld, old_cmp}
use Rattle.mtn_old_stores.specs.Migrating.{IsTableOfIds, bare, migrated, migrating_puts, under_ids, with_certs, with_keys}
use Rattle.mtn_old_stores.proofs.Held.{all_these, among_keys, has, none_other, second, tied}
use Rattle.mtn_old_stores.proofs.OldOrder.{exact_olds, old_total}
use Rattle.mtn_old_stores.proofs.Putting.{keys_held, migrating_stands}

own : (c : OldCertificate) → eq_by_cmp old_cmp c c ≡ true
own c = ap is_eq (tied_itself old_total c)

-- ---- what is in a list

here : (before rest : List OldCertificate) (x : OldCertificate) → has (before ++ x ∷ rest) x ≡ true
here [] rest x = ap (λ b. b || has rest x) (own x)
here (y ∷ before) rest x = second (eq_by_cmp old_cmp x y) (has (before ++ x ∷ rest) x) (here before rest x)

pub has_it : (certs : List OldCertificate) (x : OldCertificate) → Contains certs x → has certs x ≡ true
has_it certs x c = let s = contains_split certs x c in ap (λ l. has l x) s.is ∙ here s.before s.rest x

split_of : (certs : List OldCertificate) (x : OldCertificate) → has certs x ≡ true → Split certs x
split_of [] x e = absurd cc
split_of (y ∷ certs) x e = by (split_of certs x) (eq_by_cmp old_cmp x y) refl e
  where
    by : (has certs x ≡ true → Split certs x) → (b : Bool) → eq_by_cmp old_cmp x y ≡ b → (b || has certs x) ≡ true → Split (y ∷ certs) x
    by rest true is h = record { before = []; rest = certs; is = ap (λ z. z ∷ certs) (sym (exact_olds x y (tied (old_cmp x y) is))) }
    by rest false is h = let s = rest h in record { before = y ∷ s.before; rest = s.rest; is = ap (λ l. y ∷ l) s.is }

pub in_it : (certs : List OldCertificate) (x : OldCertificate) → has certs x ≡ true → Contains certs x
in_it certs x e = split_contains certs x (split_of certs x e)

-- ---- the state

same_units : (x y : Option (Unit {0})) → (x ≡ Some tt → y ≡ Some tt) → (y ≡ Some tt → x ≡ Some tt) → x ≡ y
same_units (Some u) y to back = sym (to refl)
same_units None (Some u) to back = back refl
same_units None None to back = refl

-- certificates change the set of certificates alone
beside : (s : State) (certs : List Certificate) → with_certs s certs ≡ record s { certs = (with_certs s certs).certs }
beside s [] = refl
beside s (c ∷ certs) = beside (with_cert s c) certs

module _ (table : List KeyName) (s : OldState) where
  abbrev taken : List OldCertificate → State
  taken certs = with_certs (bare s) (under_ids table certs)

  too : (a b : List OldCertificate) → ((c : OldCertificate) → has a c ≡ true → has b c ≡ true) → (x : Certificate) → Holds (taken a).certs x → Holds (taken b).certs x
  too a b within x held = ⊎_elim (λ none. absurd (no_certificate x none)) (λ o. all_these table b o.of x (within o.of o.among) o.given o.same (bare s)) (none_other table own a x (bare s) held)

  one_taken : (a b : List OldCertificate) → ((c : OldCertificate) → has a c ≡ true → has b c ≡ true) → ((c : OldCertificate) → has b c ≡ true → has a c ≡ true) → taken a ≡ taken b
  one_taken a b to back =
      let certs = same_map certs_total exact_certs (taken a).certs (taken b).certs (λ q. same_units (get (taken a).certs q) (get (taken b).certs q) (too a b to q) (too b a back q)) in
      beside (bare s) (under_ids table a) ∙ ap (λ m. record (bare s) { certs = m }) certs ∙ sym (beside (bare s) (under_ids table b))

  pub any_order : (f : List ℕ → List ℕ) (c : Contents) (certs : List OldCertificate) → IsTableOfIds table → StandsOld f c s → ((x : OldCertificate) → Contains certs x ↔ HoldsOld s.certs x) →
      StandsFor f (with_all c (migrating_puts table certs)) (migrated table s)
  any_order f c certs is stands are =
      subst (λ t. StandsFor f (with_all c (migrating_puts table certs)) (with_keys t table))
      (one_taken certs (keys s.certs) (λ x e. among_keys s.certs x ((are x).0 (in_it certs x e))) (λ x e. has_it certs x ((are x).1 (keys_held s.certs x e))))
      (migrating_stands f table c s certs is stands (λ x e. (are x).0 (in_it certs x e)))

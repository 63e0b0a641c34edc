-- Contents are those of one older state.
use Rattle.std.specs.FinMap.{get, same_map}
use Rattle.std.proofs.Common.{◌≡◌, ℕ, List, [], Option, Some, None, refl, sym, subst, inr}
use Rattle.mtn_history.specs.Meta.{version, version_key}
use Rattle.mtn_history.specs.Stands.{Stands}
use Rattle.mtn_model.specs.State.{State}
use Rattle.mtn_model.specs.Table.{Contents, with_record}
use Rattle.mtn_old_stores.specs.Older.{HoldsOld, OldCertificate, OldState, StandsOld, old_key}
use Rattle.mtn_old_stores.specs.Migrating.{bare}
use Rattle.mtn_old_stores.proofs.Bare.{bare_stands}
use Rattle.mtn_old_stores.proofs.OldOrder.{exact_olds, old_total, one_old_key}

same_units : (x y : Option (Unit {0})) → (x ≡ Some tt → y ≡ Some tt) → (y ≡ Some tt → x ≡ Some tt) → x ≡ y
same_units (Some u) y to back = sym (to refl)
same_units None (Some u) to back = back refl
same_units None None to back = refl

-- a certificate of the one is one of the other
held_too : (f : List ℕ → List ℕ) (c : Contents) (s t : OldState) → StandsOld f c s → StandsOld f c t → (x : OldCertificate) → HoldsOld s.certs x → HoldsOld t.certs x
held_too f c s t a b x held =
    let o = b.certs.only (old_key x) [] (a.certs.each x held) in
    subst (HoldsOld t.certs) (sym (one_old_key x o.0 (a.lawful.certs x held) (a.lawful.revisions x held) (b.lawful.certs o.0 o.1) (b.lawful.revisions o.0 o.1) o.2)) o.1

same_certs : (f : List ℕ → List ℕ) (c : Contents) (s t : OldState) → StandsOld f c s → StandsOld f c t → s.certs ≡ t.certs
same_certs f c s t a b = same_map old_total exact_olds s.certs t.certs (λ q. same_units (get s.certs q) (get t.certs q) (held_too f c s t a b q) (held_too f c t s b a q))

pub one_old_state : ((f : List ℕ → List ℕ) (c : Contents) (s t : State) → Stands f c s → Stands f c t → s ≡ t) → (f : List ℕ → List ℕ) (c : Contents) (s t : OldState) → StandsOld f c s → StandsOld f c t → s ≡ t
one_old_state one f c s t a b =
    let rest = one f (with_record c 1 version_key version) (bare s) (bare t) (inr (bare_stands f c s a)) (inr (bare_stands f c t b)) in
    let certs = same_certs f c s t a b in
    λ i. record { files = (rest i).files; log = (rest i).log; certs = certs i }

-- Giving a key its name leads from a state to a state.
use Rattle.std.specs.Prelude.{IfSome, MatchBool, bytes_eq, option_and_then, option_map}
use Rattle.std.proofs.Common.{◌≡◌, ℕ, Bool, true, false, cond, List, ◌++◌, Option, Some, None, refl, sym, ap, ◌∙◌, subst}
use Rattle.std.specs.FinMap.{get}
use Rattle.std.proofs.lemmas.Slice.Eq.{bytes_eq-Decides}
use Rattle.mtn_base.specs.declared.id.Id.{Id}
use Rattle.mtn_base.specs.declared.refusal.Cause.TheVariants.{KeyNamed}
use Rattle.mtn_certs.specs.Certificates.{IsIdBytes, is_field}
use Rattle.mtn_model.specs.State.{State}
use Rattle.mtn_model.specs.Table.{Contents, Table, body_at}
use Rattle.mtn_ports.specs.Kept.{IsBody, with_all}
use Rattle.mtn_replay.specs.Certificates.{other_name, with_key}
use Rattle.mtn_replay.proofs.FileLemmas.{insert_held}
use Rattle.mtn_history.specs.Records.{record_puts}
use Rattle.mtn_history.specs.Stands.{IsDraft, IsNew, StandsFor}
use Rattle.mtn_history.specs.declared.pending.Pending.{Pending}
use Rattle.mtn_put_certs.proofs.Joining.{draft_beside, key_stands}

-- table 7 of a draft is the key names
pub keys_of : (b : Bool) (f : List ℕ → List ℕ) (c : Contents) (s : State) → MatchBool b (IsNew c s) (StandsFor f c s) → c 7 ≡ s.keys
keys_of true f c s new = ap (λ (d : Contents). d 7) new.records ∙ ap (λ (x : State). x.keys) (sym new.state)
keys_of false f c s stands = stands.keys

module _ (f : List ℕ → List ℕ) (told : Option Contents) (p mid : Pending) (id : Id) (name key out : List ℕ) (test : Bool)
    (finds : IfSome told (λ d. IsBody (body_at (with_all d p.batch) 7 key) test out)) (same : key ≡ id.0) (kept : mid ≡ p) (c : Contents) (s : State) (at : told ≡ Some c) (draft : IsDraft f c p s) where
  answer : IsBody (body_at (with_all c p.batch) 7 id.0) test out
  answer = subst (λ k. IsBody (body_at (with_all c p.batch) 7 k) test out) same (subst (λ o. IfSome o (λ d. IsBody (body_at (with_all d p.batch) 7 key) test out)) at finds)

  table : with_all c p.batch 7 ≡ s.keys
  table = keys_of p.is_new f (with_all c p.batch) s draft.stands

  pub none : test ≡ false → get s.keys id.0 ≡ None
  none missing = ap (λ (m : Table). get m id.0) (sym table) ∙ subst (λ t. IsBody (body_at (with_all c p.batch) 7 id.0) t out) missing answer

  pub there : test ≡ true → get s.keys id.0 ≡ Some out
  there found = ap (λ (m : Table). get m id.0) (sym table) ∙ subst (λ t. IsBody (body_at (with_all c p.batch) 7 id.0) t out) found answer

  -- the key had no name
  pub named_new : (after : Pending) → test ≡ false → after ≡ record mid { batch = mid.batch ++ record_puts mid.is_new mid.count 7 key name; is_new = false } → IsIdBytes id.0 → is_field name ≡ true →
      (other_name s id name ≡ None) × IsDraft f c after (with_key s id name)
  named_new after missing put twenty field =
      let is : after ≡ record p { batch = p.batch ++ record_puts p.is_new p.count 7 id.0 name; is_new = false } =
      put ∙ ap (λ (m : Pending). record m { batch = m.batch ++ record_puts m.is_new m.count 7 key name; is_new = false }) kept
      ∙ ap (λ k. record p { batch = p.batch ++ record_puts p.is_new p.count 7 k name; is_new = false }) same in (
        ap (λ o. option_and_then (λ held. cond (bytes_eq held name) None (Some held)) o) (none missing),
        subst (λ (x : Pending). IsDraft f c x (with_key s id name)) (sym is) (draft_beside f c p s (with_key s id name) 7 id.0 name draft refl (λ d. key_stands f d s id name twenty field)),
      )

  -- it had this name
  pub named_same : (seen : List ℕ) → test ≡ true → seen ≡ out → bytes_eq seen name ≡ true → (other_name s id name ≡ None) × IsDraft f c mid (with_key s id name)
  named_same seen found sees equal =
      let eq : bytes_eq out name ≡ true = ap (λ x. bytes_eq x name) (sym sees) ∙ equal in
      let held : get s.keys id.0 ≡ Some name = there found ∙ ap Some ((bytes_eq-Decides out name).0 eq) in
      let stays : with_key s id name ≡ s = ap (λ (m : Table). record s { keys = m }) (insert_held s.keys id.0 name held) in (
        ap (λ o. option_and_then (λ held. cond (bytes_eq held name) None (Some held)) o) (there found) ∙ ap (λ t. cond t None (Some out)) eq,
        subst (λ (x : State). IsDraft f c mid x) (sym stays) (subst (λ (x : Pending). IsDraft f c x s) (sym kept) draft),
      )

  -- it had another
  pub named_other : (seen shown : List ℕ) → test ≡ true → seen ≡ out → shown ≡ out → bytes_eq seen name ≡ false → option_map (λ held. KeyNamed id held) (other_name s id name) ≡ Some (KeyNamed id shown)
  named_other seen shown found sees shows differ =
      let eq : bytes_eq out name ≡ false = ap (λ x. bytes_eq x name) (sym sees) ∙ differ in
      let other : other_name s id name ≡ Some shown =
      ap (λ o. option_and_then (λ held. cond (bytes_eq held name) None (Some held)) o) (there found) ∙ ap (λ t. cond t None (Some out)) eq ∙ ap Some (sym shows) in
      ap (λ o. option_map (λ held. KeyNamed id held) o) other

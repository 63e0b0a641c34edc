-- The ids that a key table gives.
use Rattle.std.specs.Prelude.{bytes_eq}
use Rattle.std.specs.Cmp.{tied_itself}
use Rattle.std.specs.List.{AllByRecursion, IsDistinct}
use Rattle.std.specs.Ordering.{is_eq}
use Rattle.std.proofs.Common.{◌≡◌, ℕ, Bool, true, false, cond, List, [], ◌∷◌, Some, refl, sym, ap, ◌∙◌, subst}
use Rattle.std.proofs.lemmas.Slice.Eq.{bytes_eq-Decides}
use Rattle.mtn_base.proofs.IdOrder.{by_id_total}
use Rattle.mtn_base.specs.Ids.{by_id}
use Rattle.mtn_base.specs.declared.id.Id.{Id}
use Rattle.mtn_certs.specs.Certificates.{Certificate, IsIdBytes}
use Rattle.mtn_certs.specs.declared.cert.KeyName.{KeyName}
use Rattle.mtn_certs.specs.KeyTables.{IsKeyTable, has_id_of}
use Rattle.mtn_old_stores.specs.Older.{OldCertificate}
use Rattle.mtn_old_stores.specs.Migrating.{id_named, made_by}

pub named_ids : (table : List KeyName) → AllByRecursion (λ (k : KeyName). IsIdBytes k.id.0) table → (name : List ℕ) (id : Id) → id_named table name ≡ Some id → IsIdBytes id.0
named_ids [] ids name id e = absurd cc
named_ids (k ∷ table) ids name id e = by (named_ids table ids.1 name id) (bytes_eq k.name name) e
  where
    by : (id_named table name ≡ Some id → IsIdBytes id.0) → (t : Bool) → cond t (Some k.id) (id_named table name) ≡ Some id → IsIdBytes id.0
    by later true h = let same : k.id ≡ id = cc in subst (λ (i : Id). IsIdBytes i.0) same ids.0
    by later false h = later h

-- an id that no key of the table has is given to none
not_given : (k : KeyName) (table : List KeyName) → AllByRecursion (λ (q : KeyName). has_id_of q k ≡ false) table → (name : List ℕ) → id_named table name ≡ Some k.id → ⊥
not_given k [] none name e = absurd cc
not_given k (q ∷ table) none name e = by (not_given k table none.1 name) (bytes_eq q.name name) e
  where
    by : (id_named table name ≡ Some k.id → ⊥) → (t : Bool) → cond t (Some q.id) (id_named table name) ≡ Some k.id → ⊥
    by later true h =
        let same : q.id ≡ k.id = cc in
        let tied : is_eq (by_id k.id q.id) ≡ true = ap (λ (i : Id). is_eq (by_id k.id i)) same ∙ ap is_eq (tied_itself by_id_total k.id) in
        let apart : is_eq (by_id k.id q.id) ≡ false = none.0 in
        let both : true ≡ false = sym tied ∙ apart in cc
    by later false h = later h

-- no two names have one id
one_name : (table : List KeyName) → IsDistinct (λ (q k : KeyName). has_id_of k q) table → (a b : List ℕ) (id : Id) → id_named table a ≡ Some id → id_named table b ≡ Some id → a ≡ b
unfolding IsDistinct
one_name [] apart a b id e g = absurd cc
one_name (k ∷ table) apart a b id e g = by (one_name table apart.1 a b id) (bytes_eq k.name a) refl e (bytes_eq k.name b) refl g
  where
    by : (id_named table a ≡ Some id → id_named table b ≡ Some id → a ≡ b) → (t : Bool) → bytes_eq k.name a ≡ t → cond t (Some k.id) (id_named table a) ≡ Some id → (u : Bool) → bytes_eq k.name b ≡ u → cond u (Some k.id) (id_named table b) ≡ Some id → a ≡ b
    by later true is h true are i = sym ((bytes_eq-Decides k.name a).0 is) ∙ (bytes_eq-Decides k.name b).0 are
    by later true is h false are i = let same : k.id ≡ id = cc in absurd (not_given k table apart.0 b (i ∙ ap Some (sym same)))
    by later false is h true are i = let same : k.id ≡ id = cc in absurd (not_given k table apart.0 a (h ∙ ap Some (sym same)))
    by later false is h false are i = later h i

pub stay_apart : (table : List KeyName) (a b : OldCertificate) (i j : Id) → IsKeyTable table → id_named table a.key ≡ Some i → id_named table b.key ≡ Some j → made_by i a ≡ made_by j b → a ≡ b
stay_apart table a b i j is e g same =
    let ids : i ≡ j = ap (λ (c : Certificate). c.key) same in
    let keys = one_name table is.ids a.key b.key j (e ∙ ap Some ids) g in
    λ n. record { revision = (same n).revision; name = (same n).name; key = keys n; value = (same n).value; signature = (same n).signature }

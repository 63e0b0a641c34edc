-- The names that keys have.
use Rattle.std.specs.Prelude.{Contains, find, option_map}
use Rattle.std.proofs.Common.{◌≡◌, ◌↔◌, inl, inr, ◌<◌, ◌+◌, ℕ, Bool, true, false, cond, List, [], ◌∷◌, Option, Some, None, length, get_or, drop, Bor, refl, sym, ap, ◌∙◌, subst}
use Rattle.std.specs.BTreeMap.{BTreeMap, get, is_at}
use Rattle.std.specs.Option.{option_copied}
use Rattle.std.proofs.lemmas.Map.Text.{is_eq-slice_cmp}
use Rattle.mtn_base.proofs.Dropping.{drop_step}
use Rattle.mtn_base.specs.Ids.{by_id}
use Rattle.mtn_base.specs.Names.{same_id}
use Rattle.mtn_base.specs.declared.id.Id.{Id}
use Rattle.mtn_base.proofs.Finding.{found}
use Rattle.mtn_base.proofs.IdOrder.{contains_nil, contains_cases, split_contains}
use Rattle.mtn_base.proofs.Tests.{same_id-is, same_id-self}
use Rattle.mtn_certs.specs.Listing.{name_in}
use Rattle.mtn_certs.specs.declared.cert.KeyName.{KeyName}

abbrev of_id : Id → KeyName → Bool
of_id id k = same_id k.id id

-- a key of the list is found
finds : (keys : List KeyName) (k : KeyName) → Contains keys k → (f : KeyName) × (find (of_id k.id) keys ≡ Some f)
finds [] k c = absurd (contains_nil c)
finds (x ∷ keys) k c =
    elim (of_id k.id x) as (λ b. of_id k.id x ≡ b → (f : KeyName) × (cond b (Some x) (find (of_id k.id) keys) ≡ Some f)) [
      | true ↦ λ e. (x, refl)
      | false ↦ λ e. elim (contains_cases x keys k c) [
        | inl same ↦ absurd (let t : of_id k.id x ≡ true = ap (of_id k.id) same ∙ same_id-self k.id in cc)
        | inr d ↦ finds keys k d
      ]
    ] refl

pub name_tells : (keys : List KeyName) → ((a b : KeyName) → Contains keys a → Contains keys b → a.id ≡ b.id → a ≡ b) →
    (k : Id) (name : List ℕ) → (name_in keys k ≡ Some name) ↔ Contains keys (record { id = k; name = name })
name_tells keys once k name = (
  λ e. here (find (of_id k) keys) refl e,
  λ c.
      let this : KeyName = record { id = k; name = name } in
      let f = finds keys this c in
      let at = found (of_id k) keys f.0 f.1 in
      let same : f.0 ≡ this = once f.0 this (split_contains keys f.0 at.at) c (same_id-is f.0.id k at.passes) in
      ap (option_map (λ (n : KeyName). n.name)) (f.1 ∙ ap Some same),
)
  where
    here : (o : Option KeyName) → find (of_id k) keys ≡ o → option_map (λ (n : KeyName). n.name) o ≡ Some name → Contains keys (record { id = k; name = name })
    here None is e = absurd cc
    here (Some f) is e =
        let at = found (of_id k) keys f is in
        let named : f.name ≡ name = cc in
        let same : f.id ≡ k = same_id-is f.id k at.passes in
        let whole : f ≡ record { id = k; name = name } = λ i. record { id = same i; name = named i } in
        subst (Contains keys) whole (split_contains keys f at.at)

-- one more name, before those of the table
pub names_more : (keys : List KeyName) (i : ℕ) (k : KeyName) (name : Bor (List ℕ)) (old new : BTreeMap Id (Bor (List ℕ))) → i < length keys → k ≡ get_or keys i k → name.now ≡ k.name →
    ((id : Id) → option_copied (get by_id old id) ≡ name_in (drop (i + 1) keys) id) → ((q : Id) → get by_id new q ≡ cond (is_at (by_id k.id) q) (Some name) (get by_id old q)) →
    (id : Id) → option_copied (get by_id new id) ≡ name_in (drop i keys) id
names_more keys i k name old new lt is named so_far h id =
    ap option_copied (h id)
    ∙ here (is_at (by_id k.id) id) (get by_id old id) (so_far id)
    ∙ ap (λ b. option_map (λ (n : KeyName). n.name) (cond b (Some k) (find (of_id id) (drop (i + 1) keys)))) (is_eq-slice_cmp k.id.0 id.0)
    ∙ sym (ap (λ l. name_in l id) (drop_step keys i k lt is))
  where
    here : (b : Bool) (o : Option (Bor (List ℕ))) → option_copied o ≡ name_in (drop (i + 1) keys) id →
        option_copied (cond b (Some name) o) ≡ option_map (λ (n : KeyName). n.name) (cond b (Some k) (find (of_id id) (drop (i + 1) keys)))
    here true o e = ap Some named
    here false o e = e

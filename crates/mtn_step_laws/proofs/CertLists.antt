-- A set of certificates has its lists.
use Rattle.std.specs.Prelude.{Contains, codes, is_some, map}
use Rattle.std.specs.Cmp.{IsTotalOrder}
use Rattle.std.specs.FinMap.{contains_key-keys, get, keys}
use Rattle.std.specs.Ordering.{eq_by_cmp, is_eq}
use Rattle.std.specs.declared.cmp.Ordering.{Ordering}
use Rattle.std.specs.declared.cmp.Ordering.TheVariants.{Less, Equal, Greater}
use Rattle.std.proofs.Common.{◌≡◌, ◌↔◌, ℕ, true, List, [], ◌∷◌, Option, Some, None, refl, sym, ap, ◌∙◌, subst, ⊎_elim}
use Rattle.std.proofs.Math.Decide.{ℕ_discrete}
use Rattle.std.proofs.lemmas.Cmp.{eq_by_cmp_equiv}
use Rattle.std.proofs.lemmas.Map.Views.{Contains-from_any, list_any-from_Contains}
use mathlib.Core.List.{List-discrete}
use Rattle.mtn_base.specs.Ids.{by_id}
use Rattle.mtn_base.specs.Lists.{IsListOf, ordered}
use Rattle.mtn_base.specs.Names.{bytes_cmp}
use Rattle.mtn_base.specs.declared.id.Id.{Id}
use Rattle.mtn_base.proofs.IdOrder.{by_id_total, contains_cases, contains_head, contains_later, contains_nil}
use Rattle.mtn_base.proofs.Orders.{bytes_total, exact_bytes}
use Rattle.mtn_branches.specs.Branches.{IsBranch, IsHead, IsMember, NamesBranch}
use Rattle.mtn_branches.proofs.HeadLemmas.{members_are, members_of}
use Rattle.mtn_certs.specs.Certificates.{Certificate}
use Rattle.mtn_certs.specs.Order.{cert_cmp}
use Rattle.mtn_certs.proofs.Certs.{certs_total, exact_certs}
use Rattle.mtn_certs.proofs.Ordered.{ordered_ascends, ordered_same}
use Rattle.mtn_history_laws.proofs.Telling.{tell_id}
use Rattle.mtn_model.specs.State.{Certificates, Holds}

pub tied : (r : Ordering) → is_eq r ≡ true → r ≡ Equal
tied Less e = absurd cc
tied Equal e = refl
tied Greater e = absurd cc

-- the certificates of a set are the keys of its map
pub held_are : (certs : Certificates) (c : Certificate) → Contains (keys certs) c ↔ Holds certs c
held_are certs c = (λ d. of (get certs c) refl d, λ held. Contains-from_any {eq = eq_by_cmp cert_cmp} (λ x y e. exact_certs x y (tied (cert_cmp x y) e)) c (keys certs) (sym (contains_key-keys certs c) ∙ ap is_some held))
  where
    of : (o : Option (Unit {0})) → get certs c ≡ o → Contains (keys certs) c → Holds certs c
    of None e d = absurd (let t : is_some (get certs c) ≡ true = contains_key-keys certs c ∙ list_any-from_Contains (eq_by_cmp_equiv certs_total) c (keys certs) d in let n = ap is_some e in cc)
    of (Some u) e d = e

-- elements of a list that can be told, put in order
module _ {X : Type 0} (cmp : X → X → Ordering) (total : IsTotalOrder cmp) (exact : (a b : X) → cmp a b ≡ Equal → a ≡ b) (P : X → Type 0) (tell : (x : X) → Dec (P x)) where
  pick : (xs : List X) → (ys : List X) × ((x : X) → Contains ys x ↔ (Contains xs x × P x))
  pick [] = ([], λ x. (λ c. absurd (contains_nil c), λ t. t.0))
  pick (x ∷ xs) = by (tell x) (pick xs)
    where
      by : Dec (P x) → (ys : List X) × ((z : X) → Contains ys z ↔ (Contains xs z × P z)) → (ys : List X) × ((z : X) → Contains ys z ↔ (Contains (x ∷ xs) z × P z))
      by (yes p) rest = (
        x ∷ rest.0,
        λ z. (
          λ c. ⊎_elim (λ e. (subst (Contains (x ∷ xs)) e (contains_head x xs), subst P e p)) (λ d. let t = (rest.1 z).0 d in (contains_later x xs t.0, t.1)) (contains_cases x rest.0 z c),
          λ t. ⊎_elim (λ e. subst (Contains (x ∷ rest.0)) e (contains_head x rest.0)) (λ d. contains_later x rest.0 ((rest.1 z).1 (d, t.1))) (contains_cases x xs z t.0),
        ),
      )
      by (no n) rest = (
        rest.0,
        λ z. (
          λ c. let t = (rest.1 z).0 c in (contains_later x xs t.0, t.1),
          λ t. ⊎_elim (λ e. absurd (n (subst P (sym e) t.1))) (λ d. (rest.1 z).1 (d, t.1)) (contains_cases x xs z t.0),
        ),
      )

  pub some_list : (xs : List X) → ((x : X) → P x → Contains xs x) → (ys : List X) × IsListOf cmp P ys
  some_list xs within =
      let given = pick xs in (
        ordered cmp (λ (x : X). x) given.0,
        record {
          ascending = ordered_ascends cmp total exact given.0;
          exact = λ x. (λ c. ((given.1 x).0 ((ordered_same cmp total exact given.0 x).0 c)).1, λ p. (ordered_same cmp total exact given.0 x).1 ((given.1 x).1 (within x p, p)));
        },
      )

pub tell_bytes : (a b : List ℕ) → Dec (a ≡ b)
tell_bytes = List-discrete ℕ_discrete

tell_both : {A B : Type 0} → Dec A → Dec B → Dec (A × B)
tell_both (yes a) (yes b) = yes (a, b)
tell_both (no n) b = no (λ t. n t.0)
tell_both (yes a) (no n) = no (λ t. n t.1)

-- one of the list has P, or none
tell_one : {X : Type 0} (P : X → Type 0) (xs : List X) → ((y : X) → Dec (P y)) → Dec ((y : X) × Contains xs y × P y)
tell_one P [] d = no (λ t. contains_nil t.1)
tell_one P (x ∷ xs) d = elim (d x) [
  | yes p ↦ yes (x, contains_head x xs, p)
  | no n ↦ elim (tell_one P xs d) [
    | yes t ↦ yes (t.0, contains_later x xs t.1, t.2)
    | no m ↦ no (λ t. ⊎_elim (λ e. n (subst P (sym e) t.2)) (λ c. m (t.0, c, t.2)) (contains_cases x xs t.0 t.1))
  ]
]

contains_map : {X Y : Type 0} (g : X → Y) (xs : List X) (x : X) → Contains xs x → Contains (map g xs) (g x)
contains_map g [] x c = absurd (contains_nil c)
contains_map g (y ∷ ys) x c = ⊎_elim (λ e. subst (λ z. Contains (map g (y ∷ ys)) (g z)) e (contains_head (g y) (map g ys))) (λ d. contains_later (g y) (map g ys) (contains_map g ys x d)) (contains_cases y ys x c)

module _ (certs : Certificates) where
  tell_held : (c : Certificate) → Dec (Holds certs c)
  tell_held c = by (get certs c) refl
    where
      by : (o : Option (Unit {0})) → get certs c ≡ o → Dec (Holds certs c)
      by None e = no (λ held. let both : None ≡ Some tt = sym e ∙ held in cc)
      by (Some u) e = yes e

  -- those of a revision
  pub some_certs : (id : Id) → (list : List Certificate) × IsListOf cert_cmp (λ c. Holds certs c × (c.revision ≡ id)) list
  some_certs id = some_list cert_cmp certs_total exact_certs (λ c. Holds certs c × (c.revision ≡ id)) (λ c. tell_both (tell_held c) (tell_id c.revision id)) (keys certs) (λ c t. (held_are certs c).1 t.0)

  -- one that can be told is held, or none
  tell_holds : (P : Certificate → Type 0) → ((c : Certificate) → Dec (P c)) → Dec ((c : Certificate) × Holds certs c × P c)
  tell_holds P d = elim (tell_one P (keys certs) d) [
    | yes t ↦ yes (t.0, (held_are certs t.0).0 t.1, t.2)
    | no n ↦ no (λ t. n (t.0, (held_are certs t.0).1 t.1, t.2))
  ]

  tell_names : (branch : List ℕ) (c : Certificate) → Dec (NamesBranch c branch)
  tell_names branch c = elim (tell_both (tell_bytes c.name (codes "branch")) (tell_bytes c.value branch)) [
    | yes t ↦ yes (record { name = t.0; value = t.1 })
    | no n ↦ no (λ t. n (t.name, t.value))
  ]

  -- the branches
  pub some_branches : (branches : List (List ℕ)) × IsListOf bytes_cmp (IsBranch (Holds certs)) branches
  some_branches = some_list bytes_cmp bytes_total exact_bytes (IsBranch (Holds certs)) (λ branch. tell_holds (λ c. NamesBranch c branch) (tell_names branch)) (map (λ (c : Certificate). c.value) (keys certs))
      (λ branch t. subst (Contains (map (λ (c : Certificate). c.value) (keys certs))) t.2.value (contains_map (λ (c : Certificate). c.value) (keys certs) t.0 ((held_are certs t.0).1 t.1)))

  abbrev member_ids : List ℕ → List Id
  member_ids branch = members_of branch (keys certs)

  members_held : (branch : List ℕ) (r : Id) → Contains (member_ids branch) r ↔ IsMember (Holds certs) branch r
  members_held branch r = (
    λ c. let t = (members_are branch (keys certs) r).0 c in (t.0, (held_are certs t.0).0 t.1, t.2),
    λ t. (members_are branch (keys certs) r).1 (t.0, (held_are certs t.0).1 t.1, t.2),
  )

  exact_ids : (a b : Id) → by_id a b ≡ Equal → a ≡ b
  exact_ids a b e = λ i. record { 0 = exact_bytes a.0 b.0 e i }

  -- the heads, by a relation that can be told
  module _ (above : Id → Id → Type 0) (tell : (x r : Id) → Dec (above x r)) (branch : List ℕ) where
    abbrev member : Id → Type 0
    member = IsMember (Holds certs) branch

    tell_member : (r : Id) → Dec (member r)
    tell_member r = elim (tell_one (λ m. m ≡ r) (member_ids branch) (λ m. tell_id m r)) [
      | yes t ↦ yes (subst member t.2 ((members_held branch t.0).0 t.1))
      | no n ↦ no (λ m. n (r, (members_held branch r).1 m, refl))
    ]

    tell_top : (r : Id) → Dec ((m : Id) → member m → ¬ above r m)
    tell_top r = elim (tell_one (above r) (member_ids branch) (tell r)) [
      | yes t ↦ no (λ none. none t.0 ((members_held branch t.0).0 t.1) t.2)
      | no n ↦ yes (λ m is up. n (m, (members_held branch m).1 is, up))
    ]

    pub some_heads : (ids : List Id) × IsListOf by_id (IsHead above member) ids
    some_heads = some_list by_id by_id_total exact_ids (IsHead above member) (λ r. tell_both (tell_member r) (tell_top r)) (member_ids branch) (λ r t. (members_held branch r).1 t.0)

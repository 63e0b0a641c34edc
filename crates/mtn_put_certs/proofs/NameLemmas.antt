-- The names under ids.
use Rattle.std.specs.Prelude.{Contains, find, option_map, map}
use Rattle.std.specs.List.{AllByRecursion}
use Rattle.std.specs.List.Sorted.{IsStrictlySortedBy}
use Rattle.std.specs.FinMap.{get}
use Rattle.std.specs.declared.cmp.Ordering.TheVariants.{Less}
use Rattle.std.proofs.Common.{◌≡◌, ◌+◌, ◌<◌, length, take, get_or, ⊎_elim, ℕ, Bool, true, false, cond, List, [], ◌∷◌, ◌++◌, Option, Some, None, refl, sym, ap, ◌∙◌, subst, append_assoc}
use Rattle.std.proofs.lemmas.List.{append-nil, take_more}
use Rattle.mtn_base.specs.Ids.{by_id, in_id_order}
use Rattle.mtn_base.specs.Names.{same_id}
use Rattle.mtn_base.specs.declared.id.Id.{Id}
use Rattle.mtn_base.proofs.IdOrder.{contains_cases, contains_head, contains_later, contains_nil, in_order_ascends, in_order_same}
use Rattle.mtn_base.proofs.Tests.{same_id-is, same_id-self}
use Rattle.mtn_certs.specs.Certificates.{Certificate}
use Rattle.mtn_certs.specs.Listing.{name_in}
use Rattle.mtn_certs.specs.declared.cert.KeyName.{KeyName}
use Rattle.mtn_model.specs.Table.{Table}
use Rattle.mtn_put_certs.specs.Reading.{names_under, names_with}

-- one more id
pub one_more_name : (keys : Table) (ids : List Id) (id : Id) → names_under keys (ids ++ id ∷ []) ≡ names_under keys ids ++ names_with id (get keys id.0)
one_more_name keys [] id = append-nil (names_with id (get keys id.0))
one_more_name keys (x ∷ ids) id = ap (λ ns. names_with x (get keys x.0) ++ ns) (one_more_name keys ids id) ∙ sym (append_assoc (names_with x (get keys x.0)) (names_under keys ids) (names_with id (get keys id.0)))

-- what is found behind one key
found_behind : (id x : Id) (own : Option (List ℕ)) (rest : List KeyName) → same_id id x ≡ false → name_in (names_with id own ++ rest) x ≡ name_in rest x
found_behind id x None rest other = refl
found_behind id x (Some name) rest other = ap (λ t. option_map (λ (k : KeyName). k.name) (cond t (Some (record { id = id; name = name })) (find (λ (k : KeyName). same_id k.id x) rest))) other

found_here : (id x : Id) (name : List ℕ) (rest : List KeyName) → same_id id x ≡ true → name_in (names_with id (Some name) ++ rest) x ≡ Some name
found_here id x name rest same = ap (λ t. option_map (λ (k : KeyName). k.name) (cond t (Some (record { id = id; name = name })) (find (λ (k : KeyName). same_id k.id x) rest))) same

-- a key without a name has none here
none_under : (keys : Table) (ids : List Id) (x : Id) → get keys x.0 ≡ None → name_in (names_under keys ids) x ≡ None
none_under keys [] x none = refl
none_under keys (id ∷ ids) x none = by (none_under keys ids x none) (same_id id x) refl
  where
    by : name_in (names_under keys ids) x ≡ None → (b : Bool) → same_id id x ≡ b → name_in (names_with id (get keys id.0) ++ names_under keys ids) x ≡ None
    by later true same =
        let own : get keys id.0 ≡ None = ap (λ (i : Id). get keys i.0) (same_id-is id x same) ∙ none in
        ap (λ o. name_in (names_with id o ++ names_under keys ids) x) own ∙ later
    by later false other = found_behind id x (get keys id.0) (names_under keys ids) other ∙ later

-- a key of the list that has a name has it here
some_under : (keys : Table) (ids : List Id) (x : Id) (name : List ℕ) → get keys x.0 ≡ Some name → Contains ids x → name_in (names_under keys ids) x ≡ Some name
some_under keys [] x name some among = absurd (contains_nil among)
some_under keys (id ∷ ids) x name some among = by (λ c. some_under keys ids x name some c) (same_id id x) refl
  where
    by : (Contains ids x → name_in (names_under keys ids) x ≡ Some name) → (b : Bool) → same_id id x ≡ b → name_in (names_with id (get keys id.0) ++ names_under keys ids) x ≡ Some name
    by later true same =
        let own : get keys id.0 ≡ Some name = ap (λ (i : Id). get keys i.0) (same_id-is id x same) ∙ some in
        ap (λ o. name_in (names_with id o ++ names_under keys ids) x) own ∙ found_here id x name (names_under keys ids) same
    by later false other = found_behind id x (get keys id.0) (names_under keys ids) other
        ∙ later (⊎_elim (λ e. absurd (let t : same_id id x ≡ true = ap (same_id id) (sym e) ∙ same_id-self id in cc)) (λ c. c) (contains_cases id ids x among))

-- each key of the list has the name that the table gives it
pub named_under : (keys : Table) (ids : List Id) (x : Id) → Contains ids x → name_in (names_under keys ids) x ≡ get keys x.0
named_under keys ids x among = by (get keys x.0) refl
  where
    by : (o : Option (List ℕ)) → get keys x.0 ≡ o → name_in (names_under keys ids) x ≡ get keys x.0
    by None is = none_under keys ids x is ∙ sym is
    by (Some name) is = some_under keys ids x name is among ∙ sym is

-- ---- in the order of their ids

abbrev ids_in : List KeyName → List Id
ids_in ns = map (λ (k : KeyName). k.id) ns

all_above : (keys : Table) (x : Id) (ids : List Id) → AllByRecursion (λ y. by_id x y ≡ Less) ids → AllByRecursion (λ y. by_id x y ≡ Less) (ids_in (names_under keys ids))
all_above keys x [] all = tt
all_above keys x (id ∷ ids) all = with_own (all_above keys x ids all.1) (get keys id.0)
  where
    with_own : AllByRecursion (λ y. by_id x y ≡ Less) (ids_in (names_under keys ids)) → (o : Option (List ℕ)) → AllByRecursion (λ y. by_id x y ≡ Less) (ids_in (names_with id o ++ names_under keys ids))
    with_own later None = later
    with_own later (Some name) = (all.0, later)

pub names_ascend : (keys : Table) (ids : List Id) → IsStrictlySortedBy by_id ids → IsStrictlySortedBy by_id (ids_in (names_under keys ids))
unfolding IsStrictlySortedBy
names_ascend keys [] up = tt
names_ascend keys (id ∷ ids) up = with_own (names_ascend keys ids up.1) (get keys id.0)
  where
    with_own : IsStrictlySortedBy by_id (ids_in (names_under keys ids)) → (o : Option (List ℕ)) → IsStrictlySortedBy by_id (ids_in (names_with id o ++ names_under keys ids))
    with_own later None = later
    with_own later (Some name) = (all_above keys id ids up.0, later)

-- ---- key by key

pub one_more_id : (keys : Table) (ids : List Id) (i : ℕ) (id : Id) (d : Id) (o : Option (List ℕ)) (names more : List KeyName) → i < length ids → id ≡ get_or ids i d → get keys id.0 ≡ o → more ≡ names ++ names_with id o →
    names ≡ names_under keys (take i ids) → more ≡ names_under keys (take (i + 1) ids)
one_more_id keys ids i id d o names more lt at own is so_far =
    is ∙ ap (λ ns. ns ++ names_with id o) so_far ∙ ap (λ x. names_under keys (take i ids) ++ names_with id x) (sym own)
    ∙ sym (one_more_name keys (take i ids) id) ∙ ap (λ (x : Id). names_under keys (take i ids ++ x ∷ [])) at ∙ ap (names_under keys) (sym (take_more ids i d lt))

-- ---- the keys of certificates

in_map : (certs : List Certificate) (x : Certificate) → Contains certs x → Contains (map (λ (y : Certificate). y.key) certs) x.key
in_map [] x among = absurd (contains_nil among)
in_map (y ∷ ys) x among =
    ⊎_elim (λ e. subst (λ (z : Certificate). Contains (map (λ (w : Certificate). w.key) (y ∷ ys)) z.key) e (contains_head y.key (map (λ (w : Certificate). w.key) ys)))
    (λ d. contains_later y.key (map (λ (w : Certificate). w.key) ys) (in_map ys x d)) (contains_cases y ys x among)

pub names_told : (keys : Table) (certs : List Certificate) (ids shown : List Id) (names : List KeyName) → shown ≡ ids → ids ≡ in_id_order (map (λ (y : Certificate). y.key) certs) → names ≡ names_under keys shown →
    (x : Certificate) → Contains certs x → name_in names x.key ≡ get keys x.key.0
names_told keys certs ids shown names shows is told x among =
    ap (λ ns. name_in ns x.key) (told ∙ ap (names_under keys) (shows ∙ is))
    ∙ named_under keys (in_id_order (map (λ (y : Certificate). y.key) certs)) x.key ((in_order_same (map (λ (y : Certificate). y.key) certs) x.key).1 (in_map certs x among))

pub names_in_order : (keys : Table) (certs : List Certificate) (ids shown : List Id) (names : List KeyName) → shown ≡ ids → ids ≡ in_id_order (map (λ (y : Certificate). y.key) certs) → names ≡ names_under keys shown →
    IsStrictlySortedBy by_id (map (λ (k : KeyName). k.id) names)
names_in_order keys certs ids shown names shows is told =
    subst (λ ns. IsStrictlySortedBy by_id (map (λ (k : KeyName). k.id) ns)) (sym (told ∙ ap (names_under keys) (shows ∙ is)))
    (names_ascend keys (in_id_order (map (λ (y : Certificate). y.key) certs)) (in_order_ascends (map (λ (y : Certificate). y.key) certs)))

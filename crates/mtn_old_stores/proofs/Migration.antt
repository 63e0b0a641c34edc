-- Over an older state a payload comes to one thing.
use Rattle.std.specs.Prelude.{Contains, is_some, IsSome}
use Rattle.std.specs.Cmp.{tied_itself}
use Rattle.std.specs.Cmp.Lexicographic.{slice_cmp}
use Rattle.std.specs.FinMap.{keys, nat_cmp-IsAntisymmetric, slice_cmp-IsAntisymmetric}
use Rattle.std.specs.Ordering.{nat_cmp, ordering_reverse}
use Rattle.std.specs.declared.cmp.Ordering.{Ordering}
use Rattle.std.specs.declared.cmp.Ordering.TheVariants.{Less, Equal, Greater}
use Rattle.std.proofs.Common.{◌≡◌, ◌↔◌, ◌⊎◌, inl, inr, ℕ, true, false, List, [], ◌∷◌, ◌++◌, append_assoc, append-nil, Option, Some, None, Result, Ok, Err, refl, sym, ap, ◌∙◌, subst}
use Rattle.std.proofs.lemmas.Cmp.{nat_list_cmp_total}
use Rattle.std.proofs.lemmas.List.Elements.{Contains-append_left, Contains-push, Contains-push_cases}
use Rattle.mtn_base.specs.declared.id.Id.{Id}
use Rattle.mtn_base.specs.declared.refusal.Cause.{Cause}
use Rattle.mtn_base.specs.declared.refusal.Cause.TheVariants.{UnknownKey}
use Rattle.mtn_base.proofs.IdOrder.{contains_nil}
use Rattle.mtn_certs.specs.declared.cert.KeyName.{KeyName}
use Rattle.mtn_history.specs.Stands.{Stands}
use Rattle.mtn_key_table_laws.proofs.Given.{one_table, some_table}
use Rattle.mtn_model.specs.State.{State}
use Rattle.mtn_model.specs.Table.{Contents}
use Rattle.mtn_ports.specs.Kept.{IsAbove}
use Rattle.mtn_old_stores.specs.Older.{HoldsOld, OldCertificate, OldCertificates, OldState, StandsOld}
use Rattle.mtn_old_stores.specs.Migrating.{AreNamed, IsUnknownKey, id_named, migrated}
use Rattle.mtn_old_stores.specs.Stores.{IsLeastUnknown, IsUnknownAmong, Migrated, Migrates, MigratesBy, MigratesGiven, StandsIn, Store, migrated_text}
use Rattle.mtn_old_stores.specs.Stores.Store.{Older, Present}
use Rattle.mtn_old_stores.proofs.AnyOrder.{has_it, in_it}
use Rattle.mtn_old_stores.proofs.Held.{among_keys}
use Rattle.mtn_old_stores.proofs.Putting.{keys_held}

-- ---- one store

-- what comes of it, by the least name that the table lacks
abbrev pub migration : List KeyName → OldState → Option (List ℕ) → Migrated
migration table s None = Ok (migrated table s, migrated_text table s)
migration table s (Some name) = Err (UnknownKey name)

not_itself : (a : List ℕ) → IsAbove a a → ⊥
not_itself a e = let same : slice_cmp nat_cmp a a ≡ Equal = tied_itself nat_list_cmp_total a in cc

lacking : (o : Option Id) → o ≡ None → IsSome o → ⊥
lacking o none some = let there : is_some o ≡ true = some in let not_there : is_some o ≡ false = ap is_some none in let no : true ≡ false = sym there ∙ not_there in cc

pub one_store : ((f : List ℕ → List ℕ) (c : Contents) (s t : State) → Stands f c s → Stands f c t → s ≡ t) → ((f : List ℕ → List ℕ) (c : Contents) (s t : OldState) → StandsOld f c s → StandsOld f c t → s ≡ t) →
    ((f : List ℕ → List ℕ) (c : Contents) (s : OldState) (t : State) → StandsOld f c s → Stands f c t → ⊥) → (f : List ℕ → List ℕ) (c : Contents) (a b : Store) → StandsIn f c a → StandsIn f c b → a ≡ b
one_store one one_old way f c (Present s) (Present t) x y = ap Present (one f c s t x y)
one_store one one_old way f c (Present s) (Older t) x y = absurd (way f c t s y x)
one_store one one_old way f c (Older s) (Present t) x y = absurd (way f c s t x y)
one_store one one_old way f c (Older s) (Older t) x y = ap Older (one_old f c s t x y)

-- ---- one migration

which : (a b : List ℕ) → IsAbove a b ⊎ ((a ≡ b) ⊎ IsAbove b a)
which a b = by (slice_cmp nat_cmp a b) refl
  where
    by : (o : Ordering) → slice_cmp nat_cmp a b ≡ o → IsAbove a b ⊎ ((a ≡ b) ⊎ IsAbove b a)
    by Less is = inl is
    by Equal is = inr (inl (slice_cmp-IsAntisymmetric nat_cmp-IsAntisymmetric a b is))
    by Greater is = inr (inr (nat_list_cmp_total.antisymm b a ∙ ap ordering_reverse is))

module _ (table : List KeyName) (certs : OldCertificates) where
  -- a least name has none below it
  not_below : (a b : List ℕ) → IsUnknownKey table certs a → IsUnknownKey table certs b → IsAbove a b → ⊥
  not_below a b x y above = y.least x.cert x.held (ap (id_named table) x.of_it ∙ x.lacks) (subst (λ n. IsAbove n b) (sym x.of_it) above)

  one_unknown : (a b : List ℕ) → IsUnknownKey table certs a → IsUnknownKey table certs b → a ≡ b
  one_unknown a b x y = elim (which a b) [
    | inl above ↦ absurd (not_below a b x y above)
    | inr r ↦ elim r [ inl e ↦ e | inr above ↦ absurd (not_below b a y x above) ]
  ]

  not_named : (a : List ℕ) → IsUnknownKey table certs a → AreNamed table certs → ⊥
  not_named a x named = lacking (id_named table x.cert.key) (ap (id_named table) x.of_it ∙ x.lacks) (named x.cert x.held)

one_by : (table : List KeyName) (s : OldState) (a b : Migrated) → MigratesBy table s a → MigratesBy table s b → a ≡ b
one_by table s (Ok a) (Ok b) x y = ap (λ (n : State × List ℕ). Ok n) (x.1 ∙ sym y.1)
one_by table s (Ok a) (Err d) x y = absurd (not_named table s.certs y.0 y.1 x.0)
one_by table s (Err c) (Ok b) x y = absurd (not_named table s.certs x.0 x.1 y.0)
one_by table s (Err c) (Err d) x y = ap (λ (z : Cause). Err z) (x.2 ∙ ap UnknownKey (one_unknown table s.certs x.0 y.0 x.1 y.1) ∙ sym y.2)

one_given : (given : Result (List KeyName) Cause) (s : OldState) (a b : Migrated) → MigratesGiven given s a → MigratesGiven given s b → a ≡ b
one_given (Err c) s a b x y = x ∙ sym y
one_given (Ok table) s a b x y = one_by table s a b x y

pub one_migration : (payload : List ℕ) (s : OldState) (a b : Migrated) → Migrates payload s a → Migrates payload s b → a ≡ b
one_migration payload s a b x y = one_given x.0 s a b x.2 (subst (λ g. MigratesGiven g s b) (one_table payload y.0 x.0 y.1 x.1) y.2)

-- ---- the names of a list that the table lacks

module _ (table : List KeyName) (list : List OldCertificate) (x : OldCertificate) where
  abbrev longer : List OldCertificate
  longer = list ++ x ∷ []

  cases : (c : OldCertificate) → Contains longer c → Contains list c ⊎ (x ≡ c)
  cases c among = Contains-push_cases list x c among

  not_both : (c : OldCertificate) (id : Id) → id_named table x.key ≡ Some id → x ≡ c → id_named table c.key ≡ None → ⊥
  not_both c id e is none = let z : Some id ≡ None = sym e ∙ ap (λ (q : OldCertificate). id_named table q.key) is ∙ none in cc

  -- one whose key has an id changes nothing
  pub with_known : (id : Id) (o : Option (List ℕ)) → id_named table x.key ≡ Some id → IsLeastUnknown table list o → IsLeastUnknown table longer o
  with_known id None e all = λ c among. elim (cases c among) [
    | inl before ↦ all c before
    | inr is ↦ subst (λ (q : OldCertificate). IsSome (id_named table q.key)) is (ap is_some e)
  ]
  with_known id (Some name) e u = record {
    cert = u.cert;
    among = Contains-append_left list (x ∷ []) u.cert u.among;
    of_it = u.of_it;
    lacks = u.lacks;
    least = λ c among none above. elim (cases c among) [
      | inl before ↦ u.least c before none above
      | inr is ↦ not_both c id e is none
    ];
  }

  -- one whose key has none, and is below those before
  below : id_named table x.key ≡ None → ((c : OldCertificate) → Contains list c → id_named table c.key ≡ None → IsAbove c.key x.key → ⊥) → IsUnknownAmong table longer x.key
  below none low = record {
    cert = x;
    among = Contains-push list x;
    of_it = refl;
    lacks = none;
    least = λ c among lacks above. elim (cases c among) [
      | inl before ↦ low c before lacks above
      | inr is ↦ not_itself x.key (subst (λ (q : OldCertificate). IsAbove q.key x.key) (sym is) above)
    ];
  }

  pub with_first : id_named table x.key ≡ None → IsLeastUnknown table list None → IsLeastUnknown table longer (Some x.key)
  with_first none all = below none (λ c among lacks above. lacking (id_named table c.key) lacks (all c among))

  pub with_lesser : (name : List ℕ) → id_named table x.key ≡ None → IsAbove x.key name → IsLeastUnknown table list (Some name) → IsLeastUnknown table longer (Some x.key)
  with_lesser name none less u = below none (λ c among lacks above. u.least c among lacks (nat_list_cmp_total.trans c.key x.key name above less))

  pub with_greater : (name : List ℕ) → (IsAbove x.key name → ⊥) → IsLeastUnknown table list (Some name) → IsLeastUnknown table longer (Some name)
  with_greater name more u = record {
    cert = u.cert;
    among = Contains-append_left list (x ∷ []) u.cert u.among;
    of_it = u.of_it;
    lacks = u.lacks;
    least = λ c among none above. elim (cases c among) [
      | inl before ↦ u.least c before none above
      | inr is ↦ more (subst (λ (q : OldCertificate). IsAbove q.key name) (sym is) above)
    ];
  }

-- ---- some migration

module _ (table : List KeyName) where
  abbrev Unknown : List OldCertificate → Type 0
  Unknown list = (o : Option (List ℕ)) × IsLeastUnknown table list o

  one_further : (list : List OldCertificate) (x : OldCertificate) → Unknown list → Unknown (list ++ x ∷ [])
  one_further list x u = by (id_named table x.key) refl u
    where
      lesser : (name : List ℕ) → id_named table x.key ≡ None → IsLeastUnknown table list (Some name) → IsAbove x.key name ⊎ ((x.key ≡ name) ⊎ IsAbove name x.key) → Unknown (list ++ x ∷ [])
      lesser name none u (inl less) = (Some x.key, with_lesser table list x name none less u)
      lesser name none u (inr (inl e)) = (Some name, with_greater table list x name (λ less. not_itself name (subst (λ n. IsAbove n name) e less)) u)
      lesser name none u (inr (inr more)) = (Some name, with_greater table list x name (λ less. not_itself name (nat_list_cmp_total.trans name x.key name more less)) u)

      by : (id : Option Id) → id_named table x.key ≡ id → Unknown list → Unknown (list ++ x ∷ [])
      by (Some id) e (o, u) = (o, with_known table list x id o e u)
      by None e (None, u) = (Some x.key, with_first table list x e u)
      by None e (Some name, u) = lesser name e u (which x.key name)

  further : (before rest : List OldCertificate) → Unknown before → Unknown (before ++ rest)
  further before [] u = subst Unknown (sym (append-nil before)) u
  further before (x ∷ rest) u = subst Unknown (append_assoc before (x ∷ []) rest) (further (before ++ x ∷ []) rest (one_further before x u))

  some_unknown : (list : List OldCertificate) → Unknown list
  some_unknown list = further [] list (None, λ c among. absurd (contains_nil among))

-- what is so of a list is so of a set that holds its items
pub of_set : (table : List KeyName) (certs : OldCertificates) (list : List OldCertificate) → ((x : OldCertificate) → Contains list x ↔ HoldsOld certs x) → (s : OldState) → s.certs ≡ certs → (o : Option (List ℕ)) → IsLeastUnknown table list o →
    MigratesBy table s (migration table s o)
of_set table certs list are s is None all = ((λ c held. all c ((are c).1 (subst (λ m. HoldsOld m c) is held))), refl)
of_set table certs list are s is (Some name) u = (
  name,
  record {
    cert = u.cert;
    held = subst (λ m. HoldsOld m u.cert) (sym is) ((are u.cert).0 u.among);
    of_it = u.of_it;
    lacks = u.lacks;
    least = λ c held none above. u.least c ((are c).1 (subst (λ m. HoldsOld m c) is held)) none above;
  },
  refl,
)

keys_are : (certs : OldCertificates) (x : OldCertificate) → Contains (keys certs) x ↔ HoldsOld certs x
keys_are certs x = (λ among. keys_held certs x (has_it (keys certs) x among), λ held. in_it (keys certs) x (among_keys certs x held))

some_given : (given : Result (List KeyName) Cause) (s : OldState) → (result : Migrated) × MigratesGiven given s result
some_given (Err c) s = (Err c, refl)
some_given (Ok table) s =
    let u = some_unknown table (keys s.certs) in
    (migration table s u.0, of_set table s.certs (keys s.certs) (keys_are s.certs) s refl u.0 u.1)

pub some_migration : (payload : List ℕ) (s : OldState) → (result : Migrated) × Migrates payload s result
some_migration payload s = let given = some_table payload in let r = some_given given.0 s in (r.0, (given.0, given.1, r.1))

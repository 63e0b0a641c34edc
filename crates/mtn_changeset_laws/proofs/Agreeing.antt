-- What two nodes have in common that do not disagree, and the attributes that they are joined to.
use Rattle.std.specs.Prelude.{option_map, option_and_then, find, is_some, not, ◌&&◌, ◌||◌}
use Rattle.std.specs.List.{list_all}
use Rattle.std.specs.Option.{option_map_or}
use Rattle.std.specs.Cmp.{first_so, second_so}
use Rattle.std.proofs.Common.{◌≡◌, ℕ, Bool, true, false, cond, List, [], ◌∷◌, ◌++◌, Option, Some, None, refl, sym, ◌∙◌, ap}
use Rattle.mtn_base.specs.Names.{same_bytes, same_name}
use Rattle.mtn_base.specs.declared.id.Id.{Id}
use Rattle.mtn_roster.specs.declared.entry.Entry.{Entry}
use Rattle.mtn_roster.specs.declared.entry.Attr.{Attr}
use Rattle.mtn_roster.specs.declared.entry.Body.{Body}
use Rattle.mtn_roster.specs.declared.entry.Body.TheVariants.{Dir, File}
use Rattle.mtn_base.specs.Lists.{is_some_with}
use Rattle.mtn_roster.specs.Tree.{attr_of, live_of, with_attr}
use Rattle.mtn_base.proofs.Finding.{Split, either_false, found, passing_some}
use Rattle.mtn_base.proofs.Tests.{same_bytes-is, same_id-is, same_name-is}
use Rattle.mtn_roster.proofs.Looking.{attr_of-with_attr}
use Rattle.mtn_changeset_laws.specs.Changes.{or_else}
use Rattle.mtn_changeset_laws.specs.Joining.{is_old, same_body, has_live, same_live, disagree, joined_attrs}
use Rattle.mtn_changeset_laws.proofs.Passing.{unnot}

pub same_body-is : (a b : Body) → same_body a b ≡ true → a ≡ b
same_body-is Dir Dir h = refl
same_body-is Dir (File d) h = absurd cc
same_body-is (File c) Dir h = absurd cc
same_body-is (File c) (File d) h = ap File (same_id-is c d h)

-- a live value of the one is one of the other
live_in : (bs as' : List Attr) (k v : List ℕ) → has_live bs as' ≡ true → live_of as' k ≡ Some v → live_of bs k ≡ Some v
live_in bs as' k v h live = at (find (λ (a : Attr). same_bytes a.key k) as') refl live
  where
    test : Attr → Bool
    test a = option_map_or (λ v. is_some_with (same_bytes v) (live_of bs a.key)) a.value true

    mapped : (xs : List Attr) → list_all test xs ≡ true → (a : Attr) → Split xs a → test a ≡ true
    mapped xs g a s = go s.before (ap (list_all test) (sym s.is) ∙ g)
      where
        go : (before : List Attr) → list_all test (before ++ a ∷ s.rest) ≡ true → test a ≡ true
        go [] g = first_so _ _ g
        go (b ∷ before) g = go before (second_so (test b) _ g)

    at : (o : Option Attr) → find (λ (a : Attr). same_bytes a.key k) as' ≡ o → option_and_then (λ v. v) (option_map (λ (a : Attr). a.value) o) ≡ Some v → live_of bs k ≡ Some v
    at None e g = absurd cc
    at (Some a) e g =
        let f = found (λ (a : Attr). same_bytes a.key k) as' a e in
        let key : a.key ≡ k = same_bytes-is a.key k f.passes in
        let is : option_map_or (λ v. is_some_with (same_bytes v) (live_of bs a.key)) (Some v) true ≡ true =
        ap (λ o. option_map_or (λ v. is_some_with (same_bytes v) (live_of bs a.key)) o true) (sym g) ∙ mapped as' h a f.at in
        let w = passing_some (same_bytes v) (live_of bs a.key) is in
        ap (live_of bs) (sym key) ∙ w.1 ∙ ap Some (sym (same_bytes-is v w.0 w.2))

one_option : {A : Type 0} (o p : Option A) → ((v : A) → o ≡ Some v → p ≡ Some v) → ((v : A) → p ≡ Some v → o ≡ Some v) → o ≡ p
one_option None None f g = refl
one_option None (Some b) f g = g b refl
one_option (Some a) p f g = sym (f a refl)

pub same_live-is : (as' bs : List Attr) → same_live as' bs ≡ true → (k : List ℕ) → live_of as' k ≡ live_of bs k
same_live-is as' bs h k = one_option (live_of as' k) (live_of bs k)
    (λ v e. live_in bs as' k v (first_so _ _ h) e)
    (λ v e. live_in as' bs k v (second_so (has_live bs as') _ h) e)

-- what is known of two nodes that do not disagree
pub record IsAgreed (new : Id) (x y : Entry) : Type 0 where
  pub names : is_old new x ≡ true → is_old new y ≡ true → x.name ≡ y.name
  pub bodies : x.body ≡ y.body
  pub live : (k : List ℕ) → live_of x.attrs k ≡ live_of y.attrs k

-- the value of a key on the one side, else on the other
pub attr_of-joined : (bs as' : List Attr) (k : List ℕ) → attr_of (joined_attrs as' bs) k ≡ or_else (attr_of as' k) (attr_of bs k)
attr_of-joined [] as' k = keeps (attr_of as' k)
  where
    keeps : {A : Type 0} (o : Option A) → o ≡ or_else o None
    keeps None = refl
    keeps (Some a) = refl
attr_of-joined (b ∷ bs) as' k =
    attr_of-joined bs (cond (is_some (attr_of as' b.key)) as' (with_attr b as')) k
    ∙ at (is_some (attr_of as' b.key)) (same_bytes b.key k) refl refl
    ∙ ap (or_else (attr_of as' k)) (sym (opened (same_bytes b.key k)))
  where
    opened : (t : Bool) → option_map (λ (a : Attr). a.value) (cond t (Some b) (find (λ (a : Attr). same_bytes a.key k) bs)) ≡ cond t (Some b.value) (attr_of bs k)
    opened true = refl
    opened false = refl

    some_of : {A : Type 0} (o : Option A) (y z : Option A) → is_some o ≡ true → or_else o y ≡ or_else o z
    some_of None y z e = absurd cc
    some_of (Some a) y z e = refl

    none_of : {A : Type 0} (o : Option A) (y : Option A) → is_some o ≡ false → or_else o y ≡ y
    none_of None y e = refl
    none_of (Some a) y e = absurd cc

    at : (s t : Bool) → is_some (attr_of as' b.key) ≡ s → same_bytes b.key k ≡ t →
        or_else (attr_of (cond s as' (with_attr b as')) k) (attr_of bs k) ≡ or_else (attr_of as' k) (cond t (Some b.value) (attr_of bs k))
    at true true e g = some_of (attr_of as' k) _ _ (ap (λ q. is_some (attr_of as' q)) (sym (same_bytes-is b.key k g)) ∙ e)
    at true false e g = refl
    at false true e g =
        ap (λ o. or_else o (attr_of bs k)) (attr_of-with_attr b as' k ∙ ap (λ t. cond t (Some b.value) (attr_of as' k)) g)
        ∙ sym (none_of (attr_of as' k) (Some b.value) (ap (λ q. is_some (attr_of as' q)) (sym (same_bytes-is b.key k g)) ∙ e))
    at false false e g = ap (λ o. or_else o (attr_of bs k)) (attr_of-with_attr b as' k ∙ ap (λ t. cond t (Some b.value) (attr_of as' k)) g)

pub agreed : (new : Id) (x y : Entry) → disagree new x y ≡ false → IsAgreed new x y
agreed new x y h =
    let a = either_false ((is_old new x && is_old new y && not (same_name x.name y.name)) || not (same_body x.body y.body)) _ h in
    let b = either_false (is_old new x && is_old new y && not (same_name x.name y.name)) _ a.0 in
    record {
      names = λ e f. same_name-is x.name y.name (both (is_old new x) (is_old new y) (same_name x.name y.name) b.0 e f);
      bodies = same_body-is x.body y.body (unnot _ b.1);
      live = same_live-is x.attrs y.attrs (unnot _ a.1);
    }
  where
    both : (a b c : Bool) → (a && b && not c) ≡ false → a ≡ true → b ≡ true → c ≡ true
    both true true true h e f = refl
    both true true false h e f = absurd cc
    both true false c h e f = absurd cc
    both false b c h e f = absurd cc

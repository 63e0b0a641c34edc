-- What changes leave of the content and the attributes of a node.
use Rattle.std.specs.Prelude.{◌&&◌, reverse, Contains}
use Rattle.std.specs.Option.{option_map_or}
use Rattle.std.specs.Cmp.{first_so, second_so, tied_itself}
use Rattle.std.specs.Ordering.{is_eq}
use Rattle.std.proofs.Common.{◌≡◌, ℕ, Bool, true, false, cond, List, [], ◌∷◌, Option, Some, None, refl, sym, ◌∙◌, ap, subst, ◌⊎◌, inl, inr, ⊎_elim}
use Rattle.std.proofs.lemmas.List.{reverse-reverse}
use Rattle.mtn_base.specs.Names.{same_bytes, same_name, same_path}
use Rattle.mtn_base.specs.declared.id.Id.{Id}
use Rattle.mtn_base.specs.declared.name.NodeName.{NodeName}
use Rattle.mtn_roster.specs.declared.entry.Attr.{Attr}
use Rattle.mtn_roster.specs.declared.entry.Body.{Body}
use Rattle.mtn_roster.specs.declared.entry.Body.TheVariants.{File}
use Rattle.mtn_roster.specs.declared.entry.Entry.{Entry}
use Rattle.mtn_changes.specs.declared.change.Change.{Change}
use Rattle.mtn_changes.specs.declared.change.Change.TheVariants.{Delete, Rename, AddDir, AddFile, Patch, Clear, Set}
use Rattle.mtn_changes.specs.declared.target.Target.{Target}
use Rattle.mtn_changes.specs.Targets.{target_of, target_cmp}
use Rattle.mtn_changes.specs.Sorting.{AreUnsorted}
use Rattle.mtn_changes.proofs.Places.{target_total}
use Rattle.mtn_changes.proofs.Sorted.{at}
use Rattle.mtn_roster.specs.Tree.{Tree, node_at, attr_of, with_attr}
use Rattle.mtn_base.specs.Lists.{is_some_with}
use Rattle.mtn_base.proofs.Finding.{Split, later}
use Rattle.mtn_base.proofs.Members.{head, split_cons}
use Rattle.mtn_base.proofs.Tests.{told, both_true, same_path-is, same_path-self, same_bytes-is, same_bytes-self, same_name-self}
use Rattle.mtn_roster.proofs.Forest.{IsForest, same_some, one_path}
use Rattle.mtn_roster.proofs.Looking.{attr_of-with_attr}
use Rattle.mtn_roster.proofs.Ordered.{forest_of}
use Rattle.mtn_base.proofs.Sorting.{no_split}
use Rattle.mtn_changeset_laws.specs.Changes.{Occupant, first_fault, occupant, occupant_name, occupant_body, is_at, edited, edited_by, or_else, slot_up, tree_after}
use Rattle.mtn_changeset_laws.specs.Changes.Occupant.{Old, Added}
use Rattle.mtn_changeset_laws.specs.Laws.{IsOldTree, NoneBornIn, occupant_attrs, IsEditedOf}
use Rattle.mtn_changeset_laws.proofs.Passing.{Passes, passes}
use Rattle.mtn_changeset_laws.proofs.Occupying.{RenamesOnce, standing, slot_of as hangs_at}
use Rattle.mtn_changeset_laws.proofs.AfterSane.{contains_of, once_of, forest_before, after_is_sane}
use Rattle.mtn_changeset_laws.proofs.After.{edited-name, is_at-is, entry_after, node_of}
use Rattle.mtn_changeset_laws.proofs.Renaming.{split_of_contains, one_change, renames_differ}

-- what a change makes of the content of the file at p, and of the key k there
abbrev patched_to : List (List ℕ) → Change → Option Id
patched_to p (Patch q from to) = cond (same_path q p) (Some to) None
patched_to p _ = None

abbrev given_to : List (List ℕ) → List ℕ → Change → Option (Option (List ℕ))
given_to p k (Clear q key) = cond (same_path q p && same_bytes key k) (Some None) None
given_to p k (Set q key value) = cond (same_path q p && same_bytes key k) (Some (Some value)) None
given_to p k _ = None

module _ {A : Type 0} (gives : Change → Option A) where
  -- what the last of the changes gives that gives anything
  abbrev last_given : List Change → Option A
  last_given [] = None
  last_given (c ∷ cs) = or_else (last_given cs) (gives c)

  given_by : (cs : List Change) (v : A) → last_given cs ≡ Some v → (c : Change) × Split cs c × (gives c ≡ Some v)
  given_by [] v h = absurd cc
  given_by (c ∷ cs) v h = from (last_given cs) refl (given_by cs)
    where
      from : (o : Option A) → last_given cs ≡ o → ((w : A) → last_given cs ≡ Some w → (d : Change) × Split cs d × (gives d ≡ Some w)) → (d : Change) × Split (c ∷ cs) d × (gives d ≡ Some v)
      from None e rest = (c, head c cs, sym (ap (λ o. or_else o (gives c)) e) ∙ h)
      from (Some w) e rest =
          let r = rest w e in
          let is : Some w ≡ Some v = sym (ap (λ o. or_else o (gives c)) e) ∙ h in
          (r.0, later c cs r.0 r.1, r.2 ∙ is)

  none_given : (cs : List Change) → last_given cs ≡ None → (c : Change) → Split cs c → gives c ≡ None
  none_given [] h c s = absurd (no_split c s)
  none_given (d ∷ cs) h c s =
      let parts = neither (last_given cs) (gives d) h in
      ⊎_elim (λ e. ap gives (sym e) ∙ parts.1) (λ u. none_given cs parts.0 c u) (split_cons d cs c s)
    where
      neither : (o q : Option A) → or_else o q ≡ None → (o ≡ None) × (q ≡ None)
      neither None q h = (refl, h)
      neither (Some a) q h = absurd cc

  -- where every change that gives something is this one, the last gives what it gives
  pub one_given : (cs : List Change) (c : Change) (v : A) → Split cs c → gives c ≡ Some v → ((d : Change) (w : A) → Split cs d → gives d ≡ Some w → d ≡ c) → last_given cs ≡ Some v
  one_given cs c v s e alone = at (last_given cs) refl
    where
      at : (o : Option A) → last_given cs ≡ o → o ≡ Some v
      at None h = let z = none_given cs h c s in absurd cc
      at (Some w) h = let r = given_by cs w h in sym r.2 ∙ ap gives (alone r.0 w r.1 r.2) ∙ e

  pub nothing_given : (cs : List Change) → ((d : Change) (w : A) → Split cs d → gives d ≡ Some w → ⊥) → last_given cs ≡ None
  nothing_given cs none = at (last_given cs) refl
    where
      at : (o : Option A) → last_given cs ≡ o → o ≡ None
      at None h = refl
      at (Some w) h = let r = given_by cs w h in absurd (none r.0 w r.1 r.2)

module _ (old : Tree) (all : List Change) (new : Id) (o : IsForest old) (once : RenamesOnce all) (ok : Passes old all) (unborn : NoneBornIn old new)
    (f : IsForest (tree_after old all new)) (p : List (List ℕ)) (x : Occupant) (here : occupant old all p ≡ Some x) where
  abbrev own : NodeName
  own = occupant_name new x

  -- the node stands at its path alone
  stands_here : (q : List (List ℕ)) → is_at old all new own q ≡ same_path q p
  stands_here q = by (same_path q p) refl
    where
      by : (b : Bool) → same_path q p ≡ b → is_at old all new own q ≡ b
      by true e =
          ap (is_at old all new own) (same_path-is q p e)
          ∙ ap (is_some_with (λ d. same_name (occupant_name new d) own)) here ∙ same_name-self own
      by false e = ⊎_elim
          (λ a.
          let s = standing old o all new once ok (reverse p) x here in
          let there = is_at-is old all new o once ok unborn x q s.present a in
          let paths : reverse q ≡ reverse p = one_path (tree_after old all new) f (reverse q) (reverse p) (entry_after old all new o once ok unborn x)
          (node_of old all new o once ok unborn f (reverse q) x there) (node_of old all new o once ok unborn f (reverse p) x here) in
          let same : q ≡ p = sym (reverse-reverse q) ∙ ap reverse paths ∙ reverse-reverse p in
          let z : true ≡ false = sym (same_path-self p) ∙ ap (λ r. same_path r p) (sym same) ∙ e in absurd cc)
          (λ b. b)
          (told (is_at old all new own q))

  step_body : (c : Change) (e : Entry) → e.name ≡ own → (edited old all new c e).body ≡ option_map_or File (patched_to p c) e.body
  step_body (Delete q) e n = refl
  step_body (Rename q r) e n = refl
  step_body (AddDir q) e n = refl
  step_body (AddFile q c) e n = refl
  step_body (Patch q a b) e n = at (is_at old all new e.name q) (ap (λ m. is_at old all new m q) n ∙ stands_here q)
    where
      at : (t : Bool) → t ≡ same_path q p → (cond t (record e { body = File b }) e).body ≡ option_map_or File (cond (same_path q p) (Some b) None) e.body
      at true h = ap (λ t. option_map_or File (cond t (Some b) None) e.body) h
      at false h = ap (λ t. option_map_or File (cond t (Some b) None) e.body) h
  step_body (Clear q key) e n = at (is_at old all new e.name q)
    where
      at : (t : Bool) → (cond t (record e { attrs = with_attr (record { key = key; value = None }) e.attrs }) e).body ≡ e.body
      at true = refl
      at false = refl
  step_body (Set q key v) e n = at (is_at old all new e.name q)
    where
      at : (t : Bool) → (cond t (record e { attrs = with_attr (record { key = key; value = Some v }) e.attrs }) e).body ≡ e.body
      at true = refl
      at false = refl

  with_one : (q : List (List ℕ)) (a : Attr) (k : List ℕ) (e : Entry) → e.name ≡ own →
      attr_of (cond (is_at old all new e.name q) (record e { attrs = with_attr a e.attrs }) e).attrs k ≡ or_else (cond (same_path q p && same_bytes a.key k) (Some a.value) None) (attr_of e.attrs k)
  with_one q a k e n = at (is_at old all new e.name q) (same_path q p) (ap (λ m. is_at old all new m q) n ∙ stands_here q)
    where
      one : (t : Bool) → cond t (Some a.value) (attr_of e.attrs k) ≡ or_else (cond t (Some a.value) None) (attr_of e.attrs k)
      one true = refl
      one false = refl

      at : (s t : Bool) → s ≡ t → attr_of (cond s (record e { attrs = with_attr a e.attrs }) e).attrs k ≡ or_else (cond (t && same_bytes a.key k) (Some a.value) None) (attr_of e.attrs k)
      at true true h = attr_of-with_attr a e.attrs k ∙ one (same_bytes a.key k)
      at true false h = absurd cc
      at false true h = absurd cc
      at false false h = refl

  step_attr : (k : List ℕ) (c : Change) (e : Entry) → e.name ≡ own → attr_of (edited old all new c e).attrs k ≡ or_else (given_to p k c) (attr_of e.attrs k)
  step_attr k (Delete q) e n = refl
  step_attr k (Rename q r) e n = refl
  step_attr k (AddDir q) e n = refl
  step_attr k (AddFile q c) e n = refl
  step_attr k (Patch q a b) e n = at (is_at old all new e.name q)
    where
      at : (t : Bool) → attr_of (cond t (record e { body = File b }) e).attrs k ≡ attr_of e.attrs k
      at true = refl
      at false = refl
  step_attr k (Clear q key) e n = with_one q (record { key = key; value = None }) k e n
  step_attr k (Set q key v) e n = with_one q (record { key = key; value = Some v }) k e n

  body_by : (cs : List Change) (e : Entry) → e.name ≡ own → (edited_by old all new cs e).body ≡ option_map_or File (last_given (patched_to p) cs) e.body
  body_by [] e n = refl
  body_by (c ∷ cs) e n =
      body_by cs (edited old all new c e) (edited-name old all new c e ∙ n)
      ∙ ap (option_map_or File (last_given (patched_to p) cs)) (step_body c e n)
      ∙ two (last_given (patched_to p) cs) (patched_to p c) e.body
    where
      two : (a b : Option Id) (y : Body) → option_map_or File a (option_map_or File b y) ≡ option_map_or File (or_else a b) y
      two None b y = refl
      two (Some i) b y = refl

  attr_by : (k : List ℕ) (cs : List Change) (e : Entry) → e.name ≡ own → attr_of (edited_by old all new cs e).attrs k ≡ or_else (last_given (given_to p k) cs) (attr_of e.attrs k)
  attr_by k [] e n = refl
  attr_by k (c ∷ cs) e n =
      attr_by k cs (edited old all new c e) (edited-name old all new c e ∙ n)
      ∙ ap (or_else (last_given (given_to p k) cs)) (step_attr k c e n)
      ∙ two (last_given (given_to p k) cs) (given_to p k c) (attr_of e.attrs k)
    where
      two : (a b y : Option (Option (List ℕ))) → or_else a (or_else b y) ≡ or_else (or_else a b) y
      two None b y = refl
      two (Some i) b y = refl

  -- what a change that gives something is
  patch_is : (d : Change) (w : Id) → patched_to p d ≡ Some w → (from : Id) × (d ≡ Patch p from w)
  patch_is (Delete q) w h = absurd cc
  patch_is (Rename q r) w h = absurd cc
  patch_is (AddDir q) w h = absurd cc
  patch_is (AddFile q c) w h = absurd cc
  patch_is (Patch q a b) w h = by (same_path q p) refl h
    where
      by : (t : Bool) → same_path q p ≡ t → cond t (Some b) None ≡ Some w → (from : Id) × (Patch q a b ≡ Patch p from w)
      by true e g = let to : b ≡ w = cc in let path = same_path-is q p e in (a, λ i. Patch (path i) a (to i))
      by false e g = absurd cc
  patch_is (Clear q k) w h = absurd cc
  patch_is (Set q k v) w h = absurd cc

  given_is : (k : List ℕ) (d : Change) (w : Option (List ℕ)) → given_to p k d ≡ Some w → (d ≡ Clear p k) ⊎ ((v : List ℕ) × (d ≡ Set p k v))
  given_is k (Delete q) w h = absurd cc
  given_is k (Rename q r) w h = absurd cc
  given_is k (AddDir q) w h = absurd cc
  given_is k (AddFile q c) w h = absurd cc
  given_is k (Patch q a b) w h = absurd cc
  given_is k (Clear q key) w h = by (same_path q p && same_bytes key k) refl h
    where
      by : (t : Bool) → (same_path q p && same_bytes key k) ≡ t → cond t (Some None) None ≡ Some w → (Clear q key ≡ Clear p k) ⊎ ((v : List ℕ) × (Clear q key ≡ Set p k v))
      by true e g = inl (λ i. Clear (same_path-is q p (first_so _ _ e) i) (same_bytes-is key k (second_so (same_path q p) _ e) i))
      by false e g = absurd cc
  given_is k (Set q key v) w h = by (same_path q p && same_bytes key k) refl h
    where
      by : (t : Bool) → (same_path q p && same_bytes key k) ≡ t → cond t (Some (Some v)) None ≡ Some w → (Set q key v ≡ Clear p k) ⊎ ((u : List ℕ) × (Set q key v ≡ Set p k u))
      by true e g = inr (v, λ i. Set (same_path-is q p (first_so _ _ e) i) (same_bytes-is key k (second_so (same_path q p) _ e) i) v)
      by false e g = absurd cc

  -- changes of one target are one
  abbrev patch_target : Target
  patch_target = record { kind = 5; path = p; key = [] }

  abbrev key_target : List ℕ → Target
  key_target k = record { kind = 6; path = p; key = k }

  of_target : (s : Target) (d : Change) → target_of d ≡ s → at s d ≡ true
  of_target s d h = ap (λ t. is_eq (target_cmp t s)) h ∙ ap is_eq (tied_itself target_total s)

  given_target : (k : List ℕ) (d : Change) (w : Option (List ℕ)) → given_to p k d ≡ Some w → target_of d ≡ key_target k
  given_target k d w h = ⊎_elim (λ e. ap target_of e) (λ r. ap target_of r.1) (given_is k d w h)

  -- the entry of the occupant before its edits
  abbrev start_of : Occupant → Entry
  start_of (Old e) = record e { slot = hangs_at old o all new (Old e) }
  start_of (Added q body) = record { name = record { birth = new; path = q }; slot = slot_up old all new (reverse q); body = body; attrs = [] }

  entry_is : (y : Occupant) → entry_after old all new o once ok unborn y ≡ edited_by old all new all (start_of y)
  entry_is (Old e) = refl
  entry_is (Added q body) = refl

  start_name : (y : Occupant) → (start_of y).name ≡ occupant_name new y
  start_name (Old e) = refl
  start_name (Added q body) = refl

  start_body : (y : Occupant) → (start_of y).body ≡ occupant_body y
  start_body (Old e) = refl
  start_body (Added q body) = refl

  start_attrs : (y : Occupant) → (start_of y).attrs ≡ occupant_attrs y
  start_attrs (Old e) = refl
  start_attrs (Added q body) = refl

  module _ (lawful : AreUnsorted all) where
    body_now : (entry_after old all new o once ok unborn x).body ≡ option_map_or File (last_given (patched_to p) all) (occupant_body x)
    body_now = ap (λ (e : Entry). e.body) (entry_is x) ∙ body_by all (start_of x) (start_name x) ∙ ap (option_map_or File (last_given (patched_to p) all)) (start_body x)

    attr_now : (k : List ℕ) → attr_of (entry_after old all new o once ok unborn x).attrs k ≡ or_else (last_given (given_to p k) all) (attr_of (occupant_attrs x) k)
    attr_now k = ap (λ (e : Entry). attr_of e.attrs k) (entry_is x) ∙ attr_by k all (start_of x) (start_name x) ∙ ap (λ as'. or_else (last_given (given_to p k) all) (attr_of as' k)) (start_attrs x)

    key_given : (k : List ℕ) (c : Change) (v : Option (List ℕ)) → Split all c → given_to p k c ≡ Some v → attr_of (entry_after old all new o once ok unborn x).attrs k ≡ Some v
    key_given k c v s e = attr_now k ∙ ap (λ g. or_else g (attr_of (occupant_attrs x) k)) (one_given (given_to p k) all c v s e (λ d w u g.
        one_change (key_target k) all d c u s (of_target (key_target k) d (given_target k d w g)) (of_target (key_target k) c (given_target k c v e)) (lawful.apart (key_target k))))

    self_key : (k : List ℕ) → (same_path p p && same_bytes k k) ≡ true
    self_key k = both_true _ _ (same_path-self p) (same_bytes-self k)

    pub edits : IsEditedOf all p x (entry_after old all new o once ok unborn x)
    edits = record {
      patched = λ from to c.
          let s = split_of_contains all (Patch p from to) c in
          let e : patched_to p (Patch p from to) ≡ Some to = ap (λ t. cond t (Some to) None) (same_path-self p) in
          body_now ∙ ap (λ g. option_map_or File g (occupant_body x)) (one_given (patched_to p) all (Patch p from to) to s e (λ d w u g.
          one_change patch_target all d (Patch p from to) u s (of_target patch_target d (ap target_of (patch_is d w g).1)) (of_target patch_target (Patch p from to) refl) (lawful.apart patch_target)));
      unpatched = λ unless. body_now ∙ ap (λ g. option_map_or File g (occupant_body x)) (nothing_given (patched_to p) all (λ d w u g.
          let i = patch_is d w g in unless i.0 w (subst (Contains all) i.1 (contains_of all d u))));
      set = λ k v c. key_given k (Set p k v) (Some v) (split_of_contains all (Set p k v) c) (ap (λ t. cond t (Some (Some v)) None) (self_key k));
      cleared = λ k c. key_given k (Clear p k) None (split_of_contains all (Clear p k) c) (ap (λ t. cond t (Some None) None) (self_key k));
      untouched = λ k no_set no_clear. attr_now k ∙ ap (λ g. or_else g (attr_of (occupant_attrs x) k)) (nothing_given (given_to p k) all (λ d w u g. ⊎_elim
          (λ e. no_clear (subst (Contains all) e (contains_of all d u)))
          (λ r. no_set r.0 (subst (Contains all) r.1 (contains_of all d u)))
          (given_is k d w g)));
    }

pub after_edits : (old : Tree) (all : List Change) (new : Id) → IsOldTree old → AreUnsorted all → NoneBornIn old new → first_fault old all ≡ None →
    (p : List (List ℕ)) (x : Occupant) (e : Entry) → occupant old all p ≡ Some x → node_at (tree_after old all new) p ≡ Some e → IsEditedOf all p x e
after_edits old all new before lawful unborn fine p x e here there =
    let once = renames_differ all lawful in
    let o = forest_before old before in
    let ok = passes old all fine in
    let f = forest_of (tree_after old all new) (after_is_sane old all new before once unborn fine) in
    let is : entry_after old all new o (once_of all once) ok unborn x ≡ e = same_some (node_of old all new o (once_of all once) ok unborn f (reverse p) x here) there in
    subst (IsEditedOf all p x) is (edits old all new o (once_of all once) ok unborn f p x here lawful)

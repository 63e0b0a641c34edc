-- What stands in a canonical changeset: each change for its node, and one for each node that it takes.
use Rattle.std.specs.Prelude.{◌&&◌, is_none, is_some, filter_map, find, option_map, option_and_then}
use Rattle.std.specs.List.{flat_map}
use Rattle.std.specs.Option.{option_map_or}
use Rattle.std.proofs.Common.{◌≡◌, ℕ, Bool, true, false, cond, List, [], ◌∷◌, ◌++◌, Option, Some, None, refl, sym, ◌∙◌, ap, subst, inl, inr}
use Rattle.mtn_base.specs.Names.{path_cmp, same_bytes, same_id}
use Rattle.mtn_base.specs.declared.id.Id.{Id}
use Rattle.mtn_changes.specs.declared.change.Change.{Change}
use Rattle.mtn_changes.specs.declared.change.Change.TheVariants.{Delete, Rename, AddDir, AddFile, Patch, Clear, Set}
use Rattle.mtn_roster.specs.declared.entry.Attr.{Attr}
use Rattle.mtn_roster.specs.declared.entry.Body.{Body}
use Rattle.mtn_roster.specs.declared.entry.Body.TheVariants.{Dir, File}
use Rattle.mtn_roster.specs.declared.entry.Entry.{Entry}
use Rattle.mtn_roster.specs.Attrs.{are_keyed}
use Rattle.mtn_base.specs.Lists.{is_some_with}
use Rattle.mtn_roster.specs.Tree.{Tree, entry_of, is_dir, is_dir_body, live_of, path_of, same_slot, IsSane}
use Rattle.mtn_roster.specs.Walk.{by_path}
use Rattle.mtn_base.proofs.Finding.{Split, later, found}
use Rattle.mtn_base.proofs.Members.{head, of_append, in_left, in_right, of_filter_map, in_filter_map}
use Rattle.mtn_base.proofs.Tests.{same_bytes-is}
use Rattle.mtn_base.proofs.Orders.{paths_total}
use Rattle.mtn_roster.proofs.Forest.{own}
use Rattle.mtn_roster.proofs.Ordered.{forest_of}
use Rattle.mtn_base.proofs.Sorting.{no_split, of_ordered}
use Rattle.mtn_roster.proofs.Keyed.{own_key}
use Rattle.mtn_roster.proofs.Along.{met, keyed}
use Rattle.mtn_between.specs.Between.{content_of, attrs_before, deleting, renaming, renaming_to, adding_dir, adding_file, patching, patching_to, clearing, clearing_key, setting, setting_key, setting_to, between}

module _ {X Y : Type 0} (h : X → List Y) where
  pub of_flat_map : (xs : List X) (y : Y) → Split (flat_map h xs) y → (x : X) × Split xs x × Split (h x) y
  of_flat_map [] y s = absurd (no_split y s)
  of_flat_map (x ∷ xs) y s = elim (of_append (h x) (flat_map h xs) y s) [
    | inl a ↦ (x, head x xs, a)
    | inr b ↦ let r = of_flat_map xs y b in (r.0, later x xs r.0 r.1, r.2)
  ]

  pub in_flat_map : (xs : List X) (x : X) (y : Y) → Split xs x → Split (h x) y → Split (flat_map h xs) y
  in_flat_map xs x y s t = subst (λ l. Split (flat_map h l) y) (sym s.is) (go s.before)
    where
      go : (before : List X) → Split (flat_map h (before ++ x ∷ s.rest)) y
      go [] = in_left (h x) (flat_map h s.rest) y t
      go (b ∷ before) = in_right (h b) (flat_map h (before ++ x ∷ s.rest)) y (go before)

-- an attribute is live by its own value
pub live_own : (attrs : List Attr) → are_keyed attrs ≡ true → (a : Attr) → Split attrs a → live_of attrs a.key ≡ a.value
live_own attrs h a s = ap (λ o. option_and_then (λ v. v) (option_map (λ (b : Attr). b.value) o)) (own_key attrs h a s)

-- what is live is so by an attribute
pub live_at : (attrs : List Attr) (k v : List ℕ) → live_of attrs k ≡ Some v → (a : Attr) × Split attrs a × (a.key ≡ k) × (a.value ≡ Some v)
live_at attrs k v h = at (find (λ (a : Attr). same_bytes a.key k) attrs) refl h
  where
    at : (o : Option Attr) → find (λ (a : Attr). same_bytes a.key k) attrs ≡ o → option_and_then (λ v. v) (option_map (λ (a : Attr). a.value) o) ≡ Some v →
        (a : Attr) × Split attrs a × (a.key ≡ k) × (a.value ≡ Some v)
    at None e g = absurd cc
    at (Some a) e g = let f = found (λ (a : Attr). same_bytes a.key k) attrs a e in (a, f.at, same_bytes-is a.key k f.passes, g)

-- the entries along a walk are those of the tree
pub held_in : (t : Tree) → IsSane t → (e : Entry) → Split (by_path t) e → entry_of t e.name ≡ Some e
held_in t sane e s = (forest_of t sane).distinct e (of_ordered path_cmp (path_of t) paths_total t e s)

module _ (old new : Tree) where
  pub record IsDelete (p : List (List ℕ)) : Type 0 where
    pub e : Entry
    pub here : entry_of old e.name ≡ Some e
    pub gone : entry_of new e.name ≡ None
    pub path : path_of old e ≡ p

  pub record IsRename (p q : List (List ℕ)) : Type 0 where
    pub e : Entry
    pub f : Entry
    pub here : entry_of old e.name ≡ Some e
    pub there : entry_of new e.name ≡ Some f
    pub moved : same_slot e.slot f.slot ≡ false
    pub from : path_of old e ≡ p
    pub to : path_of new f ≡ q

  pub record IsAdd (p : List (List ℕ)) (body : Body) : Type 0 where
    pub f : Entry
    pub here : entry_of new f.name ≡ Some f
    pub fresh : entry_of old f.name ≡ None
    pub is : f.body ≡ body
    pub path : path_of new f ≡ p

  pub record IsPatch (p : List (List ℕ)) (a b : Id) : Type 0 where
    pub e : Entry
    pub f : Entry
    pub here : entry_of new f.name ≡ Some f
    pub was : entry_of old f.name ≡ Some e
    pub from : e.body ≡ File a
    pub to : f.body ≡ File b
    pub differ : same_id a b ≡ false
    pub path : path_of new f ≡ p

  pub record IsClear (p : List (List ℕ)) (k : List ℕ) : Type 0 where
    pub e : Entry
    pub f : Entry
    pub here : entry_of new f.name ≡ Some f
    pub was : entry_of old f.name ≡ Some e
    pub value : List ℕ
    pub live : live_of e.attrs k ≡ Some value
    pub gone : live_of f.attrs k ≡ None
    pub path : path_of new f ≡ p

  pub record IsSet (p : List (List ℕ)) (k v : List ℕ) : Type 0 where
    pub f : Entry
    pub here : entry_of new f.name ≡ Some f
    pub live : live_of f.attrs k ≡ Some v
    pub other : is_some_with (same_bytes v) (live_of (attrs_before old f) k) ≡ false
    pub path : path_of new f ≡ p

  abbrev pub IsOne : Change → Type 0
  IsOne (Delete p) = IsDelete p
  IsOne (Rename p q) = IsRename p q
  IsOne (AddDir p) = IsAdd p Dir
  IsOne (AddFile p content) = IsAdd p (File content)
  IsOne (Patch p a b) = IsPatch p a b
  IsOne (Clear p k) = IsClear p k
  IsOne (Set p k v) = IsSet p k v

  -- what each part gives of a node
  by_delete : (e : Entry) (c : Change) → entry_of old e.name ≡ Some e → deleting old new e ≡ Some c → IsOne c
  by_delete e c here h = at (entry_of new e.name) refl h
    where
      at : (o : Option Entry) → entry_of new e.name ≡ o → cond (is_none o) (Some (Delete (path_of old e))) None ≡ Some c → IsOne c
      at None g k = let is : Delete (path_of old e) ≡ c = cc in subst IsOne is (record { e = e; here = here; gone = g; path = refl })
      at (Some f) g k = absurd cc

  by_rename : (e : Entry) (c : Change) → entry_of old e.name ≡ Some e → renaming old new e ≡ Some c → IsOne c
  by_rename e c here h = at (entry_of new e.name) refl h
    where
      by_slot : (f : Entry) → entry_of new e.name ≡ Some f → (b : Bool) → same_slot e.slot f.slot ≡ b → cond b None (Some (Rename (path_of old e) (path_of new f))) ≡ Some c → IsOne c
      by_slot f g true m k = absurd cc
      by_slot f g false m k =
          let is : Rename (path_of old e) (path_of new f) ≡ c = cc in
          subst IsOne is (record { e = e; f = f; here = here; there = g; moved = m; from = refl; to = refl })

      at : (o : Option Entry) → entry_of new e.name ≡ o → option_and_then (renaming_to old new e) o ≡ Some c → IsOne c
      at None g k = absurd cc
      at (Some f) g k = by_slot f g (same_slot e.slot f.slot) refl k

  dir_of : (b : Body) → is_dir_body b ≡ true → b ≡ Dir
  dir_of Dir h = refl
  dir_of (File content) h = absurd cc

  by_dir : (f : Entry) (c : Change) → entry_of new f.name ≡ Some f → adding_dir old new f ≡ Some c → IsOne c
  by_dir f c here h = at (entry_of old f.name) (is_dir f) refl refl h
    where
      at : (o : Option Entry) (b : Bool) → entry_of old f.name ≡ o → is_dir f ≡ b → cond (is_none o && b) (Some (AddDir (path_of new f))) None ≡ Some c → IsOne c
      at None true g d k = let is : AddDir (path_of new f) ≡ c = cc in subst IsOne is (record { f = f; here = here; fresh = g; is = dir_of f.body d; path = refl })
      at None false g d k = absurd cc
      at (Some e) b g d k = absurd cc

  by_file : (f : Entry) (c : Change) → entry_of new f.name ≡ Some f → adding_file old new f ≡ Some c → IsOne c
  by_file f c here h = at (entry_of old f.name) f.body refl refl h
    where
      at : (o : Option Entry) (b : Body) → entry_of old f.name ≡ o → f.body ≡ b → cond (is_none o) (option_map (AddFile (path_of new f)) (content_of b)) None ≡ Some c → IsOne c
      at None Dir g d k = absurd cc
      at None (File content) g d k = let is : AddFile (path_of new f) content ≡ c = cc in subst IsOne is (record { f = f; here = here; fresh = g; is = d; path = refl })
      at (Some e) b g d k = absurd cc

  by_patch : (f : Entry) (c : Change) → entry_of new f.name ≡ Some f → patching old new f ≡ Some c → IsOne c
  by_patch f c here h = at (entry_of old f.name) refl h
    where
      by_ids : (e : Entry) (a b : Id) → entry_of old f.name ≡ Some e → e.body ≡ File a → f.body ≡ File b → (t : Bool) → same_id a b ≡ t →
          cond t None (Some (Patch (path_of new f) a b)) ≡ Some c → IsOne c
      by_ids e a b g x y true m k = absurd cc
      by_ids e a b g x y false m k =
          let is : Patch (path_of new f) a b ≡ c = cc in
          subst IsOne is (record { e = e; f = f; here = here; was = g; from = x; to = y; differ = m; path = refl })

      by_bodies : (e : Entry) (x y : Body) → entry_of old f.name ≡ Some e → e.body ≡ x → f.body ≡ y → patching_to (path_of new f) (content_of x) (content_of y) ≡ Some c → IsOne c
      by_bodies e Dir y g d m k = absurd cc
      by_bodies e (File a) Dir g d m k = absurd cc
      by_bodies e (File a) (File b) g d m k = by_ids e a b g d m (same_id a b) refl k

      at : (o : Option Entry) → entry_of old f.name ≡ o → option_and_then (λ (e : Entry). patching_to (path_of new f) (content_of e.body) (content_of f.body)) o ≡ Some c → IsOne c
      at None g k = absurd cc
      at (Some e) g k = by_bodies e e.body f.body g refl refl k

module _ (old new : Tree) (so : IsSane old) (sn : IsSane new) where
  abbrev One : Change → Type 0
  One = IsOne old new

  by_clear : (f : Entry) (c : Change) → entry_of new f.name ≡ Some f → Split (clearing old new f) c → One c
  by_clear f c here s = at (entry_of old f.name) refl s
    where
      by_value : (e : Entry) (a : Attr) → entry_of old f.name ≡ Some e → Split e.attrs a → (o live : Option (List ℕ)) → a.value ≡ o → live_of f.attrs a.key ≡ live →
          cond (is_some o && is_none live) (Some (Clear (path_of new f) a.key)) None ≡ Some c → One c
      by_value e a g u None live v l k = absurd cc
      by_value e a g u (Some w) (Some z) v l k = absurd cc
      by_value e a g u (Some w) None v l k =
          let is : Clear (path_of new f) a.key ≡ c = cc in
          subst One is (record { e = e; f = f; here = here; was = g; value = w; live = live_own e.attrs (keyed old so e (own old f.name e g)) a u ∙ v; gone = l; path = refl })

      at : (o : Option Entry) → entry_of old f.name ≡ o → Split (filter_map (clearing_key (path_of new f) f.attrs) (option_map_or (λ (e : Entry). e.attrs) o [])) c → One c
      at None g u = absurd (no_split c u)
      at (Some e) g u =
          let r = of_filter_map (clearing_key (path_of new f) f.attrs) e.attrs c u in
          by_value e r.0 g r.1 r.0.value (live_of f.attrs r.0.key) refl refl r.2

  by_set : (f : Entry) (c : Change) → entry_of new f.name ≡ Some f → Split (setting old new f) c → One c
  by_set f c here s =
      let r = of_filter_map (setting_key (path_of new f) (attrs_before old f)) f.attrs c s in
      at r.0 r.1 r.0.value refl r.2
    where
      by_test : (a : Attr) (v : List ℕ) → Split f.attrs a → a.value ≡ Some v → (b : Bool) → is_some_with (same_bytes v) (live_of (attrs_before old f) a.key) ≡ b →
          cond b None (Some (Set (path_of new f) a.key v)) ≡ Some c → One c
      by_test a v u w true m k = absurd cc
      by_test a v u w false m k =
          let is : Set (path_of new f) a.key v ≡ c = cc in
          subst One is (record { f = f; here = here; live = live_own f.attrs (keyed new sn f here) a u ∙ w; other = m; path = refl })

      at : (a : Attr) → Split f.attrs a → (o : Option (List ℕ)) → a.value ≡ o → option_and_then (setting_to (path_of new f) (attrs_before old f) a.key) o ≡ Some c → One c
      at a u None w k = absurd cc
      at a u (Some v) w k = by_test a v u w (is_some_with (same_bytes v) (live_of (attrs_before old f) a.key)) refl k

  abbrev deletes : List Change
  deletes = filter_map (deleting old new) (by_path old)

  abbrev renames : List Change
  renames = filter_map (renaming old new) (by_path old)

  abbrev dirs : List Change
  dirs = filter_map (adding_dir old new) (by_path new)

  abbrev files : List Change
  files = filter_map (adding_file old new) (by_path new)

  abbrev patches : List Change
  patches = filter_map (patching old new) (by_path new)

  abbrev clears : List Change
  clears = flat_map (clearing old new) (by_path new)

  abbrev sets : List Change
  sets = flat_map (setting old new) (by_path new)

  pub each_is : (c : Change) → Split (between old new) c → One c
  each_is c s = elim (of_append (deletes ++ renames ++ dirs ++ files ++ patches ++ clears) sets c s) [
    | inr u ↦ let r = of_flat_map (setting old new) (by_path new) c u in by_set r.0 c (held_in new sn r.0 r.1) r.2
    | inl t ↦ elim (of_append (deletes ++ renames ++ dirs ++ files ++ patches) clears c t) [
      | inr u ↦ let r = of_flat_map (clearing old new) (by_path new) c u in by_clear r.0 c (held_in new sn r.0 r.1) r.2
      | inl t ↦ elim (of_append (deletes ++ renames ++ dirs ++ files) patches c t) [
        | inr u ↦ let r = of_filter_map (patching old new) (by_path new) c u in by_patch old new r.0 c (held_in new sn r.0 r.1) r.2
        | inl t ↦ elim (of_append (deletes ++ renames ++ dirs) files c t) [
          | inr u ↦ let r = of_filter_map (adding_file old new) (by_path new) c u in by_file old new r.0 c (held_in new sn r.0 r.1) r.2
          | inl t ↦ elim (of_append (deletes ++ renames) dirs c t) [
            | inr u ↦ let r = of_filter_map (adding_dir old new) (by_path new) c u in by_dir old new r.0 c (held_in new sn r.0 r.1) r.2
            | inl t ↦ elim (of_append deletes renames c t) [
              | inr u ↦ let r = of_filter_map (renaming old new) (by_path old) c u in by_rename old new r.0 c (held_in old so r.0 r.1) r.2
              | inl u ↦ let r = of_filter_map (deleting old new) (by_path old) c u in by_delete old new r.0 c (held_in old so r.0 r.1) r.2
            ]
          ]
        ]
      ]
    ]
  ]

  -- and one stands there for each
  has_delete : (p : List (List ℕ)) → IsDelete old new p → Split deletes (Delete p)
  has_delete p r = in_filter_map (deleting old new) (by_path old) r.e (Delete p) (met old so r.e r.here)
      (ap (λ o. cond (is_none o) (Some (Delete (path_of old r.e))) None) r.gone ∙ ap (λ q. Some (Delete q)) r.path)

  has_rename : (p q : List (List ℕ)) → IsRename old new p q → Split renames (Rename p q)
  has_rename p q r = in_filter_map (renaming old new) (by_path old) r.e (Rename p q) (met old so r.e r.here)
      (ap (option_and_then (renaming_to old new r.e)) r.there
      ∙ ap (λ b. cond b None (Some (Rename (path_of old r.e) (path_of new r.f)))) r.moved
      ∙ (λ i. Some (Rename (r.from i) (r.to i))))

  has_dir : (p : List (List ℕ)) → IsAdd old new p Dir → Split dirs (AddDir p)
  has_dir p r = in_filter_map (adding_dir old new) (by_path new) r.f (AddDir p) (met new sn r.f r.here)
      (ap (λ o. cond (is_none o && is_dir r.f) (Some (AddDir (path_of new r.f))) None) r.fresh
      ∙ ap (λ b. cond (is_dir_body b) (Some (AddDir (path_of new r.f))) None) r.is
      ∙ ap (λ q. Some (AddDir q)) r.path)

  has_file : (p : List (List ℕ)) (content : Id) → IsAdd old new p (File content) → Split files (AddFile p content)
  has_file p content r = in_filter_map (adding_file old new) (by_path new) r.f (AddFile p content) (met new sn r.f r.here)
      (ap (λ o. cond (is_none o) (option_map (AddFile (path_of new r.f)) (content_of r.f.body)) None) r.fresh
      ∙ ap (λ b. option_map (AddFile (path_of new r.f)) (content_of b)) r.is
      ∙ ap (λ q. Some (AddFile q content)) r.path)

  has_patch : (p : List (List ℕ)) (a b : Id) → IsPatch old new p a b → Split patches (Patch p a b)
  has_patch p a b r = in_filter_map (patching old new) (by_path new) r.f (Patch p a b) (met new sn r.f r.here)
      (ap (option_and_then (λ (e : Entry). patching_to (path_of new r.f) (content_of e.body) (content_of r.f.body))) r.was
      ∙ (λ i. patching_to (path_of new r.f) (content_of (r.from i)) (content_of (r.to i)))
      ∙ ap (λ t. cond t None (Some (Patch (path_of new r.f) a b))) r.differ
      ∙ ap (λ q. Some (Patch q a b)) r.path)

  has_clear : (p : List (List ℕ)) (k : List ℕ) → IsClear old new p k → Split clears (Clear p k)
  has_clear p k r =
      let a = live_at r.e.attrs k r.value r.live in
      in_flat_map (clearing old new) (by_path new) r.f (Clear p k) (met new sn r.f r.here)
      (subst (λ o. Split (filter_map (clearing_key (path_of new r.f) r.f.attrs) (option_map_or (λ (e : Entry). e.attrs) o [])) (Clear p k)) (sym r.was)
      (in_filter_map (clearing_key (path_of new r.f) r.f.attrs) r.e.attrs a.0 (Clear p k) a.1
      (ap (λ o. cond (is_some o && is_none (live_of r.f.attrs a.0.key)) (Some (Clear (path_of new r.f) a.0.key)) None) a.3
      ∙ ap (λ q. cond (is_none (live_of r.f.attrs q)) (Some (Clear (path_of new r.f) q)) None) a.2
      ∙ ap (λ o. cond (is_none o) (Some (Clear (path_of new r.f) k)) None) r.gone
      ∙ ap (λ q. Some (Clear q k)) r.path)))

  has_set : (p : List (List ℕ)) (k v : List ℕ) → IsSet old new p k v → Split sets (Set p k v)
  has_set p k v r =
      let a = live_at r.f.attrs k v r.live in
      in_flat_map (setting old new) (by_path new) r.f (Set p k v) (met new sn r.f r.here)
      (in_filter_map (setting_key (path_of new r.f) (attrs_before old r.f)) r.f.attrs a.0 (Set p k v) a.1
      (ap (option_and_then (setting_to (path_of new r.f) (attrs_before old r.f) a.0.key)) a.3
      ∙ ap (λ q. setting_to (path_of new r.f) (attrs_before old r.f) q v) a.2
      ∙ ap (λ t. cond t None (Some (Set (path_of new r.f) k v))) r.other
      ∙ ap (λ q. Some (Set q k v)) r.path))

  pub each_in : (c : Change) → One c → Split (between old new) c
  each_in (Delete p) r =
      in_left (deletes ++ renames ++ dirs ++ files ++ patches ++ clears) sets _ (in_left (deletes ++ renames ++ dirs ++ files ++ patches) clears _ (in_left (deletes ++ renames ++ dirs ++ files) patches _
      (in_left (deletes ++ renames ++ dirs) files _ (in_left (deletes ++ renames) dirs _ (in_left deletes renames _ (has_delete p r))))))
  each_in (Rename p q) r =
      in_left (deletes ++ renames ++ dirs ++ files ++ patches ++ clears) sets _ (in_left (deletes ++ renames ++ dirs ++ files ++ patches) clears _ (in_left (deletes ++ renames ++ dirs ++ files) patches _
      (in_left (deletes ++ renames ++ dirs) files _ (in_left (deletes ++ renames) dirs _ (in_right deletes renames _ (has_rename p q r))))))
  each_in (AddDir p) r =
      in_left (deletes ++ renames ++ dirs ++ files ++ patches ++ clears) sets _ (in_left (deletes ++ renames ++ dirs ++ files ++ patches) clears _ (in_left (deletes ++ renames ++ dirs ++ files) patches _
      (in_left (deletes ++ renames ++ dirs) files _ (in_right (deletes ++ renames) dirs _ (has_dir p r)))))
  each_in (AddFile p content) r =
      in_left (deletes ++ renames ++ dirs ++ files ++ patches ++ clears) sets _ (in_left (deletes ++ renames ++ dirs ++ files ++ patches) clears _ (in_left (deletes ++ renames ++ dirs ++ files) patches _
      (in_right (deletes ++ renames ++ dirs) files _ (has_file p content r))))
  each_in (Patch p a b) r =
      in_left (deletes ++ renames ++ dirs ++ files ++ patches ++ clears) sets _ (in_left (deletes ++ renames ++ dirs ++ files ++ patches) clears _ (in_right (deletes ++ renames ++ dirs ++ files) patches _ (has_patch p a b r)))
  each_in (Clear p k) r =
      in_left (deletes ++ renames ++ dirs ++ files ++ patches ++ clears) sets _ (in_right (deletes ++ renames ++ dirs ++ files ++ patches) clears _ (has_clear p k r))
  each_in (Set p k v) r = in_right (deletes ++ renames ++ dirs ++ files ++ patches ++ clears) sets _ (has_set p k v r)

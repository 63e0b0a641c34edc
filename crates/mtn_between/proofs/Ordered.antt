-- A canonical changeset stands in the order in which it is written.
use Rattle.std.specs.Prelude.{◌&&◌, map, filter_map, is_none, is_some, option_map, option_and_then}
use Rattle.std.specs.List.{flat_map}
use Rattle.std.specs.Option.{option_map_or}
use Rattle.std.specs.declared.cmp.Ordering.TheVariants.{Less, Equal}
use Rattle.std.specs.Ordering.{nat_cmp, ordering_then}
use Rattle.std.specs.Cmp.{tied_itself}
use Rattle.std.proofs.Common.{◌≡◌, ℕ, Bool, true, false, cond, List, [], ◌++◌, Option, Some, None, refl, sym, ◌∙◌, ap, inl, inr}
use Rattle.mtn_base.specs.Names.{bytes_cmp, path_cmp, same_bytes, same_id}
use Rattle.mtn_base.specs.declared.id.Id.{Id}
use Rattle.mtn_changes.specs.declared.change.Change.{Change}
use Rattle.mtn_changes.specs.declared.change.Change.TheVariants.{Delete, Rename, AddDir, AddFile, Patch, Clear, Set}
use Rattle.mtn_changes.specs.declared.target.Target.{Target}
use Rattle.mtn_changes.specs.Targets.{target_cmp}
use Rattle.mtn_changes.specs.Sorting.{place_of}
use Rattle.mtn_roster.specs.declared.entry.Attr.{Attr}
use Rattle.mtn_roster.specs.declared.entry.Entry.{Entry}
use Rattle.mtn_roster.specs.Attrs.{are_keyed}
use Rattle.mtn_base.specs.Lists.{is_some_with, rises}
use Rattle.mtn_roster.specs.Tree.{Tree, entry_of, is_dir, live_of, path_of, same_slot, IsSane}
use Rattle.mtn_roster.specs.Walk.{by_path}
use Rattle.mtn_base.proofs.Finding.{Split}
use Rattle.mtn_base.proofs.Members.{of_append, of_filter_map}
use Rattle.mtn_roster.proofs.Forest.{own}
use Rattle.mtn_base.proofs.Orders.{paths_total}
use Rattle.mtn_base.proofs.Sorting.{ordered-rises}
use Rattle.mtn_roster.proofs.Along.{keyed}
use Rattle.mtn_between.specs.Between.{content_of, attrs_before, deleting, renaming, renaming_to, adding_dir, adding_file, patching, patching_to, clearing, clearing_key, setting, setting_key, setting_to, between}
use Rattle.mtn_between.proofs.Standing.{of_flat_map, held_in}
use Rattle.mtn_between.proofs.Rising.{rises_append, rises_flat, rises_filter}

-- a place in the order
abbrev at : ℕ → List (List ℕ) → List ℕ → Target
at r p k = record { kind = r; path = p; key = k }

-- by paths, where the kinds are one
by_paths : (r : ℕ) (p q : List (List ℕ)) (k l : List ℕ) → nat_cmp r r ≡ Equal → path_cmp p q ≡ Less → target_cmp (at r p k) (at r q l) ≡ Less
by_paths r p q k l e h = ap (λ o. ordering_then o (ordering_then (path_cmp p q) (bytes_cmp k l))) e ∙ ap (λ o. ordering_then o (bytes_cmp k l)) h

-- by keys, where the paths are one
by_keys : (r : ℕ) (p : List (List ℕ)) (k l : List ℕ) → nat_cmp r r ≡ Equal → bytes_cmp k l ≡ Less → target_cmp (at r p k) (at r p l) ≡ Less
by_keys r p k l e h =
    ap (λ o. ordering_then o (ordering_then (path_cmp p p) (bytes_cmp k l))) e
    ∙ ap (λ o. ordering_then o (bytes_cmp k l)) (tied_itself paths_total p) ∙ h

-- by kinds
by_kinds : (r n : ℕ) (s t : Target) → s.kind ≡ r → t.kind ≡ n → nat_cmp r n ≡ Less → target_cmp s t ≡ Less
by_kinds r n s t e g h = ap (λ o. ordering_then o (ordering_then (path_cmp s.path t.path) (bytes_cmp s.key t.key))) ((λ i. nat_cmp (e i) (g i)) ∙ h)

module _ (old new : Tree) where
  -- where the change of a node stands
  place_delete : (e : Entry) (c : Change) → deleting old new e ≡ Some c → place_of c ≡ at 1 (path_of old e) []
  place_delete e c h = by (is_none (entry_of new e.name)) h
    where
      by : (b : Bool) → cond b (Some (Delete (path_of old e))) None ≡ Some c → place_of c ≡ at 1 (path_of old e) []
      by true k = let is : Delete (path_of old e) ≡ c = cc in ap place_of (sym is)
      by false k = absurd cc

  place_rename : (e : Entry) (c : Change) → renaming old new e ≡ Some c → place_of c ≡ at 2 (path_of old e) []
  place_rename e c h = by (entry_of new e.name) h
    where
      by_slot : (f : Entry) (b : Bool) → cond b None (Some (Rename (path_of old e) (path_of new f))) ≡ Some c → place_of c ≡ at 2 (path_of old e) []
      by_slot f true k = absurd cc
      by_slot f false k = let is : Rename (path_of old e) (path_of new f) ≡ c = cc in ap place_of (sym is)

      by : (o : Option Entry) → option_and_then (renaming_to old new e) o ≡ Some c → place_of c ≡ at 2 (path_of old e) []
      by None k = absurd cc
      by (Some f) k = by_slot f (same_slot e.slot f.slot) k

  place_dir : (f : Entry) (c : Change) → adding_dir old new f ≡ Some c → place_of c ≡ at 3 (path_of new f) []
  place_dir f c h = by (is_none (entry_of old f.name) && is_dir f) h
    where
      by : (b : Bool) → cond b (Some (AddDir (path_of new f))) None ≡ Some c → place_of c ≡ at 3 (path_of new f) []
      by true k = let is : AddDir (path_of new f) ≡ c = cc in ap place_of (sym is)
      by false k = absurd cc

  place_file : (f : Entry) (c : Change) → adding_file old new f ≡ Some c → place_of c ≡ at 4 (path_of new f) []
  place_file f c h = by (is_none (entry_of old f.name)) (content_of f.body) h
    where
      by : (b : Bool) (o : Option Id) → cond b (option_map (AddFile (path_of new f)) o) None ≡ Some c → place_of c ≡ at 4 (path_of new f) []
      by true None k = absurd cc
      by true (Some content) k = let is : AddFile (path_of new f) content ≡ c = cc in ap place_of (sym is)
      by false o k = absurd cc

  place_patch : (f : Entry) (c : Change) → patching old new f ≡ Some c → place_of c ≡ at 5 (path_of new f) []
  place_patch f c h = by (entry_of old f.name) h
    where
      by_ids : (a b : Id) (t : Bool) → cond t None (Some (Patch (path_of new f) a b)) ≡ Some c → place_of c ≡ at 5 (path_of new f) []
      by_ids a b true k = absurd cc
      by_ids a b false k = let is : Patch (path_of new f) a b ≡ c = cc in ap place_of (sym is)

      by_contents : (a b : Option Id) → patching_to (path_of new f) a b ≡ Some c → place_of c ≡ at 5 (path_of new f) []
      by_contents None b k = absurd cc
      by_contents (Some a) None k = absurd cc
      by_contents (Some a) (Some b) k = by_ids a b (same_id a b) k

      by : (o : Option Entry) → option_and_then (λ (e : Entry). patching_to (path_of new f) (content_of e.body) (content_of f.body)) o ≡ Some c → place_of c ≡ at 5 (path_of new f) []
      by None k = absurd cc
      by (Some e) k = by_contents (content_of e.body) (content_of f.body) k

place_clear : (p : List (List ℕ)) (after : List Attr) (a : Attr) (c : Change) → clearing_key p after a ≡ Some c → place_of c ≡ at 6 p a.key
place_clear p after a c h = by (is_some a.value && is_none (live_of after a.key)) h
  where
    by : (b : Bool) → cond b (Some (Clear p a.key)) None ≡ Some c → place_of c ≡ at 6 p a.key
    by true k = let is : Clear p a.key ≡ c = cc in ap place_of (sym is)
    by false k = absurd cc

place_set : (p : List (List ℕ)) (before : List Attr) (a : Attr) (c : Change) → setting_key p before a ≡ Some c → place_of c ≡ at 7 p a.key
place_set p before a c h = by a.value h
  where
    by_test : (v : List ℕ) (b : Bool) → cond b None (Some (Set p a.key v)) ≡ Some c → place_of c ≡ at 7 p a.key
    by_test v true k = absurd cc
    by_test v false k = let is : Set p a.key v ≡ c = cc in ap place_of (sym is)

    by : (o : Option (List ℕ)) → option_and_then (setting_to p before a.key) o ≡ Some c → place_of c ≡ at 7 p a.key
    by None k = absurd cc
    by (Some v) k = by_test v (is_some_with (same_bytes v) (live_of before a.key)) k

-- a part that has one change for a node at most
filtered : (t : Tree) (r : ℕ) (g : Entry → Option Change) → nat_cmp r r ≡ Equal → ((e : Entry) (c : Change) → g e ≡ Some c → place_of c ≡ at r (path_of t e) []) →
    rises target_cmp (map place_of (filter_map g (by_path t))) ≡ true
filtered t r g e place =
    rises_filter path_cmp (path_of t) target_cmp place_of g (by_path t) (ordered-rises path_cmp (path_of t) paths_total t)
    (λ x z y w h a b. (λ i. target_cmp (place x y a i) (place z w b i)) ∙ by_paths r (path_of t x) (path_of t z) [] [] e h)

-- what stands in such a part
filtered_kind : (t : Tree) (r : ℕ) (g : Entry → Option Change) → ((e : Entry) (c : Change) → g e ≡ Some c → place_of c ≡ at r (path_of t e) []) →
    (c : Change) → Split (filter_map g (by_path t)) c → (place_of c).kind ≡ r
filtered_kind t r g place c s = let x = of_filter_map g (by_path t) c s in ap (λ (q : Target). q.kind) (place x.0 c x.2)

-- a part that has changes of keys
keyed_part : (t : Tree) (r : ℕ) (attrs : Entry → List Attr) (g : Entry → Attr → Option Change) → nat_cmp r r ≡ Equal →
    ((f : Entry) → Split (by_path t) f → are_keyed (attrs f) ≡ true) → ((f : Entry) (a : Attr) (c : Change) → g f a ≡ Some c → place_of c ≡ at r (path_of t f) a.key) →
    rises target_cmp (map place_of (flat_map (λ f. filter_map (g f) (attrs f)) (by_path t))) ≡ true
keyed_part t r attrs g e keys place =
    rises_flat path_cmp (path_of t) target_cmp place_of (λ f. filter_map (g f) (attrs f)) (by_path t) (ordered-rises path_cmp (path_of t) paths_total t)
    (λ f s. rises_filter bytes_cmp (λ (a : Attr). a.key) target_cmp place_of (g f) (attrs f) (keys f s)
    (λ x z y w h a b. (λ i. target_cmp (place f x y a i) (place f z w b i)) ∙ by_keys r (path_of t f) x.key z.key e h))
    (λ x z y w h a b.
    let u = of_filter_map (g x) (attrs x) y a in
    let v = of_filter_map (g z) (attrs z) w b in
    (λ i. target_cmp (place x u.0 y u.2 i) (place z v.0 w v.2 i)) ∙ by_paths r (path_of t x) (path_of t z) u.0.key v.0.key e h)

keyed_kind : (t : Tree) (r : ℕ) (attrs : Entry → List Attr) (g : Entry → Attr → Option Change) → ((f : Entry) (a : Attr) (c : Change) → g f a ≡ Some c → place_of c ≡ at r (path_of t f) a.key) →
    (c : Change) → Split (flat_map (λ f. filter_map (g f) (attrs f)) (by_path t)) c → (place_of c).kind ≡ r
keyed_kind t r attrs g place c s =
    let x = of_flat_map (λ f. filter_map (g f) (attrs f)) (by_path t) c s in
    let y = of_filter_map (g x.0) (attrs x.0) c x.2 in
    ap (λ (q : Target). q.kind) (place x.0 y.0 c y.2)

-- all kinds of a list are below n
abbrev AreBelow : ℕ → List Change → Type 0
AreBelow n cs = (c : Change) → Split cs c → nat_cmp (place_of c).kind n ≡ Less

-- one more part, of a kind above those before it
more : (n : ℕ) (cs ds : List Change) → rises target_cmp (map place_of cs) ≡ true → rises target_cmp (map place_of ds) ≡ true → AreBelow n cs → ((c : Change) → Split ds c → (place_of c).kind ≡ n) →
    rises target_cmp (map place_of (cs ++ ds)) ≡ true
more n cs ds up rest low kind = rises_append target_cmp place_of cs ds up rest (λ c d s t. by_kinds (place_of c).kind n (place_of c) (place_of d) refl (kind d t) (low c s))

below_more : (n m : ℕ) (cs ds : List Change) → AreBelow m cs → ((c : Change) → Split ds c → (place_of c).kind ≡ n) → nat_cmp n m ≡ Less → AreBelow m (cs ++ ds)
below_more n m cs ds low kind h c s = elim (of_append cs ds c s) [ inl a ↦ low c a | inr b ↦ ap (λ r. nat_cmp r m) (kind c b) ∙ h ]

below_first : (n m : ℕ) (cs : List Change) → ((c : Change) → Split cs c → (place_of c).kind ≡ n) → nat_cmp n m ≡ Less → AreBelow m cs
below_first n m cs kind h c s = ap (λ r. nat_cmp r m) (kind c s) ∙ h

module _ (old new : Tree) (so : IsSane old) (sn : IsSane new) where
  abbrev deletes : List Change
  deletes = filter_map (deleting old new) (by_path old)

  abbrev renames : List Change
  renames = filter_map (renaming old new) (by_path old)

  abbrev dirs : List Change
  dirs = filter_map (adding_dir old new) (by_path new)

  abbrev files : List Change
  files = filter_map (adding_file old new) (by_path new)

  abbrev patches : List Change
  patches = filter_map (patching old new) (by_path new)

  abbrev clears : List Change
  clears = flat_map (clearing old new) (by_path new)

  abbrev sets : List Change
  sets = flat_map (setting old new) (by_path new)

  pub keys_before : (f : Entry) → are_keyed (attrs_before old f) ≡ true
  keys_before f = by (entry_of old f.name) refl
    where
      by : (o : Option Entry) → entry_of old f.name ≡ o → are_keyed (option_map_or (λ (e : Entry). e.attrs) o []) ≡ true
      by None h = refl
      by (Some e) h = keyed old so e (own old f.name e h)

  kind1 : (c : Change) → Split deletes c → (place_of c).kind ≡ 1
  kind1 = filtered_kind old 1 (deleting old new) (place_delete old new)

  kind2 : (c : Change) → Split renames c → (place_of c).kind ≡ 2
  kind2 = filtered_kind old 2 (renaming old new) (place_rename old new)

  kind3 : (c : Change) → Split dirs c → (place_of c).kind ≡ 3
  kind3 = filtered_kind new 3 (adding_dir old new) (place_dir old new)

  kind4 : (c : Change) → Split files c → (place_of c).kind ≡ 4
  kind4 = filtered_kind new 4 (adding_file old new) (place_file old new)

  kind5 : (c : Change) → Split patches c → (place_of c).kind ≡ 5
  kind5 = filtered_kind new 5 (patching old new) (place_patch old new)

  kind6 : (c : Change) → Split clears c → (place_of c).kind ≡ 6
  kind6 = keyed_kind new 6 (attrs_before old) (λ f. clearing_key (path_of new f) f.attrs) (λ f. place_clear (path_of new f) f.attrs)

  kind7 : (c : Change) → Split sets c → (place_of c).kind ≡ 7
  kind7 = keyed_kind new 7 (λ f. f.attrs) (λ f. setting_key (path_of new f) (attrs_before old f)) (λ f. place_set (path_of new f) (attrs_before old f))

  below_2 : (m : ℕ) → nat_cmp 1 m ≡ Less → AreBelow m deletes
  below_2 m h = below_first 1 m deletes kind1 h

  below_3 : (m : ℕ) → nat_cmp 1 m ≡ Less → nat_cmp 2 m ≡ Less → AreBelow m (deletes ++ renames)
  below_3 m a b = below_more 2 m deletes renames (below_2 m a) kind2 b

  below_4 : (m : ℕ) → nat_cmp 1 m ≡ Less → nat_cmp 2 m ≡ Less → nat_cmp 3 m ≡ Less → AreBelow m (deletes ++ renames ++ dirs)
  below_4 m a b c = below_more 3 m (deletes ++ renames) dirs (below_3 m a b) kind3 c

  below_5 : (m : ℕ) → nat_cmp 1 m ≡ Less → nat_cmp 2 m ≡ Less → nat_cmp 3 m ≡ Less → nat_cmp 4 m ≡ Less → AreBelow m (deletes ++ renames ++ dirs ++ files)
  below_5 m a b c d = below_more 4 m (deletes ++ renames ++ dirs) files (below_4 m a b c) kind4 d

  below_6 : (m : ℕ) → nat_cmp 1 m ≡ Less → nat_cmp 2 m ≡ Less → nat_cmp 3 m ≡ Less → nat_cmp 4 m ≡ Less → nat_cmp 5 m ≡ Less → AreBelow m (deletes ++ renames ++ dirs ++ files ++ patches)
  below_6 m a b c d e = below_more 5 m (deletes ++ renames ++ dirs ++ files) patches (below_5 m a b c d) kind5 e

  below_7 : AreBelow 7 (deletes ++ renames ++ dirs ++ files ++ patches ++ clears)
  below_7 = below_more 6 7 (deletes ++ renames ++ dirs ++ files ++ patches) clears (below_6 7 refl refl refl refl refl) kind6 refl

  up_2 : rises target_cmp (map place_of (deletes ++ renames)) ≡ true
  up_2 = more 2 deletes renames (filtered old 1 (deleting old new) refl (place_delete old new)) (filtered old 2 (renaming old new) refl (place_rename old new)) (below_2 2 refl) kind2

  up_3 : rises target_cmp (map place_of (deletes ++ renames ++ dirs)) ≡ true
  up_3 = more 3 (deletes ++ renames) dirs up_2 (filtered new 3 (adding_dir old new) refl (place_dir old new)) (below_3 3 refl refl) kind3

  up_4 : rises target_cmp (map place_of (deletes ++ renames ++ dirs ++ files)) ≡ true
  up_4 = more 4 (deletes ++ renames ++ dirs) files up_3 (filtered new 4 (adding_file old new) refl (place_file old new)) (below_4 4 refl refl refl) kind4

  up_5 : rises target_cmp (map place_of (deletes ++ renames ++ dirs ++ files ++ patches)) ≡ true
  up_5 = more 5 (deletes ++ renames ++ dirs ++ files) patches up_4 (filtered new 5 (patching old new) refl (place_patch old new)) (below_5 5 refl refl refl refl) kind5

  up_6 : rises target_cmp (map place_of (deletes ++ renames ++ dirs ++ files ++ patches ++ clears)) ≡ true
  up_6 = more 6 (deletes ++ renames ++ dirs ++ files ++ patches) clears up_5
      (keyed_part new 6 (attrs_before old) (λ f. clearing_key (path_of new f) f.attrs) refl (λ f s. keys_before f) (λ f. place_clear (path_of new f) f.attrs))
      (below_6 6 refl refl refl refl refl) kind6

  pub ascends : rises target_cmp (map place_of (between old new)) ≡ true
  ascends = more 7 (deletes ++ renames ++ dirs ++ files ++ patches ++ clears) sets up_6
      (keyed_part new 7 (λ f. f.attrs) (λ f. setting_key (path_of new f) (attrs_before old f)) refl (λ f s. keyed new sn f (held_in new sn f s)) (λ f. place_set (path_of new f) (attrs_before old f)))
      below_7 kind7

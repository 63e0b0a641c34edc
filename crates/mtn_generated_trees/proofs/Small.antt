-- The canonical changes between two trees of the form are few and short.
use Rattle.std.specs.Prelude.{decimal, filter_map}
use Rattle.std.specs.FinMap.Entries.{by_order}
use Rattle.std.specs.List.{cons_option, flat_map}
use Rattle.std.specs.Option.{option_map_or}
use Rattle.std.specs.declared.cmp.Ordering.{Ordering}
use Rattle.std.specs.declared.cmp.Ordering.TheVariants.{Equal, Greater, Less}
use Rattle.std.proofs.lemmas.Fmt.{length-decimal-le}
use Rattle.std.proofs.Common.{◌≡◌, ◌<◌, ◌≤◌, ◌^◌, ◌⊎◌, ℕ, suc, List, [], ◌∷◌, ◌++◌, length, length-append, Option, Some, None, refl, sym, ◌∙◌, ap, subst, ⊎_elim, inl, inr, arith}
use Rattle.mtn_base.specs.Lists.{ordered, placed}
use Rattle.mtn_base.specs.Names.{path_cmp}
use Rattle.mtn_base.specs.declared.id.Id.{Id}
use Rattle.mtn_base.proofs.Finding.{Split}
use Rattle.mtn_base.proofs.Members.{split_cons}
use Rattle.mtn_base.proofs.Orders.{paths_total}
use Rattle.mtn_base.proofs.Sorting.{no_split, of_ordered}
use Rattle.mtn_between.specs.Between.{adding_dir, adding_file, attrs_before, between, clearing, clearing_key, deleting, patching, renaming, setting, setting_key}
use Rattle.mtn_between.proofs.Standing.{IsAdd, IsClear, IsDelete, IsPatch, IsRename, IsSet, each_is, live_at}
use Rattle.mtn_certs.specs.Certificates.{IsIdBytes}
use Rattle.mtn_changes.specs.declared.change.Change.{Change}
use Rattle.mtn_changes.specs.declared.change.Change.TheVariants.{AddDir, AddFile, Clear, Delete, Patch, Rename, Set}
use Rattle.mtn_generated.specs.Numbered.{content_of, file_text}
use Rattle.mtn_roster.specs.Tree.{IsSane, Tree, entry_of, node_at, path_of}
use Rattle.mtn_roster.specs.Walk.{by_path}
use Rattle.mtn_roster.specs.declared.entry.Attr.{Attr}
use Rattle.mtn_roster.specs.declared.entry.Body.TheVariants.{Dir, File}
use Rattle.mtn_roster.specs.declared.entry.Entry.{Entry}
use Rattle.mtn_roster.proofs.Forest.{same_some, split_of}
use Rattle.mtn_generated_trees.specs.Formed.{AreAttrs, IsFile, IsFormed, IsPathAt, IsPlainDir, last_patch, step_attr}
use Rattle.mtn_generated_trees.proofs.Lengths.{IsShort, IsShortPath, flat_short}
use Rattle.mtn_generated_trees.proofs.Limits.{few, leads, path_here, short_path}

-- ---- lists

few_mapped : {X Y : Type 0} (g : X → Option Y) (xs : List X) → length (filter_map g xs) ≤ length xs
few_mapped g [] = omega arith
few_mapped g (x ∷ xs) = by (g x) (few_mapped g xs)
  where
    by : (o : Option _) → length (filter_map g xs) ≤ length xs → length (cons_option o (filter_map g xs)) ≤ suc (length xs)
    by None le = omega (arith, le)
    by (Some y) le = omega (arith, le)

placed_long : {X K : Type 0} (cmp : K → K → Ordering) (key : X → K) (a : X) (xs : List X) → length (placed cmp key a xs) ≤ suc (length xs)
placed_long cmp key a [] = omega arith
placed_long cmp key a (b ∷ bs) = by (cmp (key a) (key b)) (placed_long cmp key a bs)
  where
    by : (o : Ordering) → length (placed cmp key a bs) ≤ suc (length bs) → length (by_order o (a ∷ b ∷ bs) (a ∷ bs) (b ∷ placed cmp key a bs)) ≤ suc (suc (length bs))
    by Less le = omega arith
    by Equal le = omega arith
    by Greater le = omega (arith, le)

ordered_long : {X K : Type 0} (cmp : K → K → Ordering) (key : X → K) (xs : List X) → length (ordered cmp key xs) ≤ length xs
ordered_long cmp key [] = omega arith
ordered_long cmp key (x ∷ xs) = let one = placed_long cmp key x (ordered cmp key xs) in let rest = ordered_long cmp key xs in omega (arith, one, rest)

-- ---- small trees

pub record IsSmall (t : Tree) : Type 0 where
  pub few : length t ≤ 12
  pub paths : (e : Entry) → Split t e → IsShortPath (path_of t e)
  pub attrs : (e : Entry) → Split t e → length e.attrs ≤ 1
  pub values : (e : Entry) (a : Attr) (v : List ℕ) → Split t e → Split e.attrs a → a.value ≡ Some v → (length a.key ≤ 100) × (length v ≤ 100)
  pub contents : (e : Entry) (c : Id) → Split t e → e.body ≡ File c → length c.0 ≡ 20

module _ (f : List ℕ → List ℕ) (makes : (text : List ℕ) → IsIdBytes (f text)) (i m : ℕ) (small : i < 2 ^ 64) (low : m < 2 ^ 64) (t : Tree) (sane : IsSane t) (form : IsFormed f i m t) where
  kind_of : (e : Entry) → Split t e → IsPlainDir e ⊎ ((j : ℕ) × IsFile f i m j e)
  kind_of e s = by (path_here f i m small t sane form e s)
    where
      there : node_at t (path_of t e) ≡ Some e
      there = leads f i m small t sane form e s

      by : IsPathAt i (path_of t e) → IsPlainDir e ⊎ ((j : ℕ) × IsFile f i m j e)
      by (inl z) = inl (subst IsPlainDir (same_some form.root.1 (ap (node_at t) (sym z) ∙ there)) form.root.2)
      by (inr (inl z)) = inl (subst IsPlainDir (same_some form.directory.1 (ap (node_at t) (sym z) ∙ there)) form.directory.2)
      by (inr (inr z)) = let file = form.files z.0 z.1 in inr (z.0, subst (IsFile f i m z.0) (same_some file.1 (ap (node_at t) (sym z.2) ∙ there)) file.2)

  attrs_of : (e : Entry) → Split t e → AreAttrs m e.attrs
  attrs_of e s = ⊎_elim (λ d. inl d.attrs) (λ z. z.1.attrs) (kind_of e s)

  few_attrs : (attrs : List Attr) → AreAttrs m attrs → length attrs ≤ 1
  few_attrs attrs (inl z) = subst (λ l. length l ≤ 1) (sym z) (omega arith)
  few_attrs attrs (inr z) = subst (λ l. length l ≤ 1) (sym z.2) (omega arith)

  step_short : (k : ℕ) → k ≤ m → length (decimal k) ≤ 100
  step_short k le =
      let digits = length-decimal-le 20 k (omega arith) (omega (arith, le, low)) (omega (arith, le, low)) in
      omega (arith, digits)

  value_short : (attrs : List Attr) (a : Attr) (v : List ℕ) → AreAttrs m attrs → Split attrs a → a.value ≡ Some v → (length a.key ≤ 100) × (length v ≤ 100)
  value_short attrs a v (inl z) s e = absurd (no_split a (subst (λ l. Split l a) z s))
  value_short attrs a v (inr z) s e = elim (split_cons (step_attr z.0) [] a (subst (λ l. Split l a) z.2 s)) [
    | inl same ↦
        let value : Some (decimal z.0) ≡ Some v = ap (λ (x : Attr). x.value) same ∙ e in
        let is : decimal z.0 ≡ v = cc in
        (subst (λ n. length n ≤ 100) (ap (λ (x : Attr). x.key) same) (omega arith), subst (λ n. length n ≤ 100) is (step_short z.0 z.1))
    | inr none ↦ absurd (no_split a none)
  ]

  content_twenty : (e : Entry) (c : Id) → Split t e → e.body ≡ File c → length c.0 ≡ 20
  content_twenty e c s is = ⊎_elim
      (λ d. absurd (let z : Dir ≡ File c = sym d.body ∙ is in cc))
      (λ z.
      let same : File (content_of f z.0 (last_patch i z.0)) ≡ File c = sym z.1.content ∙ is in
      let ids : content_of f z.0 (last_patch i z.0) ≡ c = cc in
      ap (λ (x : Id). length x.0) (sym ids) ∙ (makes (file_text z.0 (last_patch i z.0))).twenty)
      (kind_of e s)

  pub is_small : IsSmall t
  is_small = record {
    few = few f i m small t sane form;
    paths = λ e s. let le = short_path f i m small t sane form e s in omega (arith, le);
    attrs = λ e s. few_attrs e.attrs (attrs_of e s);
    values = λ e a v s u is. value_short e.attrs a v (attrs_of e s) u is;
    contents = content_twenty;
  }

-- ---- the changes

module _ (old new : Tree) (so : IsSane old) (sn : IsSane new) (small_old : IsSmall old) (small_new : IsSmall new) where
  of_path : (t : Tree) → IsSmall t → (e : Entry) (p : List (List ℕ)) → entry_of t e.name ≡ Some e → path_of t e ≡ p → IsShortPath p
  of_path t small e p here is = subst IsShortPath is (small.paths e (split_of t e.name e here))

  pub each_short : (c : Change) → Split (between old new) c → IsShort c
  each_short (Delete p) s = let r : IsDelete old new p = each_is old new so sn (Delete p) s in of_path old small_old r.e p r.here r.path
  each_short (Rename p q) s =
      let r : IsRename old new p q = each_is old new so sn (Rename p q) s in
      (of_path old small_old r.e p r.here r.from, subst IsShortPath r.to (small_new.paths r.f (split_of new r.e.name r.f r.there)))
  each_short (AddDir p) s = let r : IsAdd old new p Dir = each_is old new so sn (AddDir p) s in of_path new small_new r.f p r.here r.path
  each_short (AddFile p content) s =
      let r : IsAdd old new p (File content) = each_is old new so sn (AddFile p content) s in
      (of_path new small_new r.f p r.here r.path, small_new.contents r.f content (split_of new r.f.name r.f r.here) r.is)
  each_short (Patch p a b) s =
      let r : IsPatch old new p a b = each_is old new so sn (Patch p a b) s in
      (of_path new small_new r.f p r.here r.path, small_old.contents r.e a (split_of old r.f.name r.e r.was) r.from, small_new.contents r.f b (split_of new r.f.name r.f r.here) r.to)
  each_short (Clear p k) s =
      let r : IsClear old new p k = each_is old new so sn (Clear p k) s in
      let a = live_at r.e.attrs k r.value r.live in
      let short = small_old.values r.e a.0 r.value (split_of old r.f.name r.e r.was) a.1 a.3 in
      (of_path new small_new r.f p r.here r.path, subst (λ n. length n ≤ 100) a.2 short.0)
  each_short (Set p k v) s =
      let r : IsSet old new p k v = each_is old new so sn (Set p k v) s in
      let a = live_at r.f.attrs k v r.live in
      let short = small_new.values r.f a.0 v (split_of new r.f.name r.f r.here) a.1 a.3 in
      (of_path new small_new r.f p r.here r.path, subst (λ n. length n ≤ 100) a.2 short.0, short.1)

  few_old : length (by_path old) ≤ 12
  few_old = let one = ordered_long path_cmp (path_of old) old in let le = small_old.few in omega (arith, one, le)

  few_new : length (by_path new) ≤ 12
  few_new = let one = ordered_long path_cmp (path_of new) new in let le = small_new.few in omega (arith, one, le)

  mapped : (g : Entry → Option Change) (es : List Entry) → length es ≤ 12 → length (filter_map g es) ≤ 12
  mapped g es le = let one = few_mapped g es in omega (arith, le, one)

  before_few : (f : Entry) → length (attrs_before old f) ≤ 1
  before_few f = by (entry_of old f.name) refl
    where
      by : (o : Option Entry) → entry_of old f.name ≡ o → length (option_map_or (λ (e : Entry). e.attrs) o []) ≤ 1
      by None e = omega arith
      by (Some x) e = small_old.attrs x (split_of old f.name x e)

  clear_few : (f : Entry) → length (clearing old new f) ≤ 1
  clear_few f = let one = few_mapped (clearing_key (path_of new f) f.attrs) (attrs_before old f) in let le = before_few f in omega (arith, one, le)

  set_few : (f : Entry) → Split (by_path new) f → length (setting old new f) ≤ 1
  set_few f s =
      let one = few_mapped (setting_key (path_of new f) (attrs_before old f)) f.attrs in
      let le = small_new.attrs f (of_ordered path_cmp (path_of new) paths_total new f s) in
      omega (arith, one, le)

  pub few_changes : length (between old new) ≤ 84
  few_changes =
      let deletes = filter_map (deleting old new) (by_path old) in
      let renames = filter_map (renaming old new) (by_path old) in
      let dirs = filter_map (adding_dir old new) (by_path new) in
      let files = filter_map (adding_file old new) (by_path new) in
      let patches = filter_map (patching old new) (by_path new) in
      let clears = flat_map (clearing old new) (by_path new) in
      let sets = flat_map (setting old new) (by_path new) in
      let a = mapped (deleting old new) (by_path old) few_old in
      let b = mapped (renaming old new) (by_path old) few_old in
      let c = mapped (adding_dir old new) (by_path new) few_new in
      let d = mapped (adding_file old new) (by_path new) few_new in
      let e = mapped (patching old new) (by_path new) few_new in
      let g = flat_short (clearing old new) 1 (by_path new) (λ f s. clear_few f) in
      let h = flat_short (setting old new) 1 (by_path new) set_few in
      let s = length-append (deletes ++ renames ++ dirs ++ files ++ patches ++ clears) sets in
      let t = length-append (deletes ++ renames ++ dirs ++ files ++ patches) clears in
      let u = length-append (deletes ++ renames ++ dirs ++ files) patches in
      let v = length-append (deletes ++ renames ++ dirs) files in
      let w = length-append (deletes ++ renames) dirs in
      let x = length-append deletes renames in
      omega (arith, few_new, a, b, c, d, e, g, h, s, t, u, v, w, x)

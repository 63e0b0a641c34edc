-- The canonical changesets to twins are one, and twins show the same.
use Rattle.std.specs.Prelude.{◌&&◌, is_none, map, filter_map, option_map, option_and_then, reverse}
use Rattle.std.specs.List.{flat_map, cons_option}
use Rattle.std.specs.Option.{option_map_or}
use Rattle.std.proofs.Common.{◌≡◌, ℕ, true, false, cond, List, [], ◌∷◌, ◌++◌, Option, Some, None, refl, sym, ◌∙◌, ap, subst, inl, inr, ⊎_elim}
use Rattle.std.proofs.lemmas.List.{map-id, reverse-reverse}
use Rattle.mtn_base.specs.Names.{path_cmp}
use Rattle.mtn_changes.specs.declared.change.Change.TheVariants.{Delete, Rename, AddDir, AddFile}
use Rattle.mtn_roster.specs.declared.entry.Entry.{Entry}
use Rattle.mtn_roster.specs.declared.entry.Slot.{Slot}
use Rattle.mtn_roster.specs.declared.entry.Slot.TheVariants.{Root, Below}
use Rattle.mtn_base.specs.Lists.{rises}
use Rattle.mtn_roster.specs.Tree.{Tree, entry_of, node_up, node_at, is_dir_body, path_of, same_slot, IsSane}
use Rattle.mtn_roster.specs.Walk.{by_path}
use Rattle.mtn_base.proofs.Finding.{Split, later}
use Rattle.mtn_base.proofs.Members.{head}
use Rattle.mtn_base.proofs.Tests.{told}
use Rattle.mtn_roster.proofs.Slots.{same_slot-is}
use Rattle.mtn_roster.proofs.Forest.{IsForest, same_some, name_of, own, at_slot-is, node_below, node_there}
use Rattle.mtn_base.proofs.Orders.{paths_total}
use Rattle.mtn_roster.proofs.Ordered.{forest_of}
use Rattle.mtn_roster.proofs.Pathing.{path_leads, path_of-at}
use Rattle.mtn_base.proofs.Sorting.{ordered-rises, one_sorted}
use Rattle.mtn_roster.proofs.Along.{met}
use Rattle.mtn_changeset_laws.proofs.Joins.{in_map, of_map}
use Rattle.mtn_between.specs.Between.{content_of, deleting, renaming, renaming_to, adding_dir, adding_file, patching, patching_to, clearing, clearing_key, setting, setting_key, between}
use Rattle.mtn_between.specs.Twins.{AreTwins, AreTwinsAt, IsTwinOf, shown}
use Rattle.mtn_between.proofs.Standing.{held_in}

-- lists that go along one list of keys
module _ {X Y K : Type 0} (p : X → K) (q : Y → K) where
  pub map_alike : {Z : Type 0} (h : X → Z) (k : Y → Z) (xs : List X) (ys : List Y) → map p xs ≡ map q ys → ((x : X) (y : Y) → Split xs x → Split ys y → p x ≡ q y → h x ≡ k y) → map h xs ≡ map k ys
  map_alike h k [] [] e f = refl
  map_alike h k [] (y ∷ ys) e f = absurd cc
  map_alike h k (x ∷ xs) [] e f = absurd cc
  map_alike h k (x ∷ xs) (y ∷ ys) e f =
      let a : p x ≡ q y = cc in
      let b : map p xs ≡ map q ys = cc in
      let one = f x y (head x xs) (head y ys) a in
      let rest = map_alike h k xs ys b (λ z w s t. f z w (later x xs z s) (later y ys w t)) in
      λ i. one i ∷ rest i

  pub filter_alike : {Z : Type 0} (h : X → Option Z) (k : Y → Option Z) (xs : List X) (ys : List Y) → map p xs ≡ map q ys → ((x : X) (y : Y) → Split xs x → Split ys y → p x ≡ q y → h x ≡ k y) →
      filter_map h xs ≡ filter_map k ys
  filter_alike h k [] [] e f = refl
  filter_alike h k [] (y ∷ ys) e f = absurd cc
  filter_alike h k (x ∷ xs) [] e f = absurd cc
  filter_alike h k (x ∷ xs) (y ∷ ys) e f =
      let a : p x ≡ q y = cc in
      let b : map p xs ≡ map q ys = cc in
      let one = f x y (head x xs) (head y ys) a in
      let rest = filter_alike h k xs ys b (λ z w s t. f z w (later x xs z s) (later y ys w t)) in
      λ i. cons_option (one i) (rest i)

  pub flat_alike : {Z : Type 0} (h : X → List Z) (k : Y → List Z) (xs : List X) (ys : List Y) → map p xs ≡ map q ys → ((x : X) (y : Y) → Split xs x → Split ys y → p x ≡ q y → h x ≡ k y) →
      flat_map h xs ≡ flat_map k ys
  flat_alike h k [] [] e f = refl
  flat_alike h k [] (y ∷ ys) e f = absurd cc
  flat_alike h k (x ∷ xs) [] e f = absurd cc
  flat_alike h k (x ∷ xs) (y ∷ ys) e f =
      let a : p x ≡ q y = cc in
      let b : map p xs ≡ map q ys = cc in
      let one = f x y (head x xs) (head y ys) a in
      let rest = flat_alike h k xs ys b (λ z w s t. f z w (later x xs z s) (later y ys w t)) in
      λ i. one i ++ rest i

-- twins the other way round
flipped : (old : Tree) (a b : Option Entry) → AreTwinsAt old a b → AreTwinsAt old b a
flipped old None None h = tt
flipped old None (Some g) h = absurd h
flipped old (Some f) None h = absurd h
flipped old (Some f) (Some g) h = record { body = sym h.body; attrs = sym h.attrs; name = ⊎_elim (λ e. inl (sym e)) (λ e. inr (e.1, e.0)) h.name }

-- the twin of a node at a path
twin_at : (old new other : Tree) → IsTwinOf old new other → (p : List (List ℕ)) (f : Entry) → node_at new p ≡ Some f → (g : Entry) × (node_at other p ≡ Some g) × AreTwins old f g
twin_at old new other twins p f h = by (node_at other p) refl (subst (λ o. AreTwinsAt old o (node_at other p)) h (twins p))
  where
    by : (o : Option Entry) → node_at other p ≡ o → AreTwinsAt old (Some f) o → (g : Entry) × (node_at other p ≡ Some g) × AreTwins old f g
    by None k t = absurd t
    by (Some g) k t = (g, k, t)

-- paths along the walks
on_walk : (old new other : Tree) → IsSane new → IsSane other → IsTwinOf old new other → (p : List (List ℕ)) → Split (map (path_of new) (by_path new)) p → Split (map (path_of other) (by_path other)) p
on_walk old new other sn st twins p s =
    let e = of_map (path_of new) (by_path new) p s in
    let there : node_at new p ≡ Some e.0 = ap (node_at new) (sym e.2) ∙ path_leads new (forest_of new sn) e.0.name e.0 (held_in new sn e.0 e.1) in
    let g = twin_at old new other twins p e.0 there in
    let path : path_of other g.0 ≡ p = path_of-at other (forest_of other st) p g.0 g.1 in
    subst (Split (map (path_of other) (by_path other))) path (in_map (path_of other) (by_path other) g.0 (met other st g.0 (node_there other (forest_of other st) (reverse p) g.0 g.1)))

module _ (old new other : Tree) (so : IsSane old) (sn : IsSane new) (st : IsSane other) (twins : IsTwinOf old new other) where
  hn : IsForest new
  hn = forest_of new sn

  ht : IsForest other
  ht = forest_of other st

  walk_rises : (t : Tree) → rises path_cmp (map (λ p. p) (map (path_of t) (by_path t))) ≡ true
  walk_rises t = ap (rises path_cmp) (map-id (map (path_of t) (by_path t))) ∙ ordered-rises path_cmp (path_of t) paths_total t

  -- both walks meet the same paths
  same_walk : map (path_of new) (by_path new) ≡ map (path_of other) (by_path other)
  same_walk =
      one_sorted path_cmp (λ p. p) paths_total (map (path_of new) (by_path new)) (map (path_of other) (by_path other)) (walk_rises new) (walk_rises other)
      (on_walk old new other sn st twins)
      (on_walk old other new st sn (λ p. flipped old (node_at new p) (node_at other p) (twins p)))

  -- and nodes that are twins there
  twin_of : (f g : Entry) → Split (by_path new) f → Split (by_path other) g → path_of new f ≡ path_of other g → AreTwins old f g
  twin_of f g s t e =
      let a : node_at new (path_of new f) ≡ Some f = path_leads new hn f.name f (held_in new sn f s) in
      let b : node_at other (path_of new f) ≡ Some g = ap (node_at other) e ∙ path_leads other ht g.name g (held_in other st g t) in
      subst (λ o. AreTwinsAt old o (Some g)) a (subst (AreTwinsAt old (node_at new (path_of new f))) b (twins (path_of new f)))

  -- the old tree has both or none
  was_same : (f g : Entry) → AreTwins old f g → entry_of old f.name ≡ entry_of old g.name
  was_same f g t = ⊎_elim (λ e. ap (entry_of old) e) (λ e. e.0 ∙ sym e.1) t.name

  part : {Z : Type 0} (h k : Entry → Option Z) → ((f g : Entry) → AreTwins old f g → path_of new f ≡ path_of other g → h f ≡ k g) → filter_map h (by_path new) ≡ filter_map k (by_path other)
  part h k same = filter_alike (path_of new) (path_of other) h k (by_path new) (by_path other) same_walk (λ f g s t e. same f g (twin_of f g s t e) e)

  parts : {Z : Type 0} (h k : Entry → List Z) → ((f g : Entry) → AreTwins old f g → path_of new f ≡ path_of other g → h f ≡ k g) → flat_map h (by_path new) ≡ flat_map k (by_path other)
  parts h k same = flat_alike (path_of new) (path_of other) h k (by_path new) (by_path other) same_walk (λ f g s t e. same f g (twin_of f g s t e) e)

  dirs_same : filter_map (adding_dir old new) (by_path new) ≡ filter_map (adding_dir old other) (by_path other)
  dirs_same = part (adding_dir old new) (adding_dir old other) (λ f g t e i. cond (is_none (was_same f g t i) && is_dir_body (t.body i)) (Some (AddDir (e i))) None)

  files_same : filter_map (adding_file old new) (by_path new) ≡ filter_map (adding_file old other) (by_path other)
  files_same = part (adding_file old new) (adding_file old other) (λ f g t e i. cond (is_none (was_same f g t i)) (option_map (AddFile (e i)) (content_of (t.body i))) None)

  patches_same : filter_map (patching old new) (by_path new) ≡ filter_map (patching old other) (by_path other)
  patches_same = part (patching old new) (patching old other) (λ f g t e i. option_and_then (λ (d : Entry). patching_to (e i) (content_of d.body) (content_of (t.body i))) (was_same f g t i))

  clears_same : flat_map (clearing old new) (by_path new) ≡ flat_map (clearing old other) (by_path other)
  clears_same = parts (clearing old new) (clearing old other) (λ f g t e i. filter_map (clearing_key (e i) (t.attrs i)) (option_map_or (λ (d : Entry). d.attrs) (was_same f g t i) []))

  sets_same : flat_map (setting old new) (by_path new) ≡ flat_map (setting old other) (by_path other)
  sets_same = parts (setting old new) (setting old other) (λ f g t e i. filter_map (setting_key (e i) (option_map_or (λ (d : Entry). d.attrs) (was_same f g t i) [])) (t.attrs i))

  -- a slot of the old tree is both slots or none
  slot_same : (s : Slot) (up : List (List ℕ)) (d f g : Entry) → entry_of old d.name ≡ Some d → d.slot ≡ s → node_up new up ≡ Some f → node_up other up ≡ Some g → same_slot s f.slot ≡ same_slot s g.slot
  slot_same s [] d f g here is hf hg = ap (same_slot s) ((at_slot-is new hn Root f hf).0 ∙ sym (at_slot-is other ht Root g hg).0)
  slot_same s (name ∷ up) d f g here is hf hg =
      let a = node_below new hn name up f hf in
      let b = node_below other ht name up g hg in
      let there : node_at new (reverse up) ≡ Some a.0 = ap (node_up new) (reverse-reverse up) ∙ a.1 in
      let c = twin_at old new other twins (reverse up) a.0 there in
      let same : c.0 ≡ b.0 = same_some c.1 (ap (node_up other) (reverse-reverse up) ∙ b.1) in
      ap (same_slot s) a.2
      ∙ ⊎_elim
      (λ e. ap (λ n. same_slot s (Below n name)) (e ∙ ap (λ (x : Entry). x.name) same))
      (λ e. no a.0 e.0 ∙ sym (no b.0 (ap (λ (x : Entry). entry_of old x.name) (sym same) ∙ e.1)))
      c.2.name
      ∙ ap (same_slot s) (sym b.2)
    where
      no : (x : Entry) → entry_of old x.name ≡ None → same_slot s (Below x.name name) ≡ false
      no x gone = ⊎_elim
          (λ q.
          let y = so.sane.parents d.name x.name d name here (is ∙ same_slot-is s (Below x.name name) q) in
          let z : None ≡ Some y.0 = sym gone ∙ y.1 in
          absurd cc)
          (λ q. q)
          (told (same_slot s (Below x.name name)))

  -- a node of the old tree that the one twin has
  record IsBoth (d f : Entry) : Type 0 where
    g : Entry
    there : entry_of other d.name ≡ Some g
    path : path_of new f ≡ path_of other g
    slot : same_slot d.slot f.slot ≡ same_slot d.slot g.slot

  both : (d f : Entry) → entry_of old d.name ≡ Some d → entry_of new d.name ≡ Some f → IsBoth d f
  both d f here h =
      let own_f = own new d.name f h in
      let there : node_at new (path_of new f) ≡ Some f = path_leads new hn f.name f own_f in
      let c = twin_at old new other twins (path_of new f) f there in
      let name : f.name ≡ c.0.name = ⊎_elim
      (λ e. e)
      (λ e. let z : None ≡ Some d = sym e.0 ∙ ap (entry_of old) (name_of new d.name f h) ∙ here in absurd cc)
      c.2.name in
      record {
        g = c.0;
        there = ap (entry_of other) (sym (name_of new d.name f h) ∙ name) ∙ node_there other ht (reverse (path_of new f)) c.0 c.1;
        path = sym (path_of-at other ht (path_of new f) c.0 c.1);
        slot = slot_same d.slot (reverse (path_of new f)) d f c.0 here refl there c.1;
      }

module _ (old new other : Tree) (so : IsSane old) (sn : IsSane new) (st : IsSane other) (twins : IsTwinOf old new other) where
  back : IsTwinOf old other new
  back p = flipped old (node_at new p) (node_at other p) (twins p)

  -- one has a node of the old tree where the other has it
  mates_same : (d : Entry) → entry_of old d.name ≡ Some d → (deleting old new d ≡ deleting old other d) × (renaming old new d ≡ renaming old other d)
  mates_same d here = by (entry_of new d.name) (entry_of other d.name) refl refl
    where
      by : (a b : Option Entry) → entry_of new d.name ≡ a → entry_of other d.name ≡ b → (deleting old new d ≡ deleting old other d) × (renaming old new d ≡ renaming old other d)
      by None None h k = (
        (λ i. cond (is_none ((h ∙ sym k) i)) (Some (Delete (path_of old d))) None),
        ap (option_and_then (renaming_to old new d)) h ∙ sym (ap (option_and_then (renaming_to old other d)) k),
      )
      by (Some f) b h k =
          let w = both old new other so sn st twins d f here h in (
            ap (λ o. cond (is_none o) (Some (Delete (path_of old d))) None) h ∙ sym (ap (λ o. cond (is_none o) (Some (Delete (path_of old d))) None) w.there),
            ap (option_and_then (renaming_to old new d)) h
                ∙ (λ i. cond (w.slot i) None (Some (Rename (path_of old d) (w.path i))))
                ∙ sym (ap (option_and_then (renaming_to old other d)) w.there),
          )
      by None (Some g) h k =
          let w = both old other new so st sn back d g here k in
          let z : None ≡ Some w.g = sym h ∙ w.there in
          absurd cc

  deletes_same : filter_map (deleting old new) (by_path old) ≡ filter_map (deleting old other) (by_path old)
  deletes_same = filter_alike (λ (e : Entry). e) (λ (e : Entry). e) (deleting old new) (deleting old other) (by_path old) (by_path old) refl
      (λ x y s t e. (mates_same x (held_in old so x s)).0 ∙ ap (deleting old other) e)

  renames_same : filter_map (renaming old new) (by_path old) ≡ filter_map (renaming old other) (by_path old)
  renames_same = filter_alike (λ (e : Entry). e) (λ (e : Entry). e) (renaming old new) (renaming old other) (by_path old) (by_path old) refl
      (λ x y s t e. (mates_same x (held_in old so x s)).1 ∙ ap (renaming old other) e)

  pub between_same : between old new ≡ between old other
  between_same = λ i.
      deletes_same i
      ++ renames_same i
      ++ dirs_same old new other so sn st twins i
      ++ files_same old new other so sn st twins i
      ++ patches_same old new other so sn st twins i
      ++ clears_same old new other so sn st twins i
      ++ sets_same old new other so sn st twins i

  pub shown_same : shown new ≡ shown other
  shown_same = map_alike (path_of new) (path_of other) (λ (e : Entry). (path_of new e, e.body, e.attrs)) (λ (e : Entry). (path_of other e, e.body, e.attrs)) (by_path new) (by_path other)
      (same_walk old new other so sn st twins)
      (λ f g s t e. let w = twin_of old new other so sn st twins f g s t e in λ i. (e i, w.body i, w.attrs i))

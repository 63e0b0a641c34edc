-- What a canonical changeset makes of the old tree.
use Rattle.std.specs.Prelude.{is_some, option_map, option_and_then, reverse, IsSome, ◌↔◌}
use Rattle.std.specs.Option.{option_map_or}
use Rattle.std.proofs.Common.{◌≡◌, ℕ, Bool, true, false, cond, List, [], Option, Some, None, refl, sym, ◌∙◌, ap, subst, ◌⊎◌, inl, inr, ⊎_elim}
use Rattle.mtn_base.specs.Names.{same_bytes, same_id}
use Rattle.mtn_base.specs.declared.id.Id.{Id}
use Rattle.mtn_changes.specs.declared.change.Change.{Change}
use Rattle.mtn_changes.specs.declared.change.Change.TheVariants.{Patch, Clear, Set}
use Rattle.mtn_changes.specs.Sorting.{AreUnsorted}
use Rattle.mtn_roster.specs.declared.entry.Attr.{Attr}
use Rattle.mtn_roster.specs.declared.entry.Body.{Body}
use Rattle.mtn_roster.specs.declared.entry.Body.TheVariants.{Dir, File}
use Rattle.mtn_roster.specs.declared.entry.Entry.{Entry}
use Rattle.mtn_base.specs.Lists.{is_some_with}
use Rattle.mtn_roster.specs.Tree.{Tree, entry_of, node_at, attr_of, live_of, is_dir_body, path_of, IsSane}
use Rattle.mtn_base.proofs.Finding.{passing_some}
use Rattle.mtn_base.proofs.Tests.{told, same_bytes-is, same_id-is}
use Rattle.mtn_roster.proofs.Forest.{IsForest, chained, same_some, name_of, node_there}
use Rattle.mtn_roster.proofs.Ordered.{forest_of}
use Rattle.mtn_roster.proofs.Pathing.{path_leads, path_of-at}
use Rattle.mtn_changeset_laws.specs.Changes.{occupant, occupant_name, occupant_body, first_fault, tree_after}
use Rattle.mtn_changeset_laws.specs.Changes.Occupant.{Old, Added}
use Rattle.mtn_changeset_laws.specs.Laws.{NoneBornIn, RenamesDiffer, IsEditedOf, occupant_attrs}
use Rattle.mtn_changeset_laws.proofs.AfterSane.{contains_of, after_is_sane, after_at_paths}
use Rattle.mtn_changeset_laws.proofs.Editing.{after_edits}
use Rattle.mtn_changeset_laws.proofs.Renaming.{split_of_contains, renames_differ}
use Rattle.mtn_between.specs.Between.{attrs_before, between}
use Rattle.mtn_between.specs.Laws.{IsSpellable, KindsAgree, carried_name, IsCarried, IsCarriedAt}
use Rattle.mtn_between.proofs.Standing.{IsPatch, IsClear, IsSet, each_is, each_in}
use Rattle.mtn_between.proofs.Lawful.{unsorted}
use Rattle.mtn_between.proofs.NoFault.{between_no_fault}
use Rattle.mtn_between.proofs.Seating.{comes, occupies}

-- a key after the changeset: live as in the new tree; or cleared, if it was there
abbrev pub carried_attr : Option (List ℕ) → Option (Option (List ℕ)) → Option (Option (List ℕ))
carried_attr (Some v) before = Some (Some v)
carried_attr None None = None
carried_attr None (Some v) = Some None

same_comes : (o : Option Entry) (p : List (List ℕ)) (b : Body) → occupant_attrs (option_map_or Old o (Added p b)) ≡ option_map_or (λ (e : Entry). e.attrs) o []
same_comes None p b = refl
same_comes (Some e) p b = refl

module _ (old new : Tree) (x : Id) (so : IsSane old) (sn : IsSane new) (spell_old : IsSpellable old) (spell_new : IsSpellable new) (kinds : KindsAgree old new) (unborn : NoneBornIn old x) where
  abbrev cs : List Change
  cs = between old new

  abbrev pub after : Tree
  after = tree_after old cs x

  lawful : AreUnsorted cs
  lawful = unsorted old new so sn spell_old spell_new

  pub once : RenamesDiffer cs
  once = renames_differ cs lawful

  pub fine : first_fault old cs ≡ None
  fine = between_no_fault old new so sn kinds

  pub after_sane : IsSane after
  after_sane = after_is_sane old cs x (inr so) once unborn fine

  hn : IsForest new
  hn = forest_of new sn

  module _ (p : List (List ℕ)) (f e : Entry) (at_new : node_at new p ≡ Some f) (at_after : node_at after p ≡ Some e) where
    here : entry_of new f.name ≡ Some f
    here = node_there new hn (reverse p) f at_new

    path : path_of new f ≡ p
    path = path_of-at new hn p f at_new

    seat : occupant old cs p ≡ Some (comes old new f)
    seat = occupies old new so sn (reverse p) ∙ ap (option_map (comes old new)) at_new

    edits : IsEditedOf cs p (comes old new f) e
    edits = after_edits old cs x (inr so) lawful unborn fine p (comes old new f) e seat at_after

    -- a node at this path is this one
    this : (g : Entry) → entry_of new g.name ≡ Some g → path_of new g ≡ p → g ≡ f
    this g h q = same_some (ap (node_at new) (sym q) ∙ path_leads new hn g.name g h) at_new

    name_is : e.name ≡ carried_name old x p f
    name_is =
        let names : Some e.name ≡ Some (occupant_name x (comes old new f)) =
        sym (ap (option_map (λ (e : Entry). e.name)) at_after) ∙ after_at_paths old cs x (inr so) once unborn fine p ∙ ap (option_map (occupant_name x)) seat in
        let name : e.name ≡ occupant_name x (comes old new f) = cc in
        name ∙ by (entry_of old f.name) refl
      where
        by : (o : Option Entry) → entry_of old f.name ≡ o → occupant_name x (option_map_or Old o (Added (path_of new f) f.body)) ≡ cond (is_some o) f.name (record { birth = x; path = p })
        by None h = ap (λ q. record { birth = x; path = q }) path
        by (Some d) h = name_of old f.name d h

    no_patch : ((e0 : Entry) (a b : Id) → entry_of old f.name ≡ Some e0 → e0.body ≡ File a → f.body ≡ File b → same_id a b ≡ false → ⊥) → e.body ≡ occupant_body (comes old new f)
    no_patch none = edits.unpatched (λ a b c.
        let r : IsPatch old new p a b = each_is old new so sn (Patch p a b) (split_of_contains cs (Patch p a b) c) in
        let same = this r.f r.here r.path in
        none r.e a b (ap (λ (g : Entry). entry_of old g.name) (sym same) ∙ r.was) r.from (ap (λ (g : Entry). g.body) (sym same) ∙ r.to) r.differ)

    body_is : e.body ≡ f.body
    body_is = by (entry_of old f.name) refl
      where
        by_bodies : (e0 : Entry) → entry_of old f.name ≡ Some e0 → (u v : Body) → e0.body ≡ u → f.body ≡ v → e.body ≡ f.body
        by_bodies e0 h Dir Dir g k =
            no_patch (λ d a b w from to differ. let z : Dir ≡ File b = sym k ∙ to in absurd cc)
            ∙ ap (λ o. occupant_body (option_map_or Old o (Added (path_of new f) f.body))) h ∙ g ∙ sym k
        by_bodies e0 h Dir (File b) g k = let z : true ≡ false = sym (ap is_dir_body g) ∙ kinds f.name e0 f h here ∙ ap is_dir_body k in absurd cc
        by_bodies e0 h (File a) Dir g k = let z : false ≡ true = sym (ap is_dir_body g) ∙ kinds f.name e0 f h here ∙ ap is_dir_body k in absurd cc
        by_bodies e0 h (File a) (File b) g k = ⊎_elim
            (λ t.
            let same : a ≡ b = same_id-is a b t in
            no_patch (λ d c w was from to differ.
            let is : d ≡ e0 = same_some was h in
            let ca : File c ≡ File a = sym from ∙ ap (λ (y : Entry). y.body) is ∙ g in
            let cb : File w ≡ File b = sym to ∙ k in
            let ia : c ≡ a = cc in
            let ib : w ≡ b = cc in
            let z : true ≡ false = sym t ∙ (λ i. same_id (sym ia i) (sym ib i)) ∙ differ in
            absurd cc)
            ∙ ap (λ o. occupant_body (option_map_or Old o (Added (path_of new f) f.body))) h ∙ g ∙ ap File same ∙ sym k)
            (λ t. edits.patched a b (contains_of cs (Patch p a b) (each_in old new so sn (Patch p a b) (record { e = e0; f = f; here = here; was = h; from = g; to = k; differ = t; path = path }))) ∙ sym k)
            (told (same_id a b))

        by : (o : Option Entry) → entry_of old f.name ≡ o → e.body ≡ f.body
        by None h = no_patch (λ d a b was from to differ. let z : None ≡ Some d = sym h ∙ was in absurd cc) ∙ ap (λ o. occupant_body (option_map_or Old o (Added (path_of new f) f.body))) h
        by (Some e0) h = by_bodies e0 h e0.body f.body refl refl

    module _ (k : List ℕ) where
      untouched : ((v : List ℕ) → live_of f.attrs k ≡ Some v → is_some_with (same_bytes v) (live_of (attrs_before old f) k) ≡ false → ⊥) →
          ((v : List ℕ) → live_of (attrs_before old f) k ≡ Some v → live_of f.attrs k ≡ None → ⊥) → attr_of e.attrs k ≡ attr_of (attrs_before old f) k
      untouched no_set no_clear =
          edits.untouched k
          (λ v c.
          let r : IsSet old new p k v = each_is old new so sn (Set p k v) (split_of_contains cs (Set p k v) c) in
          let same = this r.f r.here r.path in
          no_set v (ap (λ (g : Entry). live_of g.attrs k) (sym same) ∙ r.live) (ap (λ (g : Entry). is_some_with (same_bytes v) (live_of (attrs_before old g) k)) (sym same) ∙ r.other))
          (λ c.
          let r : IsClear old new p k = each_is old new so sn (Clear p k) (split_of_contains cs (Clear p k) c) in
          let same = this r.f r.here r.path in
          let was : entry_of old f.name ≡ Some r.e = ap (λ (g : Entry). entry_of old g.name) (sym same) ∙ r.was in
          no_clear r.value (ap (λ o. live_of (option_map_or (λ (d : Entry). d.attrs) o []) k) was ∙ r.live) (ap (λ (g : Entry). live_of g.attrs k) (sym same) ∙ r.gone))
          ∙ ap (λ as'. attr_of as' k) (same_comes (entry_of old f.name) (path_of new f) f.body)

      live_has : (as' : List Attr) (v : List ℕ) → live_of as' k ≡ Some v → attr_of as' k ≡ Some (Some v)
      live_has as' v h = let c = chained (λ (o : Option (List ℕ)). o) (attr_of as' k) v h in c.1 ∙ ap Some c.2

      stays_live : (v : List ℕ) → live_of f.attrs k ≡ Some v → is_some_with (same_bytes v) (live_of (attrs_before old f) k) ≡ true → attr_of e.attrs k ≡ Some (Some v)
      stays_live v live t =
          let w = passing_some (same_bytes v) (live_of (attrs_before old f) k) t in
          let was : live_of (attrs_before old f) k ≡ Some v = w.1 ∙ ap Some (sym (same_bytes-is v w.0 w.2)) in
          untouched
          (λ u h other.
          let same : u ≡ v = same_some h live in
          let z : true ≡ false = sym t ∙ ap (λ q. is_some_with (same_bytes q) (live_of (attrs_before old f) k)) (sym same) ∙ other in
          absurd cc)
          (λ u h gone. let z : None ≡ Some v = sym gone ∙ live in absurd cc)
          ∙ live_has (attrs_before old f) v was

      is_set : (v : List ℕ) → live_of f.attrs k ≡ Some v → is_some_with (same_bytes v) (live_of (attrs_before old f) k) ≡ false → attr_of e.attrs k ≡ Some (Some v)
      is_set v live t = edits.set k v (contains_of cs (Set p k v) (each_in old new so sn (Set p k v) (record { f = f; here = here; live = live; other = t; path = path })))

      is_cleared : (v : List ℕ) → live_of (attrs_before old f) k ≡ Some v → live_of f.attrs k ≡ None → attr_of e.attrs k ≡ Some None
      is_cleared v live gone = by (entry_of old f.name) refl live
        where
          by : (o : Option Entry) → entry_of old f.name ≡ o → live_of (option_map_or (λ (d : Entry). d.attrs) o []) k ≡ Some v → attr_of e.attrs k ≡ Some None
          by None h l = absurd cc
          by (Some d) h l =
              edits.cleared k (contains_of cs (Clear p k) (each_in old new so sn (Clear p k) (record { e = d; f = f; here = here; was = h; value = v; live = l; gone = gone; path = path })))

      stays_dead : live_of (attrs_before old f) k ≡ None → live_of f.attrs k ≡ None → attr_of e.attrs k ≡ attr_of (attrs_before old f) k
      stays_dead dead gone = untouched
          (λ u h other. let z : None ≡ Some u = sym gone ∙ h in absurd cc)
          (λ u h g. let z : None ≡ Some u = sym dead ∙ h in absurd cc)

      attr_is : attr_of e.attrs k ≡ carried_attr (live_of f.attrs k) (attr_of (attrs_before old f) k)
      attr_is = by (live_of f.attrs k) refl
        where
          by_test : (v : List ℕ) → live_of f.attrs k ≡ Some v → (b : Bool) → is_some_with (same_bytes v) (live_of (attrs_before old f) k) ≡ b → attr_of e.attrs k ≡ Some (Some v)
          by_test v h true t = stays_live v h t
          by_test v h false t = is_set v h t

          by_before : live_of f.attrs k ≡ None → (o : Option (Option (List ℕ))) → attr_of (attrs_before old f) k ≡ o → attr_of e.attrs k ≡ carried_attr None o
          by_before gone None g = stays_dead (ap (option_and_then (λ v. v)) g) gone ∙ g
          by_before gone (Some None) g = stays_dead (ap (option_and_then (λ v. v)) g) gone ∙ g
          by_before gone (Some (Some v)) g = is_cleared v (ap (option_and_then (λ v. v)) g) gone

          by : (o : Option (List ℕ)) → live_of f.attrs k ≡ o → attr_of e.attrs k ≡ carried_attr o (attr_of (attrs_before old f) k)
          by None h = by_before h (attr_of (attrs_before old f) k) refl
          by (Some v) h = by_test v h (is_some_with (same_bytes v) (live_of (attrs_before old f) k)) refl

    pub attrs_are : (k : List ℕ) → attr_of e.attrs k ≡ carried_attr (live_of f.attrs k) (attr_of (attrs_before old f) k)
    attrs_are k = attr_is k

    pub carried : IsCarried old x p f e
    carried = record {
      name = name_is;
      body = body_is;
      live = λ k. ap (option_and_then (λ v. v)) (attrs_are k) ∙ live_by (live_of f.attrs k) (attr_of (attrs_before old f) k);
      keys = λ k. subst (λ o. IsSome o ↔ (IsSome (live_of f.attrs k) ⊎ IsSome (attr_of (attrs_before old f) k))) (sym (attrs_are k)) (keys_by (live_of f.attrs k) (attr_of (attrs_before old f) k));
    }
      where
        live_by : (l : Option (List ℕ)) (b : Option (Option (List ℕ))) → option_and_then (λ v. v) (carried_attr l b) ≡ l
        live_by None None = refl
        live_by None (Some v) = refl
        live_by (Some v) b = refl

        keys_by : (l : Option (List ℕ)) (b : Option (Option (List ℕ))) → IsSome (carried_attr l b) ↔ (IsSome l ⊎ IsSome b)
        keys_by None None = (λ h. inl h, λ h. ⊎_elim (λ a. a) (λ a. a) h)
        keys_by None (Some v) = (λ h. inr refl, λ h. refl)
        keys_by (Some v) b = (λ h. inl refl, λ h. refl)

  pub carried_at : (p : List (List ℕ)) → IsCarriedAt old x p (node_at new p) (node_at after p)
  carried_at p = by (node_at new p) (node_at after p) refl refl
    where
      names : option_map (λ (e : Entry). e.name) (node_at after p) ≡ option_map (occupant_name x) (option_map (comes old new) (node_at new p))
      names = after_at_paths old cs x (inr so) once unborn fine p ∙ ap (option_map (occupant_name x)) (occupies old new so sn (reverse p))

      by : (f e : Option Entry) → node_at new p ≡ f → node_at after p ≡ e → IsCarriedAt old x p f e
      by None None h g = tt
      by None (Some e) h g =
          let z : Some e.name ≡ None = sym (ap (option_map (λ (e : Entry). e.name)) g) ∙ names ∙ ap (λ o. option_map (occupant_name x) (option_map (comes old new) o)) h in
          absurd cc
      by (Some f) None h g =
          let z : None ≡ Some (occupant_name x (comes old new f)) = sym (ap (option_map (λ (e : Entry). e.name)) g) ∙ names ∙ ap (λ o. option_map (occupant_name x) (option_map (comes old new) o)) h in
          absurd cc
      by (Some f) (Some e) h g = carried p f e h g

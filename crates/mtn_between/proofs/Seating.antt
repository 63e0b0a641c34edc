-- At each path of the new tree the canonical changeset puts the node that stands there.
use Rattle.std.specs.Prelude.{◌&&◌, not, find, option_map, option_and_then, reverse}
use Rattle.std.specs.List.{list_any}
use Rattle.std.specs.Option.{option_map_or}
use Rattle.std.proofs.Common.{◌≡◌, ℕ, Bool, true, false, cond, List, [], ◌∷◌, Option, Some, None, refl, sym, ◌∙◌, ap, subst, ⊎_elim}
use Rattle.std.proofs.lemmas.List.{reverse-reverse}
use Rattle.mtn_base.specs.Names.{same_name}
use Rattle.mtn_changes.specs.declared.change.Change.{Change}
use Rattle.mtn_changes.specs.declared.change.Change.TheVariants.{Delete, Rename, AddDir, AddFile, Patch, Clear, Set}
use Rattle.mtn_roster.specs.declared.entry.Body.{Body}
use Rattle.mtn_roster.specs.declared.entry.Body.TheVariants.{Dir, File}
use Rattle.mtn_roster.specs.declared.entry.Entry.{Entry}
use Rattle.mtn_roster.specs.declared.entry.Slot.TheVariants.{Root, Below}
use Rattle.mtn_base.specs.Lists.{is_some_with}
use Rattle.mtn_roster.specs.Tree.{Tree, entry_of, at_slot, child_of, root_of, node_up, node_at, is_dir, path_of, same_slot, IsSane}
use Rattle.mtn_base.proofs.Finding.{Split, found, not_found, none_passes, some_passes, list_any-here, passing_some}
use Rattle.mtn_base.proofs.Tests.{told, same_name-is, same_name-self, same_path-is, same_path-self}
use Rattle.mtn_roster.proofs.Slots.{same_slot-is, same_slot-self}
use Rattle.mtn_roster.proofs.Forest.{IsForest, same_some, name_of, own, at_slot-is, at_slot-of}
use Rattle.mtn_roster.proofs.Ordered.{forest_of}
use Rattle.mtn_roster.proofs.Pathing.{path_leads, path_of-at}
use Rattle.mtn_changeset_laws.specs.Changes.{Occupant, stands_at, deletes, moves, is_deleted, is_moved, is_kept, aims_at, put_by, if_kept, kept_child, occupant_by, occupant_up, aside_up}
use Rattle.mtn_changeset_laws.specs.Changes.Occupant.{Old, Added}
use Rattle.mtn_between.specs.Between.{between}
use Rattle.mtn_between.proofs.Standing.{IsDelete, IsRename, IsAdd, each_is, each_in}

-- what the changeset puts at the path of a node of the new tree: the old node, or one that it adds
abbrev pub comes : Tree → Tree → Entry → Occupant
comes old new f = option_map_or Old (entry_of old f.name) (Added (path_of new f) f.body)

-- one that passes stands in the list
pub any_of : {X : Type 0} (f : X → Bool) (xs : List X) (x : X) → Split xs x → f x ≡ true → list_any f xs ≡ true
any_of f xs x s h = ap (list_any f) s.is ∙ list_any-here f s.before s.rest x h

by_first : (old : Tree) (all : List Change) (up : List (List ℕ)) → occupant_up old all up ≡ occupant_by old (aside_up old all up) (find (aims_at (reverse up)) all)
by_first old all [] = refl
by_first old all (name ∷ up) = refl

module _ (old new : Tree) (so : IsSane old) (sn : IsSane new) where
  abbrev pub all : List Change
  all = between old new

  pub fo : IsForest old
  fo = forest_of old so

  pub fn : IsForest new
  fn = forest_of new sn

  -- a node of the new tree is moved or added
  abbrev pub IsUnlike : Entry → Type 0
  IsUnlike f = (e : Entry) → entry_of old f.name ≡ Some e → same_slot e.slot f.slot ≡ false

  pub record IsTarget (q : List (List ℕ)) (c : Change) : Type 0 where
    pub f : Entry
    pub here : entry_of new f.name ≡ Some f
    pub path : path_of new f ≡ q
    pub put : put_by old c ≡ Some (comes old new f)
    pub unlike : IsUnlike f

  fresh_comes : (f : Entry) (p : List (List ℕ)) (body : Body) → entry_of old f.name ≡ None → path_of new f ≡ p → f.body ≡ body → Some (Added p body) ≡ Some (comes old new f)
  fresh_comes f p body g path is =
      (λ i. Some (Added (sym path i) (sym is i))) ∙ ap (λ o. Some (option_map_or Old o (Added (path_of new f) f.body))) (sym g)

  target_of_add : (p : List (List ℕ)) (body : Body) (c : Change) → put_by old c ≡ Some (Added p body) → IsAdd old new p body → IsTarget p c
  target_of_add p body c put r = record {
    f = r.f;
    here = r.here;
    path = r.path;
    put = put ∙ fresh_comes r.f p body r.fresh r.path r.is;
    unlike = λ e g. let z : Some e ≡ None = sym g ∙ r.fresh in absurd cc;
  }

  old_name : (p q : List (List ℕ)) (r : IsRename old new p q) → entry_of old r.f.name ≡ Some r.e
  old_name p q r = ap (entry_of old) (name_of new r.e.name r.f r.there) ∙ r.here

  target_of_rename : (p q : List (List ℕ)) → IsRename old new p q → IsTarget q (Rename p q)
  target_of_rename p q r = record {
    f = r.f;
    here = own new r.e.name r.f r.there;
    path = r.to;
    put =
        ap (option_map Old) (ap (node_at old) (sym r.from) ∙ path_leads old fo r.e.name r.e r.here)
        ∙ ap (λ o. Some (option_map_or Old o (Added (path_of new r.f) r.f.body))) (sym (old_name p q r));
    unlike = λ e g. ap (λ (x : Entry). same_slot x.slot r.f.slot) (same_some g (old_name p q r)) ∙ r.moved;
  }

  -- the change with a target is that of the node at that path
  pub target_is : (q : List (List ℕ)) (c : Change) → Split all c → aims_at q c ≡ true → IsTarget q c
  target_is q (Delete p) s h = absurd cc
  target_is q (Rename p r) s h =
      subst (λ t. IsTarget t (Rename p r)) (same_path-is r q h) (target_of_rename p r (each_is old new so sn (Rename p r) s))
  target_is q (AddDir p) s h = subst (λ t. IsTarget t (AddDir p)) (same_path-is p q h) (target_of_add p Dir (AddDir p) refl (each_is old new so sn (AddDir p) s))
  target_is q (AddFile p content) s h =
      subst (λ t. IsTarget t (AddFile p content)) (same_path-is p q h) (target_of_add p (File content) (AddFile p content) refl (each_is old new so sn (AddFile p content) s))
  target_is q (Patch p a b) s h = absurd cc
  target_is q (Clear p k) s h = absurd cc
  target_is q (Set p k v) s h = absurd cc

  -- and a node that is moved or added is the target of one
  pub has_target : (f : Entry) → entry_of new f.name ≡ Some f → IsUnlike f → (c : Change) × Split all c × (aims_at (path_of new f) c ≡ true)
  has_target f here unlike = at (entry_of old f.name) refl
    where
      by_body : (b : Body) → f.body ≡ b → entry_of old f.name ≡ None → (c : Change) × Split all c × (aims_at (path_of new f) c ≡ true)
      by_body Dir is g = (
        AddDir (path_of new f),
        each_in old new so sn (AddDir (path_of new f)) (record { f = f; here = here; fresh = g; is = is; path = refl }),
        same_path-self (path_of new f),
      )
      by_body (File content) is g = (
        AddFile (path_of new f) content,
        each_in old new so sn (AddFile (path_of new f) content) (record { f = f; here = here; fresh = g; is = is; path = refl }),
        same_path-self (path_of new f),
      )

      at : (o : Option Entry) → entry_of old f.name ≡ o → (c : Change) × Split all c × (aims_at (path_of new f) c ≡ true)
      at None g = by_body f.body refl g
      at (Some e) g = (
        Rename (path_of old e) (path_of new f),
        each_in old new so sn (Rename (path_of old e) (path_of new f)) (record {
          e = e;
          f = f;
          here = own old f.name e g;
          there = ap (entry_of new) (name_of old f.name e g) ∙ here;
          moved = unlike e g;
          from = refl;
          to = refl;
        }),
        same_path-self (path_of new f),
      )

  -- a node at a path that is no target hung there before
  pub record IsStaying (f : Entry) : Type 0 where
    pub e : Entry
    pub was : entry_of old f.name ≡ Some e
    pub slot : e.slot ≡ f.slot

  pub stays : (f : Entry) → entry_of new f.name ≡ Some f → find (aims_at (path_of new f)) all ≡ None → IsStaying f
  stays f here none = at (entry_of old f.name) refl
    where
      no_target : IsUnlike f → ⊥
      no_target unlike =
          let c = has_target f here unlike in
          let z : aims_at (path_of new f) c.0 ≡ false = none_passes (aims_at (path_of new f)) all c.0 (not_found (aims_at (path_of new f)) all none) c.1 in
          let y : true ≡ false = sym c.2 ∙ z in
          absurd cc

      by_slot : (e : Entry) → entry_of old f.name ≡ Some e → (b : Bool) → same_slot e.slot f.slot ≡ b → IsStaying f
      by_slot e g true m = record { e = e; was = g; slot = same_slot-is e.slot f.slot m }
      by_slot e g false m = absurd (no_target (λ d k. ap (λ (x : Entry). same_slot x.slot f.slot) (same_some k g) ∙ m))

      at : (o : Option Entry) → entry_of old f.name ≡ o → IsStaying f
      at None g = absurd (no_target (λ e k. let z : Some e ≡ None = sym k ∙ g in absurd cc))
      at (Some e) g = by_slot e g (same_slot e.slot f.slot) refl

  -- who stands at the path of another is that one
  pub same_at : (d e : Entry) (p : List (List ℕ)) → entry_of old d.name ≡ Some d → entry_of old e.name ≡ Some e → path_of old d ≡ p → stands_at old e p ≡ true → d ≡ e
  same_at d e p hd he path h =
      let g = passing_some (λ f. same_name f.name e.name) (node_at old p) h in
      let there : node_at old p ≡ Some d = ap (node_at old) (sym path) ∙ path_leads old fo d.name d hd in
      let same : g.0 ≡ d = same_some g.1 there in
      let name : d.name ≡ e.name = ap (λ (x : Entry). x.name) (sym same) ∙ same_name-is g.0.name e.name g.2 in
      same_some hd (ap (entry_of old) name ∙ he)

  -- a node that hangs where it hung is kept
  pub unchanged : (e f : Entry) → entry_of old e.name ≡ Some e → entry_of new e.name ≡ Some f → e.slot ≡ f.slot → is_kept old all e ≡ true
  unchanged e f here there slot = ap (λ b. not b && not (is_moved old all e)) not_deleted ∙ ap not not_moved
    where
      no_delete : (c : Change) → Split all c → deletes old e c ≡ true → ⊥
      no_delete (Delete p) s h =
          let r : IsDelete old new p = each_is old new so sn (Delete p) s in
          let same = same_at r.e e p r.here here r.path h in
          let z : None ≡ Some f = sym r.gone ∙ ap (λ (x : Entry). entry_of new x.name) same ∙ there in
          absurd cc
      no_delete (Rename p q) s h = absurd cc
      no_delete (AddDir p) s h = absurd cc
      no_delete (AddFile p c) s h = absurd cc
      no_delete (Patch p a b) s h = absurd cc
      no_delete (Clear p k) s h = absurd cc
      no_delete (Set p k v) s h = absurd cc

      no_move : (c : Change) → Split all c → moves old e c ≡ true → ⊥
      no_move (Delete p) s h = absurd cc
      no_move (Rename p q) s h =
          let r : IsRename old new p q = each_is old new so sn (Rename p q) s in
          let same = same_at r.e e p r.here here r.from h in
          let other : r.f ≡ f = same_some r.there (ap (λ (x : Entry). entry_of new x.name) same ∙ there) in
          let z : false ≡ true = sym r.moved ∙ (λ i. same_slot (same i).slot (other i).slot) ∙ ap (λ t. same_slot t f.slot) slot ∙ same_slot-self f.slot in
          absurd cc
      no_move (AddDir p) s h = absurd cc
      no_move (AddFile p c) s h = absurd cc
      no_move (Patch p a b) s h = absurd cc
      no_move (Clear p k) s h = absurd cc
      no_move (Set p k v) s h = absurd cc

      not_deleted : is_deleted old all e ≡ false
      not_deleted = ⊎_elim (λ t. let c = some_passes (deletes old e) all t in absurd (no_delete c.0 c.1.at c.1.passes)) (λ f. f) (told (is_deleted old all e))

      not_moved : is_moved old all e ≡ false
      not_moved = ⊎_elim (λ t. let c = some_passes (moves old e) all t in absurd (no_move c.0 c.1.at c.1.passes)) (λ f. f) (told (is_moved old all e))

  -- a node that is kept hangs there in the new tree
  pub record IsHanging (e : Entry) : Type 0 where
    pub f : Entry
    pub there : entry_of new e.name ≡ Some f
    pub slot : f.slot ≡ e.slot

  stands_there : (e : Entry) → entry_of old e.name ≡ Some e → stands_at old e (path_of old e) ≡ true
  stands_there e here = ap (is_some_with (λ f. same_name f.name e.name)) (path_leads old fo e.name e here) ∙ same_name-self e.name

  neither : (a b : Bool) → (not a && not b) ≡ true → (a ≡ false) × (b ≡ false)
  neither true b h = absurd cc
  neither false true h = absurd cc
  neither false false h = (refl, refl)

  pub hangs : (e : Entry) → entry_of old e.name ≡ Some e → is_kept old all e ≡ true → IsHanging e
  hangs e here kept = at (entry_of new e.name) refl
    where
      by_slot : (f : Entry) → entry_of new e.name ≡ Some f → (b : Bool) → same_slot e.slot f.slot ≡ b → IsHanging e
      by_slot f g true m = record { f = f; there = g; slot = sym (same_slot-is e.slot f.slot m) }
      by_slot f g false m =
          let s = each_in old new so sn (Rename (path_of old e) (path_of new f)) (record { e = e; f = f; here = here; there = g; moved = m; from = refl; to = refl }) in
          let t = any_of (moves old e) all (Rename (path_of old e) (path_of new f)) s (stands_there e here) in
          let n = neither (is_deleted old all e) (is_moved old all e) kept in
          let z : true ≡ false = sym t ∙ n.1 in
          absurd cc

      at : (o : Option Entry) → entry_of new e.name ≡ o → IsHanging e
      at None g =
          let s = each_in old new so sn (Delete (path_of old e)) (record { e = e; here = here; gone = g; path = refl }) in
          let t = any_of (deletes old e) all (Delete (path_of old e)) s (stands_there e here) in
          let n = neither (is_deleted old all e) (is_moved old all e) kept in
          let z : true ≡ false = sym t ∙ n.0 in
          absurd cc
      at (Some f) g = by_slot f g (same_slot e.slot f.slot) refl

  -- a kept child of the old node hangs below the new one
  pub record IsChild (name : List ℕ) (d e : Entry) : Type 0 where
    pub f : Entry
    pub there : entry_of new e.name ≡ Some f
    pub hangs : f.slot ≡ Below d.name name
    pub slot : f.slot ≡ e.slot

  pub child : (name : List ℕ) (d ed e : Entry) → entry_of old d.name ≡ Some ed → child_of old name ed ≡ Some e → is_kept old all e ≡ true → IsChild name d e
  child name d ed e was at kept =
      let a = at_slot-is old fo (Below ed.name name) e at in
      let h = hangs e a.1 kept in
      record { f = h.f; there = h.there; hangs = h.slot ∙ a.0 ∙ ap (λ n. Below n name) (name_of old d.name ed was); slot = h.slot }

  -- no child is kept
  pub no_child : (name : List ℕ) (ed : Entry) → ((e : Entry) → child_of old name ed ≡ Some e → is_kept old all e ≡ true → ⊥) → kept_child old all name (Old ed) ≡ None
  no_child name ed none = by_kind (is_dir ed)
    where
      by_kept : (e : Entry) → child_of old name ed ≡ Some e → (b : Bool) → is_kept old all e ≡ b → cond b (Some (Old e)) None ≡ None
      by_kept e g true k = absurd (none e g k)
      by_kept e g false k = refl

      by_child : (o : Option Entry) → child_of old name ed ≡ o → option_and_then (if_kept old all) o ≡ None
      by_child None g = refl
      by_child (Some e) g = by_kept e g (is_kept old all e) refl

      by_kind : (b : Bool) → cond b (option_and_then (if_kept old all) (child_of old name ed)) None ≡ None
      by_kind true = by_child (child_of old name ed) refl
      by_kind false = refl

  kept_here : (e : Entry) → is_kept old all e ≡ true → if_kept old all e ≡ Some (Old e)
  kept_here e h = ap (λ b. cond b (Some (Old e)) None) h

  path_here : (up : List (List ℕ)) (f : Entry) → node_up new up ≡ Some f → path_of new f ≡ reverse up
  path_here up f h = path_of-at new fn (reverse up) f (ap (node_up new) (reverse-reverse up) ∙ h)

  -- at the root path
  root_stays : (f : Entry) → root_of new ≡ Some f → find (aims_at []) all ≡ None → option_and_then (if_kept old all) (root_of old) ≡ Some (comes old new f)
  root_stays f h none =
      let a = at_slot-is new fn Root f h in
      let s = stays f a.1 (subst (λ q. find (aims_at q) all ≡ None) (sym (path_here [] f h)) none) in
      let here = own old f.name s.e s.was in
      let top : root_of old ≡ Some s.e = ap (at_slot old) (sym (s.slot ∙ a.0)) ∙ at_slot-of old fo s.e.name s.e here in
      let there : entry_of new s.e.name ≡ Some f = ap (entry_of new) (name_of old f.name s.e s.was) ∙ a.1 in
      ap (option_and_then (if_kept old all)) top
      ∙ kept_here s.e (unchanged s.e f here there s.slot)
      ∙ ap (λ o. Some (option_map_or Old o (Added (path_of new f) f.body))) (sym s.was)

  -- at a path below a node
  below_stays : (name : List ℕ) (up : List (List ℕ)) (d f : Entry) → node_up new up ≡ Some d → child_of new name d ≡ Some f → find (aims_at (reverse (name ∷ up))) all ≡ None →
      kept_child old all name (comes old new d) ≡ Some (comes old new f)
  below_stays name up d f above h none =
      let a = at_slot-is new fn (Below d.name name) f h in
      let there_up : node_up new (name ∷ up) ≡ Some f = ap (option_and_then (child_of new name)) above ∙ h in
      let s = stays f a.1 (subst (λ q. find (aims_at q) all ≡ None) (sym (path_here (name ∷ up) f there_up)) none) in
      let here = own old f.name s.e s.was in
      let slot : s.e.slot ≡ Below d.name name = s.slot ∙ a.0 in
      let parent = fo.parents s.e.name d.name s.e name here slot in
      let there : entry_of new s.e.name ≡ Some f = ap (entry_of new) (name_of old f.name s.e s.was) ∙ a.1 in
      let kid : child_of old name parent.0 ≡ Some s.e =
      ap (λ n. at_slot old (Below n name)) (name_of old d.name parent.0 parent.1) ∙ ap (at_slot old) (sym slot) ∙ at_slot-of old fo s.e.name s.e here in
      ap (λ o. kept_child old all name (option_map_or Old o (Added (path_of new d) d.body))) parent.1
      ∙ ap (λ b. cond b (option_and_then (if_kept old all) (child_of old name parent.0)) None) parent.2
      ∙ ap (option_and_then (if_kept old all)) kid
      ∙ kept_here s.e (unchanged s.e f here there s.slot)
      ∙ ap (λ o. Some (option_map_or Old o (Added (path_of new f) f.body))) (sym s.was)

  -- where the new tree has nothing below a node
  nothing_below : (name : List ℕ) (d : Entry) → child_of new name d ≡ None → kept_child old all name (comes old new d) ≡ None
  nothing_below name d none = at (entry_of old d.name) refl
    where
      no_kid : (ed : Entry) → entry_of old d.name ≡ Some ed → (e : Entry) → child_of old name ed ≡ Some e → is_kept old all e ≡ true → ⊥
      no_kid ed g e at kept =
          let k = child name d ed e g at kept in
          let there : at_slot new (Below d.name name) ≡ Some k.f = ap (at_slot new) (sym k.hangs) ∙ at_slot-of new fn e.name k.f k.there in
          let z : None ≡ Some k.f = sym none ∙ there in
          absurd cc

      at : (o : Option Entry) → entry_of old d.name ≡ o → kept_child old all name (option_map_or Old o (Added (path_of new d) d.body)) ≡ None
      at None g = refl
      at (Some ed) g = no_child name ed (no_kid ed g)

  root_aside : (o : Option Entry) → root_of new ≡ o → find (aims_at []) all ≡ None → option_and_then (if_kept old all) (root_of old) ≡ option_map (comes old new) o
  root_aside (Some f) h none = root_stays f h none
  root_aside None h none =
      let r = sn.sane.root in
      let there : root_of new ≡ Some r.1 = ap (at_slot new) (sym r.3) ∙ at_slot-of new fn r.0 r.1 r.2 in
      let z : None ≡ Some r.1 = sym h ∙ there in
      absurd cc

  below_aside : (name : List ℕ) (up : List (List ℕ)) (d : Entry) → node_up new up ≡ Some d → (o : Option Entry) → child_of new name d ≡ o → find (aims_at (reverse (name ∷ up))) all ≡ None →
      kept_child old all name (comes old new d) ≡ option_map (comes old new) o
  below_aside name up d above (Some f) h none = below_stays name up d f above h none
  below_aside name up d above None h none = nothing_below name d h

  under : (name : List ℕ) (up : List (List ℕ)) (o : Option Entry) → node_up new up ≡ o → find (aims_at (reverse (name ∷ up))) all ≡ None →
      option_and_then (kept_child old all name) (option_map (comes old new) o) ≡ option_map (comes old new) (option_and_then (child_of new name) o)
  under name up None h none = refl
  under name up (Some d) h none = below_aside name up d h (child_of new name d) refl none

  -- by the first change with that target, or targets aside
  seated : (up : List (List ℕ)) → (find (aims_at (reverse up)) all ≡ None → aside_up old all up ≡ option_map (comes old new) (node_up new up)) →
      occupant_up old all up ≡ option_map (comes old new) (node_up new up)
  seated up aside = by_first old all up ∙ by_target (find (aims_at (reverse up)) all) refl
    where
      by_target : (o : Option Change) → find (aims_at (reverse up)) all ≡ o → occupant_by old (aside_up old all up) o ≡ option_map (comes old new) (node_up new up)
      by_target None none = aside none
      by_target (Some c) h =
          let f = found (aims_at (reverse up)) all c h in
          let t = target_is (reverse up) c f.at f.passes in
          let there : node_up new up ≡ Some t.f = ap (node_up new) (sym (reverse-reverse up) ∙ ap reverse (sym t.path)) ∙ path_leads new fn t.f.name t.f t.here in
          t.put ∙ ap (option_map (comes old new)) (sym there)

  -- the occupant of each path of the new tree
  pub occupies : (up : List (List ℕ)) → occupant_up old all up ≡ option_map (comes old new) (node_up new up)
  occupies [] = seated [] (root_aside (root_of new) refl)
  occupies (name ∷ up) = seated (name ∷ up) (λ none. ap (option_and_then (kept_child old all name)) (occupies up) ∙ under name up (node_up new up) refl none)

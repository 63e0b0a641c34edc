-- The entries of the new tree, one for each of its nodes.
use Rattle.std.specs.Prelude.{option_map, option_and_then, filter_map, reverse, IsTrue}
use Rattle.std.specs.Option.{option_map_or}
use Rattle.std.proofs.Common.{◌≡◌, ℕ, Bool, true, false, cond, List, [], ◌∷◌, ◌++◌, Option, Some, None, refl, sym, ◌∙◌, ap, subst, ⊎_elim}
use Rattle.mtn_base.specs.Names.{same_name}
use Rattle.mtn_base.specs.declared.id.Id.{Id}
use Rattle.mtn_base.specs.declared.name.NodeName.{NodeName}
use Rattle.mtn_roster.specs.declared.entry.Entry.{Entry}
use Rattle.mtn_roster.specs.declared.entry.Body.{Body}
use Rattle.mtn_roster.specs.declared.entry.Body.TheVariants.{Dir, File}
use Rattle.mtn_roster.specs.declared.entry.Slot.{Slot}
use Rattle.mtn_roster.specs.declared.entry.Slot.TheVariants.{Root, Below}
use Rattle.mtn_changes.specs.declared.change.Change.{Change}
use Rattle.mtn_changes.specs.declared.change.Change.TheVariants.{Delete, Rename, AddDir, AddFile, Patch, Clear, Set}
use Rattle.mtn_roster.specs.Tree.{Tree, entry_of, node_at, node_up, at_slot, child_of, is_dir, is_dir_body, mtn, EndsAtRoot, IsSaneMap}
use Rattle.mtn_roster.specs.Tree.EndsAtRoot.{top, under}
use Rattle.mtn_changeset_laws.specs.Changes.{Occupant, occupant, occupant_name, occupant_body, occupant_up, is_content, has_content, is_deleted, put_by, slot_up, is_at, edited, edited_by, old_after, added_at, added_by, tree_after}
use Rattle.mtn_changeset_laws.specs.Changes.Occupant.{Old, Added}
use Rattle.mtn_changeset_laws.specs.Laws.{NoneBornIn}
use Rattle.mtn_base.proofs.Finding.{passing_some, Split, later, found, finds_some}
use Rattle.mtn_base.proofs.Members.{head, of_append, in_left, in_right, of_filter_map, in_filter_map}
use Rattle.mtn_base.proofs.Tests.{same_name-is, same_name-self, same_path-self}
use Rattle.mtn_changeset_laws.proofs.Passing.{Passes, patched}
use Rattle.mtn_roster.proofs.Forest.{IsForest, same_some, split_of, at_slot-of, node_there, one_path}
use Rattle.mtn_roster.proofs.Looking.{entry_of-in_order}
use Rattle.mtn_changeset_laws.proofs.Occupying.{RenamesOnce, IsPresent, slot_of, place, targeted, standing, dir_above, root_is_dir, no_mtn}
use Rattle.mtn_changeset_laws.proofs.Occupying.IsPresent.{old_one, added_one}

either_way : {A B : Type 0} (f : A → B) (b : Bool) (x y : A) (v : B) → f x ≡ v → f y ≡ v → f (cond b x y) ≡ v
either_way f true x y v p q = p
either_way f false x y v p q = q

module _ (old : Tree) (all : List Change) (new : Id) where
  -- edits keep names and slots
  pub edited-name : (c : Change) (e : Entry) → (edited old all new c e).name ≡ e.name
  edited-name (Delete p) e = refl
  edited-name (Rename p q) e = refl
  edited-name (AddDir p) e = refl
  edited-name (AddFile p c) e = refl
  edited-name (Patch p a b) e = either_way (λ (x : Entry). x.name) (is_at old all new e.name p) _ _ _ refl refl
  edited-name (Clear p k) e = either_way (λ (x : Entry). x.name) (is_at old all new e.name p) _ _ _ refl refl
  edited-name (Set p k v) e = either_way (λ (x : Entry). x.name) (is_at old all new e.name p) _ _ _ refl refl

  edited-slot : (c : Change) (e : Entry) → (edited old all new c e).slot ≡ e.slot
  edited-slot (Delete p) e = refl
  edited-slot (Rename p q) e = refl
  edited-slot (AddDir p) e = refl
  edited-slot (AddFile p c) e = refl
  edited-slot (Patch p a b) e = either_way (λ (x : Entry). x.slot) (is_at old all new e.name p) _ _ _ refl refl
  edited-slot (Clear p k) e = either_way (λ (x : Entry). x.slot) (is_at old all new e.name p) _ _ _ refl refl
  edited-slot (Set p k v) e = either_way (λ (x : Entry). x.slot) (is_at old all new e.name p) _ _ _ refl refl

  edited_by-name : (cs : List Change) (e : Entry) → (edited_by old all new cs e).name ≡ e.name
  edited_by-name [] e = refl
  edited_by-name (c ∷ cs) e = edited_by-name cs (edited old all new c e) ∙ edited-name c e

  edited_by-slot : (cs : List Change) (e : Entry) → (edited_by old all new cs e).slot ≡ e.slot
  edited_by-slot [] e = refl
  edited_by-slot (c ∷ cs) e = edited_by-slot cs (edited old all new c e) ∙ edited-slot c e

  -- and keep the kind, where each patch of the node finds a file
  edited-kind : (c : Change) (e : Entry) → ((p : List (List ℕ)) (a b : Id) → c ≡ Patch p a b → is_at old all new e.name p ≡ true → is_dir e ≡ false) →
      is_dir (edited old all new c e) ≡ is_dir e
  edited-kind (Delete p) e h = refl
  edited-kind (Rename p q) e h = refl
  edited-kind (AddDir p) e h = refl
  edited-kind (AddFile p c) e h = refl
  edited-kind (Patch p a b) e h =
      elim (is_at old all new e.name p) as (λ t. is_at old all new e.name p ≡ t → is_dir (cond t (record e { body = File b }) e) ≡ is_dir e) [
        | true ↦ λ g. sym (h p a b refl g)
        | false ↦ λ g. refl
      ] refl
  edited-kind (Clear p k) e h = either_way is_dir (is_at old all new e.name p) _ _ _ refl refl
  edited-kind (Set p k v) e h = either_way is_dir (is_at old all new e.name p) _ _ _ refl refl

  edited_by-kind : (cs : List Change) (e : Entry) → ((p : List (List ℕ)) (a b : Id) → Split cs (Patch p a b) → is_at old all new e.name p ≡ true → is_dir e ≡ false) →
      is_dir (edited_by old all new cs e) ≡ is_dir e
  edited_by-kind [] e h = refl
  edited_by-kind (c ∷ cs) e h =
      let k : is_dir (edited old all new c e) ≡ is_dir e = edited-kind c e (λ p a b g. h p a b (subst (Split (c ∷ cs)) g (head c cs))) in
      edited_by-kind cs (edited old all new c e)
      (λ p a b s g. k ∙ h p a b (later c cs (Patch p a b) s) (ap (λ n. is_at old all new n p) (sym (edited-name c e)) ∙ g)) ∙ k

  module _ (o : IsForest old) (once : RenamesOnce all) (ok : Passes old all) (unborn : NoneBornIn old new) where
    abbrev Present : Occupant → Type 0
    Present = IsPresent old o all new

    abbrev slot_there : Occupant → Slot
    slot_there = slot_of old o all new

    -- what the new tree has of one of its nodes
    abbrev pub entry_after : Occupant → Entry
    entry_after (Old e) = edited_by old all new all (record e { slot = slot_there (Old e) })
    entry_after (Added p body) = added_at old all new p body

    pub after-name : (x : Occupant) → (entry_after x).name ≡ occupant_name new x
    after-name (Old e) = edited_by-name all _
    after-name (Added p body) = edited_by-name all _

    pub after-slot : (x : Occupant) → (entry_after x).slot ≡ slot_there x
    after-slot (Old e) = edited_by-slot all _
    after-slot (Added p body) = edited_by-slot all _

    -- a name is that of one node
    pub one_node : (x y : Occupant) → Present x → Present y → occupant_name new x ≡ occupant_name new y → x ≡ y
    one_node (Old e) (Old f) (old_one te de) (old_one tf df) h = ap Old (same_some te (subst (λ m. entry_of old m ≡ Some f) (sym h) tf))
    one_node (Old e) (Added p b) (old_one te de) y h = absurd (unborn e.name e te (ap (λ (n : NodeName). n.birth) h))
    one_node (Added p b) (Old e) x (old_one te de) h = absurd (unborn e.name e te (ap (λ (n : NodeName). n.birth) (sym h)))
    one_node (Added p b) (Added q c) x y h =
        let g : p ≡ q = ap (λ (n : NodeName). n.path) h in
        let u = place_added p b x in
        let w = place_added q c y in
        let v : occupant_up old all (reverse p) ≡ Some (Added q c) = ap (λ r. occupant_up old all (reverse r)) g ∙ w in
        same_some u v
      where
        place_added : (p : List (List ℕ)) (b : Body) → Present (Added p b) → occupant_up old all (reverse p) ≡ Some (Added p b)
        place_added p b (added_one {c = c} s aims put) = targeted old o all new once ok p c s (Added p b) aims put

    -- the node that stands at a path, by its name
    pub is_at-is : (x : Occupant) (p : List (List ℕ)) → Present x → is_at old all new (occupant_name new x) p ≡ true → occupant old all p ≡ Some x
    is_at-is x p at h =
        let y = passing_some (λ d. same_name (occupant_name new d) (occupant_name new x)) (occupant old all p) h in
        let s = standing old o all new once ok (reverse p) y.0 y.1 in
        y.1 ∙ ap Some (one_node y.0 x s.present at (same_name-is _ _ y.2))

    file_there : (from : Id) (x : Occupant) → has_content from (Some x) ≡ true → is_dir_body (occupant_body x) ≡ false
    file_there from (Added p b) h = absurd cc
    file_there from (Old e) h = at e.body h
      where
        at : (b : Body) → is_content from b ≡ true → is_dir_body b ≡ false
        at Dir g = absurd cc
        at (File c) g = refl

    no_patch_of_dir : (x : Occupant) → Present x → (p : List (List ℕ)) (a b : Id) → Split all (Patch p a b) → is_at old all new (occupant_name new x) p ≡ true →
        is_dir_body (occupant_body x) ≡ false
    no_patch_of_dir x at p a b s h = file_there a x (ap (has_content a) (sym (is_at-is x p at h)) ∙ patched old all ok p a b s)

    pub after-kind : (x : Occupant) → Present x → is_dir (entry_after x) ≡ is_dir_body (occupant_body x)
    after-kind (Old e) at = edited_by-kind all _ (no_patch_of_dir (Old e) at)
    after-kind (Added p body) at = edited_by-kind all _ (no_patch_of_dir (Added p body) at)

    abbrev listed : List Entry
    listed = filter_map (old_after old all new) old ++ filter_map (added_by old all new) all

    stays_on : (e : Entry) → is_deleted old all e ≡ false → old_after old all new e ≡ Some (entry_after (Old e))
    stays_on e h = ap (λ b. cond b None (Some (entry_after (Old e)))) h

    -- each entry in the list is that of a node
    record IsOf (e : Entry) : Type 0 where
      node : Occupant
      present : Present node
      is : entry_after node ≡ e

    of_old : (e f : Entry) → Split old e → old_after old all new e ≡ Some f → IsOf f
    of_old e f s h =
        elim (is_deleted old all e) as (λ b. is_deleted old all e ≡ b → cond b None (Some (entry_after (Old e))) ≡ Some f → IsOf f) [
          | true ↦ λ d g. absurd cc
          | false ↦ λ d g. record { node = Old e; present = old_one (o.distinct e s) d; is = cc }
        ] refl h

    of_added : (c : Change) (f : Entry) → Split all c → added_by old all new c ≡ Some f → IsOf f
    of_added (Delete p) f s h = absurd cc
    of_added (Rename p q) f s h = absurd cc
    of_added (AddDir p) f s h = record { node = Added p Dir; present = added_one s (same_path-self p) refl; is = cc }
    of_added (AddFile p c) f s h = record { node = Added p (File c); present = added_one s (same_path-self p) refl; is = cc }
    of_added (Patch p a b) f s h = absurd cc
    of_added (Clear p k) f s h = absurd cc
    of_added (Set p k v) f s h = absurd cc

    of_listed : (f : Entry) → Split listed f → IsOf f
    of_listed f s = ⊎_elim
        (λ a. let t = of_filter_map (old_after old all new) old f a in of_old t.0 f t.1 t.2)
        (λ b. let t = of_filter_map (added_by old all new) all f b in of_added t.0 f t.1 t.2)
        (of_append (filter_map (old_after old all new) old) (filter_map (added_by old all new) all) f s)

    add_gives : (c : Change) (p : List (List ℕ)) (body : Body) → put_by old c ≡ Some (Added p body) → added_by old all new c ≡ Some (entry_after (Added p body))
    add_gives (Delete q) p body h = absurd cc
    add_gives (Rename q r) p body h = absurd (no (node_at old q) h)
      where
        no : (x : Option Entry) → option_map Old x ≡ Some (Added p body) → ⊥
        no None g = cc
        no (Some e) g = cc
    add_gives (AddDir q) p body h =
        let a : q ≡ p = cc in
        let b : Dir ≡ body = cc in
        λ i. Some (entry_after (Added (a i) (b i)))
    add_gives (AddFile q c) p body h =
        let a : q ≡ p = cc in
        let b : File c ≡ body = cc in
        λ i. Some (entry_after (Added (a i) (b i)))
    add_gives (Patch q a b) p body h = absurd cc
    add_gives (Clear q k) p body h = absurd cc
    add_gives (Set q k v) p body h = absurd cc

    is_listed : (x : Occupant) → Present x → Split listed (entry_after x)
    is_listed (Old e) (old_one te de) =
        in_left _ (filter_map (added_by old all new) all) _ (in_filter_map (old_after old all new) old e (entry_after (Old e)) (split_of old e.name e te) (stays_on e de))
    is_listed (Added p body) (added_one {c = c} s aims put) =
        in_right (filter_map (old_after old all new) old) _ _ (in_filter_map (added_by old all new) all c (entry_after (Added p body)) s (add_gives c p body put))

    -- the new tree has an entry of each of its nodes, and no other
    pub after_has : (x : Occupant) → Present x → entry_of (tree_after old all new) (occupant_name new x) ≡ Some (entry_after x)
    after_has x at =
        let n = occupant_name new x in
        let self : same_name (entry_after x).name n ≡ true = ap (λ m. same_name m n) (after-name x) ∙ same_name-self n in
        let y = finds_some (λ e. same_name e.name n) listed (entry_after x) (is_listed x at) self in
        let f = found (λ e. same_name e.name n) listed y.0 y.1 in
        let i = of_listed y.0 f.at in
        let name : occupant_name new i.node ≡ n = sym (after-name i.node) ∙ ap (λ (e : Entry). e.name) i.is ∙ same_name-is y.0.name n f.passes in
        let same : i.node ≡ x = one_node i.node x i.present at name in
        entry_of-in_order listed n ∙ y.1 ∙ ap Some (sym i.is ∙ ap entry_after same)

    pub record IsOne (n : NodeName) (e : Entry) : Type 0 where
      pub node : Occupant
      pub present : Present node
      pub is : entry_after node ≡ e
      pub name : occupant_name new node ≡ n

    pub after_only : (n : NodeName) (e : Entry) → entry_of (tree_after old all new) n ≡ Some e → IsOne n e
    after_only n e h =
        let f = found (λ e. same_name e.name n) listed e (sym (entry_of-in_order listed n) ∙ h) in
        let i = of_listed e f.at in
        record { node = i.node; present = i.present; is = i.is; name = sym (after-name i.node) ∙ ap (λ (e : Entry). e.name) i.is ∙ same_name-is e.name n f.passes }

    abbrev t' : NodeName → Option Entry
    t' = entry_of (tree_after old all new)

    -- a node of the new tree with its new path
    record IsSeated (n : NodeName) (e : Entry) : Type 0 where
      node : Occupant
      present : Present node
      is : entry_after node ≡ e
      name : occupant_name new node ≡ n
      up : List (List ℕ)
      at : occupant_up old all up ≡ Some node
      hangs : e.slot ≡ slot_up old all new up

    seated : (n : NodeName) (e : Entry) → t' n ≡ Some e → IsSeated n e
    seated n e h =
        let i = after_only n e h in
        let p = place old o all new once ok i.node i.present in
        let s = standing old o all new once ok p.0 i.node p.1 in
        record {
          node = i.node;
          present = i.present;
          is = i.is;
          name = i.name;
          up = p.0;
          at = p.1;
          hangs = ap (λ (e : Entry). e.slot) (sym i.is) ∙ after-slot i.node ∙ s.hangs;
        }

    -- the slot of a path with someone above
    slot_below : (name : List ℕ) (up : List (List ℕ)) (d : Occupant) → occupant_up old all up ≡ Some d → slot_up old all new (name ∷ up) ≡ Below (occupant_name new d) name
    slot_below name up d h = ap (λ q. option_map_or (λ d. Below (occupant_name new d) name) q Root) h

    -- who stands somewhere is in the new tree, with the slot of its path
    there_after : (up : List (List ℕ)) (d : Occupant) → occupant_up old all up ≡ Some d → t' (occupant_name new d) ≡ Some (entry_after d)
    there_after up d h = after_has d (standing old o all new once ok up d h).present

    chain_of : (up : List (List ℕ)) (x : Occupant) → occupant_up old all up ≡ Some x → EndsAtRoot t' (slot_up old all new up)
    chain_of [] x h = top
    chain_of (name ∷ up) x h =
        let d = dir_above old o all new once ok name up x h in
        let s = standing old o all new once ok up d.0 d.1 in
        subst (EndsAtRoot t') (sym (slot_below name up d.0 d.1))
        (under (there_after up d.0 d.1) (subst (EndsAtRoot t') (sym (after-slot d.0 ∙ s.hangs)) (chain_of up d.0 d.1)))

    -- paths with someone there that have one slot are one
    one_place : (up vp : List (List ℕ)) (x y : Occupant) → occupant_up old all up ≡ Some x → occupant_up old all vp ≡ Some y → slot_up old all new up ≡ slot_up old all new vp → up ≡ vp
    one_place [] [] x y h k e = refl
    one_place [] (name ∷ vp) x y h k e =
        let d = dir_above old o all new once ok name vp y k in
        let g = slot_below name vp d.0 d.1 in
        absurd cc
    one_place (name ∷ up) [] x y h k e =
        let d = dir_above old o all new once ok name up x h in
        let g = slot_below name up d.0 d.1 in
        absurd cc
    one_place (name ∷ up) (same ∷ vp) x y h k e =
        let d = dir_above old o all new once ok name up x h in
        let f = dir_above old o all new once ok same vp y k in
        let g : Below (occupant_name new d.0) name ≡ Below (occupant_name new f.0) same = sym (slot_below name up d.0 d.1) ∙ e ∙ slot_below same vp f.0 f.1 in
        let names : name ≡ same = cc in
        let parents : occupant_name new d.0 ≡ occupant_name new f.0 = cc in
        let sd = standing old o all new once ok up d.0 d.1 in
        let sf = standing old o all new once ok vp f.0 f.1 in
        let one : d.0 ≡ f.0 = one_node d.0 f.0 sd.present sf.present parents in
        λ i. names i ∷ one_place up vp d.0 f.0 d.1 f.1 (sym sd.hangs ∙ ap slot_there one ∙ sf.hangs) i

    -- a path whose slot is the root slot is the root path
    root_path : (up : List (List ℕ)) (x : Occupant) → occupant_up old all up ≡ Some x → slot_up old all new up ≡ Root → up ≡ []
    root_path [] x h e = refl
    root_path (name ∷ up) x h e =
        let d = dir_above old o all new once ok name up x h in
        let g = slot_below name up d.0 d.1 in
        absurd cc

    after_slots : (n m : NodeName) (e f : Entry) → t' n ≡ Some e → t' m ≡ Some f → e.slot ≡ f.slot → n ≡ m
    after_slots n m e f h k g =
        let a = seated n e h in
        let b = seated m f k in
        let p : a.up ≡ b.up = one_place a.up b.up a.node b.node a.at b.at (sym a.hangs ∙ g ∙ b.hangs) in
        let q : a.node ≡ b.node = same_some a.at (ap (occupant_up old all) p ∙ b.at) in
        sym a.name ∙ ap (occupant_name new) q ∙ b.name

    parent_after : (n parent : NodeName) (e : Entry) (name : List ℕ) (up : List (List ℕ)) (x : Occupant) → occupant_up old all up ≡ Some x →
        e.slot ≡ slot_up old all new up → e.slot ≡ Below parent name → (d : Entry) × (t' parent ≡ Some d) × IsTrue (is_dir d)
    parent_after n parent e name [] x h hangs is = absurd cc
    parent_after n parent e name (last ∷ up) x h hangs is =
        let d = dir_above old o all new once ok last up x h in
        let s = standing old o all new once ok up d.0 d.1 in
        let g : Below (occupant_name new d.0) last ≡ Below parent name = sym (slot_below last up d.0 d.1) ∙ sym hangs ∙ is in
        let p : occupant_name new d.0 ≡ parent = cc in
        (entry_after d.0, subst (λ m. t' m ≡ Some (entry_after d.0)) p (there_after up d.0 d.1), after-kind d.0 s.present ∙ d.2)

    no_mtn_after : (m : NodeName) (e r : Entry) (up : List (List ℕ)) (x : Occupant) → occupant_up old all up ≡ Some x → e.slot ≡ slot_up old all new up →
        t' m ≡ Some r → r.slot ≡ Root → e.slot ≡ Below m mtn → ⊥
    no_mtn_after m e r [] x h hangs there root is = absurd cc
    no_mtn_after m e r (last ∷ up) x h hangs there root is =
        let d = dir_above old o all new once ok last up x h in
        let s = standing old o all new once ok up d.0 d.1 in
        let g : Below (occupant_name new d.0) last ≡ Below m mtn = sym (slot_below last up d.0 d.1) ∙ sym hangs ∙ is in
        let p : occupant_name new d.0 ≡ m = cc in
        let l : last ≡ mtn = cc in
        let same : entry_after d.0 ≡ r = same_some (there_after up d.0 d.1) (subst (λ k. t' k ≡ Some r) (sym p) there) in
        let top : up ≡ [] = root_path up d.0 d.1 (sym s.hangs ∙ sym (after-slot d.0) ∙ ap (λ (e : Entry). e.slot) same ∙ root) in
        no_mtn old o all new once ok x (ap (occupant_up old all) (λ i. sym l i ∷ sym top i) ∙ h)

    -- the new tree meets the five conditions
    pub after_sane : IsSaneMap t'
    after_sane = record {
      root =
          let r = ok.root in
          let s = standing old o all new once ok [] r.0 r.1 in
          (occupant_name new r.0, entry_after r.0, there_after [] r.0 r.1, after-slot r.0 ∙ s.hangs, after-kind r.0 s.present ∙ root_is_dir old o all new once ok r.0 r.1);
      one_root = λ n m e f h k p q. after_slots n m e f h k (p ∙ sym q);
      parents = λ n parent e name h is. let a = seated n e h in parent_after n parent e name a.up a.node a.at a.hangs is;
      slots = after_slots;
      rooted = λ n e h. let a = seated n e h in subst (EndsAtRoot t') (sym a.hangs) (chain_of a.up a.node a.at);
      not_mtn = λ n m e r h k root is. let a = seated n e h in no_mtn_after m e r a.up a.node a.at a.hangs k root is;
    }

    -- what stands at a path of the new tree
    module _ (f : IsForest (tree_after old all new)) where
      pub node_of : (up : List (List ℕ)) (x : Occupant) → occupant_up old all up ≡ Some x → node_up (tree_after old all new) up ≡ Some (entry_after x)
      node_of [] x h =
          let s = standing old o all new once ok [] x h in
          ap (at_slot (tree_after old all new)) (sym (after-slot x ∙ s.hangs)) ∙ at_slot-of (tree_after old all new) f (occupant_name new x) (entry_after x) (there_after [] x h)
      node_of (name ∷ up) x h =
          let d = dir_above old o all new once ok name up x h in
          let s = standing old o all new once ok (name ∷ up) x h in
          ap (option_and_then (child_of (tree_after old all new) name)) (node_of up d.0 d.1)
          ∙ ap (λ n. at_slot (tree_after old all new) (Below n name)) (after-name d.0)
          ∙ ap (at_slot (tree_after old all new)) (sym (after-slot x ∙ s.hangs ∙ slot_below name up d.0 d.1))
          ∙ at_slot-of (tree_after old all new) f (occupant_name new x) (entry_after x) (there_after (name ∷ up) x h)

      occupant_of : (up : List (List ℕ)) (e : Entry) → node_up (tree_after old all new) up ≡ Some e → (x : Occupant) × (occupant_up old all up ≡ Some x)
      occupant_of up e h =
          let a = seated e.name e (node_there (tree_after old all new) f up e h) in
          let p : a.up ≡ up = one_path (tree_after old all new) f a.up up e (node_of a.up a.node a.at ∙ ap Some a.is) h in
          (a.node, ap (occupant_up old all) (sym p) ∙ a.at)

      pub at_paths : (p : List (List ℕ)) → option_map (λ (e : Entry). e.name) (node_at (tree_after old all new) p) ≡ option_map (occupant_name new) (occupant old all p)
      at_paths p = at (occupant old all p) (node_at (tree_after old all new) p) refl refl
        where
          at : (x : Option Occupant) (e : Option Entry) → occupant old all p ≡ x → node_at (tree_after old all new) p ≡ e → option_map (λ (e : Entry). e.name) e ≡ option_map (occupant_name new) x
          at None None h k = refl
          at (Some x) e h k = ap (option_map (λ (e : Entry). e.name)) (sym k ∙ node_of (reverse p) x h) ∙ ap Some (after-name x)
          at None (Some e) h k = let y = occupant_of (reverse p) e k in absurd (let z = y.1 in cc)

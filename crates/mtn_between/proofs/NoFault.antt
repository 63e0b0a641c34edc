-- A canonical changeset has no fault.
use Rattle.std.specs.Prelude.{◌&&◌, ◌||◌, not, is_none, is_some, option_map, option_and_then, reverse}
use Rattle.std.specs.List.{list_any, count_by}
use Rattle.std.specs.Option.{option_map_or}
use Rattle.std.specs.Ordering.{is_eq}
use Rattle.std.specs.Cmp.{first_so, second_so, tied_itself}
use Rattle.std.proofs.Common.{◌≡◌, ℕ, ◌+◌, ◌≤◌, Bool, true, false, cond, List, [], ◌∷◌, ◌++◌, append_assoc, length, Option, Some, None, refl, sym, ◌∙◌, ap, subst, inl, inr, ⊎_elim, arith}
use Rattle.std.proofs.lemmas.List.{reverse-reverse}
use Rattle.mtn_base.specs.Names.{same_bytes, same_path}
use Rattle.mtn_base.specs.declared.id.Id.{Id}
use Rattle.mtn_base.specs.declared.name.NodeName.{NodeName}
use Rattle.mtn_base.specs.declared.refusal.Why.{Why}
use Rattle.mtn_base.specs.declared.refusal.Why.TheVariants.{NoRoot}
use Rattle.mtn_changes.specs.declared.change.Change.{Change}
use Rattle.mtn_changes.specs.declared.change.Change.TheVariants.{Delete, Rename, AddDir, AddFile, Patch, Clear, Set}
use Rattle.mtn_changes.specs.Targets.{target_of}
use Rattle.mtn_changes.proofs.Places.{target_total}
use Rattle.mtn_changes.proofs.Sorted.{at, one_at, count_more}
use Rattle.mtn_roster.specs.declared.entry.Body.{Body}
use Rattle.mtn_roster.specs.declared.entry.Body.TheVariants.{Dir, File}
use Rattle.mtn_roster.specs.declared.entry.Entry.{Entry}
use Rattle.mtn_roster.specs.declared.entry.Slot.{Slot}
use Rattle.mtn_roster.specs.declared.entry.Slot.TheVariants.{Root, Below}
use Rattle.mtn_base.specs.Lists.{is_some_with}
use Rattle.mtn_roster.specs.Tree.{Tree, entry_of, at_slot, child_of, root_of, node_up, node_at, live_of, is_dir, is_dir_body, path_of, same_slot, mtn, IsSane}
use Rattle.mtn_roster.specs.Walk.{is_below}
use Rattle.mtn_base.proofs.Finding.{Split, some_passes}
use Rattle.mtn_base.proofs.Members.{split_cons, in_left}
use Rattle.mtn_base.proofs.Tests.{told, same_id-self, same_name-is, same_path-is, same_path-self}
use Rattle.mtn_roster.proofs.Slots.{same_slot-is, same_slot-self}
use Rattle.mtn_roster.proofs.Forest.{IsForest, same_some, name_of, own, at_slot-is, at_slot-of, node_below, node_there}
use Rattle.mtn_roster.proofs.Pathing.{path_leads}
use Rattle.mtn_base.proofs.Sorting.{no_split}
use Rattle.mtn_changeset_laws.specs.Changes.{occupant_body, is_file, is_empty, deletes, is_deleted, is_kept, aims_at, if_kept, kept_child, occupant_up, aside_up, parent_up, occupant, is_taken, lacks_parent, is_below_file, has_kept_child, is_slot_below, hangs_there, old_value, is_content, has_content, why, or_else, fault_from, first_fault}
use Rattle.mtn_changeset_laws.specs.Changes.Occupant.{Old, Added}
use Rattle.mtn_changeset_laws.proofs.Passing.{Passes}
use Rattle.mtn_between.specs.Laws.{KindsAgree}
use Rattle.mtn_between.proofs.Standing.{IsDelete, IsRename, IsAdd, IsPatch, IsClear, IsSet, each_is}
use Rattle.mtn_between.proofs.Lawful.{apart}
use Rattle.mtn_between.proofs.Seating.{comes, all, fo, fn, IsUnlike, target_is, hangs, same_at, no_child, occupies}

-- a list of tests none of which holds gives no reason
skip : (b : Bool) (w : Why) (o : Option Why) → b ≡ false → o ≡ None → cond b (Some w) o ≡ None
skip b w o h g = ap (λ t. cond t (Some w) o) h ∙ g

pub or_false : (a b : Bool) → a ≡ false → b ≡ false → (a || b) ≡ false
or_false a b h g = ap (λ t. t || b) h ∙ g

pub and_false : (a b : Bool) → (a ≡ true → b ≡ false) → (a && b) ≡ false
and_false true b h = h refl
and_false false b h = refl

-- what passes has no fault
module _ (old : Tree) (cs : List Change) (ok : Passes old cs) where
  no_fault_from : (before rest : List Change) → cs ≡ before ++ rest → fault_from old cs before rest ≡ None
  no_fault_from before [] e = ap (λ o. cond (is_none o) (Some (record { number = length before + 1; reason = NoRoot })) None) ok.root.1
  no_fault_from before (c ∷ rest) e =
      ap (λ w. or_else (option_map (λ w. record { number = length before + 1; reason = w }) w) (fault_from old cs (before ++ c ∷ []) rest)) (ok.each c (record { before = before; rest = rest; is = e }))
      ∙ no_fault_from (before ++ c ∷ []) rest (e ∙ sym (append_assoc before (c ∷ []) rest))

  pub no_fault : first_fault old cs ≡ None
  no_fault = no_fault_from [] cs refl

-- what is apart does not stand before itself
counted : (cs : List Change) (c : Change) → Split cs c → 1 ≤ count_by (at (target_of c)) cs
counted [] c s = absurd (no_split c s)
counted (d ∷ cs) c s = elim (split_cons d cs c s) [
  | inl e ↦
      let one : one_at (target_of c) d ≡ 1 = ap (λ (x : Change). one_at (target_of c) x) e ∙ ap (λ (b : Bool). cond b 1 0) (ap is_eq (tied_itself target_total (target_of c))) in
      omega (arith, one, count_more (target_of c) d cs)
  | inr u ↦ omega (arith, counted cs c u, count_more (target_of c) d cs)
]

counted_twice : (before rest : List Change) (c : Change) → Split before c → 2 ≤ count_by (at (target_of c)) (before ++ c ∷ rest)
counted_twice [] rest c s = absurd (no_split c s)
counted_twice (d ∷ before) rest c s = elim (split_cons d before c s) [
  | inl e ↦
      let one : one_at (target_of c) d ≡ 1 = ap (λ (x : Change). one_at (target_of c) x) e ∙ ap (λ (b : Bool). cond b 1 0) (ap is_eq (tied_itself target_total (target_of c))) in
      let more : 1 ≤ count_by (at (target_of c)) (before ++ c ∷ rest) = counted (before ++ c ∷ rest) c (record { before = before; rest = rest; is = refl }) in
      omega (arith, one, more, count_more (target_of c) d (before ++ c ∷ rest))
  | inr u ↦ omega (arith, counted_twice before rest c u, count_more (target_of c) d (before ++ c ∷ rest))
]

below_is : (n : NodeName) (s : Slot) → is_below n s ≡ true → (name : List ℕ) × (s ≡ Below n name)
below_is n Root h = absurd cc
below_is n (Below p name) h = (name, ap (λ m. Below m name) (same_name-is p n h))

slots_differ : (s t : Slot) → (s ≡ t → ⊥) → same_slot s t ≡ false
slots_differ s t h = ⊎_elim (λ a. absurd (h (same_slot-is s t a))) (λ b. b) (told (same_slot s t))

no_path : (q : List (List ℕ)) → is_empty q ≡ true → q ≡ []
no_path [] h = refl
no_path (a ∷ q) h = absurd cc

module _ (old new : Tree) (so : IsSane old) (sn : IsSane new) (kinds : KindsAgree old new) where
  abbrev cs : List Change
  cs = all old new so sn

  abbrev ho : IsForest old
  ho = fo old new so sn

  abbrev hn : IsForest new
  hn = fn old new so sn

  -- one slot of the new tree, one node
  one_there : (f g : Entry) → entry_of new f.name ≡ Some f → entry_of new g.name ≡ Some g → f.slot ≡ g.slot → f ≡ g
  one_there f g h k e = same_some h (ap (entry_of new) (hn.slots f.name g.name f g h k e) ∙ k)

  -- a kept old node does not hang where a moved or added one does
  no_kept_there : (e f : Entry) → entry_of old e.name ≡ Some e → is_kept old cs e ≡ true → entry_of new f.name ≡ Some f → IsUnlike old new so sn f → e.slot ≡ f.slot → ⊥
  no_kept_there e f here kept there unlike slot =
      let h = hangs old new so sn e here kept in
      let same : h.f ≡ f = one_there h.f f (own new e.name h.f h.there) there (h.slot ∙ slot) in
      let was : entry_of old f.name ≡ Some e = ap (λ (x : Entry). entry_of old x.name) (sym same) ∙ ap (entry_of old) (name_of new e.name h.f h.there) ∙ here in
      let z : true ≡ false = sym (same_slot-self f.slot) ∙ ap (λ t. same_slot t f.slot) (sym slot) ∙ unlike e was in
      absurd cc

  -- targets aside, no one stands where a moved or added node does
  nobody_aside : (up : List (List ℕ)) (f : Entry) → node_up new up ≡ Some f → IsUnlike old new so sn f → aside_up old cs up ≡ None
  nobody_aside [] f h unlike = at (root_of old) refl
    where
      a : (f.slot ≡ Root) × (entry_of new f.name ≡ Some f)
      a = at_slot-is new hn Root f h

      by_kept : (e : Entry) → root_of old ≡ Some e → (b : Bool) → is_kept old cs e ≡ b → cond b (Some (Old e)) None ≡ None
      by_kept e g false k = refl
      by_kept e g true k = let b = at_slot-is old ho Root e g in absurd (no_kept_there e f b.1 k a.1 unlike (b.0 ∙ sym a.0))

      at : (o : Option Entry) → root_of old ≡ o → option_and_then (if_kept old cs) o ≡ None
      at None g = refl
      at (Some e) g = by_kept e g (is_kept old cs e) refl
  nobody_aside (name ∷ up) f h unlike =
      ap (option_and_then (kept_child old cs name)) (occupies old new so sn up ∙ ap (option_map (comes old new)) d.1) ∙ at (entry_of old d.0.name) refl
    where
      d : (d : Entry) × (node_up new up ≡ Some d) × (f.slot ≡ Below d.name name)
      d = node_below new hn name up f h

      there : entry_of new f.name ≡ Some f
      there = node_there new hn (name ∷ up) f h

      no_kid : (ed : Entry) → entry_of old d.0.name ≡ Some ed → (e : Entry) → child_of old name ed ≡ Some e → is_kept old cs e ≡ true → ⊥
      no_kid ed g e k kept =
          let a = at_slot-is old ho (Below ed.name name) e k in
          no_kept_there e f a.1 kept there unlike (a.0 ∙ ap (λ n. Below n name) (name_of old d.0.name ed g) ∙ sym d.2)

      at : (o : Option Entry) → entry_of old d.0.name ≡ o → kept_child old cs name (option_map_or Old o (Added (path_of new d.0) d.0.body)) ≡ None
      at None g = refl
      at (Some ed) g = no_child old new so sn name ed (no_kid ed g)

  -- the kind of who comes
  comes_kind : (f : Entry) → entry_of new f.name ≡ Some f → is_dir_body (occupant_body (comes old new f)) ≡ is_dir f
  comes_kind f here = at (entry_of old f.name) refl
    where
      at : (o : Option Entry) → entry_of old f.name ≡ o → is_dir_body (occupant_body (option_map_or Old o (Added (path_of new f) f.body))) ≡ is_dir f
      at None g = refl
      at (Some e) g = kinds f.name e f g here

  -- who stands at the path of a node
  seat : (f : Entry) (q : List (List ℕ)) → entry_of new f.name ≡ Some f → path_of new f ≡ q → occupant_up old cs (reverse q) ≡ Some (comes old new f)
  seat f q here path = occupies old new so sn (reverse q) ∙ ap (option_map (comes old new)) (ap (node_at new) (sym path) ∙ path_leads new hn f.name f here)

  -- what a target needs
  record IsFree (q : List (List ℕ)) (before : List Change) : Type 0 where
    reserved : same_path q (mtn ∷ []) ≡ false
    taken : is_taken old cs before q ≡ false
    parent : lacks_parent old cs q ≡ false
    dir : is_below_file old cs q ≡ false

  -- the parent of a node of the new tree
  above_is : (q : List (List ℕ)) (f : Entry) (name : List ℕ) (up : List (List ℕ)) → node_at new q ≡ Some f → reverse q ≡ name ∷ up →
      (d : Entry) × (occupant_up old cs up ≡ Some (comes old new d)) × (f.slot ≡ Below d.name name) × (entry_of new d.name ≡ Some d) × (is_dir d ≡ true)
  above_is q f name up h e =
      let d = node_below new hn name up f (ap (node_up new) (sym e) ∙ h) in
      let there = node_there new hn up d.0 d.1 in
      let g = hn.parents f.name d.0.name f name (node_there new hn (reverse q) f h) d.2 in
      let same : g.0 ≡ d.0 = same_some g.1 there in
      (d.0, occupies old new so sn up ∙ ap (option_map (comes old new)) d.1, d.2, there, ap is_dir (sym same) ∙ g.2)

  has_parent : (q r : List (List ℕ)) (f : Entry) → node_at new q ≡ Some f → reverse q ≡ r → (not (is_empty q) && is_none (parent_up old cs r)) ≡ false
  has_parent q [] f h e = ap (λ b. not b && true) (empty q e)
    where
      empty : (q : List (List ℕ)) → reverse q ≡ [] → is_empty q ≡ true
      empty q g = ap is_empty (sym (reverse-reverse q) ∙ ap reverse g)
  has_parent q (name ∷ up) f h e =
      let d = above_is q f name up h e in
      and_false (not (is_empty q)) (is_none (occupant_up old cs up)) (λ _. ap is_none d.1)

  has_dir_above : (q r : List (List ℕ)) (f : Entry) → node_at new q ≡ Some f → reverse q ≡ r → is_file (parent_up old cs r) ≡ false
  has_dir_above q [] f h e = refl
  has_dir_above q (name ∷ up) f h e =
      let d = above_is q f name up h e in
      ap is_file d.1 ∙ ap not (comes_kind d.0 d.3 ∙ d.4)

  no_mtn : (q : List (List ℕ)) (f : Entry) → node_at new q ≡ Some f → same_path q (mtn ∷ []) ≡ true → ⊥
  no_mtn q f h is =
      let at : node_up new (mtn ∷ []) ≡ Some f = ap (node_at new) (sym (same_path-is q (mtn ∷ []) is)) ∙ h in
      let d = node_below new hn mtn [] f at in
      let r = at_slot-is new hn Root d.0 d.1 in
      hn.not_mtn f.name d.0.name f d.0 (node_there new hn (mtn ∷ []) f at) r.1 r.0 d.2

  -- the change that brings a node to a path
  change_by : List (List ℕ) → Option Entry → Body → Change
  change_by q (Some e) b = Rename (path_of old e) q
  change_by q None Dir = AddDir q
  change_by q None (File content) = AddFile q content

  record IsFor (q : List (List ℕ)) (c : Change) : Type 0 where
    f : Entry
    there : node_at new q ≡ Some f
    is : c ≡ change_by q (entry_of old f.name) f.body

  for_add : (p q : List (List ℕ)) (b : Body) (c : Change) → p ≡ q → IsAdd old new p b → c ≡ change_by p None b → IsFor q c
  for_add p q b c same r is = subst (λ t. IsFor t c) same (record {
    f = r.f;
    there = ap (node_at new) (sym r.path) ∙ path_leads new hn r.f.name r.f r.here;
    is = is ∙ (λ i. change_by p (sym r.fresh i) (sym r.is i));
  })

  for_rename : (p r q : List (List ℕ)) → r ≡ q → IsRename old new p r → IsFor q (Rename p r)
  unfolding change_by
  for_rename p r q same x = subst (λ t. IsFor t (Rename p r)) same (record {
    f = x.f;
    there = ap (node_at new) (sym x.to) ∙ path_leads new hn x.f.name x.f (own new x.e.name x.f x.there);
    is = ap (λ t. Rename t r) (sym x.from) ∙ ap (λ o. change_by r o x.f.body) (sym (ap (entry_of old) (name_of new x.e.name x.f x.there) ∙ x.here));
  })

  for_node : (q : List (List ℕ)) (c : Change) → Split cs c → aims_at q c ≡ true → IsFor q c
  unfolding change_by
  for_node q (Delete p) s h = absurd cc
  for_node q (Rename p r) s h = for_rename p r q (same_path-is r q h) (each_is old new so sn (Rename p r) s)
  for_node q (AddDir p) s h = for_add p q Dir (AddDir p) (same_path-is p q h) (each_is old new so sn (AddDir p) s) refl
  for_node q (AddFile p content) s h = for_add p q (File content) (AddFile p content) (same_path-is p q h) (each_is old new so sn (AddFile p content) s) refl
  for_node q (Patch p a b) s h = absurd cc
  for_node q (Clear p k) s h = absurd cc
  for_node q (Set p k v) s h = absurd cc

  one_change : (q : List (List ℕ)) (a b : Change) → Split cs a → Split cs b → aims_at q a ≡ true → aims_at q b ≡ true → a ≡ b
  one_change q a b sa sb ha hb =
      let x = for_node q a sa ha in
      let y = for_node q b sb hb in
      let same : x.f ≡ y.f = same_some x.there y.there in
      x.is ∙ ap (λ (f : Entry). change_by q (entry_of old f.name) f.body) same ∙ sym y.is

  no_earlier : (q : List (List ℕ)) (c : Change) (s : Split cs c) → aims_at q c ≡ true → list_any (aims_at q) s.before ≡ false
  no_earlier q c s aims = ⊎_elim
      (λ t. let w = some_passes (aims_at q) s.before t in absurd (twice w.0 w.1.at w.1.passes))
      (λ f. f)
      (told (list_any (aims_at q) s.before))
    where
      twice : (d : Change) → Split s.before d → aims_at q d ≡ true → ⊥
      twice d u h =
          let sd : Split cs d = subst (λ l. Split l d) (sym s.is) (in_left s.before (c ∷ s.rest) d u) in
          let same : d ≡ c = one_change q d c sd s h aims in
          let two = counted_twice s.before s.rest c (subst (Split s.before) same u) in
          let most = apart old new so sn (target_of c) in
          let is : count_by (at (target_of c)) cs ≡ count_by (at (target_of c)) (s.before ++ c ∷ s.rest) = ap (count_by (at (target_of c))) s.is in
          omega (arith, two, most, is)

  -- the target of a change is free
  free : (q : List (List ℕ)) (c : Change) (s : Split cs c) → aims_at q c ≡ true → IsFree q s.before
  free q c s aims =
      let t = target_is old new so sn q c s aims in
      let there : node_at new q ≡ Some t.f = ap (node_at new) (sym t.path) ∙ path_leads new hn t.f.name t.f t.here in
      record {
        reserved = ⊎_elim (λ a. absurd (no_mtn q t.f there a)) (λ b. b) (told (same_path q (mtn ∷ [])));
        taken = or_false _ _ (no_earlier q c s aims) (ap is_some (nobody_aside (reverse q) t.f there t.unlike));
        parent = has_parent q (reverse q) t.f there refl;
        dir = has_dir_above q (reverse q) t.f there refl;
      }

  -- the node at the root path is a directory
  root_is_dir : (f : Entry) → entry_of new f.name ≡ Some f → path_of new f ≡ [] → (f.slot ≡ Root) × (is_dir f ≡ true)
  root_is_dir f here path =
      let a = at_slot-is new hn Root f (ap (node_at new) (sym path) ∙ path_leads new hn f.name f here) in
      (a.0, hn.root_dir f.name f here a.0)

  -- each change passes
  passes_delete : (p : List (List ℕ)) (s : Split cs (Delete p)) → why old cs s.before (Delete p) ≡ None
  passes_delete p s =
      let r : IsDelete old new p = each_is old new so sn (Delete p) s in
      let there : node_at old p ≡ Some r.e = ap (node_at old) (sym r.path) ∙ path_leads old ho r.e.name r.e r.here in
      skip _ _ _ (ap is_none there) (skip _ _ _ (ap (is_some_with (has_kept_child old cs)) there ∙ none r) refl)
    where
      no_kept : (r : IsDelete old new p) (e : Entry) → Split old e → is_below r.e.name e.slot ≡ true → is_kept old cs e ≡ true → ⊥
      no_kept r e u b k =
          let here = ho.distinct e u in
          let h = hangs old new so sn e here k in
          let hung = below_is r.e.name e.slot b in
          let d = hn.parents e.name r.e.name h.f hung.0 h.there (h.slot ∙ hung.1) in
          let z : None ≡ Some d.0 = sym r.gone ∙ d.1 in
          absurd cc

      none : (r : IsDelete old new p) → has_kept_child old cs r.e ≡ false
      none r = ⊎_elim
          (λ t. let w = some_passes (λ e. is_below r.e.name e.slot && is_kept old cs e) old t in
          absurd (no_kept r w.0 w.1.at (first_so _ _ w.1.passes) (second_so (is_below r.e.name w.0.slot) _ w.1.passes)))
          (λ f. f)
          (told (has_kept_child old cs r.e))

  passes_rename : (p q : List (List ℕ)) (s : Split cs (Rename p q)) → why old cs s.before (Rename p q) ≡ None
  passes_rename p q s =
      skip _ _ _ (or_false _ _ (ap is_none there) (ap (is_some_with (is_deleted old cs)) there ∙ not_deleted))
      (skip _ _ _ (or_false _ _ not_root (ap (is_some_with (hangs_there old cs (reverse q))) there ∙ elsewhere (reverse q) refl))
      (skip _ _ _ (or_false _ _ fr.reserved (and_false _ _ (λ g. ap (λ o. is_some (option_and_then (kept_child old cs mtn) (option_map Old o))) there ∙ ap is_some (no_inner (no_path q g)))))
      (skip _ _ _ fr.taken
      (skip _ _ _ fr.parent
      (skip _ _ _ (or_false _ _ fr.dir (and_false _ _ (λ g. ap (λ o. is_file (option_map Old o)) there ∙ ap not (dir_at_root (no_path q g))))) refl)))))
    where
      r : IsRename old new p q
      r = each_is old new so sn (Rename p q) s

      fr : IsFree q s.before
      fr = free q (Rename p q) s (same_path-self q)

      there : node_at old p ≡ Some r.e
      there = ap (node_at old) (sym r.from) ∙ path_leads old ho r.e.name r.e r.here

      new_here : entry_of new r.f.name ≡ Some r.f
      new_here = own new r.e.name r.f r.there

      new_there : node_at new q ≡ Some r.f
      new_there = ap (node_at new) (sym r.to) ∙ path_leads new hn r.f.name r.f new_here

      same_name_is : r.f.name ≡ r.e.name
      same_name_is = name_of new r.e.name r.f r.there

      -- it is not deleted
      not_deleted : is_deleted old cs r.e ≡ false
      not_deleted = ⊎_elim (λ t. let w = some_passes (deletes old r.e) cs t in absurd (no_delete w.0 w.1.at w.1.passes)) (λ f. f) (told (is_deleted old cs r.e))
        where
          no_delete : (c : Change) → Split cs c → deletes old r.e c ≡ true → ⊥
          no_delete (Delete d) u h =
              let x : IsDelete old new d = each_is old new so sn (Delete d) u in
              let same = same_at old new so sn x.e r.e d x.here r.here x.path h in
              let z : None ≡ Some r.f = sym x.gone ∙ ap (λ (e : Entry). entry_of new e.name) same ∙ r.there in
              absurd cc
          no_delete (Rename a b) u h = absurd cc
          no_delete (AddDir a) u h = absurd cc
          no_delete (AddFile a c) u h = absurd cc
          no_delete (Patch a b c) u h = absurd cc
          no_delete (Clear a k) u h = absurd cc
          no_delete (Set a k v) u h = absurd cc

      old_root : path_of old r.e ≡ [] → r.e.slot ≡ Root
      old_root g = (at_slot-is old ho Root r.e (ap (node_at old) (sym g) ∙ path_leads old ho r.e.name r.e r.here)).0

      apart_slots : r.e.slot ≡ r.f.slot → ⊥
      apart_slots g = let z : true ≡ false = sym (same_slot-self r.f.slot) ∙ ap (λ t. same_slot t r.f.slot) (sym g) ∙ r.moved in absurd cc

      not_root : (is_empty p && is_empty q) ≡ false
      not_root = and_false (is_empty p) (is_empty q) (λ a. ⊎_elim
          (λ b. absurd (apart_slots (old_root (r.from ∙ no_path p a) ∙ sym (root_is_dir r.f new_here (r.to ∙ no_path q b)).0)))
          (λ b. b)
          (told (is_empty q)))

      elsewhere : (up : List (List ℕ)) → reverse q ≡ up → hangs_there old cs up r.e ≡ false
      elsewhere [] g = refl
      elsewhere (name ∷ up) g =
          let d = above_is q r.f name up new_there g in
          ap (is_slot_below r.e.slot name) d.1 ∙ by d.0 (entry_of old d.0.name) refl d.2
        where
          by : (d : Entry) (o : Option Entry) → entry_of old d.name ≡ o → r.f.slot ≡ Below d.name name → is_slot_below r.e.slot name (Some (option_map_or Old o (Added (path_of new d) d.body))) ≡ false
          by d None k slot = refl
          by d (Some ed) k slot = slots_differ r.e.slot (Below ed.name name) (λ e. apart_slots (e ∙ ap (λ n. Below n name) (name_of old d.name ed k) ∙ sym slot))

      no_inner : q ≡ [] → kept_child old cs mtn (Old r.e) ≡ None
      no_inner g = no_child old new so sn mtn r.e (λ e k kept.
          let a = at_slot-is old ho (Below r.e.name mtn) e k in
          let h = hangs old new so sn e a.1 kept in
          let top = (root_is_dir r.f new_here (r.to ∙ g)).0 in
          hn.not_mtn e.name r.f.name h.f r.f h.there new_here top (h.slot ∙ a.0 ∙ ap (λ n. Below n mtn) (sym same_name_is)))

      dir_at_root : q ≡ [] → is_dir r.e ≡ true
      dir_at_root g = kinds r.e.name r.e r.f r.here r.there ∙ (root_is_dir r.f new_here (r.to ∙ g)).1

  passes_dir : (p : List (List ℕ)) (s : Split cs (AddDir p)) → why old cs s.before (AddDir p) ≡ None
  passes_dir p s =
      let fr = free p (AddDir p) s (same_path-self p) in
      skip _ _ _ fr.reserved (skip _ _ _ fr.taken (skip _ _ _ fr.parent (skip _ _ _ fr.dir refl)))

  passes_file : (p : List (List ℕ)) (content : Id) (s : Split cs (AddFile p content)) → why old cs s.before (AddFile p content) ≡ None
  passes_file p content s =
      let fr = free p (AddFile p content) s (same_path-self p) in
      let r : IsAdd old new p (File content) = each_is old new so sn (AddFile p content) s in
      skip _ _ _ fr.reserved (skip _ _ _ fr.taken (skip _ _ _ fr.parent (skip _ _ _ (or_false _ _ fr.dir (⊎_elim (λ a. absurd (no_root r (no_path p a))) (λ b. b) (told (is_empty p)))) refl)))
    where
      no_root : IsAdd old new p (File content) → p ≡ [] → ⊥
      no_root r g =
          let d = (root_is_dir r.f r.here (r.path ∙ g)).1 in
          let z : false ≡ true = sym (ap is_dir_body r.is) ∙ d in
          absurd cc

  -- the occupant of an edited path
  old_seat : (e f : Entry) (p : List (List ℕ)) → entry_of new f.name ≡ Some f → entry_of old f.name ≡ Some e → path_of new f ≡ p → occupant old cs p ≡ Some (Old e)
  old_seat e f p here was path = seat f p here path ∙ ap (λ o. Some (option_map_or Old o (Added (path_of new f) f.body))) was

  passes_patch : (p : List (List ℕ)) (a b : Id) (s : Split cs (Patch p a b)) → why old cs s.before (Patch p a b) ≡ None
  passes_patch p a b s =
      let r : IsPatch old new p a b = each_is old new so sn (Patch p a b) s in
      let o = old_seat r.e r.f p r.here r.was r.path in
      skip _ _ _ (ap is_none o)
      (skip _ _ _ (ap (λ x. not (is_file x)) o ∙ ap (λ x. not (not (is_dir_body x))) r.from)
      (skip _ _ _ (ap (λ x. not (has_content a x)) o ∙ ap (λ x. not (is_content a x)) r.from ∙ ap not (same_id-self a))
      (skip _ _ _ r.differ refl)))

  passes_clear : (p : List (List ℕ)) (k : List ℕ) (s : Split cs (Clear p k)) → why old cs s.before (Clear p k) ≡ None
  passes_clear p k s =
      let r : IsClear old new p k = each_is old new so sn (Clear p k) s in
      let o = old_seat r.e r.f p r.here r.was r.path in
      skip _ _ _ (ap is_none o) (skip _ _ _ (ap (λ x. is_none (old_value k x)) o ∙ ap is_none r.live) refl)

  passes_set : (p : List (List ℕ)) (k v : List ℕ) (s : Split cs (Set p k v)) → why old cs s.before (Set p k v) ≡ None
  passes_set p k v s =
      let r : IsSet old new p k v = each_is old new so sn (Set p k v) s in
      let o = seat r.f p r.here r.path in
      skip _ _ _ (ap is_none o) (skip _ _ _ (ap (λ x. is_some_with (same_bytes v) (old_value k x)) o ∙ before r.f (entry_of old r.f.name) ∙ r.other) refl)
    where
      before : (f : Entry) (o : Option Entry) →
          is_some_with (same_bytes v) (old_value k (Some (option_map_or Old o (Added (path_of new f) f.body)))) ≡ is_some_with (same_bytes v) (live_of (option_map_or (λ (e : Entry). e.attrs) o []) k)
      before f None = refl
      before f (Some e) = refl

  each : (c : Change) (s : Split cs c) → why old cs s.before c ≡ None
  each (Delete p) s = passes_delete p s
  each (Rename p q) s = passes_rename p q s
  each (AddDir p) s = passes_dir p s
  each (AddFile p content) s = passes_file p content s
  each (Patch p a b) s = passes_patch p a b s
  each (Clear p k) s = passes_clear p k s
  each (Set p k v) s = passes_set p k v s

  pub between_passes : Passes old cs
  between_passes = record {
    root =
        let r = sn.sane.root in
        let there : root_of new ≡ Some r.1 = ap (at_slot new) (sym r.3) ∙ at_slot-of new hn r.0 r.1 r.2 in
        (comes old new r.1, occupies old new so sn [] ∙ ap (option_map (comes old new)) there);
    each = each;
  }

  pub between_no_fault : first_fault old cs ≡ None
  between_no_fault = no_fault old cs between_passes

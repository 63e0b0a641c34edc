-- The result is sane: it is the tree of the live nodes under new names, which differ.
use Rattle.std.specs.Prelude.{map}
use Rattle.std.specs.List.{list_all}
use Rattle.std.specs.Option.{option_map_or}
use Rattle.std.specs.Cmp.{first_so, second_so}
use Rattle.std.proofs.Common.{◌≡◌, ℕ, Bool, true, false, cond, List, [], ◌∷◌, ◌++◌, Option, Some, refl, sym, ◌∙◌, ap, subst, inl, inr}
use Rattle.mtn_base.specs.Names.{bytes_cmp, name_cmp, same_name}
use Rattle.mtn_base.specs.declared.id.Id.{Id}
use Rattle.mtn_base.specs.declared.name.NodeName.{NodeName}
use Rattle.mtn_roster.specs.Tree.{Tree, entry_of, path_of, node_at, mtn, EndsAtRoot, IsSane, IsSaneMap}
use Rattle.mtn_base.specs.Lists.{rises}
use Rattle.mtn_roster.specs.Tree.EndsAtRoot.{top, under}
use Rattle.mtn_roster.specs.declared.entry.Entry.{Entry}
use Rattle.mtn_roster.specs.declared.entry.Slot.{Slot}
use Rattle.mtn_roster.specs.declared.entry.Slot.TheVariants.{Root, Below}
use Rattle.mtn_base.proofs.Finding.{Split, later, found, finds_some}
use Rattle.mtn_base.proofs.Members.{head, split_cons}
use Rattle.mtn_base.proofs.Sorting.{no_split, of_ordered}
use Rattle.mtn_base.proofs.Tests.{both_true, same_name-is, same_name-self}
use Rattle.mtn_roster.proofs.Forest.{same_some}
use Rattle.mtn_roster.proofs.Looking.{entry_of-in_order}
use Rattle.mtn_base.proofs.Orders.{names_total}
use Rattle.mtn_roster.proofs.Ordered.{forest_of, in_order-rises}
use Rattle.mtn_roster.proofs.Pathing.{path_leads}
use Rattle.mtn_decide.specs.declared.decision.Decision.{Decision}
use Rattle.mtn_decide.specs.Decisions.{Merge, IsInOrder, decision_of, has_keys_in_order}
use Rattle.mtn_conflicts.specs.declared.lists.Conflicts.{Conflicts}
use Rattle.mtn_conflicts.specs.Lists.{AreConflictsOf, IsNone}
use Rattle.mtn_conflicts.specs.Result.{decided_slot, decided_entry, tree_before, new_name, new_slot, new_entry, result_of, ParentsAreDirs, NoneBornIn}
use Rattle.mtn_conflicts.proofs.Nodes.{name_of, found_name, found_at, own, distinct, node_before, has_entry}
use Rattle.mtn_conflicts.proofs.Clear.{IsTidy, tidy}
use Rattle.mtn_conflicts.proofs.Ending.{up_from}
use Rattle.mtn_conflicts.proofs.Before.{has_rising_keys, keys_before, is_dir_of, slot_is, before_is_sane}

pub in_map : {X Y : Type 0} (f : X → Y) (xs : List X) (x : X) → Split xs x → Split (map f xs) (f x)
in_map {X} f xs x s = subst (λ l. Split (map f l) (f x)) (sym s.is) (go s.before)
  where
    go : (before : List X) → Split (map f (before ++ x ∷ s.rest)) (f x)
    go [] = head (f x) (map f s.rest)
    go (b ∷ before) = later (f b) (map f (before ++ x ∷ s.rest)) (f x) (go before)

pub of_map : {X Y : Type 0} (f : X → Y) (xs : List X) (y : Y) → Split (map f xs) y → (x : X) × Split xs x × (f x ≡ y)
of_map f [] y s = absurd (no_split y s)
of_map f (x ∷ xs) y s = elim (split_cons (f x) (map f xs) y s) [
  | inl e ↦ (x, head x xs, e)
  | inr t ↦ let r = of_map f xs y t in (r.0, later x xs r.0 r.1, r.2)
]

pub all_by : {X : Type 0} (p : X → Bool) (xs : List X) → ((x : X) → Split xs x → p x ≡ true) → list_all p xs ≡ true
all_by p [] h = refl
all_by p (x ∷ xs) h = both_true _ _ (h x (head x xs)) (all_by p xs (λ y s. h y (later x xs y s)))

pub one_of : {X : Type 0} (p : X → Bool) (xs : List X) (x : X) → list_all p xs ≡ true → Split xs x → p x ≡ true
one_of p [] x h s = absurd (no_split x s)
one_of p (y ∷ xs) x h s = elim (split_cons y xs x s) [
  | inl e ↦ subst (λ z. p z ≡ true) e (first_so _ _ h)
  | inr u ↦ one_of p xs x (second_so (p y) _ h) u
]

module _ (m : Merge) (id : Id) (order : IsInOrder m) (tidy : IsTidy m.nodes) (dirs : ParentsAreDirs m.nodes) (fresh : NoneBornIn m.nodes id) where
  abbrev ds : List Decision
  ds = m.nodes

  abbrev before : Tree
  before = tree_before ds

  sane_before : IsSane before
  sane_before = before_is_sane m order tidy dirs

  abbrev φ : Decision → NodeName
  φ = new_name ds id

  abbrev ψ : Decision → Entry
  ψ = new_entry ds id

  abbrev σ : Slot → Slot
  σ = new_slot ds id

  abbrev reborn_name : Decision → NodeName
  reborn_name d = record { birth = id; path = path_of before (decided_entry d) }

  same_node : (d e : Decision) → decision_of ds d.name ≡ Some d → decision_of ds e.name ≡ Some e → d.name ≡ e.name → d ≡ e
  same_node d e h k g = same_some h (subst (λ n. decision_of ds n ≡ Some e) (sym g) k)

  -- two nodes with one new name are one
  pub one_name : (d e : Decision) → decision_of ds d.name ≡ Some d → decision_of ds e.name ≡ Some e → φ d ≡ φ e → d ≡ e
  one_name d e h k g = go d.reborn e.reborn refl refl
    where
      shown : (x : Decision) (b : Bool) → x.reborn ≡ b → φ x ≡ cond b (reborn_name x) x.name
      shown x b i = ap (λ c. cond c (reborn_name x) x.name) i

      own_path : path_of before (decided_entry d) ≡ path_of before (decided_entry e) → d.name ≡ e.name
      own_path p =
          let a = path_leads before (forest_of before sane_before) d.name (decided_entry d) (has_entry ds d.name d h) in
          let b = path_leads before (forest_of before sane_before) e.name (decided_entry e) (has_entry ds e.name e k) in
          let same : decided_entry d ≡ decided_entry e = same_some a (ap (node_at before) p ∙ b) in
          ap (λ (x : Entry). x.name) same

      go : (a b : Bool) → d.reborn ≡ a → e.reborn ≡ b → d ≡ e
      go true true i j = same_node d e h k (own_path (ap (λ (n : NodeName). n.path) (sym (shown d true i) ∙ g ∙ shown e true j)))
      go true false i j = absurd (fresh e.name e k (sym (ap (λ (n : NodeName). n.birth) (sym (shown d true i) ∙ g ∙ shown e false j))))
      go false true i j = absurd (fresh d.name d h (ap (λ (n : NodeName). n.birth) (sym (shown d false i) ∙ g ∙ shown e true j)))
      go false false i j = same_node d e h k (sym (shown d false i) ∙ g ∙ shown e false j)

  abbrev r : NodeName → Option Entry
  r = entry_of (result_of m id)

  has : (d : Decision) → decision_of ds d.name ≡ Some d → r (φ d) ≡ Some (ψ d)
  has d h =
      let n = φ d in
      let y = finds_some (λ (e : Entry). same_name e.name n) (map ψ ds) (ψ d) (in_map ψ ds d (found_at ds d.name d h)) (same_name-self n) in
      let f = found (λ (e : Entry). same_name e.name n) (map ψ ds) y.0 y.1 in
      let u = of_map ψ ds y.0 f.at in
      let g : φ u.0 ≡ φ d = ap (λ (e : Entry). e.name) u.2 ∙ same_name-is y.0.name n f.passes in
      let same : u.0 ≡ d = one_name u.0 d (distinct ds order.names u.0 u.1) h g in
      entry_of-in_order (map ψ ds) n ∙ y.1 ∙ ap Some (sym u.2 ∙ ap ψ same)

  record IsMade (n : NodeName) (e : Entry) : Type 0 where
    pub node : Decision
    pub there : decision_of ds node.name ≡ Some node
    pub is : ψ node ≡ e
    pub name : φ node ≡ n

  only : (n : NodeName) (e : Entry) → r n ≡ Some e → IsMade n e
  only n e h =
      let f = found (λ (e : Entry). same_name e.name n) (map ψ ds) e (sym (entry_of-in_order (map ψ ds) n) ∙ h) in
      let u = of_map ψ ds e f.at in
      record { node = u.0; there = distinct ds order.names u.0 u.1; is = u.2; name = ap (λ (e : Entry). e.name) u.2 ∙ same_name-is e.name n f.passes }

  below : (p : NodeName) (name : List ℕ) (d : Decision) → decision_of ds p ≡ Some d → σ (Below p name) ≡ Below (φ d) name
  below p name d h = ap (λ o. Below (option_map_or (new_name ds id) o p) name) h

  -- the parent of a decided slot
  parent : (d : Decision) → decision_of ds d.name ≡ Some d → (p : NodeName) (name : List ℕ) → decided_slot d.slot ≡ Below p name → (f : Decision) × (decision_of ds p ≡ Some f)
  parent d h p name is = tidy.parent d.name p name d h (slot_is m order tidy dirs d.name d h (Below p name) is)

  -- one slot after, one slot before
  one_slot : (d e : Decision) → decision_of ds d.name ≡ Some d → decision_of ds e.name ≡ Some e → (s t : Slot) → decided_slot d.slot ≡ s → decided_slot e.slot ≡ t → σ s ≡ σ t → s ≡ t
  one_slot d e h k Root Root i j g = refl
  one_slot d e h k Root (Below q c) i j g = let f = parent e k q c j in let z = below q c f.0 f.1 in absurd cc
  one_slot d e h k (Below p c) Root i j g = let f = parent d h p c i in let z = below p c f.0 f.1 in absurd cc
  one_slot d e h k (Below p c) (Below q c') i j g =
      let f = parent d h p c i in
      let f' = parent e k q c' j in
      let w : Below (φ f.0) c ≡ Below (φ f'.0) c' = sym (below p c f.0 f.1) ∙ g ∙ below q c' f'.0 f'.1 in
      let ups : φ f.0 ≡ φ f'.0 = cc in
      let names : c ≡ c' = cc in
      let same : f.0 ≡ f'.0 = one_name f.0 f'.0 (own ds p f.0 f.1) (own ds q f'.0 f'.1) ups in
      let pq : p ≡ q = sym (found_name ds p f.0 f.1) ∙ ap name_of same ∙ found_name ds q f'.0 f'.1 in
      λ i. Below (pq i) (names i)

  root_back : (d : Decision) → decision_of ds d.name ≡ Some d → (s : Slot) → decided_slot d.slot ≡ s → σ s ≡ Root → s ≡ Root
  root_back d h Root i g = refl
  root_back d h (Below p c) i g = let f = parent d h p c i in let z = below p c f.0 f.1 in absurd cc

  -- a slot below something, after
  record IsUnder (s : Slot) (q : NodeName) (name : List ℕ) : Type 0 where
    pub node : Decision
    pub there : decision_of ds node.name ≡ Some node
    pub is : φ node ≡ q
    pub slot : s ≡ Below node.name name

  back : (d : Decision) → decision_of ds d.name ≡ Some d → (s : Slot) → decided_slot d.slot ≡ s → (q : NodeName) (name : List ℕ) → σ s ≡ Below q name → IsUnder s q name
  back d h Root i q name g = absurd cc
  back d h (Below p c) i q name g =
      let f = parent d h p c i in
      let w : Below (φ f.0) c ≡ Below q name = sym (below p c f.0 f.1) ∙ g in
      let names : c ≡ name = cc in
      let up : φ f.0 ≡ q = cc in
      record { node = f.0; there = own ds p f.0 f.1; is = up; slot = λ i. Below (sym (found_name ds p f.0 f.1) i) (names i) }

  chain : {s : Slot} → EndsAtRoot (entry_of before) s → EndsAtRoot r (σ s)
  chain top = top
  chain (under {parent = p} {name = name} {d = e} at rest) =
      let f = node_before ds p e at in
      let ends : EndsAtRoot r (ψ f.0).slot = subst (λ (x : Entry). EndsAtRoot r (σ x.slot)) (sym f.2) (chain rest) in
      subst (EndsAtRoot r) (sym (below p name f.0 f.1)) (under (has f.0 (own ds p f.0 f.1)) ends)

  slot_of : (d : Decision) (e : Entry) → ψ d ≡ e → σ (decided_slot d.slot) ≡ e.slot
  slot_of d e g = ap (λ (x : Entry). x.slot) g

  slots : (n q : NodeName) (e f : Entry) → r n ≡ Some e → r q ≡ Some f → e.slot ≡ f.slot → n ≡ q
  slots n q e f h k g =
      let a = only n e h in
      let b = only q f k in
      let s : decided_slot a.node.slot ≡ decided_slot b.node.slot = one_slot a.node b.node a.there b.there _ _ refl refl (slot_of a.node e a.is ∙ g ∙ sym (slot_of b.node f b.is)) in
      let u = slot_is m order tidy dirs a.node.name a.node a.there (decided_slot a.node.slot) refl in
      let v = slot_is m order tidy dirs b.node.name b.node b.there (decided_slot a.node.slot) (sym s) in
      let names : a.node.name ≡ b.node.name = tidy.apart a.node.name b.node.name a.node b.node (decided_slot a.node.slot) a.there b.there u v in
      sym a.name ∙ ap φ (same_node a.node b.node a.there b.there names) ∙ b.name

  made_sane : IsSaneMap r
  made_sane = record {
    root =
        let t = tidy.root in
        let h = own ds t.0 t.1 t.2 in
        (φ t.1, ψ t.1, has t.1 h, ap σ (ap decided_slot t.3), is_dir_of m order tidy dirs t.0 t.1 t.2 (dirs.root t.0 t.1 t.2 t.3));
    one_root = λ n q e f h k i j. slots n q e f h k (i ∙ sym j);
    parents = λ n q e name h is.
        let a = only n e h in
        let b = back a.node a.there _ refl q name (slot_of a.node e a.is ∙ is) in
        let s = slot_is m order tidy dirs a.node.name a.node a.there (Below b.node.name name) b.slot in (
          ψ b.node,
          subst (λ x. r x ≡ Some (ψ b.node)) b.is (has b.node b.there),
          is_dir_of m order tidy dirs b.node.name b.node b.there (dirs.parents a.node.name b.node.name b.node (up_from ds tidy a.node.name b.node.name name a.node a.there s) b.there),
        );
    slots = slots;
    rooted = λ n e h.
        let a = only n e h in
        let z = has_entry ds a.node.name a.node a.there in
        subst (EndsAtRoot r) (slot_of a.node e a.is) (chain (sane_before.sane.rooted a.node.name (decided_entry a.node) z));
    not_mtn = λ n q e f h k top is.
        let a = only n e h in
        let c = only q f k in
        let b = back a.node a.there _ refl q mtn (slot_of a.node e a.is ∙ is) in
        let same : b.node ≡ c.node = one_name b.node c.node b.there c.there (b.is ∙ sym c.name) in
        let root : decided_slot c.node.slot ≡ Root = root_back c.node c.there _ refl (slot_of c.node f c.is ∙ top) in
        let s = slot_is m order tidy dirs a.node.name a.node a.there (Below b.node.name mtn) b.slot in
        let t = slot_is m order tidy dirs c.node.name c.node c.there Root root in
        tidy.no_mtn a.node.name b.node.name a.node b.node a.there s b.there (ap (λ (x : Decision). x.slot) same ∙ t);
  }

  pub keyed : (d : Decision) → Split ds d → has_rising_keys (ψ d) ≡ true
  keyed d s = ap (rises bytes_cmp) (keys_before d.attrs) ∙ one_of has_keys_in_order ds d order.keys s

  pub result_is_sane : IsSane (result_of m id)
  result_is_sane = record {
    ordered = both_true _ _ (in_order-rises (map ψ ds)) (all_by has_rising_keys (result_of m id) (λ y s.
        let u = of_map ψ ds y (of_ordered name_cmp (λ (e : Entry). e.name) names_total (map ψ ds) y s) in
        ap has_rising_keys (sym u.2) ∙ keyed u.0 u.1));
    sane = made_sane;
  }

-- the whole law
pub merged_is_sane : (m : Merge) (c : Conflicts) (id : Id) → IsInOrder m → AreConflictsOf m c → IsNone c → ParentsAreDirs m.nodes → NoneBornIn m.nodes id → IsSane (result_of m id)
merged_is_sane m c id order are none dirs fresh = result_is_sane m id order (tidy m c order are none) dirs fresh

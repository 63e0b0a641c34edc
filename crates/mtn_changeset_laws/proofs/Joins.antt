-- Two trees that can be joined make a sane one.
use Rattle.std.specs.Prelude.{option_map, filter_map, find, map, reverse, is_some, not, ◌&&◌, ◌||◌, IsTrue, IsSome}
use Rattle.std.specs.List.{list_all}
use Rattle.std.specs.Option.{option_map_or}
use Rattle.std.specs.Cmp.{first_so, second_so}
use Rattle.std.proofs.Common.{◌≡◌, ◌≢◌, ℕ, Bool, true, false, cond, List, [], ◌∷◌, ◌++◌, Option, Some, None, refl, sym, ◌∙◌, ap, subst, ◌⊎◌, inl, inr, ⊎_elim}
use Rattle.mtn_base.specs.Names.{same_bytes, same_name, same_id, bytes_cmp}
use Rattle.std.specs.Cmp.Lexicographic.{bytes_decides}
use Rattle.mtn_base.specs.declared.id.Id.{Id}
use Rattle.mtn_base.specs.declared.name.NodeName.{NodeName}
use Rattle.mtn_roster.specs.declared.entry.Entry.{Entry}
use Rattle.mtn_roster.specs.declared.entry.Attr.{Attr}
use Rattle.mtn_roster.specs.declared.entry.Body.{Body}
use Rattle.mtn_roster.specs.declared.entry.Body.TheVariants.{Dir, File}
use Rattle.mtn_roster.specs.declared.entry.Slot.{Slot}
use Rattle.mtn_roster.specs.declared.entry.Slot.TheVariants.{Root, Below}
use Rattle.mtn_roster.specs.Tree.{Tree, entry_of, node_at, path_of, attr_of, with_attr, is_dir, is_dir_body, mtn, EndsAtRoot, IsSane, IsSaneMap}
use Rattle.mtn_base.specs.Lists.{rises}
use Rattle.mtn_roster.specs.Tree.EndsAtRoot.{top, under}
use Rattle.mtn_changeset_laws.specs.Joining.{JoinWhy, is_old, same_body, same_live, disagree, is_revived, join_why, fault_at, least, join_fault, joined_name, counterpart, joined_slot, joined_attrs, other_attrs, joined_entry, joined}
use Rattle.mtn_changeset_laws.specs.Joining.JoinWhy.{Disagree, Revived}
use Rattle.mtn_changeset_laws.specs.Laws.{CommonAreKnown}
use Rattle.mtn_base.proofs.Finding.{Split, later, found, finds_some, either_false}
use Rattle.mtn_base.proofs.Members.{head, split_cons, in_left, in_filter_map}
use Rattle.mtn_base.proofs.Tests.{told, both_true, same_id-is, same_id-self, same_name-is, same_name-self}
use Rattle.mtn_changeset_laws.proofs.Passing.{unnot}
use Rattle.mtn_roster.proofs.Forest.{IsForest, same_some, name_of, own, split_of, node_there}
use Rattle.mtn_roster.proofs.Looking.{entry_of-in_order, keeps_key, attr_of-with_attr}
use Rattle.mtn_base.proofs.Orders.{bytes_total}
use Rattle.mtn_base.proofs.Sorting.{rises_placed}
use Rattle.mtn_roster.proofs.Ordered.{forest_of, in_order-rises}
use Rattle.mtn_changeset_laws.proofs.Keeping.{has_rising_keys, in_order-all}
use Rattle.mtn_roster.proofs.Pathing.{path_leads, path_of-at}

least-none : (new : Id) (al ar : Id → Bool) (fs : List (List (List ℕ) × JoinWhy)) → least new al ar fs ≡ None → fs ≡ []
least-none new al ar [] h = refl
least-none new al ar (f ∷ fs) h = absurd cc

nothing_split : {X : Type 0} (x : X) → Split [] x → ⊥
nothing_split {X} x s = go s.before s.rest s.is
  where
    go : (before rest : List X) → [] ≡ before ++ x ∷ rest → ⊥
    go [] rest e = cc
    go (b ∷ before) rest e = cc

pub in_map : {X Y : Type 0} (f : X → Y) (xs : List X) (x : X) → Split xs x → Split (map f xs) (f x)
in_map {X} f xs x s = subst (λ l. Split (map f l) (f x)) (sym s.is) (go s.before)
  where
    go : (before : List X) → Split (map f (before ++ x ∷ s.rest)) (f x)
    go [] = head (f x) (map f s.rest)
    go (b ∷ before) = later (f b) (map f (before ++ x ∷ s.rest)) (f x) (go before)

pub of_map : {X Y : Type 0} (f : X → Y) (xs : List X) (y : Y) → Split (map f xs) y → (x : X) × Split xs x × (f x ≡ y)
of_map f [] y s = absurd (nothing_split y s)
of_map f (x ∷ xs) y s = elim (split_cons (f x) (map f xs) y s) [
  | inl e ↦ (x, head x xs, e)
  | inr t ↦ let r = of_map f xs y t in (r.0, later x xs r.0 r.1, r.2)
]

-- what a pair says that can be joined
pub record IsPair (new : Id) (al ar : Id → Bool) (x : Entry) (o : Option Entry) : Type 0 where
  pub other : Entry
  pub at : o ≡ Some other
  pub agree : disagree new x other ≡ false
  pub lives : is_revived new al ar x other ≡ false

pair_of : (new : Id) (al ar : Id → Bool) (x : Entry) (o : Option Entry) → join_why new al ar (Some x) o ≡ None → IsPair new al ar x o
pair_of new al ar x None h = absurd cc
pair_of new al ar x (Some y) h = at (disagree new x y) (is_revived new al ar x y) refl refl h
  where
    at : (a b : Bool) → disagree new x y ≡ a → is_revived new al ar x y ≡ b → cond a (Some Disagree) (cond b (Some Revived) None) ≡ None → IsPair new al ar x (Some y)
    at true b p q g = absurd cc
    at false true p q g = absurd cc
    at false false p q g = record { other = y; at = refl; agree = p; lives = q }

unmapped : {A B : Type 0} (f : A → B) (x : Option A) → option_map f x ≡ None → x ≡ None
unmapped f None h = refl
unmapped f (Some a) h = absurd cc

same_kind : (a b : Body) → same_body a b ≡ true → is_dir_body a ≡ is_dir_body b
same_kind Dir Dir h = refl
same_kind Dir (File d) h = absurd cc
same_kind (File c) Dir h = absurd cc
same_kind (File c) (File d) h = refl

agree_names : (a b c p q : Bool) → ((a && b && not c) || p || q) ≡ false → a ≡ true → b ≡ true → c ≡ true
agree_names true true true p q h e f = refl
agree_names true true false p q h e f = absurd cc
agree_names true false c p q h e f = absurd cc
agree_names false b c p q h e f = absurd cc

lives_left : (a b u v : Bool) → ((a && not b && u) || (b && not a && v)) ≡ false → a ≡ true → u ≡ true → b ≡ true
lives_left a true u v h e f = refl
lives_left true false true v h e f = absurd cc
lives_left true false false v h e f = absurd cc
lives_left false false u v h e f = absurd cc

lives_right : (a b u v : Bool) → ((a && not b && u) || (b && not a && v)) ≡ false → b ≡ true → v ≡ true → a ≡ true
lives_right true b u v h e f = refl
lives_right false true u true h e f = absurd cc
lives_right false true u false h e f = absurd cc
lives_right false false u v h e f = absurd cc

module _ (l r : Tree) (new : Id) (al ar : Id → Bool) (sl : IsSane l) (sr : IsSane r) (fine : join_fault new al ar l r ≡ None) (known : CommonAreKnown l r new al ar) where
  pub fl : IsForest l
  fl = forest_of l sl

  pub fr : IsForest r
  fr = forest_of r sr

  pub no_fault : (p : List (List ℕ)) → Split (map (path_of l) l ++ map (path_of r) r) p → join_why new al ar (node_at l p) (node_at r p) ≡ None
  no_fault p s = at (join_why new al ar (node_at l p) (node_at r p)) refl
    where
      empty : filter_map (fault_at new al ar l r) (map (path_of l) l ++ map (path_of r) r) ≡ []
      empty = least-none new al ar (filter_map (fault_at new al ar l r) (map (path_of l) l ++ map (path_of r) r)) fine

      at : (w : Option JoinWhy) → join_why new al ar (node_at l p) (node_at r p) ≡ w → w ≡ None
      at None e = refl
      at (Some w) e = absurd (nothing_split (p, w) (subst (λ fs. Split fs (p, w)) empty
          (in_filter_map (fault_at new al ar l r) (map (path_of l) l ++ map (path_of r) r) p (p, w) s (ap (option_map (λ v. (p, v))) e))))

  -- each node of the left has its other
  pub pair : (x : Entry) → entry_of l x.name ≡ Some x → IsPair new al ar x (counterpart l r x)
  pair x h =
      let p = path_of l x in
      let e = no_fault p (in_left (map (path_of l) l) (map (path_of r) r) p (in_map (path_of l) l x (split_of l x.name x h))) in
      pair_of new al ar x (node_at r p) (ap (λ o. join_why new al ar o (node_at r p)) (sym (path_leads l fl x.name x h)) ∙ e)

  -- the joined name
  abbrev φ : Entry → NodeName
  φ x = joined_name new x (counterpart l r x)

  pub name_is : (x : Entry) (h : entry_of l x.name ≡ Some x) (b : Bool) → is_old new x ≡ b → φ x ≡ cond b x.name (pair x h).other.name
  name_is x h b e = ap (joined_name new x) (pair x h).at ∙ ap (λ c. cond c x.name (pair x h).other.name) e

  other_there : (x : Entry) (h : entry_of l x.name ≡ Some x) → entry_of r (pair x h).other.name ≡ Some (pair x h).other
  other_there x h = node_there r fr (reverse (path_of l x)) (pair x h).other (pair x h).at

  pub born_here : (x : Entry) → is_old new x ≡ false → x.name.birth ≡ new
  born_here x h = same_id-is x.name.birth new (unnot _ h)

  pub born_before : (x : Entry) → is_old new x ≡ true → x.name.birth ≢ new
  born_before x h e = let g : same_id x.name.birth new ≡ true = ap (λ i. same_id i new) e ∙ same_id-self new in
      let k : not true ≡ true = ap not (sym g) ∙ h in cc

  -- two nodes of the left whose others are one are one
  by_others : (x z : Entry) (h : entry_of l x.name ≡ Some x) (k : entry_of l z.name ≡ Some z) → (pair x h).other ≡ (pair z k).other → x ≡ z
  by_others x z h k e =
      let a : node_at r (path_of l x) ≡ Some (pair x h).other = (pair x h).at in
      let b : node_at r (path_of l z) ≡ Some (pair x h).other = (pair z k).at ∙ ap Some (sym e) in
      let p : path_of l x ≡ path_of l z = sym (path_of-at r fr (path_of l x) _ a) ∙ path_of-at r fr (path_of l z) _ b in
      same_some (path_leads l fl x.name x h) (ap (node_at l) p ∙ path_leads l fl z.name z k)

  -- an old node whose birth is known on the right has itself as other
  pub old_pair : (x : Entry) (h : entry_of l x.name ≡ Some x) → is_old new x ≡ true → IsTrue (ar x.name.birth) → (pair x h).other.name ≡ x.name
  old_pair x h old above =
      let p = pair x h in
      let other_old = lives_left (is_old new x) (is_old new p.other) (ar x.name.birth) (al p.other.name.birth) p.lives old above in
      sym (same_name-is x.name p.other.name (agree_names (is_old new x) (is_old new p.other) (same_name x.name p.other.name) (not (same_body x.body p.other.body)) (not (same_live x.attrs p.other.attrs)) p.agree old other_old))

  others_by_name : (x z : Entry) (h : entry_of l x.name ≡ Some x) (k : entry_of l z.name ≡ Some z) → (pair x h).other.name ≡ (pair z k).other.name → x ≡ z
  others_by_name x z h k e = by_others x z h k (same_some (other_there x h) (subst (λ n. entry_of r n ≡ Some (pair z k).other) (sym e) (other_there z k)))

  pub mixed : (x z : Entry) (h : entry_of l x.name ≡ Some x) (k : entry_of l z.name ≡ Some z) → is_old new x ≡ true → x.name ≡ (pair z k).other.name → x ≡ z
  mixed x z h k old e =
      let above = known x.name x (pair z k).other h (subst (λ n. entry_of r n ≡ Some (pair z k).other) (sym e) (other_there z k)) (born_before x old) in
      others_by_name x z h k (old_pair x h old above.1 ∙ e)

  -- joined names are names of one node
  pub one_name : (x z : Entry) (h : entry_of l x.name ≡ Some x) (k : entry_of l z.name ≡ Some z) → φ x ≡ φ z → x ≡ z
  one_name x z h k e = ⊎_elim
      (λ a. ⊎_elim
      (λ b. let g : x.name ≡ z.name = sym (name_is x h true a) ∙ e ∙ name_is z k true b in same_some h (subst (λ n. entry_of l n ≡ Some z) (sym g) k))
      (λ b. mixed x z h k a (sym (name_is x h true a) ∙ e ∙ name_is z k false b))
      (told (is_old new z)))
      (λ a. ⊎_elim
      (λ b. sym (mixed z x k h b (sym (name_is z k true b) ∙ sym e ∙ name_is x h false a)))
      (λ b. others_by_name x z h k (sym (name_is x h false a) ∙ e ∙ name_is z k false b))
      (told (is_old new z)))
      (told (is_old new x))

  abbrev j : NodeName → Option Entry
  j = entry_of (joined l r new)

  abbrev ψ : Entry → Entry
  ψ = joined_entry l r new

  pub own_of : (x : Entry) → Split l x → entry_of l x.name ≡ Some x
  own_of x s = fl.distinct x s

  pub joined_has : (x : Entry) → entry_of l x.name ≡ Some x → j (φ x) ≡ Some (ψ x)
  joined_has x h =
      let n = φ x in
      let y = finds_some (λ (e : Entry). same_name e.name n) (map ψ l) (ψ x) (in_map ψ l x (split_of l x.name x h)) (same_name-self n) in
      let f = found (λ (e : Entry). same_name e.name n) (map ψ l) y.0 y.1 in
      let m = of_map ψ l y.0 f.at in
      let g : φ m.0 ≡ φ x = ap (λ (e : Entry). e.name) m.2 ∙ same_name-is y.0.name n f.passes in
      let same : m.0 ≡ x = one_name m.0 x (own_of m.0 m.1) h g in
      entry_of-in_order (map ψ l) n ∙ y.1 ∙ ap Some (sym m.2 ∙ ap ψ same)

  pub record IsJoined (n : NodeName) (e : Entry) : Type 0 where
    pub left : Entry
    pub there : entry_of l left.name ≡ Some left
    pub is : ψ left ≡ e
    pub name : φ left ≡ n

  pub joined_only : (n : NodeName) (e : Entry) → j n ≡ Some e → IsJoined n e
  joined_only n e h =
      let f = found (λ (e : Entry). same_name e.name n) (map ψ l) e (sym (entry_of-in_order (map ψ l) n) ∙ h) in
      let m = of_map ψ l e f.at in
      record { left = m.0; there = own_of m.0 m.1; is = m.2; name = ap (λ (e : Entry). e.name) m.2 ∙ same_name-is e.name n f.passes }

  pub slot_below : (parent : NodeName) (name : List ℕ) (d : Entry) → entry_of l parent ≡ Some d → joined_slot l r new (Below parent name) ≡ Below (φ d) name
  slot_below parent name d h = ap (λ o. Below (option_map_or (λ d. joined_name new d (counterpart l r d)) o parent) name) h

  abbrev σ : Slot → Slot
  σ = joined_slot l r new

  -- one slot before, one slot after
  one_slot : (x z : Entry) (h : entry_of l x.name ≡ Some x) (k : entry_of l z.name ≡ Some z) (s t : Slot) → x.slot ≡ s → z.slot ≡ t → σ s ≡ σ t → s ≡ t
  one_slot x z h k Root Root p q e = refl
  one_slot x z h k Root (Below b c) p q e =
      let d = fl.parents z.name b z c k q in
      let g = slot_below b c d.0 d.1 in
      absurd cc
  one_slot x z h k (Below a c) Root p q e =
      let d = fl.parents x.name a x c h p in
      let g = slot_below a c d.0 d.1 in
      absurd cc
  one_slot x z h k (Below a c) (Below b c') p q e =
      let d = fl.parents x.name a x c h p in
      let f = fl.parents z.name b z c' k q in
      let g : Below (φ d.0) c ≡ Below (φ f.0) c' = sym (slot_below a c d.0 d.1) ∙ e ∙ slot_below b c' f.0 f.1 in
      let parents : φ d.0 ≡ φ f.0 = cc in
      let names : c ≡ c' = cc in
      let same : d.0 ≡ f.0 = one_name d.0 f.0 (own l a d.0 d.1) (own l b f.0 f.1) parents in
      let ab : a ≡ b = sym (name_of l a d.0 d.1) ∙ ap (λ (e : Entry). e.name) same ∙ name_of l b f.0 f.1 in
      λ i. Below (ab i) (names i)

  root_back : (x : Entry) → entry_of l x.name ≡ Some x → (s : Slot) → x.slot ≡ s → σ s ≡ Root → s ≡ Root
  root_back x h Root p e = refl
  root_back x h (Below a c) p e =
      let d = fl.parents x.name a x c h p in
      let g = slot_below a c d.0 d.1 in
      absurd cc

  chain : {s : Slot} → EndsAtRoot (entry_of l) s → EndsAtRoot j (σ s)
  chain top = top
  chain (under {parent = parent} {name = name} {d = d} at rest) =
      subst (EndsAtRoot j) (sym (slot_below parent name d at)) (under (joined_has d (own l parent d at)) (chain rest))

  -- a slot below something, after
  pub back : (x : Entry) → entry_of l x.name ≡ Some x → (s : Slot) → x.slot ≡ s → (parent : NodeName) (name : List ℕ) → σ s ≡ Below parent name →
      (d : Entry) × (entry_of l d.name ≡ Some d) × (φ d ≡ parent) × (s ≡ Below d.name name) × IsTrue (is_dir d)
  back x h Root p parent name e = absurd cc
  back x h (Below a c) p parent name e =
      let d = fl.parents x.name a x c h p in
      let g : Below (φ d.0) c ≡ Below parent name = sym (slot_below a c d.0 d.1) ∙ e in
      let names : c ≡ name = cc in
      let up : φ d.0 ≡ parent = cc in
      (d.0, own l a d.0 d.1, up, (λ i. Below (sym (name_of l a d.0 d.1) i) (names i)), d.2)

  joined_sane_map : IsSaneMap j
  joined_sane_map = record {
    root =
        let s = sl.sane.root in
        let h = own l s.0 s.1 s.2 in
        (φ s.1, ψ s.1, joined_has s.1 h, ap σ s.3, s.4);
    one_root = λ n m e f h k p q. slots n m e f h k (p ∙ sym q);
    parents = λ n parent e name h is.
        let a = joined_only n e h in
        let b = back a.left a.there a.left.slot refl parent name (ap (λ (e : Entry). e.slot) a.is ∙ is) in
        (ψ b.0, subst (λ m. j m ≡ Some (ψ b.0)) b.2 (joined_has b.0 b.1), b.4);
    slots = slots;
    rooted = λ n e h. let a = joined_only n e h in subst (λ (x : Entry). EndsAtRoot j x.slot) a.is (chain (fl.rooted a.left.name a.left a.there));
    not_mtn = λ n m e q h k root is.
        let a = joined_only n e h in
        let c = joined_only m q k in
        let b = back a.left a.there a.left.slot refl m mtn (ap (λ (e : Entry). e.slot) a.is ∙ is) in
        let same : b.0 ≡ c.left = one_name b.0 c.left b.1 c.there (b.2 ∙ sym c.name) in
        let top : c.left.slot ≡ Root = root_back c.left c.there c.left.slot refl (ap (λ (e : Entry). e.slot) c.is ∙ root) in
        fl.not_mtn a.left.name c.left.name a.left c.left a.there c.there top (b.3 ∙ ap (λ (e : Entry). Below e.name mtn) same);
  }
    where
      slots : (n m : NodeName) (e f : Entry) → j n ≡ Some e → j m ≡ Some f → e.slot ≡ f.slot → n ≡ m
      slots n m e f h k g =
          let a = joined_only n e h in
          let b = joined_only m f k in
          let s : a.left.slot ≡ b.left.slot = one_slot a.left b.left a.there b.there a.left.slot b.left.slot refl refl (ap (λ (e : Entry). e.slot) a.is ∙ g ∙ ap (λ (e : Entry). e.slot) (sym b.is)) in
          let same : a.left ≡ b.left = same_some a.there (subst (λ q. entry_of l q ≡ Some b.left) (sym (fl.slots a.left.name b.left.name a.left b.left a.there b.there s)) b.there) in
          sym a.name ∙ ap φ same ∙ b.name

  -- the attributes of both sides
  joined_keys : (bs as' : List Attr) → rises bytes_cmp (map (λ (a : Attr). a.key) as') ≡ true → rises bytes_cmp (map (λ (a : Attr). a.key) (joined_attrs as' bs)) ≡ true
  joined_keys [] as' h = h
  joined_keys (b ∷ bs) as' h =
      joined_keys bs _ (elim (is_some (attr_of as' b.key)) as (λ t. rises bytes_cmp (map (λ (a : Attr). a.key) (cond t as' (with_attr b as'))) ≡ true) [
        | true ↦ h
        | false ↦ rises_placed bytes_cmp (λ (a : Attr). a.key) bytes_total b as' h
      ])

  pub joined_is_sane : IsSane (joined l r new)
  joined_is_sane = record {
    ordered = both_true _ _ (in_order-rises (map ψ l)) (in_order-all has_rising_keys (map ψ l) (each l (second_so _ _ sl.ordered)));
    sane = joined_sane_map;
  }
    where
      each : (t : Tree) → list_all has_rising_keys t ≡ true → list_all has_rising_keys (map ψ t) ≡ true
      each [] h = refl
      each (x ∷ t) h = both_true _ _ (joined_keys (other_attrs (counterpart l r x)) x.attrs (first_so _ _ h)) (each t (second_so (has_rising_keys x) _ h))

  -- what each side's revision has of a joined node
  kind_of_pair : (x : Entry) (h : entry_of l x.name ≡ Some x) → is_dir x ≡ is_dir (pair x h).other
  kind_of_pair x h =
      let p = pair x h in
      let a = either_false ((is_old new x && is_old new p.other && not (same_name x.name p.other.name)) || not (same_body x.body p.other.body)) _ p.agree in
      let b = either_false (is_old new x && is_old new p.other && not (same_name x.name p.other.name)) _ a.0 in
      same_kind x.body p.other.body (unnot _ b.1)

  has_more : (b : Bool) (a : Attr) (as' : List Attr) (k : List ℕ) → IsSome (attr_of as' k) → IsSome (attr_of (cond b as' (with_attr a as')) k)
  has_more true a as' k h = h
  has_more false a as' k h = keeps_key a as' k h

  keys_left : (bs as' : List Attr) (k : List ℕ) → IsSome (attr_of as' k) → IsSome (attr_of (joined_attrs as' bs) k)
  keys_left [] as' k h = h
  keys_left (b ∷ bs) as' k h = keys_left bs _ k (has_more (is_some (attr_of as' b.key)) b as' k h)

  has_now : (b : Attr) (as' : List Attr) → IsSome (attr_of (cond (is_some (attr_of as' b.key)) as' (with_attr b as')) b.key)
  has_now b as' =
      elim (is_some (attr_of as' b.key)) as (λ t. is_some (attr_of as' b.key) ≡ t → IsSome (attr_of (cond t as' (with_attr b as')) b.key)) [
        | true ↦ λ e. some_by (attr_of as' b.key) e
        | false ↦ λ e. subst IsSome (sym (attr_of-with_attr b as' b.key)) (subst (λ t. IsSome (cond t (Some b.value) (attr_of as' b.key))) (sym ((bytes_decides b.key b.key).1 refl)) refl)
      ] refl
    where
      some_by : {A : Type 0} (o : Option A) → is_some o ≡ true → IsSome o
      some_by None e = absurd cc
      some_by (Some a) e = refl

  keys_right : (bs as' : List Attr) (k : List ℕ) → IsSome (attr_of bs k) → IsSome (attr_of (joined_attrs as' bs) k)
  keys_right [] as' k h = absurd cc
  keys_right (b ∷ bs) as' k h =
      elim (same_bytes b.key k) as (λ t. same_bytes b.key k ≡ t → IsSome (option_map (λ (a : Attr). a.value) (cond t (Some b) (find (λ (a : Attr). same_bytes a.key k) bs))) → IsSome (attr_of (joined_attrs as' (b ∷ bs)) k)) [
        | true ↦ λ e g. subst (λ q. IsSome (attr_of (joined_attrs as' (b ∷ bs)) q)) ((bytes_decides b.key k).0 e) (keys_left bs _ b.key (has_now b as'))
        | false ↦ λ e g. keys_right bs _ k g
      ] refl h

  -- a joined node by its sides: the left node has its name, or the right one has
  pub record OnLeft (n : NodeName) (e : Entry) : Type 0 where
    pub x : Entry
    pub there : entry_of l n ≡ Some x
    pub kind : is_dir e ≡ is_dir x
    pub keys : (k : List ℕ) → IsSome (attr_of x.attrs k) → IsSome (attr_of e.attrs k)

  pub record OnRight (n : NodeName) (e : Entry) : Type 0 where
    pub y : Entry
    pub there : entry_of r n ≡ Some y
    pub kind : is_dir e ≡ is_dir y
    pub keys : (k : List ℕ) → IsSome (attr_of y.attrs k) → IsSome (attr_of e.attrs k)

  on_left : (x : Entry) (h : entry_of l x.name ≡ Some x) → is_old new x ≡ true → OnLeft (φ x) (ψ x)
  on_left x h old = record {
    x = x;
    there = subst (λ n. entry_of l n ≡ Some x) (sym (name_is x h true old)) h;
    kind = refl;
    keys = λ k g. keys_left (other_attrs (counterpart l r x)) x.attrs k g;
  }

  on_right : (x : Entry) (h : entry_of l x.name ≡ Some x) → φ x ≡ (pair x h).other.name → OnRight (φ x) (ψ x)
  on_right x h name = record {
    y = (pair x h).other;
    there = subst (λ n. entry_of r n ≡ Some (pair x h).other) (sym name) (other_there x h);
    kind = kind_of_pair x h;
    keys = λ k g. keys_right (other_attrs (counterpart l r x)) x.attrs k (subst (λ o. IsSome (attr_of (other_attrs o) k)) (sym (pair x h).at) g);
  }

  pub old_by : (x : Entry) → x.name.birth ≢ new → is_old new x ≡ true
  old_by x ne = ⊎_elim (λ a. a) (λ b. absurd (ne (born_here x b))) (told (is_old new x))

  pub on_either : (n : NodeName) (e : Entry) → j n ≡ Some e → OnLeft n e ⊎ OnRight n e
  on_either n e h =
      let a = joined_only n e h in
      ⊎_elim
      (λ old. inl (subst (OnLeft n) a.is (subst (λ m. OnLeft m (ψ a.left)) a.name (on_left a.left a.there old))))
      (λ add. inr (subst (OnRight n) a.is (subst (λ m. OnRight m (ψ a.left)) a.name (on_right a.left a.there (name_is a.left a.there false add)))))
      (told (is_old new a.left))

  -- whose birth is known on a side stands on that side
  pub known_left : (n : NodeName) (e : Entry) → j n ≡ Some e → n.birth ≢ new → IsTrue (al n.birth) → OnLeft n e
  known_left n e h strange above =
      let a = joined_only n e h in
      let p = pair a.left a.there in
      let old : is_old new a.left ≡ true = ⊎_elim (λ t. t) (λ f.
      let name : p.other.name ≡ n = sym (name_is a.left a.there false f) ∙ a.name in
      lives_right (is_old new a.left) (is_old new p.other) (ar a.left.name.birth) (al p.other.name.birth) p.lives
      (old_by p.other (λ g. strange (ap (λ (m : NodeName). m.birth) (sym name) ∙ g)))
      (ap (λ (m : NodeName). al m.birth) name ∙ above)) (told (is_old new a.left)) in
      subst (OnLeft n) a.is (subst (λ m. OnLeft m (ψ a.left)) a.name (on_left a.left a.there old))

  pub known_right : (n : NodeName) (e : Entry) → j n ≡ Some e → n.birth ≢ new → IsTrue (ar n.birth) → OnRight n e
  known_right n e h strange above =
      let a = joined_only n e h in
      subst (OnRight n) a.is (subst (λ m. OnRight m (ψ a.left)) a.name (on_right a.left a.there (⊎_elim
      (λ old.
      let name : a.left.name ≡ n = sym (name_is a.left a.there true old) ∙ a.name in
      name_is a.left a.there true old ∙ sym (old_pair a.left a.there old (ap (λ (m : NodeName). ar m.birth) name ∙ above)))
      (λ add. name_is a.left a.there false add)
      (told (is_old new a.left)))))

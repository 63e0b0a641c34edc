-- The two canonical changesets of a merge make its tree.
use Rattle.std.specs.Prelude.{◌&&◌, ◌||◌, not, is_some, filter_map, map, option_map, option_and_then, reverse, IsSome}
use Rattle.std.specs.List.{list_all, cons_option}
use Rattle.std.specs.Option.{option_map_or}
use Rattle.std.proofs.Common.{◌≡◌, ◌≢◌, ℕ, Bool, true, false, cond, List, [], ◌∷◌, ◌++◌, Option, Some, None, refl, sym, ◌∙◌, ap, subst, inl, inr, ⊎_elim}
use Rattle.mtn_base.specs.Names.{same_bytes, same_id, same_name}
use Rattle.mtn_base.specs.declared.id.Id.{Id}
use Rattle.mtn_base.specs.declared.name.NodeName.{NodeName}
use Rattle.mtn_roster.specs.declared.entry.Attr.{Attr}
use Rattle.mtn_roster.specs.declared.entry.Body.{Body}
use Rattle.mtn_roster.specs.declared.entry.Body.TheVariants.{Dir, File}
use Rattle.mtn_roster.specs.declared.entry.Entry.{Entry}
use Rattle.mtn_roster.specs.Attrs.{are_keyed}
use Rattle.mtn_base.specs.Lists.{is_some_with}
use Rattle.mtn_roster.specs.Tree.{Tree, entry_of, node_at, attr_of, live_of, path_of, IsSane}
use Rattle.mtn_base.proofs.Finding.{Split, later}
use Rattle.mtn_base.proofs.Members.{head, of_append}
use Rattle.mtn_base.proofs.Tests.{told, both_true, same_bytes-self, same_id-is, same_id-self, same_name-self}
use Rattle.mtn_roster.proofs.Forest.{IsForest, node_there}
use Rattle.mtn_roster.proofs.Ordered.{forest_of}
use Rattle.mtn_roster.proofs.Pathing.{path_leads, path_of-at}
use Rattle.mtn_roster.proofs.Along.{keyed}
use Rattle.mtn_changeset_laws.specs.Changes.{first_fault, tree_after}
use Rattle.mtn_changeset_laws.specs.Joining.{is_old, same_body, has_live, same_live, disagree, is_revived, join_why, fault_at, least, join_fault, joined}
use Rattle.mtn_changeset_laws.specs.Joining.JoinWhy.{Disagree, Revived}
use Rattle.mtn_changeset_laws.specs.Laws.{CommonAreKnown, AreNamedByPath, IsJoinedOf, IsJoinedAt}
use Rattle.mtn_changeset_laws.proofs.AfterSane.{after_names}
use Rattle.mtn_changeset_laws.proofs.Stepping.{after_descends}
use Rattle.mtn_changeset_laws.proofs.Joins.{of_map, joined_is_sane}
use Rattle.mtn_changeset_laws.proofs.JoinedPaths.{joined_at_path}
use Rattle.mtn_between.specs.Between.{attrs_before, between}
use Rattle.mtn_between.specs.Laws.{carried_name, IsCarried, IsCarriedAt}
use Rattle.mtn_between.specs.Merging.{HasKey, IsSide, IsMerged}
use Rattle.mtn_between.proofs.Standing.{live_own}
use Rattle.mtn_between.proofs.NoFault.{between_no_fault, or_false, and_false}
use Rattle.mtn_between.proofs.Carried.{once, after_sane, carried_at}
use Rattle.mtn_between.proofs.Same.{IsLike, AreLike, trees_are}

same_body-self : (b : Body) → same_body b b ≡ true
same_body-self Dir = refl
same_body-self (File c) = same_id-self c

-- what has the same live values has each live value of the other
has_all : (as' bs : List Attr) → are_keyed as' ≡ true → ((k : List ℕ) → live_of as' k ≡ live_of bs k) → has_live bs as' ≡ true
has_all as' bs h same = go as' (λ a s. one a (live_own as' h a s))
  where
    test : Attr → Bool
    test a = option_map_or (λ v. is_some_with (same_bytes v) (live_of bs a.key)) a.value true

    one : (a : Attr) → live_of as' a.key ≡ a.value → test a ≡ true
    one a l = by a.value (sym (same a.key) ∙ l)
      where
        by : (o : Option (List ℕ)) → live_of bs a.key ≡ o → option_map_or (λ v. is_some_with (same_bytes v) (live_of bs a.key)) o true ≡ true
        by None e = refl
        by (Some v) e = ap (is_some_with (same_bytes v)) e ∙ same_bytes-self v

    go : (xs : List Attr) → ((a : Attr) → Split xs a → test a ≡ true) → list_all test xs ≡ true
    go [] f = refl
    go (a ∷ xs) f = both_true _ _ (f a (head a xs)) (go xs (λ b s. f b (later a xs b s)))

same_live-all : (as' bs : List Attr) → are_keyed as' ≡ true → are_keyed bs ≡ true → ((k : List ℕ) → live_of as' k ≡ live_of bs k) → same_live as' bs ≡ true
same_live-all as' bs ha hb same = both_true _ _ (has_all as' bs ha same) (has_all bs as' hb (λ k. sym (same k)))

none_kept : {X Y : Type 0} (h : X → Option Y) (xs : List X) → ((x : X) → Split xs x → h x ≡ None) → filter_map h xs ≡ []
none_kept h [] f = refl
none_kept h (x ∷ xs) f = by (h x) (f x (head x xs)) (none_kept h xs (λ y s. f y (later x xs y s)))
  where
    by : {Y : Type 0} {ys : List Y} (o : Option Y) → o ≡ None → ys ≡ [] → cons_option o ys ≡ []
    by None e g = g
    by (Some y) e g = absurd cc

-- an old node is not born in the new revision
old_not : (x : Id) (n : NodeName) → n.birth ≡ x → not (same_id n.birth x) ≡ false
old_not x n h = ap not (ap (λ i. same_id i x) h ∙ same_id-self x)

old_so : (x : Id) (n : NodeName) → not (same_id n.birth x) ≡ true → n.birth ≢ x
old_so x n h e = let z : false ≡ true = sym (old_not x n e) ∙ h in absurd cc

born : (x : Id) (n : NodeName) → not (same_id n.birth x) ≡ false → n.birth ≡ x
born x n h = same_id-is n.birth x (unnot (same_id n.birth x) h)
  where
    unnot : (b : Bool) → not b ≡ false → b ≡ true
    unnot true g = refl
    unnot false g = absurd cc

-- a node at a path of the tree that a side's changeset makes, by whether the side has it
data IsFrom (side : Tree) (x : Id) (p : List (List ℕ)) (f e : Entry) : Type 0 where
  old_one : {d : Entry} → entry_of side f.name ≡ Some d → e.name ≡ f.name → IsFrom side x p f e
  added_one : entry_of side f.name ≡ None → e.name ≡ record { birth = x; path = p } → IsFrom side x p f e

from : (side : Tree) (x : Id) (p : List (List ℕ)) (f e : Entry) → e.name ≡ carried_name side x p f → IsFrom side x p f e
from side x p f e h = by (entry_of side f.name) refl
  where
    by : (o : Option Entry) → entry_of side f.name ≡ o → IsFrom side x p f e
    by None g = added_one g (h ∙ ap (λ o. cond (is_some o) f.name (record { birth = x; path = p })) g)
    by (Some d) g = old_one g (h ∙ ap (λ o. cond (is_some o) f.name (record { birth = x; path = p })) g)

-- attributes that agree on what is live and on what is there
attr_by : (o p : Option (Option (List ℕ))) → option_and_then (λ v. v) o ≡ option_and_then (λ v. v) p → (IsSome o → IsSome p) → (IsSome p → IsSome o) → o ≡ p
attr_by None None l f g = refl
attr_by None (Some v) l f g = absurd (let z = g refl in cc)
attr_by (Some v) None l f g = absurd (let z = f refl in cc)
attr_by (Some v) (Some w) l f g = ap Some l

-- a key that a side has at a node
key_before : (side : Tree) (f : Entry) (k : List ℕ) → HasKey side f.name k → IsSome (attr_of (attrs_before side f) k)
key_before side f k h = subst (λ o. IsSome (attr_of (option_map_or (λ (e : Entry). e.attrs) o []) k)) (sym h.1) h.2

key_of_before : (side : Tree) (f : Entry) (k : List ℕ) → IsSome (attr_of (attrs_before side f) k) → HasKey side f.name k
key_of_before side f k h = by (entry_of side f.name) refl h
  where
    by : (o : Option Entry) → entry_of side f.name ≡ o → IsSome (attr_of (option_map_or (λ (e : Entry). e.attrs) o []) k) → HasKey side f.name k
    by None g i = absurd cc
    by (Some d) g i = (d, g, i)

some_is : {A : Type 0} (o : Option A) → IsSome o → (v : A) × (o ≡ Some v)
some_is None h = absurd cc
some_is (Some v) h = (v, refl)

-- an old node of a side keeps a name of an earlier birth
module _ (side : Tree) (x : Id) (above : Id → Bool) (h : IsSide side x above) where
  old_name : (f d e : Entry) → entry_of side f.name ≡ Some d → e.name ≡ f.name → e.name.birth ≢ x
  old_name f d e g n is = h.unborn f.name d g (ap (λ (q : NodeName). q.birth) (sym n) ∙ is)

  old_is : (f d e : Entry) → entry_of side f.name ≡ Some d → e.name ≡ f.name → is_old x e ≡ true
  old_is f d e g n = ⊎_elim (λ q. absurd (old_name f d e g n (same_id-is e.name.birth x q))) (λ q. ap not q) (told (same_id e.name.birth x))

added_not : (x : Id) (p : List (List ℕ)) (e : Entry) → e.name ≡ record { birth = x; path = p } → is_old x e ≡ false
added_not x p e n = old_not x e.name (ap (λ (q : NodeName). q.birth) n)

module _ (a b t : Tree) (x : Id) (al ar : Id → Bool) (ha : IsSide a x al) (hb : IsSide b x ar) (m : IsMerged a b x al ar t) where
  abbrev l : Tree
  l = tree_after a (between a t) x

  abbrev r : Tree
  r = tree_after b (between b t) x

  pub left_fine : first_fault a (between a t) ≡ None
  left_fine = between_no_fault a t ha.sane m.sane m.left_kinds

  pub right_fine : first_fault b (between b t) ≡ None
  right_fine = between_no_fault b t hb.sane m.sane m.right_kinds

  sl : IsSane l
  sl = after_sane a t x ha.sane m.sane ha.spellable m.spellable m.left_kinds ha.unborn

  sr : IsSane r
  sr = after_sane b t x hb.sane m.sane hb.spellable m.spellable m.right_kinds hb.unborn

  carried_left : (p : List (List ℕ)) → IsCarriedAt a x p (node_at t p) (node_at l p)
  carried_left = carried_at a t x ha.sane m.sane ha.spellable m.spellable m.left_kinds ha.unborn

  carried_right : (p : List (List ℕ)) → IsCarriedAt b x p (node_at t p) (node_at r p)
  carried_right = carried_at b t x hb.sane m.sane hb.spellable m.spellable m.right_kinds hb.unborn

  ht : IsForest t
  ht = forest_of t m.sane

  -- what stands at a path of the merge's tree
  record IsThere (p : List (List ℕ)) (f : Entry) : Type 0 where
    u : Entry
    v : Entry
    here : entry_of t f.name ≡ Some f
    path : path_of t f ≡ p
    left : node_at l p ≡ Some u
    right : node_at r p ≡ Some v
    cl : IsCarried a x p f u
    cr : IsCarried b x p f v

  there_is : (p : List (List ℕ)) (f : Entry) → node_at t p ≡ Some f → IsThere p f
  there_is p f h = by (node_at l p) (node_at r p) refl refl (subst (λ o. IsCarriedAt a x p o (node_at l p)) h (carried_left p)) (subst (λ o. IsCarriedAt b x p o (node_at r p)) h (carried_right p))
    where
      by : (u v : Option Entry) → node_at l p ≡ u → node_at r p ≡ v → IsCarriedAt a x p (Some f) u → IsCarriedAt b x p (Some f) v → IsThere p f
      by None v g k cl cr = absurd cl
      by (Some u) None g k cl cr = absurd cr
      by (Some u) (Some v) g k cl cr = record { u = u; v = v; here = node_there t ht (reverse p) f h; path = path_of-at t ht p f h; left = g; right = k; cl = cl; cr = cr }

  nothing : (side : Tree) (p : List (List ℕ)) (o : Option Entry) → node_at t p ≡ None → IsCarriedAt side x p (node_at t p) o → o ≡ None
  nothing side p o h c = by o (subst (λ q. IsCarriedAt side x p q o) h c)
    where
      by : (o : Option Entry) → IsCarriedAt side x p None o → o ≡ None
      by None c = refl
      by (Some e) c = absurd c

  -- a side's node comes from its side
  module _ (p : List (List ℕ)) (f : Entry) (w : IsThere p f) where
    from_left : IsFrom a x p f w.u
    from_left = from a x p f w.u w.cl.name

    from_right : IsFrom b x p f w.v
    from_right = from b x p f w.v w.cr.name

    names_agree : IsFrom a x p f w.u → IsFrom b x p f w.v → (is_old x w.u && is_old x w.v && not (same_name w.u.name w.v.name)) ≡ false
    names_agree (old_one g n) (old_one h k) =
        and_false (is_old x w.u && is_old x w.v) (not (same_name w.u.name w.v.name)) (λ _. ap not (ap (same_name w.u.name) (k ∙ sym n) ∙ same_name-self w.u.name))
    names_agree (added_one g n) q = ap (λ o. o && is_old x w.v && not (same_name w.u.name w.v.name)) (added_not x p w.u n)
    names_agree (old_one g n) (added_one h k) =
        ap (λ o. o && not (same_name w.u.name w.v.name)) (and_false (is_old x w.u) (is_old x w.v) (λ _. added_not x p w.v k))

    agree : disagree x w.u w.v ≡ false
    agree =
        let live : (k : List ℕ) → live_of w.u.attrs k ≡ live_of w.v.attrs k = λ k. w.cl.live k ∙ sym (w.cr.live k) in
        or_false _ _
        (or_false _ _ (names_agree from_left from_right) (ap not (ap (λ q. same_body q w.v.body) (w.cl.body ∙ sym w.cr.body) ∙ same_body-self w.v.body)))
        (ap not (same_live-all w.u.attrs w.v.attrs
        (keyed l sl w.u (node_there l (forest_of l sl) (reverse p) w.u w.left))
        (keyed r sr w.v (node_there r (forest_of r sr) (reverse p) w.v w.right)) live))

    unrevived : IsFrom a x p f w.u → IsFrom b x p f w.v → is_revived x al ar w.u w.v ≡ false
    unrevived (old_one {d = d} g n) (old_one {d = c} h k) =
        (λ i. (old_is a x al ha f d w.u g n i && not (old_is b x ar hb f c w.v h k i) && ar w.u.name.birth) || (old_is b x ar hb f c w.v h k i && not (old_is a x al ha f d w.u g n i) && al w.v.name.birth))
    unrevived (old_one {d = d} g n) (added_one h k) =
        or_false _ _
        (and_false (is_old x w.u && not (is_old x w.v)) (ar w.u.name.birth) (λ _. ap (λ (q : NodeName). ar q.birth) n ∙ m.left_lives f.name f d w.here g h))
        (ap (λ o. o && not (is_old x w.u) && al w.v.name.birth) (added_not x p w.v k))
    unrevived (added_one g n) (old_one {d = c} h k) =
        or_false _ _
        (ap (λ o. o && not (is_old x w.v) && ar w.u.name.birth) (added_not x p w.u n))
        (and_false (is_old x w.v && not (is_old x w.u)) (al w.v.name.birth) (λ _. ap (λ (q : NodeName). al q.birth) k ∙ m.right_lives f.name f c w.here h g))
    unrevived (added_one g n) (added_one h k) =
        or_false _ _
        (ap (λ o. o && not (is_old x w.v) && ar w.u.name.birth) (added_not x p w.u n))
        (ap (λ o. o && not (is_old x w.u) && al w.v.name.birth) (added_not x p w.v k))

    no_why : join_why x al ar (node_at l p) (node_at r p) ≡ None
    no_why =
        (λ i. join_why x al ar (w.left i) (w.right i))
        ∙ ap (λ q. cond q (Some Disagree) (cond (is_revived x al ar w.u w.v) (Some Revived) None)) agree
        ∙ ap (λ q. cond q (Some Revived) None) (unrevived from_left from_right)

  -- no path has a fault
  no_fault_at : (p : List (List ℕ)) → (node_at t p ≡ None → ⊥) → fault_at x al ar l r p ≡ None
  no_fault_at p some = by (node_at t p) refl
    where
      by : (o : Option Entry) → node_at t p ≡ o → fault_at x al ar l r p ≡ None
      by None h = absurd (some h)
      by (Some f) h = ap (option_map (λ w. (p, w))) (no_why p f (there_is p f h))

  on_path : (side : Tree) (s : Tree) (hs : IsSane s) → ((p : List (List ℕ)) → IsCarriedAt side x p (node_at t p) (node_at s p)) → (p : List (List ℕ)) → Split (map (path_of s) s) p → node_at t p ≡ None → ⊥
  on_path side s hs carried p u h =
      let e = of_map (path_of s) s p u in
      let forest = forest_of s hs in
      let there : node_at s p ≡ Some e.0 = ap (node_at s) (sym e.2) ∙ path_leads s forest e.0.name e.0 (forest.distinct e.0 e.1) in
      let z : None ≡ Some e.0 = sym (nothing side p (node_at s p) h (carried p)) ∙ there in
      absurd cc

  pub agreed : join_fault x al ar l r ≡ None
  agreed = ap (least x al ar) (none_kept (fault_at x al ar l r) (map (path_of l) l ++ map (path_of r) r) (λ p s. no_fault_at p (λ h. ⊎_elim
      (λ u. on_path a l sl carried_left p u h)
      (λ u. on_path b r sr carried_right p u h)
      (of_append (map (path_of l) l) (map (path_of r) r) p s))))

  known : CommonAreKnown l r x al ar
  known n u v h k strange =
      let dl = after_descends a (between a t) x (inr ha.sane) (once a t x ha.sane m.sane ha.spellable m.spellable m.left_kinds ha.unborn) ha.unborn left_fine in
      let dr = after_descends b (between b t) x (inr hb.sane) (once b t x hb.sane m.sane hb.spellable m.spellable m.right_kinds hb.unborn) hb.unborn right_fine in
      let p = some_is (entry_of a n) (dl.from n u h strange) in
      let q = some_is (entry_of b n) (dr.from n v k strange) in
      (ha.born n p.0 p.1, hb.born n q.0 q.1)

  abbrev j : Tree
  j = joined l r x

  sj : IsSane j
  sj = joined_is_sane l r x al ar sl sr agreed known

  named : AreNamedByPath r x
  named = after_names b (between b t) x (inr hb.sane) (once b t x hb.sane m.sane hb.spellable m.spellable m.right_kinds hb.unborn) hb.unborn right_fine

  module _ (p : List (List ℕ)) (f e : Entry) (w : IsThere p f) (i : IsJoinedOf x p w.u w.v e) where
    name_is : IsFrom a x p f w.u → IsFrom b x p f w.v → e.name ≡ f.name
    name_is (old_one {d = d} g n) q = i.left_node (old_name a x al ha f d w.u g n) ∙ n
    name_is (added_one g n) (old_one {d = d} h k) = i.right_node (old_name b x ar hb f d w.v h k) ∙ k
    name_is (added_one g n) (added_one h k) =
        i.added_node (ap (λ (q : NodeName). q.birth) n) (ap (λ (q : NodeName). q.birth) k)
        ∙ sym (m.reborn f.name f w.here g h ∙ ap (λ q. record { birth = x; path = q }) w.path)

    live_is : (k : List ℕ) → live_of e.attrs k ≡ live_of f.attrs k
    live_is k = i.left_live k ∙ w.cl.live k

    has_live_key : (k : List ℕ) → IsSome (live_of f.attrs k) → IsSome (attr_of f.attrs k)
    has_live_key k h = by (attr_of f.attrs k) h
      where
        by : (o : Option (Option (List ℕ))) → IsSome (option_and_then (λ v. v) o) → IsSome o
        by None g = absurd (let z = g in cc)
        by (Some v) g = refl

    to : (k : List ℕ) → IsSome (attr_of e.attrs k) → IsSome (attr_of f.attrs k)
    to k h = ⊎_elim
        (λ g. ⊎_elim (has_live_key k) (λ q. m.keys f.name f k w.here (inl (key_of_before a f k q))) ((w.cl.keys k).0 g))
        (λ g. ⊎_elim (has_live_key k) (λ q. m.keys f.name f k w.here (inr (key_of_before b f k q))) ((w.cr.keys k).0 g))
        ((i.keys k).0 h)

    back : (k : List ℕ) → IsSome (attr_of f.attrs k) → IsSome (attr_of e.attrs k)
    back k h = by (attr_of f.attrs k) refl h
      where
        by : (o : Option (Option (List ℕ))) → attr_of f.attrs k ≡ o → IsSome o → IsSome (attr_of e.attrs k)
        by None g q = absurd (let z = q in cc)
        by (Some None) g q = ⊎_elim
            (λ c. (i.keys k).1 (inl ((w.cl.keys k).1 (inr (key_before a f k c)))))
            (λ c. (i.keys k).1 (inr ((w.cr.keys k).1 (inr (key_before b f k c)))))
            (m.cleared f.name f k w.here g)
        by (Some (Some v)) g q = (i.keys k).1 (inl ((w.cl.keys k).1 (inl (subst IsSome (sym (ap (option_and_then (λ v. v)) g)) refl))))

    like : IsLike e f
    like = record {
      name = name_is (from_left p f w) (from_right p f w);
      body = i.left_body ∙ w.cl.body;
      attrs = λ k. attr_by (attr_of e.attrs k) (attr_of f.attrs k) (live_is k) (to k) (back k);
    }

  like_at : (p : List (List ℕ)) → AreLike (node_at j p) (node_at t p)
  like_at p = by (node_at t p) refl (joined_at_path l r x al ar sl sr agreed known named p)
    where
      none_joined : (u v e : Option Entry) → u ≡ None → v ≡ None → IsJoinedAt x p u v e → AreLike e None
      none_joined None None None g h i = tt
      none_joined None None (Some e) g h i = absurd i
      none_joined None (Some v) e g h i = absurd cc
      none_joined (Some u) v e g h i = absurd cc

      some_joined : (f : Entry) (w : IsThere p f) (e : Option Entry) → IsJoinedAt x p (Some w.u) (Some w.v) e → AreLike e (Some f)
      some_joined f w None i = absurd i
      some_joined f w (Some e) i = like p f e w i

      by : (o : Option Entry) → node_at t p ≡ o → IsJoinedAt x p (node_at l p) (node_at r p) (node_at j p) → AreLike (node_at j p) o
      by None h i = none_joined (node_at l p) (node_at r p) (node_at j p) (nothing a p (node_at l p) h (carried_left p)) (nothing b p (node_at r p) h (carried_right p)) i
      by (Some f) h i =
          let w = there_is p f h in
          some_joined f w (node_at j p) (subst (λ o. IsJoinedAt x p o (Some w.v) (node_at j p)) w.left (subst (λ o. IsJoinedAt x p (node_at l p) o (node_at j p)) w.right i))

  pub made : joined l r x ≡ t
  made = trees_are j t sj m.sane like_at

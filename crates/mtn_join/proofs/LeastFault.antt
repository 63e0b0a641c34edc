-- The least path with a fault, by the walks over both trees.
use Rattle.std.specs.Prelude.{option_map, filter_map, map, reverse, slice_get}
use Rattle.std.specs.Option.{option_map_or}
use Rattle.std.specs.FinMap.Entries.{by_order}
use Rattle.std.specs.declared.cmp.Ordering.{Ordering}
use Rattle.std.specs.declared.cmp.Ordering.TheVariants.{Less, Equal, Greater}
use Rattle.std.specs.Ordering.{is_lt, ordering_reverse}
use Rattle.std.proofs.Common.{◌≡◌, ℕ, zero, suc, ◌<◌, ◌≤◌, Bool, true, false, cond, List, [], ◌∷◌, ◌++◌, length, Option, Some, None, refl, sym, ◌∙◌, ap, subst, ◌⊎◌, inl, inr, ⊎_elim, arith}
use Rattle.std.proofs.lemmas.Bool.{cases_lt}
use Rattle.mtn_base.specs.Names.{path_cmp}
use Rattle.mtn_base.specs.declared.id.Id.{Id}
use Rattle.mtn_roster.specs.declared.entry.Entry.{Entry}
use Rattle.mtn_roster.specs.Tree.{Tree, IsSane, node_at, path_of}
use Rattle.mtn_roster.specs.Walk.{by_path}
use Rattle.mtn_base.proofs.Finding.{Split, later}
use Rattle.mtn_base.proofs.Members.{head, split_cons, of_append, in_left, in_right, of_filter_map, in_filter_map}
use Rattle.mtn_roster.proofs.Forest.{same_some, split_of, node_there}
use Rattle.mtn_base.proofs.Orders.{paths_total}
use Rattle.mtn_roster.proofs.Ordered.{forest_of}
use Rattle.mtn_roster.proofs.Paths.{exact_paths}
use Rattle.mtn_roster.proofs.Pathing.{path_of-at}
use Rattle.mtn_base.proofs.Sorting.{no_split}
use Rattle.mtn_roster.proofs.Leading.{get_within}
use Rattle.mtn_changeset_laws.specs.Joining.{JoinWhy, join_why, fault_at, least, join_fault}
use Rattle.mtn_changeset_laws.specs.Joining.JoinWhy.{Disagree}
use Rattle.mtn_changeset_laws.proofs.Joins.{in_map, of_map}
use Rattle.mtn_join.specs.declared.pair.PairFault.{PairFault}
use Rattle.mtn_join.specs.Pairing.{IsPairedAt, pair_why, IsAgreement, IsEnd, ArePaired, path_along, lesser_path, why_of}
use Rattle.mtn_roster.proofs.Along.{held, leads, less, not_less, one_stop, reached}

abbrev PathFault : Type 0
PathFault = List (List ℕ) × JoinWhy

module _ (new : Id) (al ar : Id → Bool) where
  abbrev least_of : List PathFault → Option PathFault
  least_of = least new al ar

  least_none : (fs : List PathFault) → least_of fs ≡ None → fs ≡ []
  least_none [] h = refl
  least_none (f ∷ fs) h = absurd cc

  least_in : (fs : List PathFault) (g : PathFault) → least_of fs ≡ Some g → Split fs g
  least_in [] g h = absurd cc
  least_in (f ∷ fs) g h = at (least_of fs) refl (least_in fs)
    where
      at : (o : Option PathFault) → least_of fs ≡ o → ((k : PathFault) → least_of fs ≡ Some k → Split fs k) → Split (f ∷ fs) g
      at None e rest =
          let is : f ≡ g = let q : Some f ≡ Some g = ap (λ o. Some (option_map_or (λ (k : PathFault). by_order (path_cmp f.0 k.0) f f k) o f)) (sym e) ∙ h in cc in
          subst (Split (f ∷ fs)) is (head f fs)
      at (Some k) e rest = by (path_cmp f.0 k.0) refl
        where
          by : (r : Ordering) → path_cmp f.0 k.0 ≡ r → Split (f ∷ fs) g
          by r q = go r (ap (λ s. by_order s f f k) (sym q) ∙ is)
            where
              is : by_order (path_cmp f.0 k.0) f f k ≡ g
              is = let w : Some (by_order (path_cmp f.0 k.0) f f k) ≡ Some g = ap (λ o. Some (option_map_or (λ (k : PathFault). by_order (path_cmp f.0 k.0) f f k) o f)) (sym e) ∙ h in cc

              go : (r : Ordering) → by_order r f f k ≡ g → Split (f ∷ fs) g
              go Less w = subst (Split (f ∷ fs)) w (head f fs)
              go Equal w = subst (Split (f ∷ fs)) w (head f fs)
              go Greater w = subst (Split (f ∷ fs)) w (later f fs k (rest k e))

  -- no fault stands before p, and all faults at p are one
  abbrev IsLow : List PathFault → PathFault → Type 0
  IsLow fs f = (g : PathFault) → Split fs g → (path_cmp g.0 f.0 ≡ Less → ⊥) × (g.0 ≡ f.0 → g ≡ f)

  least_is : (fs : List PathFault) (f : PathFault) → Split fs f → IsLow fs f → least_of fs ≡ Some f
  least_is [] f s low = absurd (no_split f s)
  least_is (g ∷ fs) f s low = at (least_of fs) refl (split_cons g fs f s) (λ u. least_is fs f u (λ k v. low k (later g fs k v)))
    where
      least_with : (o : Option PathFault) → least_of fs ≡ o → least_of (g ∷ fs) ≡ Some (option_map_or (λ (k : PathFault). by_order (path_cmp g.0 k.0) g g k) o g)
      least_with o e = ap (λ o. Some (option_map_or (λ (k : PathFault). by_order (path_cmp g.0 k.0) g g k) o g)) e

      own : PathFault
      own = g

      first : (k : PathFault) (r : Ordering) → path_cmp g.0 k.0 ≡ r → Split fs k → g ≡ f → by_order r g g k ≡ f
      first k Less e u is = is
      first k Equal e u is = is
      first k Greater e u is =
          absurd ((low k (later g fs k u)).0 (ap (path_cmp k.0) (sym (ap (λ (p : PathFault). p.0) is)) ∙ paths_total.antisymm k.0 g.0 ∙ ap ordering_reverse e))

      second : (r : Ordering) → path_cmp g.0 f.0 ≡ r → by_order r g g f ≡ f
      second Less e = absurd ((low g (head g fs)).0 e)
      second Equal e = (low g (head g fs)).1 (exact_paths g.0 f.0 e)
      second Greater e = refl

      at : (o : Option PathFault) → least_of fs ≡ o → (g ≡ f) ⊎ Split fs f → (Split fs f → least_of fs ≡ Some f) → least_of (g ∷ fs) ≡ Some f
      at None e (inl is) rest = least_with None e ∙ ap Some is
      at None e (inr u) rest = absurd (no_split f (subst (λ l. Split l f) (least_none fs e) u))
      at (Some k) e (inl is) rest = least_with (Some k) e ∙ ap Some (first k (path_cmp g.0 k.0) refl (least_in fs k e) is)
      at (Some k) e (inr u) rest =
          let same : k ≡ f = same_some e (rest u) in
          least_with (Some k) e ∙ ap (λ (k : PathFault). Some (by_order (path_cmp g.0 k.0) g g k)) same ∙ ap Some (second (path_cmp g.0 f.0) refl)

module _ (new : Id) (al ar : Id → Bool) (l r : Tree) (sl : IsSane l) (sr : IsSane r) where
  abbrev why_at : List (List ℕ) → Option JoinWhy
  why_at p = join_why new al ar (node_at l p) (node_at r p)

  abbrev paths : List (List (List ℕ))
  paths = map (path_of l) l ++ map (path_of r) r

  abbrev faults : List PathFault
  faults = filter_map (fault_at new al ar l r) paths

  -- a fault of the list is that of its path
  record IsFound (g : PathFault) : Type 0 where
    path : Split paths g.0
    why : why_at g.0 ≡ Some g.1

  found_at : (g : PathFault) → Split faults g → IsFound g
  found_at g s =
      let t = of_filter_map (fault_at new al ar l r) paths g s in
      at t.0 t.1 (why_at t.0) refl t.2
    where
      at : (q : List (List ℕ)) → Split paths q → (o : Option JoinWhy) → why_at q ≡ o → option_map (λ w. (q, w)) o ≡ Some g → IsFound g
      at q u None e h = absurd cc
      at q u (Some w) e h =
          let is : (q, w) ≡ g = cc in
          record { path = subst (Split paths) (ap (λ (p : PathFault). p.0) is) u; why = ap why_at (sym (ap (λ (p : PathFault). p.0) is)) ∙ e ∙ ap (λ (p : PathFault). Some p.1) is }

  pub no_fault : ((p : List (List ℕ)) → Split paths p → why_at p ≡ None) → join_fault new al ar l r ≡ None
  no_fault fine = ap (least new al ar) (empty faults (λ g s. let f = found_at g s in let e = fine g.0 f.path in let w = f.why in absurd cc))
    where
      empty : (fs : List PathFault) → ((g : PathFault) → Split fs g → ⊥) → fs ≡ []
      empty [] h = refl
      empty (g ∷ fs) h = absurd (h g (head g fs))

  pub one_fault : (p : List (List ℕ)) (w : JoinWhy) → Split paths p → why_at p ≡ Some w → ((q : List (List ℕ)) → Split paths q → path_cmp q p ≡ Less → why_at q ≡ None) → join_fault new al ar l r ≡ Some (p, w)
  one_fault p w s e fine = least_is new al ar faults (p, w) (in_filter_map (fault_at new al ar l r) paths p (p, w) s (ap (option_map (λ v. (p, v))) e)) (λ g u.
      let f = found_at g u in (
        λ lt. let n = fine g.0 f.path lt in let y = f.why in absurd cc,
        λ same. let v : Some g.1 ≡ Some w = sym f.why ∙ ap why_at same ∙ e in let k : g.1 ≡ w = cc in λ i. (same i, k i),
      ))

  -- the paths are those along the walks
  left_path : (i : ℕ) (x : Entry) → slice_get (by_path l) i ≡ Some x → Split paths (path_of l x)
  left_path i x h = in_left (map (path_of l) l) (map (path_of r) r) (path_of l x) (in_map (path_of l) l x (split_of l x.name x (held l sl i x h)))

  right_path : (i : ℕ) (y : Entry) → slice_get (by_path r) i ≡ Some y → Split paths (path_of r y)
  right_path i y h = in_right (map (path_of l) l) (map (path_of r) r) (path_of r y) (in_map (path_of r) r y (split_of r y.name y (held r sr i y h)))

  abbrev OnLeft : List (List ℕ) → Type 0
  OnLeft p = (i : ℕ) × (x : Entry) × (slice_get (by_path l) i ≡ Some x) × (path_of l x ≡ p)

  abbrev OnRight : List (List ℕ) → Type 0
  OnRight p = (i : ℕ) × (y : Entry) × (slice_get (by_path r) i ≡ Some y) × (path_of r y ≡ p)

  on_walk : (p : List (List ℕ)) → Split paths p → OnLeft p ⊎ OnRight p
  on_walk p s = ⊎_elim
      (λ u. let t = of_map (path_of l) l p u in let i = reached l sl t.0 ((forest_of l sl).distinct t.0 t.1) in inl (i.0, t.0, i.1, t.2))
      (λ u. let t = of_map (path_of r) r p u in let i = reached r sr t.0 ((forest_of r sr).distinct t.0 t.1) in inr (i.0, t.0, i.1, t.2))
      (of_append (map (path_of l) l) (map (path_of r) r) p s)

  why_of_pair : (k : ℕ) (p : IsPairedAt l r k) → why_at (path_of l p.x) ≡ pair_why new al ar l r p
  why_of_pair k p =
      ap (λ o. join_why new al ar o (node_at r (path_of l p.x))) (leads l sl k p.x p.left_at)
      ∙ ap (λ q. join_why new al ar (Some p.x) (node_at r q)) p.path
      ∙ ap (join_why new al ar (Some p.x)) (leads r sr k p.y p.right_at)

  module _ (count : ℕ) (fine : (k : ℕ) → k < count → (p : IsPairedAt l r k) × (pair_why new al ar l r p ≡ None)) where
    -- what stands before a path stands before `count`
    abbrev IsBound : Tree → List (List ℕ) → Type 0
    IsBound t p = (i : ℕ) (e : Entry) → slice_get (by_path t) i ≡ Some e → path_cmp (path_of t e) p ≡ Less → i < count

    bound_end : (t : Tree) (p : List (List ℕ)) → slice_get (by_path t) count ≡ None → IsBound t p
    bound_end t p h i e at lt = elim (cases_lt i count) [
      | inl low ↦ low
      | inr ge ↦ absurd (none_past (by_path t) count i e ge h at)
    ]
      where
        none_past : (xs : List Entry) (c i : ℕ) (e : Entry) → c ≤ i → slice_get xs c ≡ None → slice_get xs i ≡ Some e → ⊥
        none_past [] c i e le h at = cc
        none_past (x ∷ xs) zero i e le h at = cc
        none_past (x ∷ xs) (suc c) zero e le h at = omega (arith, le)
        none_past (x ∷ xs) (suc c) (suc i) e le h at = none_past xs c i e (omega (arith, le)) h at

    bound_at : (t : Tree) (s : IsSane t) (p : List (List ℕ)) (x : Entry) → slice_get (by_path t) count ≡ Some x → (path_cmp p (path_of t x) ≡ Less) ⊎ (p ≡ path_of t x) → IsBound t p
    bound_at t s p x h near i e at lt = elim (cases_lt i count) [
      | inl low ↦ low
      | inr ge ↦ absurd (elim (cases_lt count i) [
        | inl over ↦ past (less t s count i x e over h at)
        | inr le ↦
            let same : i ≡ count = omega arith in
            let is : e ≡ x = same_some (ap (slice_get (by_path t)) (sym same) ∙ at) h in
            ⊎_elim
            (λ a. not_less t s p p refl (paths_total.trans p (path_of t x) p a (ap (λ z. path_cmp (path_of t z) p) (sym is) ∙ lt)))
            (λ a. not_less t s (path_of t e) p (ap (path_of t) is ∙ sym a) lt)
            near
      ])
    ]
      where
        past : path_cmp (path_of t x) (path_of t e) ≡ Less → ⊥
        past over =
            let back : path_cmp (path_of t x) p ≡ Less = paths_total.trans (path_of t x) (path_of t e) p over lt in
            ⊎_elim
            (λ a. not_less t s p p refl (paths_total.trans p (path_of t x) p a back))
            (λ a. not_less t s (path_of t x) p (sym a) back)
            near

    fine_left : (i : ℕ) (x : Entry) → slice_get (by_path l) i ≡ Some x → i < count → why_at (path_of l x) ≡ None
    fine_left i x at low =
        let p = fine i low in
        let is : x ≡ p.0.x = same_some at p.0.left_at in
        ap (λ (z : Entry). why_at (path_of l z)) is ∙ why_of_pair i p.0 ∙ p.1

    fine_right : (i : ℕ) (y : Entry) → slice_get (by_path r) i ≡ Some y → i < count → why_at (path_of r y) ≡ None
    fine_right i y at low =
        let p = fine i low in
        let is : y ≡ p.0.y = same_some at p.0.right_at in
        ap why_at (ap (path_of r) is ∙ sym p.0.path) ∙ why_of_pair i p.0 ∙ p.1

    below_fine : (p : List (List ℕ)) → IsBound l p → IsBound r p → (q : List (List ℕ)) → Split paths q → path_cmp q p ≡ Less → why_at q ≡ None
    below_fine p bl br q s lt = ⊎_elim
        (λ a. ap why_at (sym a.3) ∙ fine_left a.0 a.1 a.2 (bl a.0 a.1 a.2 (ap (λ z. path_cmp z p) a.3 ∙ lt)))
        (λ a. ap why_at (sym a.3) ∙ fine_right a.0 a.1 a.2 (br a.0 a.1 a.2 (ap (λ z. path_cmp z p) a.3 ∙ lt)))
        (on_walk q s)

    past_none : (xs : List Entry) (c : ℕ) → slice_get xs c ≡ None → length xs ≤ c
    past_none [] c h = omega arith
    past_none (x ∷ xs) zero h = absurd cc
    past_none (x ∷ xs) (suc c) h = omega (arith, past_none xs c h)

    -- a path that no stop of a walk has
    absent : (t : Tree) (s : IsSane t) (p : List (List ℕ)) → ((j : ℕ) (e : Entry) → j < count → slice_get (by_path t) j ≡ Some e → path_of t e ≡ p → ⊥)
        → ((e : Entry) → slice_get (by_path t) count ≡ Some e → path_cmp p (path_of t e) ≡ Less) → node_at t p ≡ None
    absent t s p early ahead = at (node_at t p) refl
      where
        at : (o : Option Entry) → node_at t p ≡ o → o ≡ None
        at None e = refl
        at (Some z) e =
            let path : path_of t z ≡ p = path_of-at t (forest_of t s) p z e in
            let j = reached t s z (node_there t (forest_of t s) (reverse p) z e) in
            absurd (elim (cases_lt j.0 count) [
              | inl low ↦ early j.0 z low j.1 path
              | inr ge ↦ beyond z path j.0 j.1 ge (slice_get (by_path t) count) refl
            ])
          where
            beyond : (z : Entry) → path_of t z ≡ p → (j : ℕ) → slice_get (by_path t) j ≡ Some z → count ≤ j → (o : Option Entry) → slice_get (by_path t) count ≡ o → ⊥
            beyond z path j at ge None e = omega (arith, ge, get_within (by_path t) j z at, past_none (by_path t) count e)
            beyond z path j at ge (Some y) e = elim (cases_lt count j) [
              | inl lt ↦ not_less t s p p refl (paths_total.trans p (path_of t y) p (ahead y e) (ap (path_cmp (path_of t y)) (sym path) ∙ less t s count j y z lt e at))
              | inr le ↦
                  let same : j ≡ count = omega arith in
                  let is : z ≡ y = same_some (ap (slice_get (by_path t)) (sym same) ∙ at) e in
                  not_less t s p (path_of t y) (sym path ∙ ap (path_of t) is) (ahead y e)
            ]

    only_left : (x : Entry) → slice_get (by_path l) count ≡ Some x → ((y : Entry) → slice_get (by_path r) count ≡ Some y → path_cmp (path_of l x) (path_of r y) ≡ Less) → node_at r (path_of l x) ≡ None
    only_left x h ahead = absent r sr (path_of l x) (λ j e low at path.
        let p = (fine j low).0 in
        let is : e ≡ p.y = same_some at p.right_at in
        let one : j ≡ count = one_stop l sl j count p.x x p.left_at h (p.path ∙ ap (path_of r) (sym is) ∙ path) in
        omega arith) ahead

    only_right : (y : Entry) → slice_get (by_path r) count ≡ Some y → ((x : Entry) → slice_get (by_path l) count ≡ Some x → path_cmp (path_of r y) (path_of l x) ≡ Less) → node_at l (path_of r y) ≡ None
    only_right y h ahead = absent l sl (path_of r y) (λ j e low at path.
        let p = (fine j low).0 in
        let is : e ≡ p.x = same_some at p.left_at in
        let one : j ≡ count = one_stop r sr j count p.y y p.right_at h (sym p.path ∙ ap (path_of l) (sym is) ∙ path) in
        omega arith) ahead

    -- the left tree alone has the least path
    left_fault : (x : Entry) → slice_get (by_path l) count ≡ Some x → ((y : Entry) → slice_get (by_path r) count ≡ Some y → path_cmp (path_of l x) (path_of r y) ≡ Less)
        → IsBound r (path_of l x) → join_fault new al ar l r ≡ Some (path_of l x, Disagree)
    left_fault x h ahead bound = one_fault (path_of l x) Disagree (left_path count x h)
        (ap (λ o. join_why new al ar o (node_at r (path_of l x))) (leads l sl count x h) ∙ ap (join_why new al ar (Some x)) (only_left x h ahead))
        (below_fine (path_of l x) (bound_at l sl (path_of l x) x h (inr refl)) bound)

    right_fault : (y : Entry) → slice_get (by_path r) count ≡ Some y → ((x : Entry) → slice_get (by_path l) count ≡ Some x → path_cmp (path_of r y) (path_of l x) ≡ Less)
        → IsBound l (path_of r y) → join_fault new al ar l r ≡ Some (path_of r y, Disagree)
    right_fault y h ahead bound = one_fault (path_of r y) Disagree (right_path count y h)
        (ap (λ o. join_why new al ar o (node_at r (path_of r y))) (only_right y h ahead))
        (below_fine (path_of r y) bound (bound_at r sr (path_of r y) y h (inr refl)))

    pair_fault : (p : IsPairedAt l r count) (w : JoinWhy) → pair_why new al ar l r p ≡ Some w → join_fault new al ar l r ≡ Some (path_of l p.x, w)
    pair_fault p w e = one_fault (path_of l p.x) w (left_path count p.x p.left_at) (why_of_pair count p ∙ e)
        (below_fine (path_of l p.x) (bound_at l sl (path_of l p.x) p.x p.left_at (inr refl)) (bound_at r sr (path_of l p.x) p.y p.right_at (inr p.path)))

    pub no_faults : slice_get (by_path l) count ≡ None → slice_get (by_path r) count ≡ None → join_fault new al ar l r ≡ None
    no_faults hl hr = no_fault (λ p s. ⊎_elim
        (λ a. ap why_at (sym a.3) ∙ fine_left a.0 a.1 a.2 (within l a.0 a.1 a.2 hl))
        (λ a. ap why_at (sym a.3) ∙ fine_right a.0 a.1 a.2 (within r a.0 a.1 a.2 hr))
        (on_walk p s))
      where
        within : (t : Tree) (i : ℕ) (e : Entry) → slice_get (by_path t) i ≡ Some e → slice_get (by_path t) count ≡ None → i < count
        within t i e at h = omega (arith, get_within (by_path t) i e at, past_none (by_path t) count h)

  -- what the walks tell
  abbrev pub IsDecided : Option PairFault → Option (List (List ℕ)) → Type 0
  IsDecided fault None = (join_fault new al ar l r ≡ None) × ArePaired l r
  IsDecided fault (Some p) = join_fault new al ar l r ≡ Some (p, option_map_or why_of fault Disagree)

  greater_less : (p q : List (List ℕ)) → is_lt (path_cmp q p) ≡ false → (p ≡ q → ⊥) → path_cmp p q ≡ Less
  greater_less p q h ne = at (path_cmp q p) refl h
    where
      at : (o : Ordering) → path_cmp q p ≡ o → is_lt o ≡ false → path_cmp p q ≡ Less
      at Less e g = absurd cc
      at Equal e g = absurd (ne (sym (exact_paths q p e)))
      at Greater e g = paths_total.antisymm p q ∙ ap ordering_reverse e

  is_less : (o : Ordering) → is_lt o ≡ true → o ≡ Less
  is_less Less h = refl
  is_less Equal h = absurd cc
  is_less Greater h = absurd cc

  pub decided : (count : ℕ) (fault : Option PairFault) → IsAgreement new al ar l r count fault → (o : Option (List (List ℕ))) → lesser_path (path_along l count) (path_along r count) ≡ o → IsDecided fault o
  decided count fault a o is = at (slice_get (by_path l) count) (slice_get (by_path r) count) refl refl fault a.end
    where
      fine : (k : ℕ) → k < count → (p : IsPairedAt l r k) × (pair_why new al ar l r p ≡ None)
      fine = a.agreed

      tell : (x y : Option Entry) → slice_get (by_path l) count ≡ x → slice_get (by_path r) count ≡ y → lesser_path (option_map (path_of l) x) (option_map (path_of r) y) ≡ o
      tell x y h k = ap (λ u. lesser_path (option_map (path_of l) u) (option_map (path_of r) y)) (sym h) ∙ ap (λ u. lesser_path (path_along l count) (option_map (path_of r) u)) (sym k) ∙ is

      at : (x y : Option Entry) → slice_get (by_path l) count ≡ x → slice_get (by_path r) count ≡ y → (f : Option PairFault) → IsEnd new al ar l r count f → IsDecided f o
      at None None h k f end =
          subst (IsDecided f) (tell None None h k) (no_faults count fine h k, λ i low. (fine i (omega (arith, low, past_none count fine (by_path l) count h))).0)
      at (Some x) None h k None end =
          subst (IsDecided None) (tell (Some x) None h k)
          (left_fault count fine x h (λ y e. absurd (let z = sym k ∙ e in cc)) (bound_end count fine r (path_of l x) k))
      at (Some x) None h k (Some f) end = absurd (let z = sym k ∙ end.0.right_at in cc)
      at None (Some y) h k None end =
          subst (IsDecided None) (tell None (Some y) h k)
          (right_fault count fine y k (λ x e. absurd (let z = sym h ∙ e in cc)) (bound_end count fine l (path_of r y) h))
      at None (Some y) h k (Some f) end = absurd (let z = sym h ∙ end.0.left_at in cc)
      at (Some x) (Some y) h k (Some f) end =
          let p = end.0 in
          let px : p.x ≡ x = same_some p.left_at h in
          let py : p.y ≡ y = same_some p.right_at k in
          let same : path_of l x ≡ path_of r y = ap (path_of l) (sym px) ∙ p.path ∙ ap (path_of r) py in
          let one : lesser_path (Some (path_of l x)) (Some (path_of r y)) ≡ Some (path_of l x) = lesser_same (path_of l x) (path_of r y) same (is_lt (path_cmp (path_of r y) (path_of l x))) in
          subst (IsDecided (Some f)) (sym one ∙ tell (Some x) (Some y) h k) (pair_fault count fine p (why_of f) end.1 ∙ ap (λ (z : Entry). Some (path_of l z, why_of f)) px)
        where
          lesser_same : (p q : List (List ℕ)) → p ≡ q → (b : Bool) → Some (cond b q p) ≡ Some p
          lesser_same p q e true = ap Some (sym e)
          lesser_same p q e false = refl
      at (Some x) (Some y) h k None end = by (is_lt (path_cmp (path_of r y) (path_of l x))) refl
        where
          apart : path_of l x ≡ path_of r y → ⊥
          apart e = end (record { x = x; y = y; left_at = h; right_at = k; path = e })

          by : (b : Bool) → is_lt (path_cmp (path_of r y) (path_of l x)) ≡ b → IsDecided None o
          by true e =
              let lt : path_cmp (path_of r y) (path_of l x) ≡ Less = is_less _ e in
              subst (IsDecided None) (ap (λ b. Some (cond b (path_of r y) (path_of l x))) (sym e) ∙ tell (Some x) (Some y) h k)
              (right_fault count fine y k (λ z g. ap (λ (w : Entry). path_cmp (path_of r y) (path_of l w)) (same_some g h) ∙ lt) (bound_at count fine l sl (path_of r y) x h (inl lt)))
          by false e =
              let lt : path_cmp (path_of l x) (path_of r y) ≡ Less = greater_less (path_of l x) (path_of r y) e apart in
              subst (IsDecided None) (ap (λ b. Some (cond b (path_of r y) (path_of l x))) (sym e) ∙ tell (Some x) (Some y) h k)
              (left_fault count fine x h (λ z g. ap (λ (w : Entry). path_cmp (path_of l x) (path_of r w)) (same_some g k) ∙ lt) (bound_at count fine r sr (path_of l x) y k (inl lt)))

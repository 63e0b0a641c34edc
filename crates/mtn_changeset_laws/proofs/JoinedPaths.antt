-- What stands at each path of a joined tree.
use Rattle.std.specs.Prelude.{option_and_then, map, reverse, IsSome, ◌↔◌}
use Rattle.std.proofs.Common.{◌≡◌, ℕ, Bool, true, false, List, [], ◌∷◌, Option, Some, None, refl, sym, ◌∙◌, ap, subst, ◌⊎◌, inl, inr, ⊎_elim}
use Rattle.mtn_base.specs.declared.id.Id.{Id}
use Rattle.mtn_roster.specs.declared.entry.Entry.{Entry}
use Rattle.mtn_roster.specs.declared.entry.Slot.{Slot}
use Rattle.mtn_roster.specs.declared.entry.Slot.TheVariants.{Root, Below}
use Rattle.mtn_roster.specs.Tree.{Tree, entry_of, at_slot, child_of, node_up, node_at, path_of, attr_of, live_of, IsSane}
use Rattle.mtn_base.proofs.Tests.{told}
use Rattle.mtn_base.proofs.Finding.{Split}
use Rattle.mtn_base.proofs.Members.{in_right}
use Rattle.mtn_roster.proofs.Forest.{IsForest, same_some, split_of, at_slot-is, at_slot-of, node_below, node_there}
use Rattle.mtn_roster.proofs.Ordered.{forest_of}
use Rattle.mtn_roster.proofs.Pathing.{path_of-at}
use Rattle.mtn_changeset_laws.specs.Changes.{or_else}
use Rattle.mtn_changeset_laws.specs.Joining.{is_old, join_why, join_fault, joined_slot, joined_attrs, joined_entry, other_attrs, joined}
use Rattle.mtn_changeset_laws.specs.Laws.{CommonAreKnown, AreNamedByPath, IsJoinedOf, IsJoinedAt}
use Rattle.mtn_changeset_laws.proofs.Agreeing.{agreed, attr_of-joined}
use Rattle.mtn_changeset_laws.proofs.Joins.{in_map, pair, fl, fr, name_is, no_fault, born_before, old_by, one_name, slot_below, back, joined_has, joined_only, joined_is_sane}

-- a value of a key on the one side or else on the other
keys_of : {A : Type 0} (o p : Option A) → IsSome (or_else o p) ↔ (IsSome o ⊎ IsSome p)
keys_of None p = (λ h. inr h, λ h. ⊎_elim (λ a. absurd cc) (λ b. b) h)
keys_of (Some a) p = (λ h. inl refl, λ h. refl)

live_by : (o p : Option (Option (List ℕ))) → option_and_then (λ v. v) o ≡ option_and_then (λ v. v) p → option_and_then (λ v. v) (or_else o p) ≡ option_and_then (λ v. v) o
live_by None p h = sym h
live_by (Some v) p h = refl

module _ (l r : Tree) (new : Id) (al ar : Id → Bool) (sl : IsSane l) (sr : IsSane r) (fine : join_fault new al ar l r ≡ None) (known : CommonAreKnown l r new al ar) where
  abbrev j : Tree
  j = joined l r new

  abbrev ψ : Entry → Entry
  ψ = joined_entry l r new

  fj : IsForest j
  fj = forest_of j (joined_is_sane l r new al ar sl sr fine known)

  abbrev L : IsForest l
  L = fl l r new al ar sl sr fine known

  abbrev R : IsForest r
  R = fr l r new al ar sl sr fine known

  has : (x : Entry) → entry_of l x.name ≡ Some x → entry_of j (ψ x).name ≡ Some (ψ x)
  has = joined_has l r new al ar sl sr fine known

  -- the node of a path stays there, joined
  stays_at : (up : List (List ℕ)) (x : Entry) → node_up l up ≡ Some x → node_up j up ≡ Some (ψ x)
  stays_at [] x h =
      let a = at_slot-is l L Root x h in
      ap (at_slot j) (sym (ap (joined_slot l r new) a.0)) ∙ at_slot-of j fj (ψ x).name (ψ x) (has x a.1)
  stays_at (name ∷ up) x h =
      let d = node_below l L name up x h in
      let there = node_there l L (name ∷ up) x h in
      let above = node_there l L up d.0 d.1 in
      ap (option_and_then (child_of j name)) (stays_at up d.0 d.1)
      ∙ ap (at_slot j) (sym (ap (joined_slot l r new) d.2 ∙ slot_below l r new al ar sl sr fine known d.0.name name d.0 above))
      ∙ at_slot-of j fj (ψ x).name (ψ x) (has x there)

  -- who stands at a path is joined of the node there
  came_from : (up : List (List ℕ)) (e : Entry) → node_up j up ≡ Some e → (x : Entry) × (node_up l up ≡ Some x) × (ψ x ≡ e)
  came_from [] e h =
      let a = at_slot-is j fj Root e h in
      let o = joined_only l r new al ar sl sr fine known e.name e a.1 in
      let root : o.left.slot ≡ Root = root_of o.left o.left.slot refl (ap (λ (e : Entry). e.slot) o.is ∙ a.0) in
      (o.left, ap (at_slot l) (sym root) ∙ at_slot-of l L o.left.name o.left o.there, o.is)
    where
      root_of : (x : Entry) (s : Slot) → x.slot ≡ s → joined_slot l r new s ≡ Root → x.slot ≡ Root
      root_of x Root e h = e
      root_of x (Below p n) e h = absurd cc
  came_from (name ∷ up) e h =
      let d = node_below j fj name up e h in
      let c = came_from up d.0 d.1 in
      let o = joined_only l r new al ar sl sr fine known e.name e (node_there j fj (name ∷ up) e h) in
      let b = back l r new al ar sl sr fine known o.left o.there o.left.slot refl d.0.name name (ap (λ (e : Entry). e.slot) o.is ∙ d.2) in
      let same : b.0 ≡ c.0 = one_name l r new al ar sl sr fine known b.0 c.0 b.1 (node_there l L up c.0 c.1) (b.2 ∙ ap (λ (e : Entry). e.name) (sym c.2)) in (
        o.left,
        ap (option_and_then (child_of l name)) (c.1 ∙ ap Some (sym same)) ∙ ap (at_slot l) (sym b.3) ∙ at_slot-of l L o.left.name o.left o.there,
        o.is,
      )

  module _ (named : AreNamedByPath r new) (p : List (List ℕ)) where
    joined_of : (x y : Entry) → node_at l p ≡ Some x → node_at r p ≡ Some y → IsJoinedOf new p x y (ψ x)
    joined_of x y h k =
        let there = node_there l L (reverse p) x h in
        let q = pair l r new al ar sl sr fine known x there in
        let path : path_of l x ≡ p = path_of-at l L p x h in
        let other : q.other ≡ y = same_some q.at (ap (node_at r) path ∙ k) in
        let a = agreed new x q.other q.agree in
        let name = name_is l r new al ar sl sr fine known x there in
        let bodies : x.body ≡ y.body = a.bodies ∙ ap (λ (e : Entry). e.body) other in
        let live : (key : List ℕ) → live_of x.attrs key ≡ live_of y.attrs key = λ key. a.live key ∙ ap (λ (e : Entry). live_of e.attrs key) other in
        let joint : (key : List ℕ) → attr_of (ψ x).attrs key ≡ or_else (attr_of x.attrs key) (attr_of y.attrs key) = λ key.
        ap (λ o. attr_of (joined_attrs x.attrs (other_attrs o)) key) (q.at ∙ ap Some other) ∙ attr_of-joined y.attrs x.attrs key in
        let left : (key : List ℕ) → live_of (ψ x).attrs key ≡ live_of x.attrs key = λ key.
        ap (option_and_then (λ v. v)) (joint key) ∙ live_by (attr_of x.attrs key) (attr_of y.attrs key) (live key) in
        record {
          left_node = λ old. name true (old_by l r new al ar sl sr fine known x old);
          right_node = λ old. ⊎_elim
              (λ t. name true t ∙ a.names t (old_by l r new al ar sl sr fine known q.other (λ e. old (ap (λ (e : Entry). e.name.birth) (sym other) ∙ e))) ∙ ap (λ (e : Entry). e.name) other)
              (λ f. name false f ∙ ap (λ (e : Entry). e.name) other)
              (told (is_old new x));
          added_node = λ bx by. ⊎_elim
              (λ t. absurd (let g = bx in not_both x t g))
              (λ f. name false f ∙ ap (λ (e : Entry). e.name) other ∙ named_so y by (named p y k by))
              (told (is_old new x));
          left_body = refl;
          right_body = bodies;
          left_live = left;
          right_live = λ key. left key ∙ live key;
          keys = λ key. subst (λ o. IsSome o ↔ (IsSome (attr_of x.attrs key) ⊎ IsSome (attr_of y.attrs key))) (sym (joint key)) (keys_of (attr_of x.attrs key) (attr_of y.attrs key));
        }
      where
        not_both : (x : Entry) → is_old new x ≡ true → x.name.birth ≡ new → ⊥
        not_both x t e = born_before l r new al ar sl sr fine known x t e

        named_so : (y : Entry) → y.name.birth ≡ new → y.name.path ≡ p → y.name ≡ record { birth = new; path = p }
        named_so y b q = λ i. record { birth = b i; path = q i }

    nothing_else : (y : Entry) → node_at l p ≡ None → node_at r p ≡ Some y → ⊥
    nothing_else y h k =
        let there = node_there r R (reverse p) y k in
        let path : path_of r y ≡ p = path_of-at r R p y k in
        let e = no_fault l r new al ar sl sr fine known p (in_right (map (path_of l) l) (map (path_of r) r) p
        (subst (Split (map (path_of r) r)) path (in_map (path_of r) r y (split_of r y.name y there)))) in
        let g : join_why new al ar None (Some y) ≡ None = ap (λ o. join_why new al ar o (Some y)) (sym h) ∙ ap (join_why new al ar (node_at l p)) (sym k) ∙ e in
        cc

    pub joined_at_path : IsJoinedAt new p (node_at l p) (node_at r p) (node_at j p)
    joined_at_path = at (node_at l p) (node_at r p) (node_at j p) refl refl refl
      where
        at : (x y e : Option Entry) → node_at l p ≡ x → node_at r p ≡ y → node_at j p ≡ e → IsJoinedAt new p x y e
        at None None None a b c = tt
        at None None (Some e) a b c = absurd (let f = came_from (reverse p) e c in let g = f.1 in cc)
        at None (Some y) e a b c = absurd (nothing_else y a b)
        at (Some x) None e a b c = absurd (
            let there = node_there l L (reverse p) x a in
            let q = pair l r new al ar sl sr fine known x there in
            let g : Some q.other ≡ None = sym q.at ∙ ap (node_at r) (path_of-at l L p x a) ∙ b in
            cc)
        at (Some x) (Some y) None a b c = absurd (let f = stays_at (reverse p) x a in cc)
        at (Some x) (Some y) (Some e) a b c =
            let same : ψ x ≡ e = same_some (stays_at (reverse p) x a) c in
            subst (IsJoinedOf new p x y) same (joined_of x y a b)

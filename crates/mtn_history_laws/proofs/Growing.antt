-- A lawful step keeps a history grown.
use Rattle.std.specs.Prelude.{Contains, IsSome, slice_get}
use Rattle.std.proofs.Common.{◌≡◌, ◌≢◌, ℕ, ◌<◌, ◌≤◌, length, List, [], ◌∷◌, ◌++◌, Option, Some, None, ◌⊎◌, refl, sym, ◌∙◌, ap, inl, inr, subst, ⊎_elim, arith, length-append}
use Rattle.std.proofs.Math.Decide.{dec_lt, ℕ_discrete}
use Rattle.mtn_base.specs.declared.id.Id.{Id}
use Rattle.mtn_base.specs.declared.name.NodeName.{NodeName}
use Rattle.mtn_ancestry.specs.Ancestors.{IsAncestor, ParentsAreEarlier}
use Rattle.mtn_ancestry.specs.Ancestors.IsAncestor.{itself, through}
use Rattle.mtn_ancestry.proofs.Members.{Contains-nil}
use Rattle.mtn_ancestry.proofs.Ancestry.{IsAncestor-le}
use Rattle.mtn_mark_laws.proofs.Stable.{Agree, turned, IsAncestor-kept, get_kept, get_last, get_past}
use Rattle.mtn_roster.specs.declared.entry.Entry.{Entry}
use Rattle.mtn_roster.specs.Tree.{IsSane, attr_of, entry_of, is_dir}
use Rattle.mtn_history_laws.specs.History.{Revision, revision_parents, revision_tree, parents_at, tree_at, entry_at, IsPlaceOf, IsGrown, IsStep}
use Rattle.mtn_history_laws.proofs.Telling.{tell_id}
use Rattle.mtn_history_laws.proofs.Scalars.{some_of}

-- where r stands in a log with one more entry
data Place (log : List Revision) (r : ℕ) : Type 0 where
  old : r < length log → Place log r
  last : r ≡ length log → Place log r
  past : length log < r → Place log r

place : (log : List Revision) (r : ℕ) → Place log r
place log r =
    elim (dec_lt r (length log)) [
      | yes h ↦ old h
      | no n ↦ elim (ℕ_discrete r (length log)) [ yes e ↦ last e | no d ↦ past (omega arith) ]
    ]

get_beyond : {X : Type 0} (xs : List X) (y : X) (r : ℕ) → length xs < r → slice_get (xs ++ y ∷ []) r ≡ None
get_beyond xs y r h = get_past (xs ++ y ∷ []) r (omega (arith, length-append xs (y ∷ [])))

module _ (log : List Revision) (new : Revision) where
  abbrev more : List Revision
  more = log ++ new ∷ []

  parents_old : (r : ℕ) → r < length log → parents_at more r ≡ parents_at log r
  parents_old r h = ap revision_parents (get_kept log (new ∷ []) r h)

  parents_last : parents_at more (length log) ≡ new.parents
  parents_last = ap revision_parents (get_last log new)

  parents_past : (r : ℕ) → length log < r → parents_at more r ≡ []
  parents_past r h = ap revision_parents (get_beyond log new r h)

  node_old : (r : ℕ) (n : NodeName) → r < length log → entry_at more r n ≡ entry_at log r n
  node_old r n h = ap (λ o. entry_of (revision_tree o) n) (get_kept log (new ∷ []) r h)

  node_last : (n : NodeName) → entry_at more (length log) n ≡ entry_of new.tree n
  node_last n = ap (λ o. entry_of (revision_tree o) n) (get_last log new)

  node_past : (r : ℕ) (n : NodeName) → length log < r → entry_at more r n ≡ None
  node_past r n h = ap (λ o. entry_of (revision_tree o) n) (get_beyond log new r h)

  place_old : (id : Id) (b : ℕ) → b < length log → IsPlaceOf more id b → IsPlaceOf log id b
  place_old id b h t = (t.0, sym (get_kept log (new ∷ []) b h) ∙ t.1, t.2)

  place_more : (id : Id) (b : ℕ) → b < length log → IsPlaceOf log id b → IsPlaceOf more id b
  place_more id b h t = (t.0, get_kept log (new ∷ []) b h ∙ t.1, t.2)

  place_last : (id : Id) → new.id ≡ id → IsPlaceOf more id (length log)
  place_last id e = (new, get_last log new, e)

module _ (log : List Revision) (new : Revision) (grown : IsGrown log) (step : IsStep log new) where
  -- a position with a node or a parent is old or the last
  at_node : (r : ℕ) (n : NodeName) (e : Entry) → entry_at (log ++ new ∷ []) r n ≡ Some e → (r < length log) ⊎ (r ≡ length log)
  at_node r n e h = at (place log r)
    where
      at : Place log r → (r < length log) ⊎ (r ≡ length log)
      at (old l) = inl l
      at (last d) = inr d
      at (past l) = let g = node_past log new r n l in absurd cc

  earlier_more : ParentsAreEarlier (parents_at (log ++ new ∷ []))
  earlier_more r p c = at (place log r)
    where
      at : Place log r → p < r
      at (old l) = grown.earlier r p (subst (λ ps. Contains ps p) (parents_old log new r l) c)
      at (last d) = let h = step.known p (subst (λ ps. Contains ps p) (parents_last log new) (subst (λ q. Contains (parents_at (log ++ new ∷ []) q) p) d c)) in omega arith
      at (past l) = absurd (Contains-nil (subst (λ ps. Contains ps p) (parents_past log new r l) c))

  tied : Agree ℕ (length log) (parents_at log) (parents_at (log ++ new ∷ [])) (λ r. None) (λ r. None)
  tied = record {
    same_parents = λ r h. sym (parents_old log new r h);
    same_value = λ r h. refl;
    early = grown.earlier;
    early' = earlier_more;
  }

  -- an ancestor of an old position, with an id, in the old log
  below : (p b : ℕ) (id : Id) → p < length log → IsAncestor (parents_at (log ++ new ∷ [])) b p → IsPlaceOf (log ++ new ∷ []) id b →
      IsPlaceOf log id b × IsAncestor (parents_at log) b p
  below p b id h a t =
      let l : b ≤ p = IsAncestor-le earlier_more a in
      (place_old log new id b (omega arith) t, IsAncestor-kept (turned tied) h a)

  born_more : (r : ℕ) (n : NodeName) (e : Entry) → entry_at (log ++ new ∷ []) r n ≡ Some e →
      (b : ℕ) × IsPlaceOf (log ++ new ∷ []) n.birth b × IsAncestor (parents_at (log ++ new ∷ [])) b r
  born_more r n e h = ⊎_elim at_old at_last (at_node r n e h)
    where
      from_old : (p : ℕ) (f : Entry) → p < length log → entry_at log p n ≡ Some f →
          (b : ℕ) × IsPlaceOf (log ++ new ∷ []) n.birth b × IsAncestor (parents_at (log ++ new ∷ [])) b p
      from_old p f l g =
          let t = grown.born p n f g in
          let lb : t.0 ≤ p = IsAncestor-le grown.earlier t.2 in
          (t.0, place_more log new n.birth t.0 (omega arith) t.1, IsAncestor-kept tied l t.2)

      at_old : r < length log → (b : ℕ) × IsPlaceOf (log ++ new ∷ []) n.birth b × IsAncestor (parents_at (log ++ new ∷ [])) b r
      at_old l = from_old r e l (sym (node_old log new r n l) ∙ h)

      at_last : r ≡ length log → (b : ℕ) × IsPlaceOf (log ++ new ∷ []) n.birth b × IsAncestor (parents_at (log ++ new ∷ [])) b r
      at_last d =
          elim (tell_id new.id n.birth) [
            | yes g ↦ (r, subst (IsPlaceOf (log ++ new ∷ []) n.birth) (sym d) (place_last log new n.birth g), itself)
            | no ne ↦
                let t = step.from n e (sym (node_last log new n) ∙ (ap (λ q. entry_at (log ++ new ∷ []) q n) (sym d) ∙ h)) (λ g. ne (sym g)) in
                let f = some_of (entry_at log t.0 n) t.2 in
                let b = from_old t.0 f.0 (step.known t.0 t.1) f.1 in
                (b.0, b.1, through (subst (λ ps. Contains ps t.0) (sym (ap (parents_at (log ++ new ∷ [])) d ∙ parents_last log new)) t.1) b.2)
          ]

  -- a fact at a position and its parent: in the old log, or at the step
  data Link (r p : ℕ) : Type 0 where
    in_log : r < length log → Contains (parents_at log r) p → p < length log → Link r p
    at_step : r ≡ length log → Contains new.parents p → p < length log → Link r p

  link : (r p : ℕ) (n : NodeName) (e : Entry) → Contains (parents_at (log ++ new ∷ []) r) p → entry_at (log ++ new ∷ []) r n ≡ Some e → Link r p
  link r p n e c h =
      ⊎_elim
      (λ l. let c' = subst (λ ps. Contains ps p) (parents_old log new r l) c in in_log l c' (let lp = grown.earlier r p c' in omega arith))
      (λ d. let c' = subst (λ ps. Contains ps p) (ap (parents_at (log ++ new ∷ [])) d ∙ parents_last log new) c in at_step d c' (step.known p c'))
      (at_node r n e h)

  step_node : (r : ℕ) (n : NodeName) (o : Option Entry) → r ≡ length log → entry_at (log ++ new ∷ []) r n ≡ o → entry_of new.tree n ≡ o
  step_node r n o d h = sym (node_last log new n) ∙ (ap (λ q. entry_at (log ++ new ∷ []) q n) (sym d) ∙ h)

  gone_more : (r p : ℕ) (n : NodeName) (e : Entry) → Contains (parents_at (log ++ new ∷ []) r) p → entry_at (log ++ new ∷ []) r n ≡ Some e →
      entry_at (log ++ new ∷ []) p n ≡ None → (b : ℕ) → IsPlaceOf (log ++ new ∷ []) n.birth b → ¬ IsAncestor (parents_at (log ++ new ∷ [])) b p
  gone_more r p n e c h none b t a = at (link r p n e c h)
    where
      at : Link r p → ⊥
      at (in_log l c' lp) =
          let u = below p b n.birth lp a t in
          grown.gone r p n e c' (sym (node_old log new r n l) ∙ h) (sym (node_old log new p n lp) ∙ none) b u.0 u.1
      at (at_step d c' lp) =
          let u = below p b n.birth lp a t in
          elim (tell_id n.birth new.id) [
            | yes g ↦ step.fresh_id b (subst (λ id. IsPlaceOf log id b) g u.0)
            | no ne ↦ step.not_revived p n e c' (step_node r n (Some e) d h) ne (sym (node_old log new p n lp) ∙ none) b u.0 u.1
          ]

  kept_more : (r : ℕ) (n : NodeName) (e : Entry) → entry_at (log ++ new ∷ []) r n ≡ Some e → (IsPlaceOf (log ++ new ∷ []) n.birth r → ⊥) →
      (p : ℕ) × Contains (parents_at (log ++ new ∷ []) r) p × IsSome (entry_at (log ++ new ∷ []) p n)
  kept_more r n e h out = ⊎_elim at_old at_last (at_node r n e h)
    where
      at_old : r < length log → (p : ℕ) × Contains (parents_at (log ++ new ∷ []) r) p × IsSome (entry_at (log ++ new ∷ []) p n)
      at_old l =
          let t = grown.kept r n e (sym (node_old log new r n l) ∙ h) (λ k. out (place_more log new n.birth r l k)) in
          let lp : t.0 < r = grown.earlier r t.0 t.1 in
          (t.0, subst (λ ps. Contains ps t.0) (sym (parents_old log new r l)) t.1, subst (λ o. IsSome o) (sym (node_old log new t.0 n (omega arith))) t.2)

      at_last : r ≡ length log → (p : ℕ) × Contains (parents_at (log ++ new ∷ []) r) p × IsSome (entry_at (log ++ new ∷ []) p n)
      at_last d =
          let t = step.from n e (step_node r n (Some e) d h) (λ g. out (subst (IsPlaceOf (log ++ new ∷ []) n.birth) (sym d) (place_last log new n.birth (sym g)))) in (
            t.0,
            subst (λ ps. Contains ps t.0) (sym (ap (parents_at (log ++ new ∷ [])) d ∙ parents_last log new)) t.1,
            subst (λ o. IsSome o) (sym (node_old log new t.0 n (step.known t.0 t.1))) t.2,
          )

  two_more : (r : ℕ) → length (parents_at (log ++ new ∷ []) r) ≤ 2
  two_more r = at (place log r)
    where
      at : Place log r → length (parents_at (log ++ new ∷ []) r) ≤ 2
      at (old l) = subst (λ ps. length ps ≤ 2) (sym (parents_old log new r l)) (grown.two r)
      at (last d) = subst (λ ps. length ps ≤ 2) (sym (ap (parents_at (log ++ new ∷ [])) d ∙ parents_last log new)) step.two
      at (past l) = subst (λ ps. length ps ≤ 2) (sym (parents_past log new r l)) (omega arith)

  kind_more : (r p : ℕ) (n : NodeName) (e f : Entry) → Contains (parents_at (log ++ new ∷ []) r) p → entry_at (log ++ new ∷ []) r n ≡ Some e →
      entry_at (log ++ new ∷ []) p n ≡ Some f → is_dir e ≡ is_dir f
  kind_more r p n e f c h k = at (link r p n e c h)
    where
      at : Link r p → is_dir e ≡ is_dir f
      at (in_log l c' lp) = grown.kind r p n e f c' (sym (node_old log new r n l) ∙ h) (sym (node_old log new p n lp) ∙ k)
      at (at_step d c' lp) = step.kind p n e f c' (step_node r n (Some e) d h) (sym (node_old log new p n lp) ∙ k)

  keys_more : (r p : ℕ) (n : NodeName) (key : List ℕ) (e f : Entry) → Contains (parents_at (log ++ new ∷ []) r) p → entry_at (log ++ new ∷ []) r n ≡ Some e →
      entry_at (log ++ new ∷ []) p n ≡ Some f → IsSome (attr_of f.attrs key) → IsSome (attr_of e.attrs key)
  keys_more r p n key e f c h k = at (link r p n e c h)
    where
      at : Link r p → IsSome (attr_of f.attrs key) → IsSome (attr_of e.attrs key)
      at (in_log l c' lp) = grown.keys r p n key e f c' (sym (node_old log new r n l) ∙ h) (sym (node_old log new p n lp) ∙ k)
      at (at_step d c' lp) = step.keys p n key e f c' (step_node r n (Some e) d h) (sym (node_old log new p n lp) ∙ k)

  at_place : (id : Id) (b : ℕ) → IsPlaceOf (log ++ new ∷ []) id b → ((b < length log) × IsPlaceOf log id b) ⊎ ((b ≡ length log) × (new.id ≡ id))
  at_place id b t = at (place log b)
    where
      at : Place log b → ((b < length log) × IsPlaceOf log id b) ⊎ ((b ≡ length log) × (new.id ≡ id))
      at (old l) = inl (l, place_old log new id b l t)
      at (last d) =
          let g : slice_get (log ++ new ∷ []) b ≡ Some t.0 = t.1 in
          let h : slice_get (log ++ new ∷ []) b ≡ Some new = ap (slice_get (log ++ new ∷ [])) d ∙ get_last log new in
          inr (d, (let k : new ≡ t.0 = cc in ap (λ (x : Revision). x.id) k ∙ t.2))
      at (past l) = let g = t.1 in let h = get_beyond log new b l in absurd cc

  differ_more : (id : Id) (b c : ℕ) → IsPlaceOf (log ++ new ∷ []) id b → IsPlaceOf (log ++ new ∷ []) id c → b ≡ c
  differ_more id b c t u =
      ⊎_elim
      (λ x. ⊎_elim (λ y. grown.differ id b c x.1 y.1) (λ y. absurd (step.fresh_id b (subst (λ i. IsPlaceOf log i b) (sym y.1) x.1))) (at_place id c u))
      (λ x. ⊎_elim (λ y. absurd (step.fresh_id c (subst (λ i. IsPlaceOf log i c) (sym x.1) y.1))) (λ y. x.0 ∙ sym y.0) (at_place id c u))
      (at_place id b t)

  apart_more : (r p q : ℕ) → parents_at (log ++ new ∷ []) r ≡ p ∷ q ∷ [] → p ≢ q
  apart_more r p q e = at (place log r)
    where
      at : Place log r → p ≢ q
      at (old l) = grown.apart r p q (sym (parents_old log new r l) ∙ e)
      at (last d) = step.apart p q (sym (ap (parents_at (log ++ new ∷ [])) d ∙ parents_last log new) ∙ e)
      at (past l) = let g = parents_past log new r l in absurd cc

  sane_more : (r : ℕ) → r < length (log ++ new ∷ []) → IsSane (tree_at (log ++ new ∷ []) r)
  sane_more r h = at (place log r)
    where
      at : Place log r → IsSane (tree_at (log ++ new ∷ []) r)
      at (old l) = subst IsSane (sym (ap revision_tree (get_kept log (new ∷ []) r l))) (grown.sane r l)
      at (last d) = subst IsSane (sym (ap (tree_at (log ++ new ∷ [])) d ∙ ap revision_tree (get_last log new))) step.sane
      at (past l) = absurd (omega (arith, length-append log (new ∷ [])))

  pub grown_more : IsGrown (log ++ new ∷ [])
  grown_more = record {
    earlier = earlier_more;
    two = two_more;
    apart = apart_more;
    differ = differ_more;
    sane = sane_more;
    born = born_more;
    kept = kept_more;
    gone = gone_more;
    kind = kind_more;
    keys = keys_more;
  }

-- the empty history
pub grown_none : IsGrown []
grown_none = record {
  earlier = λ r p c. absurd (Contains-nil c);
  two = λ r. omega arith;
  apart = λ r p q e. absurd cc;
  differ = λ id b c t u. let h = t.1 in absurd cc;
  sane = λ r h. absurd (omega arith);
  born = λ r n e h. absurd cc;
  kept = λ r n e h o. absurd cc;
  gone = λ r p n e c h k b t a. Contains-nil c;
  kind = λ r p n e f c h k. absurd (Contains-nil c);
  keys = λ r p n key e f c h k i. absurd (Contains-nil c);
}

-- What mark sets and uncommon sets decide is what the whole history decides.
use Rattle.std.specs.Prelude.{Contains, option_map, option_and_then}
use Rattle.std.proofs.Common.{◌≡◌, ◌↔◌, ℕ, true, false, List, Option, Some, None, refl, sym, ◌∙◌, ap, subst}
use Rattle.mtn_ancestry.specs.Ancestors.{IsAncestor}
use Rattle.mtn_ancestry.proofs.Ancestry.{tell_ancestor}
use Rattle.mtn_base.specs.declared.name.NodeName.{NodeName}
use Rattle.mtn_history_laws.specs.History.{Revision, parents_at, entry_at, IsPlaceOf, IsGrown}
use Rattle.mtn_history_laws.specs.Scalars.{Scalar, Value, node_of, content_of, value_of, value_in, value_at, IsMark, WinsAt}
use Rattle.mtn_history_laws.specs.Scalars.Scalar.{SlotOf, ContentOf}
use Rattle.mtn_history_laws.specs.Scalars.Value.{SlotValue, ContentValue}
use Rattle.mtn_history_laws.proofs.Telling.{tell_value}
use Rattle.mtn_history_laws.proofs.Scalars.{never_back}
use Rattle.mtn_mark_laws.specs.Rule.{Side, IsSideAt, AllKnown, AreUncommon}
use Rattle.mtn_mark_laws.proofs.Covering.{IsMarkOf-ancestor, wins_by_marks, marks_by_wins}
use Rattle.mtn_marking.specs.declared.node.Marking.{Marking}
use Rattle.mtn_marking.specs.Graph.{AreMarksOf, IsMarkedAt}
use Rattle.mtn_marking.specs.Marking.{MarkedTree, marks_of, marking_of, paired, known_in, side, side_of}
use Rattle.mtn_roster.specs.declared.entry.Body.{Body}
use Rattle.mtn_roster.specs.declared.entry.Body.TheVariants.{Dir, File}
use Rattle.mtn_roster.specs.declared.entry.Entry.{Entry}
use Rattle.mtn_roster.specs.Tree.{entry_of, is_dir, is_dir_body}
use Rattle.mtn_decide.specs.declared.decision.Pending.{Pending}
use Rattle.mtn_decide.specs.Decisions.{Merge}
use Rattle.mtn_decide.specs.Verdicts.{Verdict}
use Rattle.mtn_decide.specs.Verdicts.Verdict.{Settled, Clashing}
use Rattle.mtn_decide.specs.Sets.{LivesWith, IsVerdict, IsPendingWith, LivesIn, IsVerdictIn, IsPendingIn, IsMergeBySets}
use Rattle.mtn_decide.specs.Sets.IsVerdict.{common as s_common, left_alone as s_left_alone, right_alone as s_right_alone, left_wins as s_left_wins, right_wins as s_right_wins, clash as s_clash}
use Rattle.mtn_decide.specs.Sets.IsPendingWith.{of_left as s_of_left, of_right as s_of_right}
use Rattle.mtn_decide.specs.Graph.{IsBornOutside, IsLiveWith, IsLive, IsDecided, IsPending, IsMergeOf}
use Rattle.mtn_decide.specs.Graph.IsDecided.{common as g_common, left_alone as g_left_alone, right_alone as g_right_alone, left_wins as g_left_wins, right_wins as g_right_wins, clash as g_clash}
use Rattle.mtn_decide.specs.Graph.IsPending.{of_left as g_of_left, of_right as g_of_right}

paired_some : {A B : Type 0} (oa : Option A) (ob : Option B) (k : A × B) → paired oa ob ≡ Some k → (oa ≡ Some k.0) × (ob ≡ Some k.1)
paired_some {A = A} {B = B} None ob k e = absurd cc
paired_some {A = A} {B = B} (Some a) None k e = absurd cc
paired_some {A = A} {B = B} (Some a) (Some b) k e = let d : (a, b) ≡ k = cc in (ap (λ (z : A × B). Some z.0) d, ap (λ (z : A × B). Some z.1) d)

abbrev entry_part : Option (Entry × Marking) → Option Entry
entry_part = option_map (λ (k : Entry × Marking). k.0)

-- what a marked tree of a history tells is what the history has
module _ (log : List Revision) (p : ℕ) (t : MarkedTree) (h : IsMarkedAt log p t) where
  value_is : (s : Scalar) → value_at log s p ≡ value_in t.tree s
  value_is s = ap (λ u. value_in u s) h.tree

  side_told : (s : Scalar) (v : Option Value) (m : Option (List ℕ)) → value_at log s p ≡ v → AreMarksOf log p s m → IsSideAt Value (parents_at log) (value_at log s) p (side v m)
  side_told s None m e k = e
  side_told s (Some v) None e k = k
  side_told s (Some v) (Some marks) e k = (e, k.1)

  side_known : (s : Scalar) (oe : Option Entry) (om : Option Marking) → entry_of t.tree (node_of s) ≡ oe → marking_of t.marks (node_of s) ≡ om →
      IsSideAt Value (parents_at log) (value_at log s) p (side_of s (paired oe om))
  side_known s None om ee em = value_is s ∙ ap (option_and_then (value_of s)) ee
  side_known s (Some e) None ee em = subst (AreMarksOf log p s) (ap (option_and_then (marks_of s)) em) (h.marks s)
  side_known s (Some e) (Some m) ee em =
      side_told s (value_of s e) (marks_of s m) (value_is s ∙ ap (option_and_then (value_of s)) ee) (subst (AreMarksOf log p s) (ap (option_and_then (marks_of s)) em) (h.marks s))

  side_is : (s : Scalar) → IsSideAt Value (parents_at log) (value_at log s) p (side_of s (known_in t (node_of s)))
  side_is s = side_known s (entry_of t.tree (node_of s)) (marking_of t.marks (node_of s)) refl refl

  entry_known : (n : NodeName) → entry_at log p n ≡ entry_part (known_in t n)
  entry_known n = ap (λ u. entry_of u n) h.tree ∙ go (entry_of t.tree n) (marking_of t.marks n) refl refl
    where
      go : (oe : Option Entry) (om : Option Marking) → entry_of t.tree n ≡ oe → marking_of t.marks n ≡ om → oe ≡ entry_part (paired oe om)
      go None om ee em = refl
      go (Some e) (Some m) ee em = refl
      go (Some e) None ee em = absurd (
          let a : value_at log (SlotOf n) p ≡ None = subst (AreMarksOf log p (SlotOf n)) (ap (option_and_then (marks_of (SlotOf n))) em) (h.marks (SlotOf n)) in
          let b : value_at log (SlotOf n) p ≡ Some (SlotValue e.slot) = value_is (SlotOf n) ∙ ap (option_and_then (value_of (SlotOf n))) ee in
          cc)

  place_known : (n : NodeName) (k : Entry × Marking) → known_in t n ≡ Some k → IsPlaceOf log n.birth k.1.birth
  place_known n k e = h.births n k.1 (paired_some (entry_of t.tree n) (marking_of t.marks n) k e).1

module _ (log : List Revision) (grown : IsGrown log) where
  -- all marks of b are known to a exactly where a wins
  pub known_wins : (s : Scalar) (a b : ℕ) (w : Value) → value_at log s b ≡ Some w → (marks only : List ℕ) →
      ((x : ℕ) → Contains marks x ↔ IsMark log s b x) → AreUncommon (parents_at log) b a only → AllKnown marks only ↔ WinsAt log s a b
  known_wins s a b w at_b marks only told u = (
    λ k. wins_by_marks Value tell_value (parents_at log) grown.earlier (value_at log s) (never_back log grown s) a b w at_b
        (λ x m. elim (tell_ancestor grown.earlier a x) [
          | yes h ↦ h
          | no n ↦ absurd (k x ((told x).1 m) ((u x).1 (IsMarkOf-ancestor m, n)))
        ]),
    λ wins x c d. ((u x).0 d).1 (marks_by_wins Value tell_value (parents_at log) grown.earlier (value_at log s) (never_back log grown s) a b wins x ((told x).0 c)),
  )

  -- a node of a is born outside b's ancestors exactly where its birth is among those of a alone
  born_by_set : (a b c : ℕ) (n : NodeName) (e : Entry) → entry_at log a n ≡ Some e → IsPlaceOf log n.birth c → (only : List ℕ) → AreUncommon (parents_at log) a b only →
      Contains only c ↔ IsBornOutside log b n
  born_by_set a b c n e h place only u = (
    λ m x at above. ((u c).0 m).1 (subst (λ z. IsAncestor (parents_at log) z b) (grown.differ n.birth x c at place) above),
    λ out.
        let w = grown.born a n e h in
        let d : w.0 ≡ c = grown.differ n.birth w.0 c w.1 place in
        (u c).1 (subst (λ z. IsAncestor (parents_at log) z a) d w.2, out c place),
  )

  module _ (a b : ℕ) (left right : MarkedTree) (only_left only_right : List ℕ) (hl : IsMarkedAt log a left) (hr : IsMarkedAt log b right)
      (ul : AreUncommon (parents_at log) a b only_left) (ur : AreUncommon (parents_at log) b a only_right) where
    lives_with : (n : NodeName) (l r : Option (Entry × Marking)) → known_in left n ≡ l → known_in right n ≡ r →
        LivesWith only_left only_right l r ↔ IsLiveWith log a b n (entry_part l) (entry_part r)
    lives_with n (Some l) (Some r) el er = (λ _. tt, λ _. tt)
    lives_with n (Some l) None el er = born_by_set a b l.1.birth n l.0 (entry_known log a left hl n ∙ ap entry_part el) (place_known log a left hl n l el) only_left ul
    lives_with n None (Some r) el er = born_by_set b a r.1.birth n r.0 (entry_known log b right hr n ∙ ap entry_part er) (place_known log b right hr n r er) only_right ur
    lives_with n None None el er = (λ z. z, λ z. z)

    pub lives : (n : NodeName) → LivesIn left right only_left only_right n ↔ IsLive log a b n
    lives n =
        let at = lives_with n (known_in left n) (known_in right n) refl refl in
        let e = entry_known log a left hl n in
        let f = entry_known log b right hr n in (
          λ z. subst (λ y. IsLiveWith log a b n (entry_at log a n) y) (sym f) (subst (λ x. IsLiveWith log a b n x (entry_part (known_in right n))) (sym e) (at.0 z)),
          λ z. at.1 (subst (λ x. IsLiveWith log a b n x (entry_part (known_in right n))) e (subst (λ y. IsLiveWith log a b n (entry_at log a n) y) f z)),
        )

    module _ (s : Scalar) where
      abbrev SideA : Option (Side Value) → Type 0
      SideA = IsSideAt Value (parents_at log) (value_at log s) a

      abbrev SideB : Option (Side Value) → Type 0
      SideB = IsSideAt Value (parents_at log) (value_at log s) b

      a_wins : (r : Side Value) → SideB (Some r) → AllKnown r.marks only_right ↔ WinsAt log s a b
      a_wins r h = known_wins s a b r.value h.0 r.marks only_right h.1 ur

      b_wins : (l : Side Value) → SideA (Some l) → AllKnown l.marks only_left ↔ WinsAt log s b a
      b_wins l h = known_wins s b a l.value h.0 l.marks only_left h.1 ul

      to_graph : (l r : Option (Side Value)) (v : Verdict) → SideA l → SideB r → IsVerdict only_left only_right l r v → IsDecided log a b s v
      to_graph _ _ _ hl hr (s_common e) = g_common hl.0 (hr.0 ∙ ap Some (sym e))
      to_graph _ _ _ hl hr s_left_alone = g_left_alone hl.0 hr
      to_graph _ _ _ hl hr s_right_alone = g_right_alone hl hr.0
      to_graph _ _ _ hl hr (s_left_wins {l = l} {r = r} ne k) = g_left_wins hl.0 hr.0 ne ((a_wins r hr).0 k)
      to_graph _ _ _ hl hr (s_right_wins {l = l} {r = r} ne n k) = g_right_wins hl.0 hr.0 ne (λ w. n ((a_wins r hr).1 w)) ((b_wins l hl).0 k)
      to_graph _ _ _ hl hr (s_clash {l = l} {r = r} ne n m) = g_clash hl.0 hr.0 ne (λ w. n ((a_wins r hr).1 w)) (λ w. m ((b_wins l hl).1 w))

      from_none : (v : Verdict) → value_at log s a ≡ None → value_at log s b ≡ None → IsDecided log a b s v → ⊥
      from_none v hl hr (g_common e f) = cc
      from_none v hl hr (g_left_alone e f) = cc
      from_none v hl hr (g_right_alone e f) = cc
      from_none v hl hr (g_left_wins e f ne w) = cc
      from_none v hl hr (g_right_wins e f ne n w) = cc
      from_none v hl hr (g_clash e f ne n w) = cc

      from_left : (l : Side Value) (v : Verdict) → value_at log s a ≡ Some l.value → value_at log s b ≡ None → IsDecided log a b s v → v ≡ Settled l.value
      from_left l v hl hr (g_common e f) = absurd cc
      from_left l v hl hr (g_left_alone e f) = cc
      from_left l v hl hr (g_right_alone e f) = absurd cc
      from_left l v hl hr (g_left_wins e f ne w) = absurd cc
      from_left l v hl hr (g_right_wins e f ne n w) = absurd cc
      from_left l v hl hr (g_clash e f ne n w) = absurd cc

      from_right : (r : Side Value) (v : Verdict) → value_at log s a ≡ None → value_at log s b ≡ Some r.value → IsDecided log a b s v → v ≡ Settled r.value
      from_right r v hl hr (g_common e f) = absurd cc
      from_right r v hl hr (g_left_alone e f) = absurd cc
      from_right r v hl hr (g_right_alone e f) = cc
      from_right r v hl hr (g_left_wins e f ne w) = absurd cc
      from_right r v hl hr (g_right_wins e f ne n w) = absurd cc
      from_right r v hl hr (g_clash e f ne n w) = absurd cc

      abbrev Is : Side Value → Side Value → Verdict → Type 0
      Is l r = IsVerdict only_left only_right (Some l) (Some r)

      from_both : (l r : Side Value) (v : Verdict) → SideA (Some l) → SideB (Some r) → IsDecided log a b s v → Is l r v
      from_both l r _ hl hr (g_common {v = u} e f) =
          let d : l.value ≡ u = (let g = hl.0 in cc) in
          let d' : l.value ≡ r.value = (let g = hl.0 in let k = hr.0 in cc) in
          subst (λ x. Is l r (Settled x)) d (s_common d')
      from_both l r _ hl hr (g_left_alone e f) = absurd (let g = hr.0 in cc)
      from_both l r _ hl hr (g_right_alone e f) = absurd (let g = hl.0 in cc)
      from_both l r _ hl hr (g_left_wins {v = u} {w = w} e f ne k) =
          let d : l.value ≡ u = (let g = hl.0 in cc) in
          let d' : r.value ≡ w = (let g = hr.0 in cc) in
          subst (λ x. Is l r (Settled x)) d (s_left_wins (λ q. ne (sym d ∙ q ∙ d')) ((a_wins r hr).1 k))
      from_both l r _ hl hr (g_right_wins {v = u} {w = w} e f ne n k) =
          let d : l.value ≡ u = (let g = hl.0 in cc) in
          let d' : r.value ≡ w = (let g = hr.0 in cc) in
          subst (λ x. Is l r (Settled x)) d' (s_right_wins (λ q. ne (sym d ∙ q ∙ d')) (λ z. n ((a_wins r hr).0 z)) ((b_wins l hl).1 k))
      from_both l r _ hl hr (g_clash {v = u} {w = w} e f ne n k) =
          let d : l.value ≡ u = (let g = hl.0 in cc) in
          let d' : r.value ≡ w = (let g = hr.0 in cc) in
          subst (λ x. Is l r (Clashing x w)) d (subst (λ y. Is l r (Clashing l.value y)) d' (s_clash (λ q. ne (sym d ∙ q ∙ d')) (λ z. n ((a_wins r hr).0 z)) (λ z. k ((b_wins l hl).0 z))))

      from_graph : (l r : Option (Side Value)) (v : Verdict) → SideA l → SideB r → IsDecided log a b s v → IsVerdict only_left only_right l r v
      from_graph None None v hl hr h = absurd (from_none v hl hr h)
      from_graph (Some l) None v hl hr h = subst (IsVerdict only_left only_right (Some l) None) (sym (from_left l v hl.0 hr h)) s_left_alone
      from_graph None (Some r) v hl hr h = subst (IsVerdict only_left only_right None (Some r)) (sym (from_right r v hl hr.0 h)) s_right_alone
      from_graph (Some l) (Some r) v hl hr h = from_both l r v hl hr h

    pub verdicts : (s : Scalar) (v : Verdict) → IsVerdictIn left right only_left only_right s v ↔ IsDecided log a b s v
    verdicts s v =
        let x = side_is log a left hl s in
        let y = side_is log b right hr s in (
          to_graph s (side_of s (known_in left (node_of s))) (side_of s (known_in right (node_of s))) v x y,
          from_graph s (side_of s (known_in left (node_of s))) (side_of s (known_in right (node_of s))) v x y,
        )

    -- a node with a content is a file
    file_by_side : (n : NodeName) (k : Entry × Marking) (x : Side Value) → side_of (ContentOf n) (Some k) ≡ Some x → is_dir k.0 ≡ false
    file_by_side n k x e = go k.0.body k.1.content e
      where
        go : (body : Body) (m : Option (List ℕ)) → side (option_map ContentValue (content_of body)) m ≡ Some x → is_dir_body body ≡ false
        go Dir m g = absurd cc
        go (File c) m g = refl

    -- a file has a content
    has_content : (p : ℕ) (n : NodeName) (e : Entry) → entry_at log p n ≡ Some e → is_dir e ≡ false → (w : Value) × (value_at log (ContentOf n) p ≡ Some w)
    has_content p n e h f = go e.body refl f
      where
        go : (body : Body) → e.body ≡ body → is_dir_body body ≡ false → (w : Value) × (value_at log (ContentOf n) p ≡ Some w)
        go Dir g k = absurd cc
        go (File c) g k = (ContentValue c, ap (option_and_then (value_of (ContentOf n))) h ∙ ap (λ x. option_map ContentValue (content_of x)) g)

    side_there : (p : ℕ) (t : MarkedTree) (h : IsMarkedAt log p t) (n : NodeName) (k : Entry × Marking) (w : Value) → known_in t n ≡ Some k → value_at log (ContentOf n) p ≡ Some w →
        (x : Side Value) × (side_of (ContentOf n) (Some k) ≡ Some x) × IsSideAt Value (parents_at log) (value_at log (ContentOf n)) p (Some x)
    side_there p t h n k w e v = go (side_of (ContentOf n) (Some k)) refl (subst (λ o. IsSideAt Value (parents_at log) (value_at log (ContentOf n)) p (side_of (ContentOf n) o)) e (side_is log p t h (ContentOf n)))
      where
        go : (o : Option (Side Value)) → side_of (ContentOf n) (Some k) ≡ o → IsSideAt Value (parents_at log) (value_at log (ContentOf n)) p o →
            (x : Side Value) × (side_of (ContentOf n) (Some k) ≡ Some x) × IsSideAt Value (parents_at log) (value_at log (ContentOf n)) p (Some x)
        go None g is = absurd (let z : value_at log (ContentOf n) p ≡ None = is in cc)
        go (Some x) g is = (x, g, is)

    known_at : (p : ℕ) (t : MarkedTree) (h : IsMarkedAt log p t) (n : NodeName) (e : Entry) → entry_at log p n ≡ Some e → (k : Entry × Marking) × (known_in t n ≡ Some k) × (k.0 ≡ e)
    known_at p t h n e at = go (known_in t n) refl (sym (entry_known log p t h n) ∙ at)
      where
        go : (o : Option (Entry × Marking)) → known_in t n ≡ o → entry_part o ≡ Some e → (k : Entry × Marking) × (known_in t n ≡ Some k) × (k.0 ≡ e)
        go None g is = absurd cc
        go (Some k) g is = (k, g, (let d : k.0 ≡ e = cc in d))

    held_to : (n : NodeName) (p : Pending) (l r : Option (Entry × Marking)) → known_in left n ≡ l → known_in right n ≡ r → IsPendingWith only_left only_right n l r p → IsPending log a b n p
    held_to n _ _ _ el er (s_of_left {k = k} {l = x} s nb nk) =
        let v = entry_known log a left hl n ∙ ap entry_part el in
        let f = file_by_side n k x s in
        let w = has_content a n k.0 v f in
        let y = side_there a left hl n k w.0 el w.1 in
        let same : y.0 ≡ x = (let g = y.1 in cc) in
        g_of_left v f (λ live. nb ((subst (λ r. LivesWith only_left only_right (Some k) r) er (subst (λ l. LivesWith only_left only_right l (known_in right n)) el ((lives n).1 live)))))
        (λ wins. nk (subst (λ (z : Side Value). AllKnown z.marks only_left) same ((b_wins (ContentOf n) y.0 y.2).1 wins)))
    held_to n _ _ _ el er (s_of_right {k = k} {r = x} s nb nk) =
        let v = entry_known log b right hr n ∙ ap entry_part er in
        let f = file_by_side n k x s in
        let w = has_content b n k.0 v f in
        let y = side_there b right hr n k w.0 er w.1 in
        let same : y.0 ≡ x = (let g = y.1 in cc) in
        g_of_right v f (λ live. nb ((subst (λ r. LivesWith only_left only_right None r) er (subst (λ l. LivesWith only_left only_right l (known_in right n)) el ((lives n).1 live)))))
        (λ wins. nk (subst (λ (z : Side Value). AllKnown z.marks only_right) same ((a_wins (ContentOf n) y.0 y.2).1 wins)))

    -- one side alone has what does not live
    dead_left : (n : NodeName) (k : Entry × Marking) (r : Option (Entry × Marking)) → known_in left n ≡ Some k → known_in right n ≡ r → ¬ IsLive log a b n → (r ≡ None) × (¬ Contains only_left k.1.birth)
    dead_left n k None el er dead = (refl, λ c. dead ((lives n).0 (subst (λ l. LivesWith only_left only_right l (known_in right n)) (sym el) (subst (λ r. LivesWith only_left only_right (Some k) r) (sym er) c))))
    dead_left n k (Some r) el er dead = absurd (dead ((lives n).0 (subst (λ l. LivesWith only_left only_right l (known_in right n)) (sym el) (subst (λ r. LivesWith only_left only_right (Some k) r) (sym er) tt))))

    dead_right : (n : NodeName) (k : Entry × Marking) (l : Option (Entry × Marking)) → known_in left n ≡ l → known_in right n ≡ Some k → ¬ IsLive log a b n → (l ≡ None) × (¬ Contains only_right k.1.birth)
    dead_right n k None el er dead = (refl, λ c. dead ((lives n).0 (subst (λ l. LivesWith only_left only_right l (known_in right n)) (sym el) (subst (λ r. LivesWith only_left only_right None r) (sym er) c))))
    dead_right n k (Some l) el er dead = absurd (dead ((lives n).0 (subst (λ l. LivesWith only_left only_right l (known_in right n)) (sym el) (subst (λ r. LivesWith only_left only_right (Some l) r) (sym er) tt))))

    held_from : (n : NodeName) (p : Pending) → IsPending log a b n p → IsPendingIn left right only_left only_right n p
    held_from n _ (g_of_left {e = e} v f dead nw) =
        let k = known_at a left hl n e v in
        let z = dead_left n k.0 (known_in right n) k.1 refl dead in
        let w = has_content a n e v f in
        let y = side_there a left hl n k.0 w.0 k.1 w.1 in
        let is : IsPendingWith only_left only_right n (Some k.0) None (record { entry = k.0.0; from_left = true }) = s_of_left y.1 z.1 (λ all. nw ((b_wins (ContentOf n) y.0 y.2).0 all)) in
        subst (λ l. IsPendingWith only_left only_right n l (known_in right n) (record { entry = e; from_left = true })) (sym k.1)
        (subst (λ r. IsPendingWith only_left only_right n (Some k.0) r (record { entry = e; from_left = true })) (sym z.0)
        (subst (λ x. IsPendingWith only_left only_right n (Some k.0) None (record { entry = x; from_left = true })) k.2 is))
    held_from n _ (g_of_right {e = e} v f dead nw) =
        let k = known_at b right hr n e v in
        let z = dead_right n k.0 (known_in left n) refl k.1 dead in
        let w = has_content b n e v f in
        let y = side_there b right hr n k.0 w.0 k.1 w.1 in
        let is : IsPendingWith only_left only_right n None (Some k.0) (record { entry = k.0.0; from_left = false }) = s_of_right y.1 z.1 (λ all. nw ((a_wins (ContentOf n) y.0 y.2).0 all)) in
        subst (λ r. IsPendingWith only_left only_right n (known_in left n) r (record { entry = e; from_left = false })) (sym k.1)
        (subst (λ l. IsPendingWith only_left only_right n l (Some k.0) (record { entry = e; from_left = false })) (sym z.0)
        (subst (λ x. IsPendingWith only_left only_right n None (Some k.0) (record { entry = x; from_left = false })) k.2 is))

    pub of_graph : (m : Merge) → IsMergeBySets left right only_left only_right m → IsMergeOf log a b m
    of_graph m h = record {
      live = λ n. (λ i. (lives n).0 ((h.live n).0 i), λ i. (h.live n).1 ((lives n).1 i));
      scalars = λ s v. (
        λ e. let t = (h.scalars s v).0 e in ((lives (node_of s)).0 t.0, (verdicts s v).0 t.1),
        λ t. (h.scalars s v).1 ((lives (node_of s)).1 t.0, (verdicts s v).1 t.1),
      );
      unborn = h.unborn;
      pending = λ n p. (
        λ e. held_to n p (known_in left n) (known_in right n) refl refl ((h.pending n p).0 e),
        λ i. (h.pending n p).1 (held_from n p i),
      );
    }

-- The roster of the next revision of a history has the marks of the rule, and each birth.
use Rattle.std.specs.Prelude.{◌↔◌, Contains, IsSome, option_map, option_and_then}
use Rattle.std.proofs.Common.{◌≡◌, ℕ, List, [], ◌∷◌, ◌++◌, length, Option, Some, None, ◌⊎◌, inl, inr, ⊎_elim, refl, sym, ◌∙◌, ap, subst}
use Rattle.mtn_base.specs.declared.name.NodeName.{NodeName}
use Rattle.mtn_ancestry.proofs.Members.{Contains-nil, Contains-cases}
use Rattle.mtn_check_pieces.specs.Verdict.{IsMarkedOn}
use Rattle.mtn_history_laws.specs.History.{Revision, revision_tree, parents_at, tree_at, entry_at, IsPlaceOf, IsGrown}
use Rattle.mtn_history_laws.specs.Scalars.{Scalar, Value, node_of, value_of, value_in, value_at, IsMark}
use Rattle.mtn_history_laws.specs.Scalars.Scalar.{SlotOf}
use Rattle.mtn_history_laws.specs.Scalars.Value.{SlotValue}
use Rattle.mtn_history_laws.proofs.Born.{born_here, birth_kept}
use Rattle.mtn_history_laws.proofs.Scalars.{root_marked, one_sided, two_sided}
use Rattle.mtn_mark_laws.specs.Rule.{IsMarkByRule, IsSideAt, AreUncommon}
use Rattle.mtn_mark_laws.proofs.Stable.{get_last}
use Rattle.mtn_marking.specs.declared.node.Marking.{Marking}
use Rattle.mtn_marking.specs.Graph.{AreMarksOf, IsMarkedAt}
use Rattle.mtn_marking.specs.Marking.{MarkedTree, Basis, AreFor, on_none, on_one, on_two, marks_of, marks_in, marking_of, paired, known_in, side, side_of, side_by, birth_or, birth_by, AreByRule}
use Rattle.mtn_marking.proofs.Exact.{nodes_exact}
use Rattle.mtn_marking.proofs.Zips.{got_at}
use Rattle.mtn_roster.specs.declared.entry.Entry.{Entry}
use Rattle.mtn_roster.specs.Tree.{entry_of}

paired_some : {A B : Type 0} (oa : Option A) (ob : Option B) (k : A × B) → paired oa ob ≡ Some k → (oa ≡ Some k.0) × (ob ≡ Some k.1)
paired_some {A = A} {B = B} None ob k e = absurd cc
paired_some {A = A} {B = B} (Some a) None k e = absurd cc
paired_some {A = A} {B = B} (Some a) (Some b) k e = let d : (a, b) ≡ k = cc in (ap (λ (z : A × B). Some z.0) d, ap (λ (z : A × B). Some z.1) d)

paired_none : {A B : Type 0} (oa : Option A) (ob : Option B) → paired oa ob ≡ None → (oa ≡ None) ⊎ (ob ≡ None)
paired_none None ob e = inl refl
paired_none (Some a) None e = inr refl
paired_none (Some a) (Some b) e = absurd cc

-- what a marked tree of a history tells of a scalar is what the history has
module _ (log : List Revision) (p : ℕ) (t : MarkedTree) (h : IsMarkedAt log p t) where
  value_is : (s : Scalar) → value_at log s p ≡ value_in t.tree s
  value_is s = ap (λ u. value_in u s) h.tree

  side_told : (s : Scalar) (v : Option Value) (m : Option (List ℕ)) → value_at log s p ≡ v → AreMarksOf log p s m → IsSideAt Value (parents_at log) (value_at log s) p (side v m)
  side_told s None m e k = e
  side_told s (Some v) None e k = k
  side_told s (Some v) (Some marks) e k = (e, k.1)

  side_known : (s : Scalar) (oe : Option Entry) (om : Option Marking) → entry_of t.tree (node_of s) ≡ oe → marking_of t.marks (node_of s) ≡ om →
      IsSideAt Value (parents_at log) (value_at log s) p (side_of s (paired oe om))
  side_known s None om ee em = value_is s ∙ ap (option_and_then (value_of s)) ee
  side_known s (Some e) None ee em = subst (AreMarksOf log p s) (ap (option_and_then (marks_of s)) em) (h.marks s)
  side_known s (Some e) (Some m) ee em =
      side_told s (value_of s e) (marks_of s m) (value_is s ∙ ap (option_and_then (value_of s)) ee) (subst (AreMarksOf log p s) (ap (option_and_then (marks_of s)) em) (h.marks s))

  side_is : (s : Scalar) → IsSideAt Value (parents_at log) (value_at log s) p (side_by (Some t) s)
  side_is s = side_known s (entry_of t.tree (node_of s)) (marking_of t.marks (node_of s)) refl refl

  unknown : (n : NodeName) → known_in t n ≡ None → entry_at log p n ≡ None
  unknown n e = ap (λ u. entry_of u n) h.tree ∙ ⊎_elim (λ g. g) (λ g. unmarked (entry_of t.tree n) refl g) (paired_none (entry_of t.tree n) (marking_of t.marks n) e)
    where
      unmarked : (o : Option Entry) → entry_of t.tree n ≡ o → marking_of t.marks n ≡ None → o ≡ None
      unmarked None g k = refl
      unmarked (Some f) g k = absurd (
          let a : value_at log (SlotOf n) p ≡ None = subst (AreMarksOf log p (SlotOf n)) (ap (option_and_then (marks_of (SlotOf n))) k) (h.marks (SlotOf n)) in
          let b : value_at log (SlotOf n) p ≡ Some (SlotValue f.slot) = ap (λ u. value_in u (SlotOf n)) h.tree ∙ ap (option_and_then (value_of (SlotOf n))) g in
          cc)

  place_known : (n : NodeName) (k : Entry × Marking) → known_in t n ≡ Some k → IsPlaceOf log n.birth k.1.birth
  place_known n k e = h.births n k.1 (paired_some (entry_of t.tree n) (marking_of t.marks n) k e).1

birth_at : (P : ℕ → Type 0) (known : Option (Entry × Marking)) (other : ℕ) → ((k : Entry × Marking) → known ≡ Some k → P k.1.birth) → (known ≡ None → P other) → P (birth_or known other)
birth_at P None other f g = g refl
birth_at P (Some k) other f g = f k refl

module _ (log : List Revision) (next : Revision) (new : MarkedTree) (grown : IsGrown (log ++ next ∷ [])) (tree_is : next.tree ≡ new.tree) (fits : AreFor new.tree new.marks)
    (marked : IsMarkedAt (log ++ next ∷ []) (length log) new) where
  abbrev more : List Revision
  more = log ++ next ∷ []

  abbrev here : ℕ
  here = length log

  tree_here : tree_at more here ≡ new.tree
  tree_here = ap revision_tree (get_last log next) ∙ tree_is

  value_here : (s : Scalar) → value_at more s here ≡ value_in new.tree s
  value_here s = ap (λ u. value_in u s) tree_here

  kept : (n : NodeName) (b : ℕ) → IsPlaceOf log n.birth b → IsPlaceOf more n.birth b
  kept n b t = birth_kept log next grown n b (got_at log b t.0 t.1).0 t

  born : (n : NodeName) (e : Entry) → entry_of new.tree n ≡ Some e → ((p : ℕ) → Contains next.parents p → entry_at log p n ≡ None) → IsPlaceOf more n.birth here
  born n e h none = born_here log next grown n e (ap (λ u. entry_of u n) tree_is ∙ h) none

  -- the marks are of the rule where that is what the history has, and the births are where the history has them
  by_history : (b : Basis) → b.at ≡ here →
      ((s : Scalar) (v : Value) → value_at more s here ≡ Some v → (x : ℕ) →
      IsMarkByRule Value here v b.only_left b.only_right (side_by b.left s) (side_by b.right s) x ↔ IsMark more s here x) →
      ((n : NodeName) (e : Entry) → entry_of new.tree n ≡ Some e → IsPlaceOf more n.birth (birth_by b n)) →
      IsMarkedOn b new
  by_history b at rule births = record {
    rule = λ s. to_rule s (value_in new.tree s) (marks_in new.marks s) (value_here s) (marked.marks s);
    births = λ n. to_birth n (marking_of new.marks n) (entry_of new.tree n) refl refl;
  }
    where
      to_rule : (s : Scalar) (v : Option Value) (m : Option (List ℕ)) → value_at more s here ≡ v → AreMarksOf more here s m → AreByRule b s v m
      to_rule s None None e k = tt
      to_rule s None (Some marks) e k = let there = subst (λ (o : Option Value). IsSome o) e k.0 in absurd cc
      to_rule s (Some v) None e k = absurd (let t = sym e ∙ k in cc)
      to_rule s (Some v) (Some marks) e k = λ x.
          let r = subst (λ z. IsMarkByRule Value z v b.only_left b.only_right (side_by b.left s) (side_by b.right s) x ↔ IsMark more s here x) (sym at) (rule s v e x) in
          (λ c. r.1 ((k.1 x).0 c), λ d. (k.1 x).1 (r.0 d))

      to_birth : (n : NodeName) (m : Option Marking) (e : Option Entry) → marking_of new.marks n ≡ m → entry_of new.tree n ≡ e →
          option_map (λ (k : Marking). k.birth) m ≡ option_map (λ (k : Entry). birth_by b n) e
      to_birth n None None g h = refl
      to_birth n (Some m) None g h = absurd (
          let there = (nodes_exact new.tree new.marks fits n).1 (subst (λ (o : Option Marking). IsSome o) (sym g) refl) in
          let none = subst (λ (o : Option Entry). IsSome o) h there in
          cc)
      to_birth n None (Some e) g h = absurd (
          let there = (nodes_exact new.tree new.marks fits n).0 (subst (λ (o : Option Entry). IsSome o) (sym h) refl) in
          let none = subst (λ (o : Option Marking). IsSome o) g there in
          cc)
      to_birth n (Some m) (Some e) g h = ap Some (grown.differ n.birth m.birth (birth_by b n) (marked.births n m g) (births n e h))

  pub root_rule : next.parents ≡ [] → IsMarkedOn (on_none here) new
  root_rule none =
      by_history (on_none here) refl (λ s v e x. root_marked log next grown s v e none x)
      (λ n e g. born n e g (λ p c. absurd (Contains-nil (subst (λ ps. Contains ps p) none c))))

  pub one_rule : (p : ℕ) (t : MarkedTree) → next.parents ≡ p ∷ [] → IsMarkedAt log p t → IsMarkedOn (on_one here t) new
  one_rule p t one h =
      by_history (on_one here t) refl (λ s v e x. one_sided log next grown s v e p one (side_by (Some t) s) (side_is log p t h s) x)
      (λ n e g. birth_at (IsPlaceOf more n.birth) (known_in t n) here (λ k f. kept n k.1.birth (place_known log p t h n k f))
      (λ f. born n e g (λ q c. ⊎_elim (λ d. subst (λ z. entry_at log z n ≡ None) d (unknown log p t h n f)) (λ z. absurd (Contains-nil z))
      (Contains-cases p [] q (subst (λ ps. Contains ps q) one c)))))

  pub two_rule : (p q : ℕ) (t u : MarkedTree) (ol or : List ℕ) → next.parents ≡ p ∷ q ∷ [] → IsMarkedAt log p t → IsMarkedAt log q u →
      AreUncommon (parents_at log) p q ol → AreUncommon (parents_at log) q p or → IsMarkedOn (on_two here t u ol or) new
  two_rule p q t u ol or both h k ul ur =
      by_history (on_two here t u ol or) refl
      (λ s v e x. two_sided log next grown s v e p q both (side_by (Some t) s) (side_by (Some u) s) (side_is log p t h s) (side_is log q u k s) ol or ul ur x)
      (λ n e g. birth_at (IsPlaceOf more n.birth) (known_in t n) (birth_or (known_in u n) here) (λ j f. kept n j.1.birth (place_known log p t h n j f))
      (λ f. birth_at (IsPlaceOf more n.birth) (known_in u n) here (λ j f'. kept n j.1.birth (place_known log q u k n j f'))
      (λ f'. born n e g (λ z c. ⊎_elim (λ d. subst (λ y. entry_at log y n ≡ None) d (unknown log p t h n f))
      (λ w. ⊎_elim (λ d. subst (λ y. entry_at log y n ≡ None) d (unknown log q u k n f')) (λ w'. absurd (Contains-nil w')) (Contains-cases q [] z w))
      (Contains-cases p (q ∷ []) z (subst (λ ps. Contains ps z) both c))))))

-- Marks by the rule are the marks of the whole history, where those of the parents are.
use Rattle.std.specs.Prelude.{◌↔◌, Contains, IsSome, option_map, option_and_then}
use Rattle.std.specs.List.{AllZip}
use Rattle.std.proofs.Common.{◌≡◌, ℕ, List, [], ◌∷◌, ◌++◌, length, Option, Some, None, ◌⊎◌, inl, inr, ⊎_elim, refl, sym, ◌∙◌, ap, subst}
use Rattle.mtn_base.specs.declared.name.NodeName.{NodeName}
use Rattle.mtn_ancestry.proofs.Members.{Contains-nil, Contains-cases}
use Rattle.mtn_history_laws.specs.History.{Revision, revision_tree, parents_at, tree_at, entry_at, IsPlaceOf, IsGrown}
use Rattle.mtn_history_laws.specs.Scalars.{Scalar, Value, node_of, value_of, value_in, value_at, IsMark}
use Rattle.mtn_history_laws.specs.Scalars.Scalar.{SlotOf}
use Rattle.mtn_history_laws.specs.Scalars.Value.{SlotValue}
use Rattle.mtn_history_laws.proofs.Born.{born_here, birth_kept}
use Rattle.mtn_history_laws.proofs.Scalars.{root_marked, one_sided, two_sided}
use Rattle.mtn_mark_laws.specs.Rule.{IsMarkByRule, IsSideAt, AreUncommon}
use Rattle.mtn_mark_laws.proofs.Stable.{get_last}
use Rattle.mtn_roster.specs.declared.entry.Entry.{Entry}
use Rattle.mtn_roster.specs.Tree.{Tree, entry_of}
use Rattle.mtn_marking.specs.declared.node.Marking.{Marking}
use Rattle.mtn_marking.specs.Marking.{Marks, MarkedTree, Basis, on_none, on_one, on_two, marks_of, marks_in, marking_of, paired, known_in, side, side_of, side_by, birth_or, birth_by, AreByRule}
use Rattle.mtn_marking.specs.Graph.{AreMarksOf, IsMarkedAt, Extends}
use Rattle.mtn_marking.specs.Parts.{IsMarkedNode}
use Rattle.mtn_marking.proofs.Zips.{got_at, all_by_rule, all_births}

paired_some : {A B : Type 0} (oa : Option A) (ob : Option B) (k : A × B) → paired oa ob ≡ Some k → (oa ≡ Some k.0) × (ob ≡ Some k.1)
paired_some {A = A} {B = B} None ob k e = absurd cc
paired_some {A = A} {B = B} (Some a) None k e = absurd cc
paired_some {A = A} {B = B} (Some a) (Some b) k e = let d : (a, b) ≡ k = cc in (ap (λ (z : A × B). Some z.0) d, ap (λ (z : A × B). Some z.1) d)

paired_none : {A B : Type 0} (oa : Option A) (ob : Option B) → paired oa ob ≡ None → (oa ≡ None) ⊎ (ob ≡ None)
paired_none None ob e = inl refl
paired_none (Some a) None e = inr refl
paired_none (Some a) (Some b) e = absurd cc

-- what a marked tree of a history tells of a scalar is what the history has
module _ (log : List Revision) (p : ℕ) (t : MarkedTree) (h : IsMarkedAt log p t) where
  value_is : (s : Scalar) → value_at log s p ≡ value_in t.tree s
  value_is s = ap (λ u. value_in u s) h.tree

  side_told : (s : Scalar) (v : Option Value) (m : Option (List ℕ)) → value_at log s p ≡ v → AreMarksOf log p s m → IsSideAt Value (parents_at log) (value_at log s) p (side v m)
  side_told s None m e k = e
  side_told s (Some v) None e k = k
  side_told s (Some v) (Some marks) e k = (e, k.1)

  side_known : (s : Scalar) (oe : Option Entry) (om : Option Marking) → entry_of t.tree (node_of s) ≡ oe → marking_of t.marks (node_of s) ≡ om →
      IsSideAt Value (parents_at log) (value_at log s) p (side_of s (paired oe om))
  side_known s None om ee em = value_is s ∙ ap (option_and_then (value_of s)) ee
  side_known s (Some e) None ee em = subst (AreMarksOf log p s) (ap (option_and_then (marks_of s)) em) (h.marks s)
  side_known s (Some e) (Some m) ee em =
      side_told s (value_of s e) (marks_of s m) (value_is s ∙ ap (option_and_then (value_of s)) ee) (subst (AreMarksOf log p s) (ap (option_and_then (marks_of s)) em) (h.marks s))

  side_is : (s : Scalar) → IsSideAt Value (parents_at log) (value_at log s) p (side_by (Some t) s)
  side_is s = side_known s (entry_of t.tree (node_of s)) (marking_of t.marks (node_of s)) refl refl

  -- a node that is not known is not in the tree
  unknown : (n : NodeName) → known_in t n ≡ None → entry_at log p n ≡ None
  unknown n e = ap (λ u. entry_of u n) h.tree ∙ ⊎_elim (λ g. g) (λ g. unmarked (entry_of t.tree n) refl g) (paired_none (entry_of t.tree n) (marking_of t.marks n) e)
    where
      unmarked : (o : Option Entry) → entry_of t.tree n ≡ o → marking_of t.marks n ≡ None → o ≡ None
      unmarked None g k = refl
      unmarked (Some f) g k = absurd (
          let a : value_at log (SlotOf n) p ≡ None = subst (AreMarksOf log p (SlotOf n)) (ap (option_and_then (marks_of (SlotOf n))) k) (h.marks (SlotOf n)) in
          let b : value_at log (SlotOf n) p ≡ Some (SlotValue f.slot) = ap (λ u. value_in u (SlotOf n)) h.tree ∙ ap (option_and_then (value_of (SlotOf n))) g in
          cc)

  -- the birth of one that is known
  place_known : (n : NodeName) (k : Entry × Marking) → known_in t n ≡ Some k → IsPlaceOf log n.birth k.1.birth
  place_known n k e = h.births n k.1 (paired_some (entry_of t.tree n) (marking_of t.marks n) k e).1

birth_at : (P : ℕ → Type 0) (known : Option (Entry × Marking)) (other : ℕ) → ((k : Entry × Marking) → known ≡ Some k → P k.1.birth) → (known ≡ None → P other) → P (birth_or known other)
birth_at P None other f g = g refl
birth_at P (Some k) other f g = f k refl

module _ (log : List Revision) (next : Revision) (new : Tree) (ms : Marks) (grown : IsGrown (log ++ next ∷ [])) (tree_is : next.tree ≡ new) where
  abbrev more : List Revision
  more = log ++ next ∷ []

  abbrev here : ℕ
  here = length log

  tree_here : tree_at more here ≡ new
  tree_here = ap revision_tree (get_last log next) ∙ tree_is

  value_here : (s : Scalar) → value_at more s here ≡ value_in new s
  value_here s = ap (λ u. value_in u s) tree_here

  kept : (n : NodeName) (b : ℕ) → IsPlaceOf log n.birth b → IsPlaceOf more n.birth b
  kept n b t = birth_kept log next grown n b (got_at log b t.0 t.1).0 t

  born : (n : NodeName) (e : Entry) → entry_of new n ≡ Some e → ((p : ℕ) → Contains next.parents p → entry_at log p n ≡ None) → IsPlaceOf more n.birth here
  born n e h none = born_here log next grown n e (ap (λ u. entry_of u n) tree_is ∙ h) none

  -- from the rule and the births
  marked_here : (b : Basis) → b.at ≡ here → AllZip (IsMarkedNode b) new ms →
      ((s : Scalar) (v : Value) → value_at more s here ≡ Some v → (x : ℕ) →
      IsMarkByRule Value here v b.only_left b.only_right (side_by b.left s) (side_by b.right s) x ↔ IsMark more s here x) →
      ((n : NodeName) (e : Entry) → entry_of new n ≡ Some e → IsPlaceOf more n.birth (birth_by b n)) →
      IsMarkedAt more here (record { tree = new; marks = ms })
  marked_here b at all rule births = record {
    tree = tree_here;
    marks = λ s. of_rule s (value_in new s) (marks_in ms s) (value_here s) (all_by_rule b new ms all s);
    births = λ n m h. of_births n m (entry_of new n) refl (sym (ap (option_map (λ (m : Marking). m.birth)) h) ∙ all_births b new ms all n);
  }
    where
      of_rule : (s : Scalar) (v : Option Value) (m : Option (List ℕ)) → value_at more s here ≡ v → AreByRule b s v m → AreMarksOf more here s m
      of_rule s None None e k = e
      of_rule s None (Some marks) e k = absurd k
      of_rule s (Some v) None e k = absurd k
      of_rule s (Some v) (Some marks) e k =
          let there : IsSome (value_at more s here) = subst (λ o. IsSome o) (sym e) refl in (
            there,
            λ x.
                let a : Contains marks x ↔ IsMarkByRule Value here v b.only_left b.only_right (side_by b.left s) (side_by b.right s) x =
                subst (λ z. Contains marks x ↔ IsMarkByRule Value z v b.only_left b.only_right (side_by b.left s) (side_by b.right s) x) at (k x) in
                let r = rule s v e x in
                (λ c. r.0 (a.0 c), λ d. a.1 (r.1 d)),
          )

      of_births : (n : NodeName) (m : Marking) (o : Option Entry) → entry_of new n ≡ o → Some m.birth ≡ option_map (λ (e : Entry). birth_by b n) o → IsPlaceOf more n.birth m.birth
      of_births n m None g h = absurd cc
      of_births n m (Some e) g h = let d : birth_by b n ≡ m.birth = cc in subst (IsPlaceOf more n.birth) d (births n e g)

  root_here : next.parents ≡ [] → AllZip (IsMarkedNode (on_none here)) new ms → IsMarkedAt more here (record { tree = new; marks = ms })
  root_here none all =
      marked_here (on_none here) refl all (λ s v e x. root_marked log next grown s v e none x)
      (λ n e g. born n e g (λ p c. absurd (Contains-nil (subst (λ ps. Contains ps p) none c))))

  one_here : (p : ℕ) (t : MarkedTree) → next.parents ≡ p ∷ [] → IsMarkedAt log p t → AllZip (IsMarkedNode (on_one here t)) new ms →
      IsMarkedAt more here (record { tree = new; marks = ms })
  one_here p t one h all =
      marked_here (on_one here t) refl all (λ s v e x. one_sided log next grown s v e p one (side_by (Some t) s) (side_is log p t h s) x)
      (λ n e g. birth_at (IsPlaceOf more n.birth) (known_in t n) here (λ k f. kept n k.1.birth (place_known log p t h n k f))
      (λ f. born n e g (λ q c. ⊎_elim (λ d. subst (λ z. entry_at log z n ≡ None) d (unknown log p t h n f)) (λ z. absurd (Contains-nil z))
      (Contains-cases p [] q (subst (λ ps. Contains ps q) one c)))))

  two_here : (p q : ℕ) (t u : MarkedTree) (ol or : List ℕ) → next.parents ≡ p ∷ q ∷ [] → IsMarkedAt log p t → IsMarkedAt log q u →
      AreUncommon (parents_at log) p q ol → AreUncommon (parents_at log) q p or → AllZip (IsMarkedNode (on_two here t u ol or)) new ms →
      IsMarkedAt more here (record { tree = new; marks = ms })
  two_here p q t u ol or both h k ul ur all =
      marked_here (on_two here t u ol or) refl all
      (λ s v e x. two_sided log next grown s v e p q both (side_by (Some t) s) (side_by (Some u) s) (side_is log p t h s) (side_is log q u k s) ol or ul ur x)
      (λ n e g. birth_at (IsPlaceOf more n.birth) (known_in t n) (birth_or (known_in u n) here) (λ j f. kept n j.1.birth (place_known log p t h n j f))
      (λ f. birth_at (IsPlaceOf more n.birth) (known_in u n) here (λ j f'. kept n j.1.birth (place_known log q u k n j f'))
      (λ f'. born n e g (λ z c. ⊎_elim (λ d. subst (λ y. entry_at log y n ≡ None) d (unknown log p t h n f))
      (λ w. ⊎_elim (λ d. subst (λ y. entry_at log y n ≡ None) d (unknown log q u k n f')) (λ w'. absurd (Contains-nil w')) (Contains-cases q [] z w))
      (Contains-cases p (q ∷ []) z (subst (λ ps. Contains ps z) both c))))))

module _ (at : ℕ) (new : Tree) (ms : Marks) where
  abbrev Marked : List Revision → Revision → ℕ → Type 0
  Marked log next r = IsMarkedAt (log ++ next ∷ []) r (record { tree = new; marks = ms })

  pub graph_root : AllZip (IsMarkedNode (on_none at)) new ms → (log : List Revision) (next : Revision) → Extends log next at [] new → Marked log next at
  graph_root all log next ext =
      subst (λ r. AllZip (IsMarkedNode (on_none r)) new ms → Marked log next r) (sym ext.place) (root_here log next new ms ext.grown ext.tree_is ext.parents_are) all

  pub graph_one : (t : MarkedTree) → AllZip (IsMarkedNode (on_one at t)) new ms → (log : List Revision) (next : Revision) (p : ℕ) →
      Extends log next at (p ∷ []) new → IsMarkedAt log p t → Marked log next at
  graph_one t all log next p ext h =
      subst (λ r. AllZip (IsMarkedNode (on_one r t)) new ms → Marked log next r) (sym ext.place) (one_here log next new ms ext.grown ext.tree_is p t ext.parents_are h) all

  pub graph_two : (t u : MarkedTree) (ol or : List ℕ) → AllZip (IsMarkedNode (on_two at t u ol or)) new ms → (log : List Revision) (next : Revision) (p q : ℕ) →
      Extends log next at (p ∷ q ∷ []) new → IsMarkedAt log p t → IsMarkedAt log q u →
      AreUncommon (parents_at log) p q ol → AreUncommon (parents_at log) q p or → Marked log next at
  graph_two t u ol or all log next p q ext h k ul ur =
      subst (λ r. AllZip (IsMarkedNode (on_two r t u ol or)) new ms → Marked log next r) (sym ext.place)
      (two_here log next new ms ext.grown ext.tree_is p q t u ol or ext.parents_are h k ul ur) all

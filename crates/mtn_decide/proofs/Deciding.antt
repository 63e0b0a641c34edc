-- One more node each turn; and what is decided when all are done.
use Rattle.std.specs.Prelude.{◌↔◌, map, find, IsSome, option_map, option_and_then, slice_get}
use Rattle.std.specs.List.{list_all}
use Rattle.std.proofs.Common.{◌≡◌, ℕ, suc, ◌+◌, ◌≤◌, length, arith, Bool, true, false, List, [], ◌∷◌, ◌++◌, Option, Some, None, refl, sym, ◌∙◌, ap, subst}
use Rattle.mtn_base.specs.Names.{name_cmp, same_name}
use Rattle.mtn_base.specs.declared.name.NodeName.{NodeName}
use Rattle.mtn_history_laws.specs.Scalars.{Scalar, node_of}
use Rattle.mtn_marking.specs.Marking.{MarkedTree, AreFor, IsFor, paired, known_in, marking_of, side_of}
use Rattle.mtn_marking.specs.declared.node.Marking.{Marking}
use Rattle.mtn_marking.specs.declared.node.NodeMarks.{NodeMarks}
use Rattle.mtn_marking.proofs.Keyed.{found_there}
use Rattle.mtn_marking.proofs.Knowing.{for_at, keys_rise, names_rise}
use Rattle.mtn_roster.specs.declared.entry.Entry.{Entry}
use Rattle.mtn_roster.specs.Tree.{Tree, IsSane}
use Rattle.mtn_base.specs.Lists.{rises}
use Rattle.mtn_base.proofs.Finding.{Split, later}
use Rattle.mtn_base.proofs.Members.{head}
use Rattle.mtn_base.proofs.Tests.{both_true, same_name-is, same_name-self}
use Rattle.mtn_base.proofs.Orders.{names_total, exact_names}
use Rattle.mtn_decide.specs.declared.decision.Decision.{Decision}
use Rattle.mtn_decide.specs.declared.decision.Pending.{Pending}
use Rattle.mtn_decide.specs.declared.fate.Fate.{Fate}
use Rattle.mtn_decide.specs.declared.fate.Fate.TheVariants.{Live, Held, Gone}
use Rattle.mtn_decide.specs.declared.known.SideNode.{SideNode}
use Rattle.mtn_decide.specs.declared.known.Turn.{Turn}
use Rattle.mtn_decide.specs.declared.known.Turn.TheVariants.{Left, Right, Both}
use Rattle.mtn_decide.specs.Decisions.{Merge, IsInOrder, decision_of, pending_of, is_absent, has_keys_in_order, is_file_in_order}
use Rattle.mtn_decide.specs.Parts.{known_at, seen, left_of, right_of, turn_name, turn_steps, live_part, held_part, AreKeyedAlike, IsFate, IsOrderly, IsTurn}
use Rattle.mtn_decide.specs.Sets.{LivesWith, IsVerdict, IsPendingWith, LivesIn, IsMergeBySets}
use Rattle.mtn_decide.specs.Sets.IsPendingWith.{of_left, of_right}
use Rattle.mtn_decide.specs.Verdicts.{Verdict, verdict_of}
use Rattle.mtn_decide.proofs.Merging.{all_merged, merged_x, merged_y, merged_both, IsMadeAt}
use Rattle.mtn_decide.proofs.Merging.IsMadeAt.{nothing, one}
use Rattle.mtn_decide.proofs.Single.{one_pending, both_pending}
use Rattle.mtn_decide.proofs.Walking.{entry_name, decision_name, pending_name, l_of, r_of, IsNodeWith, IsHeldWith, GoodNode, GoodHeld, AreNodesMerged, AreHeldMerged, live_option, held_option, node_part, held_part', good_pending, name_of_pending, got_by, within, WalkSteps}

paired_is : {A B : Type 0} (oa : Option A) (ob : Option B) (k : A × B) → paired oa ob ≡ Some k → (oa ≡ Some k.0) × (ob ≡ Some k.1)
paired_is {A = A} {B = B} None ob k e = absurd cc
paired_is {A = A} {B = B} (Some a) None k e = absurd cc
paired_is {A = A} {B = B} (Some a) (Some b) k e = let d : (a, b) ≡ k = cc in (ap (λ (z : A × B). Some z.0) d, ap (λ (z : A × B). Some z.1) d)

same_names : (t : Tree) (ms : List NodeMarks) → AreFor t ms → map (λ (m : NodeMarks). m.name) ms ≡ map (λ (e : Entry). e.name) t
same_names [] [] h = refl
same_names [] (m ∷ ms) h = absurd h
same_names (e ∷ t) [] h = absurd h
same_names (e ∷ t) (m ∷ ms) h = λ i. h.0.name i ∷ same_names t ms h.1 i

-- what stands at a place of a marked tree
pub record IsThere (t : MarkedTree) (i : ℕ) (k : Entry × Marking) : Type 0 where
  pub entry : slice_get t.tree i ≡ Some k.0
  pub marking : marking_of t.marks k.0.name ≡ Some k.1
  pub alike : AreKeyedAlike k.0.attrs k.1.attrs

pub there_at : (t : MarkedTree) → IsSane t.tree → AreFor t.tree t.marks → (i : ℕ) (k : Entry × Marking) → known_at t i ≡ Some k → IsThere t i k
there_at t sane for i k h =
    let p = paired_is (slice_get t.tree i) (option_map (λ (m : NodeMarks). m.marking) (slice_get t.marks i)) k h in
    let m = got_by (λ (m : NodeMarks). m.marking) (slice_get t.marks i) k.1 p.1 in
    let f : IsFor k.0 m.0 = for_at t.tree t.marks for i k.0 m.0 p.0 m.1 in
    let rising : rises name_cmp (map (λ (m : NodeMarks). m.name) t.marks) ≡ true = ap (rises name_cmp) (same_names t.tree t.marks for) ∙ names_rise t.tree sane in
    let hit = found_there name_cmp (λ (m : NodeMarks). m.name) same_name names_total same_name-is same_name-self exact_names t.marks rising i m.0 m.1 in
    record {
      entry = p.0;
      marking = ap (option_map (λ (m : NodeMarks). m.marking)) (subst (λ q. find (λ (m : NodeMarks). same_name m.name q) t.marks ≡ Some m.0) f.name hit) ∙ ap Some m.2;
      alike = subst (λ (x : Marking). AreKeyedAlike k.0.attrs x.attrs) m.2 (record { rising = keys_rise t.tree sane i k.0 p.0; same = f.keys });
    }

module _ (ol or : List ℕ) (left right : MarkedTree) (sl : IsSane left.tree) (fl : AreFor left.tree left.marks) (sr : IsSane right.tree) (fr : AreFor right.tree right.marks) where
  -- the sides of the node whose turn it is are orderly, and have its name
  pub orderly_left : (i j : ℕ) (t : Turn) → IsTurn left right i j (Some t) → IsOrderly (left_of t)
  orderly_left i j (Left k) at = (there_at left sl fl i (seen k) at.0).alike
  orderly_left i j (Right k) at = tt
  orderly_left i j (Both k m) at = (there_at left sl fl i (seen k) at.0).alike

  pub orderly_right : (i j : ℕ) (t : Turn) → IsTurn left right i j (Some t) → IsOrderly (right_of t)
  orderly_right i j (Left k) at = tt
  orderly_right i j (Right k) at = (there_at right sr fr j (seen k) at.0).alike
  orderly_right i j (Both k m) at = (there_at right sr fr j (seen m) at.1).alike

  left_name : (i j : ℕ) (t : Turn) → IsTurn left right i j (Some t) → (k : Entry × Marking) → left_of t ≡ Some k → k.0.name ≡ turn_name t
  left_name i j (Left k) at x e = let d : seen k ≡ x = cc in ap (λ (z : Entry × Marking). z.0.name) (sym d)
  left_name i j (Right k) at x e = absurd cc
  left_name i j (Both k m) at x e = let d : seen k ≡ x = cc in ap (λ (z : Entry × Marking). z.0.name) (sym d)

  right_name : (i j : ℕ) (t : Turn) → IsTurn left right i j (Some t) → (k : Entry × Marking) → right_of t ≡ Some k → k.0.name ≡ turn_name t
  right_name i j (Left k) at x e = absurd cc
  right_name i j (Right k) at x e = let d : seen k ≡ x = cc in ap (λ (z : Entry × Marking). z.0.name) (sym d)
  right_name i j (Both k m) at x e = let d : seen m ≡ x = cc in ap (λ (z : Entry × Marking). z.0.name) (sym d) ∙ sym at.2

  abbrev RN : NodeName → Option Entry → Option Entry → Option Decision → Type 0
  RN q a b o = IsNodeWith ol or left right q (l_of ol or left right q a) (r_of ol or left right q b) o

  abbrev RH : NodeName → Option Entry → Option Entry → Option Pending → Type 0
  RH q a b o = IsHeldWith ol or left right q (l_of ol or left right q a) (r_of ol or left right q b) o

  abbrev MadeNode : NodeName → Option Decision → List Decision → Type 0
  MadeNode = IsMadeAt name_cmp same_name names_total same_name-is same_name-self entry_name entry_name decision_name RN (GoodNode ol or left right) left.tree right.tree

  abbrev MadeHeld : NodeName → Option Pending → List Pending → Type 0
  MadeHeld = IsMadeAt name_cmp same_name names_total same_name-is same_name-self entry_name entry_name pending_name RH (GoodHeld ol or left right) left.tree right.tree

  module _ (i j : ℕ) (t : Turn) (at : IsTurn left right i j (Some t)) (f : Fate) (fate : IsFate ol or (turn_name t) (left_of t) (right_of t) f) where
    made_node : (f : Fate) → IsFate ol or (turn_name t) (left_of t) (right_of t) f → MadeNode (turn_name t) (live_option f) (live_part f)
    made_node (Live d) h = one h.1.name (h.1.kind, h.1.keys)
    made_node (Held p) h = nothing
    made_node Gone h = nothing

    made_held : (f : Fate) → IsFate ol or (turn_name t) (left_of t) (right_of t) f → MadeHeld (turn_name t) (held_option f) (held_part f)
    made_held (Live d) h = nothing
    made_held (Held p) h = one
        (name_of_pending ol or left right (turn_name t) (left_of t) (right_of t) (orderly_left i j t at) (orderly_right i j t at) p h.1 (left_name i j t at) (right_name i j t at))
        (good_pending ol or left right (turn_name t) (left_of t) (right_of t) (orderly_left i j t at) (orderly_right i j t at) p h.1)
    made_held Gone h = nothing

    node_is : IsNodeWith ol or left right (turn_name t) (left_of t) (right_of t) (live_option f)
    node_is = node_part ol or left right (turn_name t) (left_of t) (right_of t) (orderly_left i j t at) (orderly_right i j t at) f fate

    held_is : IsHeldWith ol or left right (turn_name t) (left_of t) (right_of t) (held_option f)
    held_is = held_part' ol or left right (turn_name t) (left_of t) (right_of t) (orderly_left i j t at) (orderly_right i j t at) f fate

  moved_nodes : (a a' b b' : ℕ) → a ≡ a' → b ≡ b' → {out : List Decision} → AreNodesMerged ol or left right a' b' out → AreNodesMerged ol or left right a b out
  moved_nodes a a' b b' e f {out = out} h = subst (λ x. AreNodesMerged ol or left right x b out) (sym e) (subst (λ y. AreNodesMerged ol or left right a' y out) (sym f) h)

  moved_held : (a a' b b' : ℕ) → a ≡ a' → b ≡ b' → {out : List Pending} → AreHeldMerged ol or left right a' b' out → AreHeldMerged ol or left right a b out
  moved_held a a' b b' e f {out = out} h = subst (λ x. AreHeldMerged ol or left right x b out) (sym e) (subst (λ y. AreHeldMerged ol or left right a' y out) (sym f) h)

  -- what a side has, with the marking that stands there
  at_left : (i : ℕ) (k : SideNode) → known_at left i ≡ Some (seen k) → l_of ol or left right k.node.now.name (Some k.node.now) ≡ Some (seen k)
  at_left i k h = ap (paired (Some k.node.now)) (there_at left sl fl i (seen k) h).marking

  at_right : (j : ℕ) (k : SideNode) → known_at right j ≡ Some (seen k) → r_of ol or left right k.node.now.name (Some k.node.now) ≡ Some (seen k)
  at_right j k h = ap (paired (Some k.node.now)) (there_at right sr fr j (seen k) h).marking

  abbrev rl : rises name_cmp (map entry_name left.tree) ≡ true
  rl = names_rise left.tree sl

  abbrev rr : rises name_cmp (map entry_name right.tree) ≡ true
  rr = names_rise right.tree sr

  pub node_step : (i j : ℕ) (nodes : List Decision) (t : Turn) → IsTurn left right i j (Some t) → (f : Fate) → IsFate ol or (turn_name t) (left_of t) (right_of t) f →
      AreNodesMerged ol or left right i j nodes → AreNodesMerged ol or left right (i + (turn_steps t).0) (j + (turn_steps t).1) (nodes ++ live_part f)
  node_step i j nodes (Left k) at f fate m =
      moved_nodes (i + 1) (suc i) (j + 0) j (omega arith) (omega arith)
      (merged_x name_cmp same_name names_total same_name-is same_name-self entry_name entry_name decision_name RN (GoodNode ol or left right) left.tree right.tree rl rr i j nodes m
      k.node.now.name (live_option f) (live_part f) (made_node i j (Left k) at f fate f fate) k.node.now (there_at left sl fl i (seen k) at.0).entry refl at.1
      (subst (λ l. IsNodeWith ol or left right k.node.now.name l None (live_option f)) (sym (at_left i k at.0)) (node_is i j (Left k) at f fate)))
  node_step i j nodes (Right k) at f fate m =
      moved_nodes (i + 0) i (j + 1) (suc j) (omega arith) (omega arith)
      (merged_y name_cmp same_name names_total same_name-is same_name-self entry_name entry_name decision_name RN (GoodNode ol or left right) left.tree right.tree rl rr i j nodes m
      k.node.now.name (live_option f) (live_part f) (made_node i j (Right k) at f fate f fate) k.node.now (there_at right sr fr j (seen k) at.0).entry refl at.1
      (subst (λ r. IsNodeWith ol or left right k.node.now.name None r (live_option f)) (sym (at_right j k at.0)) (node_is i j (Right k) at f fate)))
  node_step i j nodes (Both k n) at f fate m =
      moved_nodes (i + 1) (suc i) (j + 1) (suc j) (omega arith) (omega arith)
      (merged_both name_cmp same_name names_total same_name-is same_name-self entry_name entry_name decision_name RN (GoodNode ol or left right) left.tree right.tree rl rr i j nodes m
      k.node.now.name (live_option f) (live_part f) (made_node i j (Both k n) at f fate f fate) k.node.now n.node.now (there_at left sl fl i (seen k) at.0).entry (there_at right sr fr j (seen n) at.1).entry refl (sym at.2)
      (subst (λ l. IsNodeWith ol or left right k.node.now.name l (r_of ol or left right k.node.now.name (Some n.node.now)) (live_option f)) (sym (at_left i k at.0))
      (subst (λ r. IsNodeWith ol or left right k.node.now.name (Some (seen k)) r (live_option f)) (sym (subst (λ q. r_of ol or left right q (Some n.node.now) ≡ Some (seen n)) (sym at.2) (at_right j n at.1)))
      (node_is i j (Both k n) at f fate))))

  pub held_step : (i j : ℕ) (pending : List Pending) (t : Turn) → IsTurn left right i j (Some t) → (f : Fate) → IsFate ol or (turn_name t) (left_of t) (right_of t) f →
      AreHeldMerged ol or left right i j pending → AreHeldMerged ol or left right (i + (turn_steps t).0) (j + (turn_steps t).1) (pending ++ held_part f)
  held_step i j pending (Left k) at f fate m =
      moved_held (i + 1) (suc i) (j + 0) j (omega arith) (omega arith)
      (merged_x name_cmp same_name names_total same_name-is same_name-self entry_name entry_name pending_name RH (GoodHeld ol or left right) left.tree right.tree rl rr i j pending m
      k.node.now.name (held_option f) (held_part f) (made_held i j (Left k) at f fate f fate) k.node.now (there_at left sl fl i (seen k) at.0).entry refl at.1
      (subst (λ l. IsHeldWith ol or left right k.node.now.name l None (held_option f)) (sym (at_left i k at.0)) (held_is i j (Left k) at f fate)))
  held_step i j pending (Right k) at f fate m =
      moved_held (i + 0) i (j + 1) (suc j) (omega arith) (omega arith)
      (merged_y name_cmp same_name names_total same_name-is same_name-self entry_name entry_name pending_name RH (GoodHeld ol or left right) left.tree right.tree rl rr i j pending m
      k.node.now.name (held_option f) (held_part f) (made_held i j (Right k) at f fate f fate) k.node.now (there_at right sr fr j (seen k) at.0).entry refl at.1
      (subst (λ r. IsHeldWith ol or left right k.node.now.name None r (held_option f)) (sym (at_right j k at.0)) (held_is i j (Right k) at f fate)))
  held_step i j pending (Both k n) at f fate m =
      moved_held (i + 1) (suc i) (j + 1) (suc j) (omega arith) (omega arith)
      (merged_both name_cmp same_name names_total same_name-is same_name-self entry_name entry_name pending_name RH (GoodHeld ol or left right) left.tree right.tree rl rr i j pending m
      k.node.now.name (held_option f) (held_part f) (made_held i j (Both k n) at f fate f fate) k.node.now n.node.now (there_at left sl fl i (seen k) at.0).entry (there_at right sr fr j (seen n) at.1).entry refl (sym at.2)
      (subst (λ l. IsHeldWith ol or left right k.node.now.name l (r_of ol or left right k.node.now.name (Some n.node.now)) (held_option f)) (sym (at_left i k at.0))
      (subst (λ r. IsHeldWith ol or left right k.node.now.name (Some (seen k)) r (held_option f)) (sym (subst (λ q. r_of ol or left right q (Some n.node.now) ≡ Some (seen n)) (sym at.2) (at_right j n at.1)))
      (held_is i j (Both k n) at f fate))))

  pub steps_fit : (i j : ℕ) (t : Turn) → i ≤ length left.tree → j ≤ length right.tree → IsTurn left right i j (Some t) →
      WalkSteps i j (length left.tree) (length right.tree) (turn_steps t).0 (turn_steps t).1
  steps_fit i j (Left k) hi hj at = let h = within left.tree i k.node.now (there_at left sl fl i (seen k) at.0).entry in record { left = omega arith; right = omega arith; some = omega arith }
  steps_fit i j (Right k) hi hj at = let h = within right.tree j k.node.now (there_at right sr fr j (seen k) at.0).entry in record { left = omega arith; right = omega arith; some = omega arith }
  steps_fit i j (Both k n) hi hj at =
      let h = within left.tree i k.node.now (there_at left sl fl i (seen k) at.0).entry in
      let g = within right.tree j n.node.now (there_at right sr fr j (seen n) at.1).entry in
      record { left = omega arith; right = omega arith; some = omega arith }

  module _ (i j : ℕ) (nodes : List Decision) (pending : List Pending) (mn : AreNodesMerged ol or left right i j nodes) (mh : AreHeldMerged ol or left right i j pending)
      (at : IsTurn left right i j None) where
    node_at : (q : NodeName) → IsNodeWith ol or left right q (known_in left q) (known_in right q) (decision_of nodes q)
    node_at = all_merged name_cmp same_name names_total same_name-is same_name-self entry_name entry_name decision_name RN (GoodNode ol or left right) left.tree right.tree i j nodes at.0 at.1 mn

    held_at : (q : NodeName) → IsHeldWith ol or left right q (known_in left q) (known_in right q) (pending_of pending q)
    held_at = all_merged name_cmp same_name names_total same_name-is same_name-self entry_name entry_name pending_name RH (GoodHeld ol or left right) left.tree right.tree i j pending at.0 at.1 mh

    abbrev m : Merge
    m = record { nodes = nodes; pending = pending }

    live_by : (q : NodeName) (o : Option Decision) → IsNodeWith ol or left right q (known_in left q) (known_in right q) o → IsSome o ↔ LivesIn left right ol or q
    live_by q None h = (λ s. absurd cc, λ l. absurd (h l))
    live_by q (Some d) h = (λ s. h.0, λ l. refl)

    scalar_by : (s : Scalar) (v : Verdict) (o : Option Decision) → IsNodeWith ol or left right (node_of s) (known_in left (node_of s)) (known_in right (node_of s)) o →
        (option_and_then (verdict_of s) o ≡ Some v) ↔ (LivesIn left right ol or (node_of s) × IsVerdict ol or (side_of s (known_in left (node_of s))) (side_of s (known_in right (node_of s))) v)
    scalar_by s v None h = (λ e. absurd cc, λ t. absurd (h t.0))
    scalar_by s v (Some d) h = (λ e. (h.0, (h.1.verdicts s refl v).0 e), λ t. (h.1.verdicts s refl v).1 t.1)

    unborn_by : (q : NodeName) (o : Option Decision) → IsNodeWith ol or left right q (known_in left q) (known_in right q) o → (d : Decision) → o ≡ Some d → d.reborn ≡ false
    unborn_by q None h d e = absurd cc
    unborn_by q (Some x) h d e = let g : x ≡ d = cc in subst (λ (z : Decision). z.reborn ≡ false) g h.1.unborn

    held_by : (q : NodeName) (p : Pending) (o : Option Pending) → IsHeldWith ol or left right q (known_in left q) (known_in right q) o →
        (o ≡ Some p) ↔ IsPendingWith ol or q (known_in left q) (known_in right q) p
    held_by q p None h = (λ e. absurd cc, λ is. absurd (h p is))
    held_by q p (Some x) h = (
      λ e. let g : x ≡ p = cc in subst (IsPendingWith ol or q (known_in left q) (known_in right q)) g h,
      λ is. ap Some (one_pending ol or q (known_in left q) (known_in right q) x p h is),
    )

    pub merge_is : IsMergeBySets left right ol or m
    merge_is = record {
      live = λ q. live_by q (decision_of nodes q) (node_at q);
      scalars = λ s v. scalar_by s v (decision_of nodes (node_of s)) (node_at (node_of s));
      unborn = λ q d e. unborn_by q (decision_of nodes q) (node_at q) d e;
      pending = λ q p. held_by q p (pending_of pending q) (held_at q);
    }

    all_good : {X : Type 0} (p : X → Bool) (xs : List X) → ((x : X) → Split xs x → p x ≡ true) → list_all p xs ≡ true
    all_good p [] h = refl
    all_good p (x ∷ xs) h = both_true _ _ (h x (head x xs)) (all_good p xs (λ y s. h y (later x xs y s)))

    same_tests : {X : Type 0} (f g : X → Bool) (xs : List X) → ((x : X) → Split xs x → f x ≡ g x) → map f xs ≡ map g xs
    same_tests f g [] h = refl
    same_tests f g (x ∷ xs) h = λ i. h x (head x xs) i ∷ same_tests f g xs (λ y s. h y (later x xs y s)) i

    apart_by : (q : NodeName) (o : Option Decision) (w : Option Pending) → IsNodeWith ol or left right q (known_in left q) (known_in right q) o → IsHeldWith ol or left right q (known_in left q) (known_in right q) w →
        IsSome o → w ≡ None
    apart_by q None w h k s = absurd cc
    apart_by q (Some d) None h k s = refl
    apart_by q (Some d) (Some p) h k s = absurd (clash (known_in left q) (known_in right q) p h.0 k)
      where
        clash : (l r : Option (Entry × Marking)) (p : Pending) → LivesWith ol or l r → IsPendingWith ol or q l r p → ⊥
        clash (Some a) (Some b) p live is = both_pending ol or q a b p is
        clash (Some a) None _ live (of_left s b x) = b live
        clash None (Some a) _ live (of_right s b x) = b live
        clash None None p live is = live

    pub in_order : IsInOrder m
    in_order = record {
      names = mn.rising;
      keys = all_good has_keys_in_order nodes (λ d s. (mn.good d s).1);
      kinds = same_tests (λ (d : Decision). is_absent d.content) (λ (d : Decision). d.is_dir) nodes (λ d s. (mn.good d s).0);
      pending_names = mh.rising;
      files = all_good is_file_in_order pending (λ p s. mh.good p s);
      apart = λ q s. apart_by q (decision_of nodes q) (pending_of pending q) (node_at q) (held_at q) s;
    }

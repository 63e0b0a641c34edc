-- What a graph says of its own positions it says as a part of a greater one.
use Rattle.std.specs.Prelude.{Contains, slice_get}
use Rattle.std.proofs.Common.{◌≡◌, ◌<◌, ℕ, List, length, map, Option, Some, None, refl, sym, ap, ◌∙◌, subst, arith}
use Rattle.mtn_ancestry.specs.Ancestors.{IsAncestor, ParentsAreEarlier}
use Rattle.mtn_ancestry.specs.Ancestors.IsAncestor.{itself, through}
use Rattle.mtn_ancestry.proofs.Ancestry.{IsAncestor-le}
use Rattle.mtn_history_laws.specs.History.{Revision, parents_at, revision_parents, revision_tree, tree_at, IsGrown}
use Rattle.mtn_history_laws.specs.Scalars.{IsMark, Scalar, Value, value_at, value_in}
use Rattle.mtn_replay.proofs.Places.{within}
use Rattle.mtn_mark_laws.specs.Marks.{IsMarked, IsMarkOf}
use Rattle.mtn_mark_laws.specs.Marks.IsMarked.{fresh, changed, chosen}
use Rattle.mtn_mark_laws.specs.Marks.IsMarkOf.{here, onward}
use Rattle.mtn_renaming.specs.Renaming.{moved, IsPart}
use Rattle.mtn_renaming.proofs.Elements.{contains_map, map_contains}

-- the first n positions of a graph, each with its place in another
pub record Embeds (V : Type 0) (n : ℕ) (ps qs : ℕ → List ℕ) (val wal : ℕ → Option V) (to : ℕ → ℕ) : Type 0 where
  pub parents : (r : ℕ) → r < n → qs (to r) ≡ map to (ps r)
  pub value : (r : ℕ) → r < n → wal (to r) ≡ val r
  pub early : ParentsAreEarlier ps
  pub apart : (j k : ℕ) → j < n → k < n → to j ≡ to k → j ≡ k

module _ {V : Type 0} {n : ℕ} {ps qs : ℕ → List ℕ} {val wal : ℕ → Option V} {to : ℕ → ℕ} (is : Embeds V n ps qs val wal to) where
  parent_within : (r p : ℕ) → r < n → Contains (ps r) p → p < n
  parent_within r p lt c = let before = is.early r p c in omega (arith, before, lt)

  parent_to : (r p : ℕ) → r < n → Contains (ps r) p → Contains (qs (to r)) (to p)
  parent_to r p lt c = subst (λ l. Contains l (to p)) (sym (is.parents r lt)) (contains_map to (ps r) p c)

  parent_of : (r k q : ℕ) → r < n → to r ≡ k → Contains (qs k) q → (p : ℕ) × Contains (ps r) p × (to p ≡ q)
  parent_of r k q lt e c = map_contains to (ps r) q (subst (λ l. Contains l q) (is.parents r lt) (subst (λ x. Contains (qs x) q) (sym e) c))

  pub ancestor_to : (x r : ℕ) → r < n → IsAncestor ps x r → IsAncestor qs (to x) (to r)
  ancestor_to x r lt itself = itself
  ancestor_to x r lt (through {p = p} c a) = through (parent_to r p lt c) (ancestor_to x p (parent_within r p lt c) a)

  -- each ancestor in the greater graph is one of the part
  pub ancestor_of : (y k : ℕ) → IsAncestor qs y k → (r : ℕ) → r < n → to r ≡ k → (x : ℕ) × IsAncestor ps x r × (to x ≡ y)
  ancestor_of y k itself r lt e = (r, itself, e)
  ancestor_of y k (through {p = q} c a) r lt e =
      let p = parent_of r k q lt e c in
      let x = ancestor_of y q a p.0 (parent_within r p.0 lt p.1) p.2 in
      (x.0, through p.1 x.1, x.2)

  value_of : (r k : ℕ) → r < n → to r ≡ k → (o : Option V) → wal k ≡ o → val r ≡ o
  value_of r k lt e o is_o = sym (is.value r lt) ∙ ap wal e ∙ is_o

  pub marked_to : (r : ℕ) → r < n → IsMarked V ps val r → IsMarked V qs wal (to r)
  marked_to r lt (fresh e none) = fresh (is.value r lt ∙ e) (λ q c. let p = parent_of r (to r) q lt refl c in ap wal (sym p.2) ∙ is.value p.0 (parent_within r p.0 lt p.1) ∙ none p.0 p.1)
  marked_to r lt (changed e differ) =
      changed (is.value r lt ∙ e) (λ q w c f. let p = parent_of r (to r) q lt refl c in differ p.0 w p.1 (value_of p.0 q (parent_within r p.0 lt p.1) p.2 (Some w) f))
  marked_to r lt (chosen {p = p} {q = q} {m = m} e cp cq eq ep differ a b k) =
      let lp = parent_within r p lt cp in
      let lq = parent_within r q lt cq in
      let le = IsAncestor-le is.early a in
      let lm : m < n = omega (arith, le, lp) in
      chosen (is.value r lt ∙ e) (parent_to r p lt cp) (parent_to r q lt cq) (is.value q lq ∙ eq) (is.value p lp ∙ ep) differ (ancestor_to m p lp a)
      (λ c. b (let x = ancestor_of (to m) (to q) c q lq refl in let lx = IsAncestor-le is.early x.1 in subst (λ y. IsAncestor ps y q) (is.apart x.0 m (omega (arith, lx, lq)) lm x.2) x.1)) (marked_to m lm k)

  pub marked_of : (k : ℕ) → IsMarked V qs wal k → (r : ℕ) → r < n → to r ≡ k → IsMarked V ps val r
  marked_of k (fresh {v = v} e none) r lt at =
      fresh (value_of r k lt at (Some v) e) (λ p c. sym (is.value p (parent_within r p lt c)) ∙ none (to p) (subst (λ x. Contains (qs x) (to p)) at (parent_to r p lt c)))
  marked_of k (changed {v = v} e differ) r lt at =
      changed (value_of r k lt at (Some v) e) (λ p w c f. differ (to p) w (subst (λ x. Contains (qs x) (to p)) at (parent_to r p lt c)) (is.value p (parent_within r p lt c) ∙ f))
  marked_of k (chosen {p = s} {q = t} {m = m} {v = v} {w = w} e cp cq eq ep differ a b mk) r lt at =
      let p = parent_of r k s lt at cp in
      let q = parent_of r k t lt at cq in
      let lp = parent_within r p.0 lt p.1 in
      let lq = parent_within r q.0 lt q.1 in
      let x = ancestor_of m s a p.0 lp p.2 in
      let le = IsAncestor-le is.early x.1 in
      let lx : x.0 < n = omega (arith, le, lp) in
      chosen (value_of r k lt at (Some v) e) p.1 q.1 (value_of q.0 t lq q.2 (Some v) eq) (value_of p.0 s lp p.2 (Some w) ep) differ x.1
      (λ c. b (subst (λ y. IsAncestor qs y t) x.2 (subst (IsAncestor qs (to x.0)) q.2 (ancestor_to x.0 q.0 lq c)))) (marked_of m mk x.0 lx x.2)

  pub mark_to : (r x : ℕ) → r < n → IsMarkOf V ps val r x → IsMarkOf V qs wal (to r) (to x)
  mark_to r x lt (here k) = here (marked_to r lt k)
  mark_to r x lt (onward {p = p} unmarked c e m) =
      let lp = parent_within r p lt c in
      onward (λ k. unmarked (marked_of (to r) k r lt refl)) (parent_to r p lt c) (is.value p lp ∙ e ∙ sym (is.value r lt)) (mark_to p x lp m)

  -- each mark in the greater graph is one of the part
  pub mark_of : (k y : ℕ) → IsMarkOf V qs wal k y → (r : ℕ) → r < n → to r ≡ k → (x : ℕ) × IsMarkOf V ps val r x × (to x ≡ y)
  mark_of k y (here mk) r lt at = (r, here (marked_of k mk r lt at), at)
  mark_of k y (onward {p = q} unmarked c e m) r lt at =
      let p = parent_of r k q lt at c in
      let lp = parent_within r p.0 lt p.1 in
      let x = mark_of q y m p.0 lp p.2 in
      (x.0, onward (λ mk. unmarked (subst (IsMarked V qs wal) at (marked_to r lt mk))) p.1 (sym (is.value p.0 lp) ∙ ap wal p.2 ∙ e ∙ sym (ap wal at) ∙ is.value r lt) x.1, x.2)

-- a part of a history is a part of its graph
module _ (h g : List Revision) (to : ℕ → ℕ) (part : IsPart h g to) (grown : IsGrown h) where
  part_parents : (r : ℕ) → r < length h → parents_at g (to r) ≡ map to (parents_at h r)
  part_parents r lt = let v = within h r lt in ap revision_parents (part r v.0 v.1) ∙ ap (map to) (sym (ap revision_parents v.1))

  pub part_tree : (r : ℕ) → r < length h → tree_at g (to r) ≡ tree_at h r
  part_tree r lt = let v = within h r lt in ap revision_tree (part r v.0 v.1) ∙ sym (ap revision_tree v.1)

  part_apart : (j k : ℕ) → j < length h → k < length h → to j ≡ to k → j ≡ k
  part_apart j k lj lk e =
      let v = within h j lj in
      let w = within h k lk in
      let both : Some (moved to v.0) ≡ Some (moved to w.0) = sym (part j v.0 v.1) ∙ ap (slice_get g) e ∙ part k w.0 w.1 in
      let one : moved to v.0 ≡ moved to w.0 = cc in
      grown.differ v.0.id j k (v.0, v.1, refl) (w.0, w.1, sym (ap (λ (x : Revision). x.id) one))

  pub embeds : (s : Scalar) → Embeds Value (length h) (parents_at h) (parents_at g) (value_at h s) (value_at g s) to
  embeds s = record {
    parents = part_parents;
    value = λ r lt. ap (λ t. value_in t s) (part_tree r lt);
    early = grown.earlier;
    apart = part_apart;
  }

  abbrev nothing : ℕ → Option ℕ
  nothing r = None

  graph : Embeds ℕ (length h) (parents_at h) (parents_at g) nothing nothing to
  graph = record {
    parents = part_parents;
    value = λ r lt. refl;
    early = grown.earlier;
    apart = part_apart;
  }

  pub part_ancestor : (x r : ℕ) → r < length h → IsAncestor (parents_at h) x r → IsAncestor (parents_at g) (to x) (to r)
  part_ancestor x r lt a = ancestor_to graph x r lt a

  pub own_ancestor : (y r : ℕ) → r < length h → IsAncestor (parents_at g) y (to r) → (x : ℕ) × IsAncestor (parents_at h) x r × (to x ≡ y)
  own_ancestor y r lt a = ancestor_of graph y (to r) a r lt refl

  pub part_mark : (s : Scalar) (r x : ℕ) → r < length h → IsMark h s r x → IsMark g s (to r) (to x)
  part_mark s r x lt m = mark_to (embeds s) r x lt m

  pub own_mark : (s : Scalar) (r y : ℕ) → r < length h → IsMark g s (to r) y → (x : ℕ) × IsMark h s r x × (to x ≡ y)
  own_mark s r y lt m = mark_of (embeds s) (to r) y m r lt refl

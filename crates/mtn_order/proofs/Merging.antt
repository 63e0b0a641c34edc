-- What two revisions decide when they are merged, they decide in another order of the log.
use Rattle.std.specs.Prelude.{if◌then◌else◌}
use Rattle.std.specs.Ordering.{is_lt, ordering_reverse}
use Rattle.std.specs.declared.cmp.Ordering.{Ordering}
use Rattle.std.specs.declared.cmp.Ordering.TheVariants.{Less, Equal, Greater}
use Rattle.std.proofs.Common.{◌≡◌, ℕ, List, [], ◌∷◌, Option, Some, None, refl, sym, ap, ◌∙◌, subst}
use Rattle.mtn_ancestry.specs.Ancestors.{IsAncestor}
use Rattle.mtn_base.proofs.IdOrder.{by_id_total}
use Rattle.mtn_base.proofs.Orders.{exact_bytes}
use Rattle.mtn_base.specs.Ids.{by_id}
use Rattle.mtn_base.specs.declared.id.Id.{Id}
use Rattle.mtn_base.specs.declared.name.NodeName.{NodeName}
use Rattle.mtn_decide.specs.Decisions.{Merge}
use Rattle.mtn_decide.specs.Graph.{IsBornOutside, IsDecided, IsLive, IsLiveWith, IsMergeOf, IsPending}
use Rattle.mtn_decide.specs.Graph.IsDecided.{common, left_alone, right_alone, left_wins, right_wins, clash}
use Rattle.mtn_decide.specs.Graph.IsPending.{of_left, of_right}
use Rattle.mtn_decide.specs.Verdicts.{Verdict}
use Rattle.mtn_decide.specs.declared.decision.Pending.{Pending}
use Rattle.mtn_history_laws.specs.History.{Revision, entry_at, parents_at}
use Rattle.mtn_history_laws.specs.Scalars.{Scalar, Value, node_of, value_at, value_in, WinsAt}
use Rattle.mtn_history_laws.specs.Scalars.Scalar.{ContentOf}
use Rattle.mtn_merging.specs.MergeEdges.{merge_edges}
use Rattle.mtn_between.specs.Between.{between}
use Rattle.mtn_changes.specs.declared.change.Edge.{Edge}
use Rattle.mtn_renaming.proofs.Refusing.{same_parent}
use Rattle.mtn_renaming.proofs.Renamed.{above_from, keeps_wins, place_back, same_tree, turned}
use Rattle.mtn_renaming.specs.Renaming.{IsRenaming}
use Rattle.mtn_roster.specs.Tree.{Tree, entry_of}
use Rattle.mtn_roster.specs.declared.entry.Entry.{Entry}

module _ (h g : List Revision) (to back : ℕ → ℕ) (is : IsRenaming h g to back) where
  outside_there : (r : ℕ) (n : NodeName) → IsBornOutside h r n → IsBornOutside g (to r) n
  outside_there r n out b at above =
      out (back b) (place_back h g to back is n.birth b at) (above_from h g to back is (back b) r (subst (λ x. IsAncestor (parents_at g) x (to r)) (sym (is.here b)) above))

  live_with : (l r : ℕ) (n : NodeName) (e f : Option Entry) → IsLiveWith h l r n e f → IsLiveWith g (to l) (to r) n e f
  live_with l r n (Some e) (Some f) live = tt
  live_with l r n (Some e) None live = outside_there r n live
  live_with l r n None (Some f) live = outside_there l n live
  live_with l r n None None live = live

  same_entry : (r : ℕ) (n : NodeName) → entry_at g (to r) n ≡ entry_at h r n
  same_entry r n = ap (λ t. entry_of t n) (same_tree h g to back is r)

  -- a live node stays live
  kept_live : (l r : ℕ) (n : NodeName) → IsLive h l r n → IsLive g (to l) (to r) n
  kept_live l r n live =
      subst (λ e. IsLiveWith g (to l) (to r) n e (entry_at g (to r) n)) (sym (same_entry l n))
      (subst (λ f. IsLiveWith g (to l) (to r) n (entry_at h l n) f) (sym (same_entry r n)) (live_with l r n (entry_at h l n) (entry_at h r n) live))

  same_value : (s : Scalar) (r : ℕ) → value_at g s (to r) ≡ value_at h s r
  same_value s r = ap (λ t. value_in t s) (same_tree h g to back is r)

  lost : (l r : ℕ) (s : Scalar) → ¬ WinsAt h s l r → ¬ WinsAt g s (to l) (to r)
  lost l r s lose w = lose ((keeps_wins h g to back is s l r).1 w)

  -- a verdict stays
  kept_verdict : (l r : ℕ) (s : Scalar) (v : Verdict) → IsDecided h l r s v → IsDecided g (to l) (to r) s v
  kept_verdict l r s v d = by d
    where
      a : (o : Option Value) → value_at h s l ≡ o → value_at g s (to l) ≡ o
      a o e = same_value s l ∙ e

      b : (o : Option Value) → value_at h s r ≡ o → value_at g s (to r) ≡ o
      b o e = same_value s r ∙ e

      by : {u : Verdict} → IsDecided h l r s u → IsDecided g (to l) (to r) s u
      by (common p q) = common (a _ p) (b _ q)
      by (left_alone p q) = left_alone (a _ p) (b _ q)
      by (right_alone p q) = right_alone (a _ p) (b _ q)
      by (left_wins p q n w) = left_wins (a _ p) (b _ q) n ((keeps_wins h g to back is s l r).0 w)
      by (right_wins p q n m w) = right_wins (a _ p) (b _ q) n (lost l r s m) ((keeps_wins h g to back is s r l).0 w)
      by (clash p q n m k) = clash (a _ p) (b _ q) n (lost l r s m) (lost r l s k)

module _ (h g : List Revision) (to back : ℕ → ℕ) (is : IsRenaming h g to back) where
  live_back : (l r : ℕ) (n : NodeName) → IsLive g (to l) (to r) n → IsLive h l r n
  live_back l r n live =
      subst (λ x. IsLive h x r n) (is.there l) (subst (λ y. IsLive h (back (to l)) y n) (is.there r) (kept_live g h back to (turned h g to back is) (to l) (to r) n live))

  verdict_back : (l r : ℕ) (s : Scalar) (v : Verdict) → IsDecided g (to l) (to r) s v → IsDecided h l r s v
  verdict_back l r s v d =
      subst (λ x. IsDecided h x r s v) (is.there l) (subst (λ y. IsDecided h (back (to l)) y s v) (is.there r) (kept_verdict g h back to (turned h g to back is) (to l) (to r) s v d))

  -- a pending file stays pending
  kept_pending : (l r : ℕ) (n : NodeName) (p : Pending) → IsPending h l r n p → IsPending g (to l) (to r) n p
  kept_pending l r n p pending = by pending
    where
      dead : ¬ IsLive h l r n → ¬ IsLive g (to l) (to r) n
      dead gone live = gone (live_back l r n live)

      by : {q : Pending} → IsPending h l r n q → IsPending g (to l) (to r) n q
      by (of_left e file gone lose) = of_left (same_entry h g to back is l n ∙ e) file (dead gone) (lost h g to back is r l (ContentOf n) lose)
      by (of_right e file gone lose) = of_right (same_entry h g to back is r n ∙ e) file (dead gone) (lost h g to back is l r (ContentOf n) lose)

module _ (h g : List Revision) (to back : ℕ → ℕ) (is : IsRenaming h g to back) where
  pending_back : (l r : ℕ) (n : NodeName) (p : Pending) → IsPending g (to l) (to r) n p → IsPending h l r n p
  pending_back l r n p pending =
      subst (λ x. IsPending h x r n p) (is.there l)
      (subst (λ y. IsPending h (back (to l)) y n p) (is.there r) (kept_pending g h back to (turned h g to back is) (to l) (to r) n p pending))

  -- the decisions of a merge stay
  pub kept_merge : (l r : ℕ) (m : Merge) → IsMergeOf h l r m → IsMergeOf g (to l) (to r) m
  kept_merge l r m of = record {
    live = λ n. (λ d. kept_live h g to back is l r n ((of.live n).0 d), λ live. (of.live n).1 (live_back h g to back is l r n live));
    scalars = λ s v. (
      λ d. let x = (of.scalars s v).0 d in (kept_live h g to back is l r (node_of s) x.0, kept_verdict h g to back is l r s v x.1),
      λ x. (of.scalars s v).1 (live_back h g to back is l r (node_of s) x.0, verdict_back h g to back is l r s v x.1),
    );
    unborn = of.unborn;
    pending = λ n p. (λ d. kept_pending h g to back is l r n p ((of.pending n p).0 d), λ x. (of.pending n p).1 (pending_back l r n p x));
  }

  -- and the edges of the merged revision
  pub same_edges : (a b : Id) (t : Tree) → merge_edges g a b t ≡ merge_edges h a b t
  same_edges a b t =
      let x = (same_parent h g to back is (Some a)).tree in
      let y = (same_parent h g to back is (Some b)).tree in
      λ i. edge a (x i) ∷ edge b (y i) ∷ []
    where
      edge : Id → Tree → Edge
      edge parent old = record { parent = Some parent; changes = between old t }

-- the sides are the same, whichever revision was named first
turn_over : (a b : Id) → by_id b a ≡ ordering_reverse (by_id a b)
turn_over a b = by_id_total.antisymm b a

same_ids : (a b : Id) → by_id a b ≡ Equal → a ≡ b
same_ids a b e = λ i. record { 0 = exact_bytes a.0 b.0 e i }

abbrev pub lesser : Id → Id → Id
lesser a b = if is_lt (by_id b a) then b else a

abbrev pub greater : Id → Id → Id
greater a b = if is_lt (by_id b a) then a else b

by_order : (a b : Id) (o : Ordering) → by_id a b ≡ o → (by_id b a ≡ ordering_reverse o) → (lesser a b ≡ lesser b a) × (greater a b ≡ greater b a)
by_order a b Less e f = (
  ap (λ u. if is_lt u then b else a) f ∙ sym (ap (λ u. if is_lt u then a else b) e),
  ap (λ u. if is_lt u then a else b) f ∙ sym (ap (λ u. if is_lt u then b else a) e),
)
by_order a b Equal e f = let same = same_ids a b e in (
  ap (λ u. if is_lt u then b else a) f ∙ same ∙ sym (ap (λ u. if is_lt u then a else b) e),
  ap (λ u. if is_lt u then a else b) f ∙ sym same ∙ sym (ap (λ u. if is_lt u then b else a) e),
)
by_order a b Greater e f = (
  ap (λ u. if is_lt u then b else a) f ∙ sym (ap (λ u. if is_lt u then a else b) e),
  ap (λ u. if is_lt u then a else b) f ∙ sym (ap (λ u. if is_lt u then b else a) e),
)

pub same_sides : (a b : Id) → (lesser a b ≡ lesser b a) × (greater a b ≡ greater b a)
same_sides a b = by_order a b (by_id a b) refl (turn_over a b)

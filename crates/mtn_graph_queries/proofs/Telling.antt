-- A history and the graph that tells it: places, parents, ancestors.
use Rattle.std.specs.Prelude.{Contains, slice_get, option_map}
use Rattle.std.proofs.Common.{◌≡◌, ◌<◌, ℕ, List, Option, Some, None, length, refl, sym, ap, ◌∙◌, subst}
use Rattle.mtn_base.specs.declared.id.Id.{Id}
use Rattle.mtn_ancestry.specs.Ancestors.{IsAncestor, IsProperAncestor, itself, through}
use Rattle.mtn_ancestry.specs.Log.{id_at, parents_of, IsLog}
use Rattle.mtn_ancestry.specs.declared.pos.LogEntry.{LogEntry}
use Rattle.mtn_history_laws.specs.History.{Revision, parents_at, IsPlaceOf}
use Rattle.mtn_replay.specs.Graphs.{IsGraphOf}
use Rattle.mtn_replay.specs.Making.{place_of}
use Rattle.mtn_replay.proofs.Places.{inside, within, place_has, no_place}
use Rattle.mtn_answers.specs.Queries.{IsAbove, IsProperlyAbove, IsParent}

pub same_ancestors : (f g : ℕ → List ℕ) → ((r : ℕ) → f r ≡ g r) → {a b : ℕ} → IsAncestor f a b → IsAncestor g a b
same_ancestors f g same itself = itself
same_ancestors f g same (through {r = r} {p = p} c above) = through (subst (λ ps. Contains ps p) (same r) c) (same_ancestors f g same above)

-- two revisions at one place are one
pub one_id : (h : List Revision) (x y : Id) (a : ℕ) → IsPlaceOf h x a → IsPlaceOf h y a → x ≡ y
one_id h x y a p q = let same : p.0 ≡ q.0 = (let t = sym p.1 ∙ q.1 in cc) in sym p.2 ∙ ap (λ (r : Revision). r.id) same ∙ q.2

module _ (h : List Revision) (log : List LogEntry) (tells : IsGraphOf h log) where
  pub place_from : (x : Id) (a : ℕ) → id_at log a ≡ Some x → IsPlaceOf h x a
  place_from x a is = by (slice_get log a) refl is
    where
      by : (o : Option LogEntry) → slice_get log a ≡ o → option_map (λ (e : LogEntry). e.id) o ≡ Some x → IsPlaceOf h x a
      by None at e = absurd cc
      by (Some entry) at e =
          let v = within h a (subst (λ n. a < n) tells.long (inside log a entry at)) in
          let same : entry.id ≡ x = cc in
          (v.0, v.1, sym (tells.each a entry v.0 at v.1).0 ∙ same)

  pub place_to : (x : Id) (a : ℕ) → IsPlaceOf h x a → id_at log a ≡ Some x
  place_to x a at =
      let e = within log a (subst (λ n. a < n) (sym tells.long) (inside h a at.0 at.1)) in
      ap (option_map (λ (e : LogEntry). e.id)) e.1 ∙ ap Some ((tells.each a e.0 at.0 e.1 at.1).0 ∙ at.2)

  -- what the graph does not find
  pub found_none : (x : Id) → ((a : ℕ) → id_at log a ≡ Some x → ⊥) → place_of h x ≡ None
  found_none x none = by (place_of h x) refl
    where
      by : (o : Option ℕ) → place_of h x ≡ o → place_of h x ≡ None
      by None at = at
      by (Some a) at = absurd (none a (place_to x a (place_has h x a at)))

  pub same_parents : (r : ℕ) → parents_of log r ≡ parents_at h r
  same_parents r = by (slice_get log r) refl (slice_get h r) refl
    where
      by : (o : Option LogEntry) → slice_get log r ≡ o → (p : Option Revision) → slice_get h r ≡ p → parents_of log r ≡ parents_at h r
      by None at None also = cc
      by None at (Some v) also = absurd (let e = within log r (subst (λ n. r < n) (sym tells.long) (inside h r v also)) in let t : None ≡ Some e.0 = sym at ∙ e.1 in cc)
      by (Some e) at None also = absurd (let v = within h r (subst (λ n. r < n) tells.long (inside log r e at)) in let t : None ≡ Some v.0 = sym also ∙ v.1 in cc)
      by (Some e) at (Some v) also = let same = (tells.each r e v at also).1 in cc

  pub above_to : {a b : ℕ} → IsAncestor (parents_of log) a b → IsAncestor (parents_at h) a b
  above_to = same_ancestors (parents_of log) (parents_at h) same_parents

  pub above_from : {a b : ℕ} → IsAncestor (parents_at h) a b → IsAncestor (parents_of log) a b
  above_from = same_ancestors (parents_at h) (parents_of log) (λ r. sym (same_parents r))

  module _ (is : IsLog log) where
    -- a revision has one place
    pub one_place : (x : Id) (a b : ℕ) → IsPlaceOf h x a → IsPlaceOf h x b → a ≡ b
    one_place x a b p q = is.once x a b (place_to x a p) (place_to x b q)

    pub place_is : (x : Id) (a : ℕ) → IsPlaceOf h x a → place_of h x ≡ Some a
    place_is x a at = by (place_of h x) refl
      where
        by : (o : Option ℕ) → place_of h x ≡ o → place_of h x ≡ Some a
        by None none = absurd (no_place h x none a at)
        by (Some b) some = some ∙ ap Some (one_place x b a (place_has h x b some) at)

    -- ancestors by ids are those by places
    pub above_at : (x r : Id) (a b : ℕ) → IsPlaceOf h x a → IsPlaceOf h r b → IsAncestor (parents_of log) a b → IsAbove h x r
    above_at x r a b p q above = (a, b, p, q, above_to above)

    pub at_above : (x r : Id) (a b : ℕ) → IsPlaceOf h x a → IsPlaceOf h r b → IsAbove h x r → IsAncestor (parents_of log) a b
    at_above x r a b p q t =
        let ea : t.0 ≡ a = one_place x t.0 a t.2 p in
        let eb : t.1 ≡ b = one_place r t.1 b t.3 q in
        above_from (subst (λ k. IsAncestor (parents_at h) k b) ea (subst (λ k. IsAncestor (parents_at h) t.0 k) eb t.4))

    pub properly_at : (x r : Id) (a b : ℕ) → IsPlaceOf h x a → IsPlaceOf h r b → IsProperAncestor (parents_of log) a b → IsProperlyAbove h x r
    properly_at x r a b p q above = (λ e. above.0 (one_place r a b (subst (λ i. IsPlaceOf h i a) e p) q), above_at x r a b p q above.1)

    pub at_properly : (x r : Id) (a b : ℕ) → IsPlaceOf h x a → IsPlaceOf h r b → IsProperlyAbove h x r → IsProperAncestor (parents_of log) a b
    at_properly x r a b p q t = (λ e. t.0 (one_id h x r b (subst (λ k. IsPlaceOf h x k) e p) q), at_above x r a b p q t.1)

    pub parent_at : (x r : Id) (a b : ℕ) → IsPlaceOf h x a → IsPlaceOf h r b → Contains (parents_of log b) a → IsParent h x r
    parent_at x r a b p q c = (a, b, p, q, subst (λ ps. Contains ps a) (same_parents b) c)

    pub at_parent : (x r : Id) (a b : ℕ) → IsPlaceOf h x a → IsPlaceOf h r b → IsParent h x r → Contains (parents_of log b) a
    at_parent x r a b p q t =
        let ea : t.0 ≡ a = one_place x t.0 a t.2 p in
        let eb : t.1 ≡ b = one_place r t.1 b t.3 q in
        subst (λ k. Contains (parents_of log k) a) eb (subst (λ k. Contains (parents_of log t.1) k) ea (subst (λ ps. Contains ps t.0) (sym (same_parents t.1)) t.4))

  -- the parents of a held revision are held, as those of the graph are
  pub held_at : (a : ℕ) → a < length log → (x : Id) × IsPlaceOf h x a
  held_at a lt = let v = within h a (subst (λ n. a < n) tells.long lt) in (v.0.id, (v.0, v.1, refl))

-- Each query's ids by the positions that the graph gives.
use Rattle.std.specs.Prelude.{Contains, slice_get, unwrap_or, ⊤}
use Rattle.std.specs.List.{AllZip, AllByRecursion, cons_option}
use Rattle.std.specs.List.Sorted.{IsStrictlySortedBy}
use Rattle.std.specs.Ordering.{nat_cmp}
use Rattle.std.specs.declared.cmp.Ordering.{Ordering}
use Rattle.std.specs.declared.cmp.Ordering.TheVariants.{Less}
use Rattle.std.proofs.Common.{◌≡◌, ◌≢◌, ◌↔◌, ◌<◌, ◌++◌, ℕ, List, [], ◌∷◌, Option, Some, None, length, refl, sym, ap, ◌∙◌, subst, ⊎_elim, arith}
use Rattle.std.proofs.Math.Decide.{ℕ_discrete}
use Rattle.std.proofs.lemmas.List.Elements.{Contains-push, Contains-append_left, Contains-push_cases}
use Rattle.std.proofs.lemmas.Map.Keys.{sorted_head, sorted_tail, sorted_from_strictly_increasing}
use Rattle.mtn_base.specs.declared.id.Id.{Id}
use Rattle.mtn_ancestry.specs.Ancestors.{IsAncestor, IsProperAncestor, itself, through}
use Rattle.mtn_ancestry.specs.Log.{entry_parents, id_at, parents_of, IsLog}
use Rattle.mtn_ancestry.specs.Sets.{IsAscendingListOf}
use Rattle.mtn_ancestry.specs.declared.pos.LogEntry.{LogEntry}
use Rattle.mtn_ancestry.proofs.Ancestry.{proper_through}
use Rattle.mtn_history_laws.specs.History.{Revision, IsPlaceOf}
use Rattle.mtn_replay.specs.Graphs.{IsGraphOf}
use Rattle.mtn_replay.specs.Making.{place_of}
use Rattle.mtn_replay.proofs.Places.{inside}
use Rattle.mtn_graph_queries.specs.Places.{ids_at}
use Rattle.mtn_base.specs.Lists.{IsListOf}
use Rattle.mtn_answers.specs.Queries.{IsAsked, IsHeld, IsParent, by_place}
use Rattle.mtn_answers.specs.declared.query.Query.TheVariants.{Children, Ancestors, Descendents, CommonAncestors, EraseAncestors, Toposort, AncestryDifference, Leaves, Roots}
use Rattle.mtn_graph_queries.proofs.Placing.{stands, stood}
use Rattle.mtn_base.specs.Ids.{by_id}
use Rattle.mtn_base.proofs.IdOrder.{contains_nil, contains_head, contains_later, contains_cases, each_from}
use Rattle.mtn_answers.proofs.Lists.{each_to, sorted_nil, sorted_cons, listed_by}
use Rattle.mtn_graph_queries.proofs.Telling.{one_id, place_from, place_to, place_is, above_at, at_above, properly_at, at_properly, parent_at, at_parent, held_at}

-- the ids at positions
pub at_id : (log : List LogEntry) (at : List ℕ) (x : Id) → Contains (ids_at log at) x → (a : ℕ) × Contains at a × (id_at log a ≡ Some x)
at_id log [] x c = absurd (contains_nil c)
at_id log (a ∷ at) x c = by (at_id log at x) (id_at log a) refl c
  where
    by : (Contains (ids_at log at) x → (b : ℕ) × Contains at b × (id_at log b ≡ Some x)) → (o : Option Id) → id_at log a ≡ o → Contains (ids_at log (a ∷ at)) x → (b : ℕ) × Contains (a ∷ at) b × (id_at log b ≡ Some x)
    by rest None none d =
        let r = rest (subst (λ o. Contains (cons_option o (ids_at log at)) x) none d) in
        (r.0, contains_later a at r.1, r.2)
    by rest (Some y) some d =
        ⊎_elim (λ e. (a, contains_head a at, some ∙ ap Some e)) (λ f. let r = rest f in (r.0, contains_later a at r.1, r.2))
        (contains_cases y (ids_at log at) x (subst (λ o. Contains (cons_option o (ids_at log at)) x) some d))

also_later : (o : Option Id) (ids : List Id) (x : Id) → Contains ids x → Contains (cons_option o ids) x
also_later None ids x d = d
also_later (Some y) ids x d = contains_later y ids d

pub id_of_at : (log : List LogEntry) (at : List ℕ) (a : ℕ) (x : Id) → Contains at a → id_at log a ≡ Some x → Contains (ids_at log at) x
id_of_at log [] a x c is = absurd (contains_nil c)
id_of_at log (b ∷ at) a x c is = ⊎_elim
    (λ e. subst (λ o. Contains (cons_option o (ids_at log at)) x) (sym (ap (id_at log) e ∙ is)) (contains_head x (ids_at log at)))
    (λ d. also_later (id_at log b) (ids_at log at) x (id_of_at log at a x d is)) (contains_cases b at a c)

module _ (h : List Revision) (log : List LogEntry) (tells : IsGraphOf h log) (is : IsLog log) where
  -- the ids at positions are those with P
  taken : (order : Id → Id → Ordering) (P : Id → Type 0) (found : List ℕ) (ids : List Id) → IsListOf order (Contains (ids_at log found)) ids →
      ((a : ℕ) (x : Id) → Contains found a → IsPlaceOf h x a → P x) → ((x : Id) → P x → (a : ℕ) × Contains found a × IsPlaceOf h x a) → IsListOf order P ids
  taken order P found ids list to from = listed_by order (Contains (ids_at log found)) P ids
      (λ x c. let r = at_id log found x c in to r.0 x r.1 (place_from h log tells x r.0 r.2))
      (λ x p. let r = from x p in id_of_at log found r.0 x r.1 (place_to h log tells x r.0 r.2)) list

  before : (x y : Id) (a b : ℕ) → IsPlaceOf h x a → IsPlaceOf h y b → nat_cmp a b ≡ Less → by_place h x y ≡ Less
  before x y a b p q less =
      ap (λ o. nat_cmp (unwrap_or o (length h)) (unwrap_or (place_of h y) (length h))) (place_is h log tells is x a p) ∙ ap (λ o. nat_cmp a (unwrap_or o (length h))) (place_is h log tells is y b q) ∙ less

  -- ids at ascending positions are in log order
  in_order : (found : List ℕ) → IsStrictlySortedBy nat_cmp found → IsStrictlySortedBy (by_place h) (ids_at log found)
  in_order [] up = sorted_nil (by_place h)
  in_order (a ∷ at) up = by (id_at log a) refl (in_order at (sorted_tail nat_cmp a at up))
    where
      first : (x : Id) → id_at log a ≡ Some x → AllByRecursion (λ y. by_place h x y ≡ Less) (ids_at log at)
      first x some = each_to (λ y. by_place h x y ≡ Less) (ids_at log at) (λ y c. let b = at_id log at y c in
          before x y a b.0 (place_from h log tells x a some) (place_from h log tells y b.0 b.2) (each_from (λ k. nat_cmp a k ≡ Less) at (sorted_head nat_cmp a at up) b.0 b.1))

      by : (o : Option Id) → id_at log a ≡ o → IsStrictlySortedBy (by_place h) (ids_at log at) → IsStrictlySortedBy (by_place h) (ids_at log (a ∷ at))
      by None none rest = subst (λ o. IsStrictlySortedBy (by_place h) (cons_option o (ids_at log at))) (sym none) rest
      by (Some x) some rest = subst (λ o. IsStrictlySortedBy (by_place h) (cons_option o (ids_at log at))) (sym some) (sorted_cons (by_place h) x (ids_at log at) (first x some) rest)

  pub parents_are : (id : Id) (at : ℕ) (ids : List Id) → IsPlaceOf h id at → IsListOf by_id (Contains (ids_at log (parents_of log at))) ids → IsListOf by_id (λ x. IsParent h x id) ids
  parents_are id at ids q list = taken by_id (λ x. IsParent h x id) (parents_of log at) ids list
      (λ a x c p. parent_at h log tells is x id a at p q c)
      (λ x t. (t.0, at_parent h log tells is x id t.0 at t.2 q t, t.2))

  within : (x : Id) (a : ℕ) → IsPlaceOf h x a → a < length log
  within x a p = subst (λ n. a < n) (sym tells.long) (inside h a p.0 p.1)

  pub children_are : (id : Id) (at : ℕ) (found : List ℕ) (ids : List Id) → IsPlaceOf h id at → ((x : ℕ) → Contains found x ↔ ((x < length log) × Contains (parents_of log x) at)) →
      IsListOf by_id (Contains (ids_at log found)) ids → IsListOf by_id (IsAsked h (Children id)) ids
  children_are id at found ids q exact list = taken by_id (IsAsked h (Children id)) found ids list
      (λ a x c p. parent_at h log tells is id x at a q p ((exact a).0 c).1)
      (λ x t. (t.1, (exact t.1).1 (within x t.1 t.3, at_parent h log tells is id x at t.1 q t.3 t), t.3))

  pub ancestors_are : (of : List Id) (at found : List ℕ) (ids : List Id) → AllZip (IsPlaceOf h) of at →
      IsAscendingListOf (λ x. (r : ℕ) × Contains at r × IsProperAncestor (parents_of log) x r) found → IsListOf by_id (Contains (ids_at log found)) ids → IsListOf by_id (IsAsked h (Ancestors of)) ids
  ancestors_are of at found ids zip set list = taken by_id (IsAsked h (Ancestors of)) found ids list
      (λ a x c p. let s = (set.exact a).0 c in let r = stood h of at zip s.0 s.1 in (r.0, r.1, properly_at h log tells is x r.0 a s.0 p r.2 s.2))
      (λ x t. let r = stands h of at zip t.0 t.1 in let p = t.2.1.2 in (t.2.1.0, (set.exact t.2.1.0).1 (r.0, r.1, at_properly h log tells is x t.0 t.2.1.0 r.0 p r.2 t.2), p))

  pub descendents_are : (of : List Id) (at found : List ℕ) (ids : List Id) → AllZip (IsPlaceOf h) of at →
      IsAscendingListOf (λ x. (r : ℕ) × Contains at r × IsProperAncestor (parents_of log) r x) found → IsListOf by_id (Contains (ids_at log found)) ids → IsListOf by_id (IsAsked h (Descendents of)) ids
  descendents_are of at found ids zip set list = taken by_id (IsAsked h (Descendents of)) found ids list
      (λ a x c p. let s = (set.exact a).0 c in let r = stood h of at zip s.0 s.1 in (r.0, r.1, properly_at h log tells is r.0 x s.0 a r.2 p s.2))
      (λ x t. let r = stands h of at zip t.0 t.1 in let p = t.2.1.3 in (t.2.1.1, (set.exact t.2.1.1).1 (r.0, r.1, at_properly h log tells is t.0 x r.0 t.2.1.1 r.2 p t.2), p))

  pub common_are : (of : Id) (first : ℕ) (others : List Id) (at all found : List ℕ) (ids : List Id) → IsPlaceOf h of first → AllZip (IsPlaceOf h) others at → all ≡ at ++ first ∷ [] →
      IsAscendingListOf (λ x. (r : ℕ) → Contains all r → IsAncestor (parents_of log) x r) found → IsListOf by_id (Contains (ids_at log found)) ids → IsListOf by_id (IsAsked h (CommonAncestors of others)) ids
  common_are of first others at all found ids q zip joined set list = taken by_id (IsAsked h (CommonAncestors of others)) found ids list
      (λ a x c p. (
        above_at h log tells is x of a first p q ((set.exact a).0 c first (subst (λ xs. Contains xs first) (sym joined) (Contains-push at first))),
        λ o co. let s = stands h others at zip o co in above_at h log tells is x o a s.0 p s.2 ((set.exact a).0 c s.0 (subst (λ xs. Contains xs s.0) (sym joined) (Contains-append_left at (first ∷ []) s.0 s.1))),
      ))
      (λ x t. let p = t.0.2 in (
        t.0.0,
        (set.exact t.0.0).1 (λ r c. ⊎_elim
            (λ d. let s = stood h others at zip r d in at_above h log tells is x s.0 t.0.0 r p s.2 (t.1 s.0 s.1))
            (λ e. subst (IsAncestor (parents_of log) t.0.0) e (at_above h log tells is x of t.0.0 first p q t.0))
            (Contains-push_cases at first r (subst (λ xs. Contains xs r) joined c))),
        p,
      ))

  pub erased_are : (of : List Id) (at found : List ℕ) (ids : List Id) → AllZip (IsPlaceOf h) of at →
      IsAscendingListOf (λ x. Contains at x × ((r : ℕ) → Contains at r → ¬ IsProperAncestor (parents_of log) x r)) found → IsListOf by_id (Contains (ids_at log found)) ids → IsListOf by_id (IsAsked h (EraseAncestors of)) ids
  erased_are of at found ids zip set list = taken by_id (IsAsked h (EraseAncestors of)) found ids list
      (λ a x c p. let e = (set.exact a).0 c in let s = stood h of at zip a e.0 in (
        subst (Contains of) (one_id h s.0 x a s.2 p) s.1,
        λ r cr above. let t = stands h of at zip r cr in e.1 t.0 t.1 (at_properly h log tells is x r a t.0 p t.2 above),
      ))
      (λ x t. let s = stands h of at zip x t.0 in (s.0, (set.exact s.0).1 (s.1, λ r cr above. let q = stood h of at zip r cr in t.1 q.0 q.1 (properly_at h log tells is x q.0 s.0 r s.2 q.2 above)), s.2))

  pub sorted_are : (of : List Id) (at found : List ℕ) (ids : List Id) → AllZip (IsPlaceOf h) of at → IsAscendingListOf (Contains at) found → ids ≡ ids_at log found →
      IsListOf (by_place h) (IsAsked h (Toposort of)) ids
  sorted_are of at found ids zip set made = subst (IsListOf (by_place h) (IsAsked h (Toposort of))) (sym made)
      (taken (by_place h) (IsAsked h (Toposort of)) found (ids_at log found) (record { ascending = in_order found (sorted_from_strictly_increasing found set.ascending); exact = λ x. (λ c. c, λ c. c) })
      (λ a x c p. let s = stood h of at zip a ((set.exact a).0 c) in subst (Contains of) (one_id h s.0 x a s.2 p) s.1)
      (λ x t. let s = stands h of at zip x t in (s.0, (set.exact s.0).1 s.1, s.2)))

  pub difference_is : (of : Id) (first : ℕ) (others : List Id) (at all given above found : List ℕ) (ids : List Id) → IsPlaceOf h of first → AllZip (IsPlaceOf h) others at →
      IsAscendingListOf (λ x. (r : ℕ) → Contains (first ∷ []) r → IsAncestor (parents_of log) x r) all → IsAscendingListOf (Contains at) given →
      IsAscendingListOf (λ x. (r : ℕ) × Contains at r × IsProperAncestor (parents_of log) x r) above →
      IsAscendingListOf (λ x. Contains all x × ¬ Contains given x × ¬ Contains above x) found → ids ≡ ids_at log found → IsListOf (by_place h) (IsAsked h (AncestryDifference of others)) ids
  difference_is of first others at all given above found ids q zip every some upper set made = subst (IsListOf (by_place h) (IsAsked h (AncestryDifference of others))) (sym made)
      (taken (by_place h) (IsAsked h (AncestryDifference of others)) found (ids_at log found) (record { ascending = in_order found (sorted_from_strictly_increasing found set.ascending); exact = λ x. (λ c. c, λ c. c) })
      (λ a x c p. let e = (set.exact a).0 c in (
        above_at h log tells is x of a first p q ((every.exact a).0 e.0 first (contains_head first [])),
        λ o co ab. let s = stands h others at zip o co in let up = at_above h log tells is x o a s.0 p s.2 ab in
            elim (ℕ_discrete a s.0) [
              | yes same ↦ e.1 ((some.exact a).1 (subst (Contains at) (sym same) s.1))
              | no other ↦ e.2 ((upper.exact a).1 (s.0, s.1, (other, up)))
            ],
      ))
      (λ x t. let p = t.0.2 in (
        t.0.0,
        (set.exact t.0.0).1 (
          (every.exact t.0.0).1 (λ r c. ⊎_elim (λ e. subst (IsAncestor (parents_of log) t.0.0) e (at_above h log tells is x of t.0.0 first p q t.0)) (λ d. absurd (contains_nil d)) (contains_cases first [] r c)),
          λ c. let s = stood h others at zip t.0.0 ((some.exact t.0.0).0 c) in t.1 s.0 s.1 (above_at h log tells is x s.0 t.0.0 t.0.0 p s.2 itself),
          λ c. let e = (upper.exact t.0.0).0 c in let s = stood h others at zip e.0 e.1 in t.1 s.0 s.1 (above_at h log tells is x s.0 t.0.0 e.0 p s.2 e.2.1),
        ),
        p,
      )))

  -- what is an ancestor of another has a child
  child : (a r : ℕ) → IsAncestor (parents_of log) a r → a ≢ r → (k : ℕ) × Contains (parents_of log k) a
  child a r itself other = absurd (other refl)
  child a r (through {p = p} c above) other = elim (ℕ_discrete a p) [
    | yes same ↦ (r, subst (Contains (parents_of log r)) (sym same) c)
    | no differ ↦ child a p above differ
  ]

  has_parents : (k a : ℕ) → Contains (parents_of log k) a → k < length log
  has_parents k a c = by (slice_get log k) refl c
    where
      by : (o : Option LogEntry) → slice_get log k ≡ o → Contains (entry_parents o) a → k < length log
      by None none d = absurd (contains_nil d)
      by (Some e) some d = inside log k e some

  pub leaves_are : (all found : List ℕ) (ids : List Id) → ((x : ℕ) → Contains all x ↔ ((x < length log) × ⊤)) →
      IsAscendingListOf (λ x. Contains all x × ((r : ℕ) → Contains all r → ¬ IsProperAncestor (parents_of log) x r)) found → IsListOf by_id (Contains (ids_at log found)) ids → IsListOf by_id (IsAsked h Leaves) ids
  leaves_are all found ids every set list = taken by_id (IsAsked h Leaves) found ids list
      (λ a x c p. ((a, p), λ y t. ((set.exact a).0 c).1 t.1 ((every t.1).1 (within y t.1 t.3, tt)) (proper_through is.earlier (at_parent h log tells is x y a t.1 p t.3 t) itself)))
      (λ x t. let a = t.0.0 in let p = t.0.1 in (
        a,
        (set.exact a).1 (
          (every a).1 (within x a p, tt),
          λ r cr above.
              let k = child a r above.1 above.0 in let y = held_at h log tells k.0 (has_parents k.0 a k.1) in t.1 y.0 (parent_at h log tells is x y.0 a k.0 p y.1 k.1),
        ),
        p,
      ))

  pub roots_are : (found : List ℕ) (ids : List Id) → ((x : ℕ) → Contains found x ↔ ((x < length log) × (parents_of log x ≡ []))) → IsListOf by_id (Contains (ids_at log found)) ids →
      IsListOf by_id (IsAsked h Roots) ids
  roots_are found ids exact list = taken by_id (IsAsked h Roots) found ids list
      (λ a x c p. ((a, p), λ y t. contains_nil (subst (λ ps. Contains ps t.0) ((exact a).0 c).1 (at_parent h log tells is y x t.0 a t.2 p t))))
      (λ x t. (t.0.0, (exact t.0.0).1 (within x t.0.0 t.0.1, none x t.0.0 t.0.1 (parents_of log t.0.0) refl t.1), t.0.1))
    where
      none : (x : Id) (a : ℕ) → IsPlaceOf h x a → (ps : List ℕ) → parents_of log a ≡ ps → ((y : Id) → ¬ IsParent h y x) → parents_of log a ≡ []
      none x a p [] e no_parent = e
      none x a p (b ∷ ps) e no_parent =
          let c : Contains (parents_of log a) b = subst (λ xs. Contains xs b) (sym e) (contains_head b ps) in
          let earlier = is.earlier a b c in let inside_log = within x a p in
          let y = held_at h log tells b (omega (arith, earlier, inside_log)) in
          absurd (no_parent y.0 (parent_at h log tells is y.0 x b a y.1 p c))

  pub all_are : (all : List ℕ) (ids : List Id) → ((x : ℕ) → Contains all x ↔ ((x < length log) × ⊤)) → IsListOf by_id (Contains (ids_at log all)) ids → IsListOf by_id (IsHeld h) ids
  all_are all ids every list = taken by_id (IsHeld h) all ids list (λ a x c p. (a, p)) (λ x t. (t.0, (every t.0).1 (within x t.0 t.1, tt), t.1))

-- What one revision has at or above it that another has not, in the order of the log.
use Rattle.std.specs.Prelude.{All, Contains, max}
use Rattle.std.proofs.Common.{◌≡◌, ◌≤◌, ◌+◌, ◌-◌, ℕ, List, [], ◌∷◌, length, Some, Ok, inl, subst, ⊎_elim}
use Rattle.std.proofs.lemmas.Map.Keys.{sorted_from_strictly_increasing}
use Rattle.mtn_ancestry.specs.Ancestors.{IsAncestor, IsUncommon, ReachesFrom}
use Rattle.mtn_ancestry.specs.Sets.{IsAscendingListOf}
use Rattle.mtn_answers.proofs.Lists.{listed_by}
use Rattle.mtn_answers.specs.Queries.{IsAbove, by_place}
use Rattle.mtn_answers.specs.declared.query.Query.TheVariants.{AncestryDifference}
use Rattle.mtn_base.proofs.IdOrder.{contains_cases, contains_head, contains_nil}
use Rattle.mtn_base.specs.declared.id.Id.{Id}
use Rattle.mtn_graph_queries.proofs.Placing.{all_known, stands, stood}
use Rattle.mtn_graph_queries.proofs.Telling.{one_id}
use Rattle.mtn_history_laws.specs.History.{IsGrown, IsPlaceOf, Revision, parents_at}
use Rattle.mtn_replay.proofs.Places.{place_has}
use Rattle.mtn_replay.specs.Making.{place_of}
use Rattle.mtn_near_queries.specs.Finding.{AreBetween, AreNamedAt, FindsAnswer}
use Rattle.mtn_near_queries.proofs.Listing.{flipped, in_log_order, no_more}

-- the positions that one has alone are no more than those that the walk may come to
pub alone : (parents : ℕ → List ℕ) (left right low : ℕ) (found : List ℕ) → ReachesFrom parents left right low → IsAscendingListOf (IsUncommon parents left right) found →
    ((x : ℕ) → Contains found x → x ≤ max left right) → length found ≤ max left right + 1 - low
alone parents left right low found reaches set below =
    no_more low (max left right) found (sorted_from_strictly_increasing found set.ascending)
    (λ x c. (reaches.uncommon x (inl ((set.exact x).0 c)), below x c))

pub by_contains : (most : ℕ) (xs : List ℕ) → All (λ x. x ≤ most) xs → (x : ℕ) → Contains xs x → x ≤ most
by_contains most xs all x c = subst (λ y. y ≤ most) c.2 (all c.0 x c.1)

module _ (h : List Revision) (grown : IsGrown h) where
  pub between_are : (left right : ℕ) (found : List ℕ) (ids : List Id) → IsAscendingListOf (IsUncommon (parents_at h) left right) found → AreNamedAt h found ids → AreBetween h left right ids
  between_are left right found ids set named =
      let zip = flipped (λ at id. IsPlaceOf h id at) found ids named in
      record {
        ascending = in_log_order h grown found ids (sorted_from_strictly_increasing found set.ascending) named;
        exact = λ x. (
          λ c. let s = stands h ids found zip x c in (s.0, (set.exact s.0).0 s.1, s.2),
          λ t. let s = stood h ids found zip t.0 ((set.exact t.0).1 t.1) in subst (Contains ids) (one_id h s.0 x t.0 s.2 t.2) s.1,
        );
      }

  -- they are the answer of the query
  pub difference_found : (of without : Id) (left right : ℕ) (ids : List Id) → place_of h of ≡ Some left → place_of h without ≡ Some right → AreBetween h left right ids →
      FindsAnswer h (AncestryDifference of (without ∷ [])) (Ok ids)
  difference_found of without left right ids at there list =
      let p = place_has h of left at in
      let q = place_has h without right there in (
        all_known h (of ∷ without ∷ []) (left ∷ right ∷ []) (p, (q, tt)),
        listed_by (by_place h) (λ x. (a : ℕ) × IsUncommon (parents_at h) left right a × IsPlaceOf h x a)
            (λ x. IsAbove h x of × ((o : Id) → Contains (without ∷ []) o → ¬ IsAbove h x o)) ids
            (λ x t. (
              (t.0, left, t.2, p, t.1.0),
              λ o c up. t.1.1 (above_both x o t.0 right t.2 (subst (λ z. IsPlaceOf h z right) (the_one o c) q) up),
            ))
            (λ x t. (
              t.0.0,
              (subst (IsAncestor (parents_at h) t.0.0) (grown.differ of t.0.1 left t.0.3 p) t.0.4, λ up. t.1 without (contains_head without []) (t.0.0, right, t.0.2, q, up)),
              t.0.2,
            ))
            list,
      )
    where
      the_one : (o : Id) → Contains (without ∷ []) o → without ≡ o
      the_one o c = ⊎_elim (λ e. e) (λ d. absurd (contains_nil d)) (contains_cases without [] o c)

      above_both : (x o : Id) (a b : ℕ) → IsPlaceOf h x a → IsPlaceOf h o b → IsAbove h x o → IsAncestor (parents_at h) a b
      above_both x o a b px po up =
          subst (λ m. IsAncestor (parents_at h) m b) (grown.differ x up.0 a up.2 px)
          (subst (IsAncestor (parents_at h) up.0) (grown.differ o up.1 b up.3 po) up.4)

  -- a revision stands at one place
  pub same_place : (x : Id) (a b : ℕ) → place_of h x ≡ Some a → IsPlaceOf h x b → b ≡ a
  same_place x a b is at = grown.differ x b a at (place_has h x a is)

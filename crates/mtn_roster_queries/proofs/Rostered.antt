-- The ids of all marks of a roster.
use Rattle.std.specs.Prelude.{Contains, filter_map, unwrap_or}
use Rattle.std.specs.List.{AllZip}
use Rattle.std.proofs.Common.{◌≡◌, ◌↔◌, ◌<◌, ℕ, List, [], Option, Some, None, Ok, length, refl, sym, ap, ◌∙◌, subst}
use Rattle.mtn_base.specs.declared.id.Id.{Id}
use Rattle.mtn_basic_io.specs.Spelling.{spelling}
use Rattle.mtn_history_laws.specs.History.{Revision, IsPlaceOf}
use Rattle.mtn_history_laws.specs.Scalars.{Scalar, IsMark}
use Rattle.mtn_base.proofs.IdOrder.{contains_nil, contains_split, in_order_ascends, in_order_same, split_contains}
use Rattle.mtn_replay.specs.Making.{place_of}
use Rattle.mtn_marking.specs.Graph.{AreMarksOf, IsMarkedAt}
use Rattle.mtn_marking.specs.Marking.{MarkedTree, marks_in}
use Rattle.mtn_roster.specs.Tree.{Tree}
use Rattle.mtn_base.proofs.Members.{in_filter_map, of_filter_map}
use Rattle.mtn_roster_text.specs.Naming.{id_at, ids_at, ids_in, table_of}
use Rattle.mtn_roster_text.specs.Positions.{IsMarkIn}
use Rattle.mtn_roster_text.specs.RosterText.{roster_of}
use Rattle.mtn_roster_text.proofs.Tables.{named, named_so}
use Rattle.mtn_answers.specs.Views.{AreMarkIds, IsRoster, IsRosterIn}
use Rattle.mtn_roster_queries.proofs.Marking.{mark_there, never_marked, one_id}
use Rattle.mtn_roster_queries.proofs.Views.{answer_at}

module _ (h : List Revision) (r : ℕ) (t : MarkedTree) (marked : IsMarkedAt h r t) where
  marks_there : (s : Scalar) (set : List ℕ) → marks_in t.marks s ≡ Some set → (x : ℕ) → Contains set x ↔ IsMark h s r x
  marks_there s set is = (subst (AreMarksOf h r s) is (marked.marks s)).1

  -- each position that the marks name stands in the history
  pub roster_held : (places : List ℕ) → ((x : ℕ) → Contains places x ↔ IsMarkIn t.marks x) → (x : ℕ) → Contains places x → x < length h
  roster_held places exact x c = let m = (exact x).0 c in mark_there h m.0 r x ((marks_there m.0 m.1 m.2 x).0 m.3)

  module _ (places : List ℕ) (ids : List Id) (exact : (x : ℕ) → Contains places x ↔ IsMarkIn t.marks x) (zip : AllZip (λ a x. IsPlaceOf h x a) places ids) where
    ids_there : (s : Scalar) (o : Option (List ℕ)) → marks_in t.marks s ≡ o → AreMarkIds h r s (ids_at (table_of places ids) (unwrap_or o []))
    ids_there s None is = record {
      ascending = in_order_ascends [];
      exact = λ x. (λ c. absurd (contains_nil c), λ m. absurd (never_marked m.2 (subst (AreMarksOf h r s) is (marked.marks s))));
    }
    ids_there s (Some set) is =
        let table = table_of places ids in
        let found : List Id = filter_map (id_at table) set in
        record {
          ascending = in_order_ascends found;
          exact = λ x. (
            λ c. let a = of_filter_map (id_at table) set x (contains_split found x ((in_order_same found x).0 c)) in
                (a.0, named_so (λ m y. IsPlaceOf h y m) places ids zip a.0 x a.2, (marks_there s set is a.0).0 (split_contains set a.0 a.1)),
            λ m. let at = (marks_there s set is m.0).1 m.2 in
                let y = named (λ m y. IsPlaceOf h y m) places ids zip m.0 ((exact m.0).1 (s, set, is, at)) in
                let same : y.0 ≡ x = one_id h y.0 x m.0 (named_so (λ m y. IsPlaceOf h y m) places ids zip m.0 y.0 y.1) m.1 in
                (in_order_same found x).1 (subst (Contains found) same (split_contains found y.0 (in_filter_map (id_at table) set m.0 y.0 (contains_split set m.0 at) y.1))),
          );
        }

    -- the text is the roster of the revision
    pub roster_answer : (id : Id) (text : List ℕ) → place_of h id ≡ Some r → text ≡ spelling (roster_of t.tree (ids_in (table_of places ids) t.marks)) → IsRoster h id (Ok text)
    roster_answer id text place is =
        let all = ids_in (table_of places ids) t.marks in
        answer_at h id (IsRosterIn h id) r (Ok text) place (all, λ s. ids_there s (marks_in t.marks s) refl, ap Ok (is ∙ ap (λ (u : Tree). spelling (roster_of u all)) (sym marked.tree)))

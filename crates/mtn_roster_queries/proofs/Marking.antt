-- Marks and the ids of their revisions.
use Rattle.std.specs.Prelude.{Contains, option_map, option_and_then, IsSome, reverse}
use Rattle.std.specs.List.{AllZip}
use Rattle.std.specs.List.Sorted.{IsStrictlySortedBy}
use Rattle.std.proofs.Common.{◌≡◌, ◌↔◌, ◌<◌, ℕ, List, [], ◌∷◌, Option, Some, None, Result, Ok, Err, length, sym, ap, ◌∙◌, subst, ⊎_elim}
use Rattle.mtn_base.specs.declared.id.Id.{Id}
use Rattle.mtn_base.specs.declared.name.NodeName.{NodeName}
use Rattle.mtn_base.specs.declared.refusal.Cause.TheVariants.{NoSuchPath, NotAFile}
use Rattle.mtn_history_laws.specs.History.{Revision, tree_at, IsPlaceOf}
use Rattle.mtn_history_laws.specs.Scalars.{Scalar, Value, IsMark, content_of, value_at, value_of, value_in}
use Rattle.mtn_history_laws.specs.Scalars.Scalar.{ContentOf}
use Rattle.mtn_history_laws.specs.Scalars.Value.{ContentValue}
use Rattle.mtn_base.specs.Ids.{by_id}
use Rattle.mtn_base.proofs.IdOrder.{contains_nil, contains_head, contains_later, contains_cases}
use Rattle.mtn_replay.proofs.Places.{inside}
use Rattle.mtn_marking.specs.Graph.{AreMarksOf, IsMarkedAt}
use Rattle.mtn_marking.specs.Marking.{MarkedTree, marks_in}
use Rattle.mtn_mark_laws.specs.Marks.{IsMarkOf, here, onward}
use Rattle.mtn_roster.specs.declared.entry.Body.{Body}
use Rattle.mtn_roster.specs.declared.entry.Body.TheVariants.{Dir, File}
use Rattle.mtn_roster.specs.declared.entry.Entry.{Entry}
use Rattle.mtn_roster.specs.Tree.{Tree, IsSane, entry_of, node_at}
use Rattle.mtn_roster.proofs.Forest.{node_there}
use Rattle.mtn_roster.proofs.Ordered.{forest_of}
use Rattle.mtn_roster_queries.specs.Marks.{AreContentMarks, AreMarksFor}
use Rattle.mtn_answers.specs.Views.{AreMarkIds}
use Rattle.mtn_answers.proofs.Marks.{event_value, mark_placed}

-- two revisions at one place are one
pub one_id : (h : List Revision) (x y : Id) (a : ℕ) → IsPlaceOf h x a → IsPlaceOf h y a → x ≡ y
one_id h x y a p q = let same : p.0 ≡ q.0 = let t = sym p.1 ∙ q.1 in cc in sym p.2 ∙ ap (λ (v : Revision). v.id) same ∙ q.2

module _ (h : List Revision) where
  -- each position has an id, and each id a position
  stands : (at : List ℕ) (ids : List Id) → AllZip (λ a x. IsPlaceOf h x a) at ids → (x : Id) → Contains ids x → (a : ℕ) × Contains at a × IsPlaceOf h x a
  stands at [] zip x c = absurd (contains_nil c)
  stands [] (y ∷ ids) zip x c = absurd zip
  stands (a ∷ at) (y ∷ ids) zip x c = ⊎_elim (λ e. (a, contains_head a at, subst (λ z. IsPlaceOf h z a) e zip.0)) (λ d. let s = stands at ids zip.1 x d in (s.0, contains_later a at s.1, s.2)) (contains_cases y ids x c)

  stood : (at : List ℕ) (ids : List Id) → AllZip (λ a x. IsPlaceOf h x a) at ids → (a : ℕ) → Contains at a → (x : Id) × Contains ids x × IsPlaceOf h x a
  stood [] ids zip a c = absurd (contains_nil c)
  stood (b ∷ at) [] zip a c = absurd zip
  stood (b ∷ at) (y ∷ ids) zip a c = ⊎_elim (λ e. (y, contains_head y ids, subst (IsPlaceOf h y) e zip.0)) (λ d. let s = stood at ids zip.1 a d in (s.0, contains_later y ids s.1, s.2)) (contains_cases b at a c)

  -- the ids of the positions of a scalar's marks, in their order
  pub are_mark_ids : (r : ℕ) (s : Scalar) (marks : List ℕ) (ids once : List Id) → ((x : ℕ) → Contains marks x ↔ IsMark h s r x) → AllZip (λ a x. IsPlaceOf h x a) marks ids →
      IsStrictlySortedBy by_id once → ((x : Id) → Contains once x ↔ Contains ids x) → AreMarkIds h r s once
  are_mark_ids r s marks ids once marked zip up same = record {
    ascending = up;
    exact = λ x. (
      λ c. let a = stands marks ids zip x ((same x).0 c) in (a.0, a.2, (marked a.0).0 a.1),
      λ m. let y = stood marks ids zip m.0 ((marked m.0).1 m.2) in (same x).1 (subst (Contains ids) (one_id h y.0 x m.0 y.2 m.1) y.1),
    );
  }

pub mark_there : (h : List Revision) (s : Scalar) (r x : ℕ) → IsMark h s r x → x < length h
mark_there h s r x m = let place = (mark_placed h s r x m).1 in inside h x place.0 place.1

-- a scalar that is not there has no marks
pub never_marked : {parents : ℕ → List ℕ} {value : ℕ → Option Value} {r x : ℕ} → IsMarkOf Value parents value r x → value r ≡ None → ⊥
never_marked (here m) none = let v = event_value m in absurd (let is = sym none ∙ v.1 in cc)
never_marked (onward quiet c same m) none = never_marked m (same ∙ none)

none_some : (o : Option Value) → IsSome o → o ≡ None → ⊥
none_some None some none = cc
none_some (Some v) some none = cc

-- the marks of a content
module _ (h : List Revision) (r : ℕ) (t : MarkedTree) (marked : IsMarkedAt h r t) (path : List (List ℕ)) where
  as_there : (o : Option Entry) (found : Result (List ℕ) _) → node_at t.tree path ≡ o → AreMarksFor h r path o found → AreMarksFor h r path (node_at (tree_at h r) path) found
  as_there o found is marks = subst (λ q. AreMarksFor h r path q found) (sym (ap (λ (u : Tree). node_at u path) marked.tree ∙ is)) marks

  pub no_node : (given : List (List ℕ)) → given ≡ path → node_at t.tree path ≡ None → AreMarksFor h r path (node_at (tree_at h r) path) (Err (NoSuchPath given))
  no_node given same none = as_there None (Err (NoSuchPath given)) none (ap (λ p. Err (NoSuchPath p)) same)

  -- the value of the content of the node there
  value_there : (e : Entry) → IsSane t.tree → node_at t.tree path ≡ Some e → value_at h (ContentOf e.name) r ≡ option_map ContentValue (content_of e.body)
  value_there e sane at =
      let there : entry_of t.tree e.name ≡ Some e = node_there t.tree (forest_of t.tree sane) (reverse path) e at in
      ap (λ (u : Tree). value_in u (ContentOf e.name)) marked.tree ∙ ap (option_and_then (value_of (ContentOf e.name))) there

  by_body : (n : NodeName) (b : Body) (marks : List ℕ) → value_at h (ContentOf n) r ≡ option_map ContentValue (content_of b) → AreMarksOf h r (ContentOf n) (Some marks) → AreContentMarks h r path n b (Ok marks)
  by_body n Dir marks value are = absurd (none_some (value_at h (ContentOf n) r) are.0 value)
  by_body n (File content) marks value are = are.1

  pub of_file : (e : Entry) (marks : List ℕ) → IsSane t.tree → node_at t.tree path ≡ Some e → marks_in t.marks (ContentOf e.name) ≡ Some marks → AreMarksFor h r path (node_at (tree_at h r) path) (Ok marks)
  of_file e marks sane at is =
      as_there (Some e) (Ok marks) at (by_body e.name e.body marks (value_there e sane at) (subst (AreMarksOf h r (ContentOf e.name)) is (marked.marks (ContentOf e.name))))

  no_content : (n : NodeName) (b : Body) (given : List (List ℕ)) → given ≡ path → value_at h (ContentOf n) r ≡ option_map ContentValue (content_of b) → value_at h (ContentOf n) r ≡ None → AreContentMarks h r path n b (Err (NotAFile given))
  no_content n Dir given same value none = ap (λ p. Err (NotAFile p)) same
  no_content n (File content) given same value none = absurd (let both : None ≡ Some (ContentValue content) = sym none ∙ value in cc)

  pub of_directory : (e : Entry) (given : List (List ℕ)) → given ≡ path → IsSane t.tree → node_at t.tree path ≡ Some e → marks_in t.marks (ContentOf e.name) ≡ None → AreMarksFor h r path (node_at (tree_at h r) path) (Err (NotAFile given))
  of_directory e given same sane at is =
      as_there (Some e) (Err (NotAFile given)) at (no_content e.name e.body given same (value_there e sane at) (subst (AreMarksOf h r (ContentOf e.name)) is (marked.marks (ContentOf e.name))))

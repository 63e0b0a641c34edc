-- A question has one answer over a history.
use Rattle.std.proofs.Common.{◌≡◌, ℕ, List, Option, Some, None, Ok, sym, ap, ◌∙◌}
use Rattle.mtn_base.specs.declared.id.Id.{Id}
use Rattle.mtn_base.specs.declared.name.NodeName.{NodeName}
use Rattle.mtn_basic_io.specs.Spelling.{spelling}
use Rattle.mtn_history_laws.specs.History.{Revision, tree_at}
use Rattle.mtn_history_laws.specs.Scalars.{Scalar}
use Rattle.mtn_history_laws.specs.Scalars.Scalar.{ContentOf}
use Rattle.mtn_base.proofs.IdOrder.{one_list_of}
use Rattle.mtn_replay.specs.Making.{place_of}
use Rattle.mtn_roster.specs.declared.entry.Body.{Body}
use Rattle.mtn_roster.specs.declared.entry.Body.TheVariants.{Dir, File}
use Rattle.mtn_roster.specs.declared.entry.Entry.{Entry}
use Rattle.mtn_roster.specs.Tree.{node_at}
use Rattle.mtn_roster_text.specs.RosterText.{roster_of}
use Rattle.mtn_answers.specs.Views.{TextAnswer, AreMarkIds, IsContentAt, IsContentChanged, IsContentIn, IsContentOf, IsRoster, IsRosterIn, marks_text}

-- the ids of a scalar's marks are one list
pub one_ids : (h : List Revision) (r : ℕ) (s : Scalar) (a b : List Id) → AreMarkIds h r s a → AreMarkIds h r s b → a ≡ b
one_ids h r s a b x y = one_list_of a b x.ascending y.ascending (λ z c. (y.exact z).1 ((x.exact z).0 c)) (λ z c. (x.exact z).1 ((y.exact z).0 c))

module _ (h : List Revision) (id : Id) (path : List (List ℕ)) (a b : TextAnswer) where
  of_body : (r : ℕ) (n : NodeName) (body : Body) → IsContentOf h r path n body a → IsContentOf h r path n body b → a ≡ b
  of_body r n Dir x y = x ∙ sym y
  of_body r n (File content) x y = x.2 ∙ ap (λ (l : List Id). Ok (marks_text l)) (one_ids h r (ContentOf n) x.0 y.0 x.1 y.1) ∙ sym y.2

  of_node : (r : ℕ) (o : Option Entry) → IsContentAt h r path o a → IsContentAt h r path o b → a ≡ b
  of_node r None x y = x ∙ sym y
  of_node r (Some e) x y = of_body r e.name e.body x y

  of_place : (o : Option ℕ) → IsContentIn h id path o a → IsContentIn h id path o b → a ≡ b
  of_place None x y = x ∙ sym y
  of_place (Some r) x y = of_node r (node_at (tree_at h r) path) x y

  pub one_content : IsContentChanged h id path a → IsContentChanged h id path b → a ≡ b
  one_content x y = of_place (place_of h id) x y

module _ (h : List Revision) (id : Id) (a b : TextAnswer) where
  -- the ids of all marks are one function
  of_revision : (o : Option ℕ) → IsRosterIn h id o a → IsRosterIn h id o b → a ≡ b
  of_revision None x y = x ∙ sym y
  of_revision (Some r) x y =
      let same : x.0 ≡ y.0 = λ i s. one_ids h r s (x.0 s) (y.0 s) (x.1 s) (y.1 s) i in
      x.2 ∙ ap (λ (ids : Scalar → List Id). Ok (spelling (roster_of (tree_at h r) ids))) same ∙ sym y.2

  pub one_roster : IsRoster h id a → IsRoster h id b → a ≡ b
  one_roster x y = of_revision (place_of h id) x y

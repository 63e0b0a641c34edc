-- An answer about a history is one about the same history in another order.
use Rattle.std.specs.Prelude.{option_map}
use Rattle.std.proofs.Common.{◌≡◌, ℕ, List, Option, Some, None, Ok, refl, sym, ap, ◌∙◌, subst}
use Rattle.mtn_base.specs.declared.id.Id.{Id}
use Rattle.mtn_base.specs.declared.name.NodeName.{NodeName}
use Rattle.mtn_base.specs.declared.refusal.Cause.{Cause}
use Rattle.mtn_base.specs.declared.refusal.Cause.TheVariants.{NoSuchPath, UnknownRevision}
use Rattle.mtn_basic_io.specs.Spelling.{spelling}
use Rattle.mtn_history_laws.specs.History.{Revision, tree_at}
use Rattle.mtn_history_laws.specs.Scalars.{IsMark, Scalar}
use Rattle.mtn_replay.specs.Making.{place_of}
use Rattle.mtn_manifest.specs.Manifest.{manifest_of}
use Rattle.mtn_renaming.specs.Renaming.{IsRenaming}
use Rattle.mtn_renaming.proofs.Refusing.{same_place}
use Rattle.mtn_renaming.proofs.Renamed.{keeps_marks, place_back, place_to, same_tree}
use Rattle.mtn_roster.specs.declared.entry.Body.{Body}
use Rattle.mtn_roster.specs.declared.entry.Body.TheVariants.{Dir, File}
use Rattle.mtn_roster.specs.declared.entry.Entry.{Entry}
use Rattle.mtn_roster.specs.Tree.{Tree, node_at}
use Rattle.mtn_roster_text.specs.RosterText.{roster_of}
use Rattle.mtn_answers.specs.Views.{TextAnswer, over, corresponding_at, manifest_at, node_text, AreMarkIds, IsContentAt, IsContentChanged, IsContentIn, IsContentOf, IsRoster, IsRosterIn}

over_there : {A B : Type 0} (cause : Cause) (to : A → B) (o : Option A) (k : A → TextAnswer) (m : B → TextAnswer) → ((a : A) → m (to a) ≡ k a) → over cause (option_map to o) m ≡ over cause o k
over_there cause to None k m same = refl
over_there cause to (Some a) k m same = same a

module _ (h g : List Revision) (to back : ℕ → ℕ) (is : IsRenaming h g to back) where
  pub same_manifest : (id : Id) → manifest_at g id ≡ manifest_at h id
  same_manifest id =
      ap (λ o. over (UnknownRevision id) o (λ r. Ok (spelling (manifest_of (tree_at g r))))) (same_place h g to back is id)
      ∙ over_there (UnknownRevision id) to (place_of h id) (λ r. Ok (spelling (manifest_of (tree_at h r)))) (λ r. Ok (spelling (manifest_of (tree_at g r))))
      (λ r. ap (λ t. Ok (spelling (manifest_of t))) (same_tree h g to back is r))

  -- where a node stands, given both trees
  abbrev node_in : List (List ℕ) → Tree → Tree → TextAnswer
  node_in path t u = over (NoSuchPath path) (node_at t path) (λ e. Ok (node_text u e.name))

  abbrev second : List Revision → List (List ℕ) → Id → ℕ → TextAnswer
  second x path other r = over (UnknownRevision other) (place_of x other) (λ q. node_in path (tree_at x r) (tree_at x q))

  same_second : (path : List (List ℕ)) (other : Id) (r : ℕ) → second g path other (to r) ≡ second h path other r
  same_second path other r =
      ap (λ o. over (UnknownRevision other) o (λ q. node_in path (tree_at g (to r)) (tree_at g q))) (same_place h g to back is other)
      ∙ over_there (UnknownRevision other) to (place_of h other) (λ q. node_in path (tree_at h r) (tree_at h q)) (λ q. node_in path (tree_at g (to r)) (tree_at g q))
      (λ q. let t = same_tree h g to back is r in let u = same_tree h g to back is q in λ i. node_in path (t i) (u i))

  pub same_corresponding : (id : Id) (path : List (List ℕ)) (other : Id) → corresponding_at g id path other ≡ corresponding_at h id path other
  same_corresponding id path other =
      ap (λ o. over (UnknownRevision id) o (second g path other)) (same_place h g to back is id)
      ∙ over_there (UnknownRevision id) to (place_of h id) (second h path other) (second g path other) (same_second path other)

  pub kept_ids : (r : ℕ) (s : Scalar) (ids : List Id) → AreMarkIds h r s ids → AreMarkIds g (to r) s ids
  kept_ids r s ids are = record {
    ascending = are.ascending;
    exact = λ x. (
      λ c. let m = (are.exact x).0 c in (to m.0, place_to h g to back is x m.0 m.1, (keeps_marks h g to back is s r m.0).0 m.2),
      λ m. (are.exact x).1 (back m.0, place_back h g to back is x m.0 m.1, (keeps_marks h g to back is s r (back m.0)).1 (subst (IsMark g s (to r)) (sym (is.here m.0)) m.2)),
    );
  }

  roster_in : (id : Id) (answer : TextAnswer) (o : Option ℕ) → IsRosterIn h id o answer → IsRosterIn g id (option_map to o) answer
  roster_in id answer None e = e
  roster_in id answer (Some r) e = (e.0, λ s. kept_ids r s (e.0 s) (e.1 s), e.2 ∙ ap (λ t. Ok (spelling (roster_of t e.0))) (sym (same_tree h g to back is r)))

  pub kept_roster : (id : Id) (answer : TextAnswer) → IsRoster h id answer → IsRoster g id answer
  kept_roster id answer e = subst (λ o. IsRosterIn g id o answer) (sym (same_place h g to back is id)) (roster_in id answer (place_of h id) e)

  content_of : (path : List (List ℕ)) (answer : TextAnswer) (r : ℕ) (n : NodeName) (body : Body) → IsContentOf h r path n body answer → IsContentOf g (to r) path n body answer
  content_of path answer r n Dir e = e
  content_of path answer r n (File content) e = (e.0, kept_ids r (Scalar.ContentOf n) e.0 e.1, e.2)

  content_at : (path : List (List ℕ)) (answer : TextAnswer) (r : ℕ) (o : Option Entry) → IsContentAt h r path o answer → IsContentAt g (to r) path o answer
  content_at path answer r None e = e
  content_at path answer r (Some x) e = content_of path answer r x.name x.body e

  content_in : (id : Id) (path : List (List ℕ)) (answer : TextAnswer) (o : Option ℕ) → IsContentIn h id path o answer → IsContentIn g id path (option_map to o) answer
  content_in id path answer None e = e
  content_in id path answer (Some r) e =
      subst (λ t. IsContentAt g (to r) path (node_at t path) answer) (sym (same_tree h g to back is r)) (content_at path answer r (node_at (tree_at h r) path) e)

  pub kept_content : (id : Id) (path : List (List ℕ)) (answer : TextAnswer) → IsContentChanged h id path answer → IsContentChanged g id path answer
  kept_content id path answer e = subst (λ o. IsContentIn g id path o answer) (sym (same_place h g to back is id)) (content_in id path answer (place_of h id) e)

-- Each scalar has the ids of its marks, and each question about a revision an answer.
use Rattle.std.specs.Prelude.{Contains}
use Rattle.std.proofs.Common.{◌≡◌, ◌<◌, ℕ, List, Option, Some, None, Ok, Err, refl, subst}
use Rattle.std.proofs.Math.Decide.{ℕ_discrete}
use Rattle.mtn_ancestry.specs.Ancestors.{ParentsAreEarlier}
use Rattle.mtn_ancestry.proofs.Members.{find_in, by_position}
use Rattle.mtn_answers.specs.Views.{TextAnswer, AreMarkIds, IsContentAt, IsContentChanged, IsContentIn, IsContentOf, IsRoster, IsRosterIn, marks_text}
use Rattle.mtn_answers.proofs.Deciding.{at_place, tell_two}
use Rattle.mtn_answers.proofs.Existing.{listed_by_id}
use Rattle.mtn_base.specs.declared.id.Id.{Id}
use Rattle.mtn_base.specs.declared.name.NodeName.{NodeName}
use Rattle.mtn_base.specs.declared.refusal.Cause.TheVariants.{UnknownRevision, NoSuchPath, NotAFile}
use Rattle.mtn_basic_io.specs.Spelling.{spelling}
use Rattle.mtn_history_laws.specs.History.{Revision, IsGrown, IsPlaceOf, parents_at, tree_at}
use Rattle.mtn_history_laws.specs.Scalars.{Scalar, Value, IsMark, value_at}
use Rattle.mtn_history_laws.specs.Scalars.Scalar.{ContentOf}
use Rattle.mtn_history_laws.proofs.Telling.{tell_value}
use Rattle.mtn_mark_laws.specs.Marks.{IsMarked, IsMarkOf}
use Rattle.mtn_mark_laws.specs.Marks.IsMarkOf.{here, onward}
use Rattle.mtn_mark_laws.proofs.Telling.{tell_marked, tell_like}
use Rattle.mtn_replay.specs.Making.{place_of}
use Rattle.mtn_roster.specs.declared.entry.Body.{Body}
use Rattle.mtn_roster.specs.declared.entry.Body.TheVariants.{Dir, File}
use Rattle.mtn_roster.specs.declared.entry.Entry.{Entry}
use Rattle.mtn_roster.specs.Tree.{node_at}
use Rattle.mtn_roster_text.specs.RosterText.{roster_of}

-- two values that may not be there are equal, or not
tell_values : (a b : Option Value) → Dec (a ≡ b)
tell_values None None = yes refl
tell_values (Some v) None = no (λ e. cc)
tell_values a (Some w) = tell_like tell_value w a

module _ (parents : ℕ → List ℕ) (early : ParentsAreEarlier parents) (value : ℕ → Option Value) (x : ℕ) where
  only_here : (r : ℕ) → IsMarked Value parents value r → IsMarkOf Value parents value r x → r ≡ x
  only_here r m (here n) = refl
  only_here r m (onward quiet c same n) = absurd (quiet m)

  from_parent : (r : ℕ) → ¬ IsMarked Value parents value r → IsMarkOf Value parents value r x → (p : ℕ) × Contains (parents r) p × ((value p ≡ value r) × IsMarkOf Value parents value p x)
  from_parent r quiet (here m) = absurd (quiet m)
  from_parent r quiet (onward {p = p} also c same n) = (p, c, (same, n))

  tell_at : (r : ℕ) → ((p : ℕ) → p < r → Dec (IsMarkOf Value parents value p x)) → Dec (IsMarked Value parents value r) → Dec (IsMarkOf Value parents value r x)
  tell_at r before (yes m) = elim (ℕ_discrete r x) [
    | yes e ↦ yes (subst (IsMarkOf Value parents value r) e (here m))
    | no n ↦ no (λ is. n (only_here r m is))
  ]
  tell_at r before (no quiet) = elim (find_in (λ p. (value p ≡ value r) × IsMarkOf Value parents value p x) (parents r) (λ p c. tell_two (tell_values (value p) (value r)) (before p (early r p c)))) [
    | yes t ↦ yes (onward quiet t.1 t.2.0 t.2.1)
    | no n ↦ no (λ is. n (from_parent r quiet is))
  ]

  tell_mark : (r : ℕ) → Dec (IsMarkOf Value parents value r x)
  tell_mark = by_position (λ r. Dec (IsMarkOf Value parents value r x)) (λ r before. tell_at r before (tell_marked Value tell_value parents early value r))

module _ (h : List Revision) (grown : IsGrown h) where
  pub some_marks : (r : ℕ) (s : Scalar) → (ids : List Id) × AreMarkIds h r s ids
  some_marks r s =
      let P : Id → Type 0 = λ x. (m : ℕ) × IsPlaceOf h x m × IsMark h s r m in
      let tell : (x : Id) → Dec (P x) = λ x. at_place h grown (λ m. IsMark h s r m) x (λ m. tell_mark (parents_at h) grown.earlier (value_at h s) m r) in
      let ids = listed_by_id h grown P tell (λ x is. (is.0, is.1)) in
      (ids.0, record { ascending = ids.1.ascending; exact = ids.1.exact })

  pub some_roster : (id : Id) → (answer : TextAnswer) × IsRoster h id answer
  some_roster id = by (place_of h id)
    where
      by : (o : Option ℕ) → (answer : TextAnswer) × IsRosterIn h id o answer
      by None = (Err (UnknownRevision id), refl)
      by (Some r) = let ids : Scalar → List Id = λ s. (some_marks r s).0 in (Ok (spelling (roster_of (tree_at h r) ids)), (ids, (λ s. (some_marks r s).1), refl))

  pub some_content : (id : Id) (path : List (List ℕ)) → (answer : TextAnswer) × IsContentChanged h id path answer
  some_content id path = by (place_of h id)
    where
      by_body : (r : ℕ) (n : NodeName) (b : Body) → (answer : TextAnswer) × IsContentOf h r path n b answer
      by_body r n Dir = (Err (NotAFile path), refl)
      by_body r n (File content) = let ids = some_marks r (ContentOf n) in (Ok (marks_text ids.0), (ids.0, ids.1, refl))

      by_entry : (r : ℕ) (o : Option Entry) → (answer : TextAnswer) × IsContentAt h r path o answer
      by_entry r None = (Err (NoSuchPath path), refl)
      by_entry r (Some e) = by_body r e.name e.body

      by : (o : Option ℕ) → (answer : TextAnswer) × IsContentIn h id path o answer
      by None = (Err (UnknownRevision id), refl)
      by (Some r) = by_entry r (node_at (tree_at h r) path)

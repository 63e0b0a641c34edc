-- A text that is put leaves what stands in the history, and files leave the history.
use Rattle.std.specs.Prelude.{bytes_eq, nat_lt, slice_get, Contains}
use Rattle.std.specs.List.{AllByRecursion}
use Rattle.std.specs.FinMap.{get}
use Rattle.std.proofs.Common.{◌≡◌, ◌≤◌, ℕ, suc, Bool, true, false, cond, List, [], ◌∷◌, ◌++◌, length, length-append, Option, Some, None, refl, sym, ◌∙◌, ap, subst, inl, inr, arith}
use Rattle.std.proofs.lemmas.Bool.Decides.{nat_tests}
use Rattle.mtn_ancestry.proofs.Ancestry.{IsAncestor-le}
use Rattle.mtn_base.specs.Hex.{id_of}
use Rattle.mtn_base.specs.declared.id.Id.{Id}
use Rattle.mtn_base.specs.declared.refusal.Cause.{Cause}
use Rattle.mtn_base.specs.declared.refusal.Cause.TheVariants.{Collision, TextTooLong}
use Rattle.mtn_base.proofs.IdOrder.{contains_head}
use Rattle.mtn_changes.specs.declared.change.Change.{Change}
use Rattle.mtn_changeset_laws.specs.Changes.{or_else}
use Rattle.mtn_changeset_laws.specs.Laws.{NoneBornIn}
use Rattle.mtn_generated.specs.Growing.{files_refusal, with_files}
use Rattle.mtn_generated_laws.proofs.Children.{IsChild, placed}
use Rattle.mtn_generated_laws.proofs.Held.{files_leave}
use Rattle.mtn_generated_laws.proofs.KeptFiles.{files_keep}
use Rattle.mtn_history_laws.specs.History.{IsGrown, IsPlaceOf, Revision, parents_at, revision_parents, revision_tree, tree_at}
use Rattle.mtn_model.specs.State.{State}
use Rattle.mtn_replay.specs.Accepting.{Decides, logged_beside, refusal_beside}
use Rattle.mtn_replay.specs.Files.{collision, file_refusal, with_file}
use Rattle.mtn_replay.specs.Lawful.{IsHistory, IsNext}
use Rattle.mtn_replay.specs.Making.{made, place_of}
use Rattle.mtn_replay.specs.Texts.{text_under}
use Rattle.mtn_replay.proofs.Histories.{history_kept, history_more, kept_at, one_history}
use Rattle.mtn_replay.proofs.Places.{inside, place_has}
use Rattle.mtn_step_laws.proofs.Accepting.{logged, next_of, refused_already}

-- what stands in the one history stands there in the other
abbrev pub Extends : List Revision → List Revision → Type 0
Extends h more = (k : ℕ) (r : Revision) → slice_get h k ≡ Some r → slice_get more k ≡ Some r

module _ (h more : List Revision) (extends : Extends h more) (grown : IsGrown more) (id : Id) (p : ℕ) (at : place_of h id ≡ Some p) where
  pub place_on : place_of more id ≡ Some p
  place_on = let w = place_has h id p at in placed more grown id p (w.0, extends p w.0 w.1, w.2)

  pub tree_on : tree_at more p ≡ tree_at h p
  tree_on = let w = place_has h id p at in ap revision_tree (extends p w.0 w.1) ∙ sym (ap revision_tree w.1)

  pub parents_on : parents_at more p ≡ parents_at h p
  parents_on = let w = place_has h id p at in ap revision_parents (extends p w.0 w.1) ∙ sym (ap revision_parents w.1)

-- no node of the parent's tree was born in the child
pub child_unborn : (h : List Revision) → IsGrown h → (id parent : Id) (changes : List Change) → (c : IsChild h id parent changes) → NoneBornIn (tree_at h c.above) id
child_unborn h grown id parent changes c n e there born =
    let b = grown.born c.above n e there in
    let stands : IsPlaceOf h id b.0 = subst (λ (x : Id). IsPlaceOf h x b.0) born b.1 in
    let same = grown.differ id b.0 c.place stands (place_has h id c.place c.at) in
    let le = IsAncestor-le grown.earlier b.2 in
    let lt = grown.earlier c.place c.above (subst (λ ps. Contains ps c.above) (sym c.parents) (contains_head c.above [])) in
    omega (arith, same, le, lt)

module _ (f : List ℕ → List ℕ) where
  -- the history after a text, which is the one before or goes on from it
  pub record IsLengthened (s after : State) (h : List Revision) : Type 0 where
    pub history : List Revision
    pub spelled : IsHistory f after.files after.log history
    pub extends : Extends h history
    pub longer : length after.log ≤ suc (length s.log)

  pub lengthened : (s : State) (h : List Revision) → IsHistory f s.files s.log h → (text : List ℕ) (after : State) → Decides f s text None after → IsLengthened s after h
  lengthened s h is text after (inl long) = absurd (refused_already None (TextTooLong (length text)) long.is refl)
  lengthened s h is text after (inr (inl unread)) = absurd (refused_already None unread.cause unread.is refl)
  lengthened s h is text after (inr (inr d)) = subst (λ (t : State). IsLengthened s t h) (sym d.after) (by (text_under s.log (f text)) refl (sym d.is))
    where
      by : (o : Option (List ℕ)) → text_under s.log (f text) ≡ o → refusal_beside o f s.files d.history text d.read ≡ None → IsLengthened s (logged_beside o f s text) h
      by (Some held) e fine = record { history = h; spelled = is; extends = λ k r at. at; longer = omega arith }
      by None e fine =
          let v = made d.history (id_of (f text)) d.read.edges in
          let same = one_history f s.files s.log d.history h d.spelled is in
          let next = subst (λ g. IsNext f s.files g (logged f text) v) same (next_of f s d.history text d.read d.spelled d.short d.spells e fine) in
          record {
            history = h ++ v ∷ [];
            spelled = history_more f s.files s.log h (logged f text) v is next;
            extends = λ k r at. kept_at h v k (inside h k r at) ∙ at;
            longer = omega (arith, length-append s.log (logged f text ∷ []));
          }

  pub files_history : (texts : List (List ℕ)) (s : State) (h : List Revision) → files_refusal f s texts ≡ None → IsHistory f s.files s.log h → IsHistory f (with_files f s texts).files (with_files f s texts).log h
  files_history texts s h fine is = subst (λ log. IsHistory f (with_files f s texts).files log h) (sym (files_leave f texts s)) (history_kept f s.files (with_files f s texts).files s.log h (files_keep f texts s fine) is)

  -- a file that is short is refused for a collision alone
  one_collides : (s : State) (text : List ℕ) → length text ≤ 67108864 → (cause : Cause) → file_refusal f s text ≡ Some cause → (id : Id) × (cause ≡ Collision id)
  one_collides s text short cause is =
      let test : nat_lt 67108864 (length text) ≡ false = grind (arith, nat_tests) in
      by (get s.files (f text)) (sym (ap (λ t. cond t (Some (TextTooLong (length text))) (collision (get s.files (f text)) (f text) text)) test) ∙ is)
    where
      by_bytes : (t : Bool) → cond t None (Some (Collision (id_of (f text)))) ≡ Some cause → (id : Id) × (cause ≡ Collision id)
      by_bytes true e = absurd cc
      by_bytes false e = (id_of (f text), (let same : cause ≡ Collision (id_of (f text)) = cc in same))

      by : (o : Option (List ℕ)) → collision o (f text) text ≡ Some cause → (id : Id) × (cause ≡ Collision id)
      by None e = absurd cc
      by (Some held) e = by_bytes (bytes_eq held text) e

  pub files_collide : (texts : List (List ℕ)) (s : State) → AllByRecursion (λ t. length t ≤ 67108864) texts → (cause : Cause) → files_refusal f s texts ≡ Some cause → (id : Id) × (cause ≡ Collision id)
  files_collide [] s short cause is = absurd cc
  files_collide (text ∷ rest) s short cause is = by (file_refusal f s text) refl is (λ e. files_collide rest (with_file f s text) short.1 cause e)
    where
      by : (o : Option Cause) → file_refusal f s text ≡ o → or_else o (files_refusal f (with_file f s text) rest) ≡ Some cause → (files_refusal f (with_file f s text) rest ≡ Some cause → (id : Id) × (cause ≡ Collision id)) →
          (id : Id) × (cause ≡ Collision id)
      by None e at later = later at
      by (Some c) e at later = one_collides s text short.0 cause (e ∙ at)

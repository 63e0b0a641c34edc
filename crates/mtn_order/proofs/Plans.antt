-- What a merge comes to it comes to in another order of the log.
use Rattle.std.specs.Prelude.{if◌then◌else◌}
use Rattle.std.proofs.Common.{◌≡◌, ℕ, Bool, List, [], ◌∷◌, Option, Some, None, Result, Ok, Err, option_map, refl, sym, ap, ◌∙◌, subst, inl, inr, ◌⊎◌}
use Rattle.mtn_base.specs.Hex.{id_of}
use Rattle.mtn_base.specs.declared.id.Id.{Id}
use Rattle.mtn_base.specs.declared.refusal.Cause.{Cause}
use Rattle.mtn_base.specs.declared.refusal.Cause.TheVariants.{Related, UnknownRevision}
use Rattle.mtn_basic_io.specs.Spelling.{spelling}
use Rattle.mtn_changes.specs.RevisionText.{revision_stanzas}
use Rattle.mtn_changes.specs.declared.change.Edge.{Edge}
use Rattle.mtn_changeset_laws.specs.Changes.{or_else}
use Rattle.mtn_changeset_laws.specs.Laws.{NoneBornIn}
use Rattle.mtn_conflicts.specs.declared.lists.Conflicts.{Conflicts}
use Rattle.mtn_decide.specs.Decisions.{Merge}
use Rattle.mtn_history_laws.specs.History.{Revision}
use Rattle.mtn_manifest.specs.Manifest.{manifest_of}
use Rattle.mtn_model.specs.Outcome.{Outcome}
use Rattle.mtn_model.specs.State.{State}
use Rattle.mtn_model.specs.Table.{Table}
use Rattle.mtn_order.proofs.Framing.{is_outcome, of_history_free, same_done, same_refused}
use Rattle.mtn_order.proofs.Merging.{kept_merge, same_edges}
use Rattle.mtn_order.proofs.Queries.{same_unknown}
use Rattle.mtn_order.specs.Free.{IsOrderFree, IsSameOutcome}
use Rattle.mtn_plans.specs.Plans.{Ends, EndsUnless, IsConflicted, IsMade, IsResult, IsUnborn, Looks, LooksAtSides, Merges, Plan, PlansGiven, PlansPayload, PlansSides, Unless, merge_text, merged_or, text_refusal}
use Rattle.mtn_plans.specs.Sides.{IsMergeAt, left_of, related, right_of, side_refusal}
use Rattle.mtn_plans.specs.declared.outcome.MergeOutcome.TheVariants.{Conflicted, Merged}
use Rattle.mtn_renaming.proofs.Refusing.{same_above, same_parent, same_place}
use Rattle.mtn_renaming.specs.Order.{IsSameUpToOrder}
use Rattle.mtn_renaming.specs.Renaming.{IsRenaming}
use Rattle.mtn_replay.specs.Making.{place_of, too_long, too_many}
use Rattle.mtn_resolve.specs.Overriding.{overridden}
use Rattle.mtn_resolve.specs.declared.resolution.Resolution.{Resolution}
use Rattle.mtn_roster.specs.Tree.{Tree}
use Rattle.mtn_step.specs.Step.{Ended, Ending, OfHistory, Planned, Shown, conflict_text, conflicted, done, refused}

-- ---- the plan, over one renaming

module _ (h g : List Revision) (to back : ℕ → ℕ) (is : IsRenaming h g to back) where
  same_related : (l r : Id) → related g l r ≡ related h l r
  same_related l r =
      let x = same_above h g to back is (Some r) l in
      let y = same_above h g to back is (Some l) r in
      λ i. if x i then Some (Related l r) else if y i then Some (Related r l) else None

  pub same_side_refusal : (a b : Id) → side_refusal g a b ≡ side_refusal h a b
  same_side_refusal a b =
      let x = same_unknown h g to back is (a ∷ b ∷ []) in
      let y = same_related (left_of a b) (right_of a b) in
      λ i. or_else (option_map UnknownRevision (x i)) (y i)

  place_there : (id : Id) (r : ℕ) → place_of h id ≡ Some r → place_of g id ≡ Some (to r)
  place_there id r at = same_place h g to back is id ∙ ap (option_map to) at

  merge_there : (l r : Id) (m : Merge) → IsMergeAt h l r m → IsMergeAt g l r m
  merge_there l r m e = record {
    left = to e.left;
    right = to e.right;
    at_left = place_there l e.left e.at_left;
    at_right = place_there r e.right e.at_right;
    order = e.order;
    decides = kept_merge h g to back is e.left e.right m e.decides;
  }

  unborn_there : (l r x : Id) → IsUnborn h l r x → IsUnborn g l r x
  unborn_there l r x none = (
    subst (λ t. NoneBornIn t x) (sym (same_parent h g to back is (Some l)).tree) none.0,
    subst (λ t. NoneBornIn t x) (sym (same_parent h g to back is (Some r)).tree) none.1,
  )

  result_there : (l r : Id) (m : Merge) (t : Tree) → IsResult h l r m t → IsResult g l r m t
  result_there l r m t e = (e.0, unborn_there l r e.0 e.1, e.2)

  module _ (f : List ℕ → List ℕ) (l r : Id) where
    abbrev text_with : Tree → List Edge → List ℕ
    text_with t edges = spelling (revision_stanzas (record { manifest = id_of (f (spelling (manifest_of t))); edges = edges }))

    same_text : (t : Tree) → merge_text f g l r t ≡ merge_text f h l r t
    same_text t = ap (text_with t) (same_edges h g to back is l r t)

    made_there : (m : Merge) (d : Conflicts) (plan : Plan) → IsMade f h l r m d plan → IsMade f g l r m d plan
    made_there m d plan e = record {
      none = e.none;
      tree = e.tree;
      makes = result_there l r m e.tree e.makes;
      is = e.is ∙ ap (λ text. merged_or (or_else (too_many e.tree) (or_else (too_long e.tree) (text_refusal text))) text) (sym (same_text e.tree));
    }

    conflicted_there : (d : Conflicts) (plan : Plan) → IsConflicted f h l r d plan → IsConflicted f g l r d plan
    conflicted_there d plan e = record { some = e.some; is = e.is }

    either_there : (m : Merge) (d : Conflicts) (plan : Plan) → IsConflicted f h l r d plan ⊎ IsMade f h l r m d plan → IsConflicted f g l r d plan ⊎ IsMade f g l r m d plan
    either_there m d plan (inl e) = inl (conflicted_there d plan e)
    either_there m d plan (inr e) = inr (made_there m d plan e)

    ends_there : (m : Merge) (plan : Plan) → Ends f h l r m plan → Ends f g l r m plan
    ends_there m plan e = record { conflicts = e.conflicts; are = e.are; ends = either_there m e.conflicts plan e.ends }

    over_there : (refusal : Option Cause) (rs : List Resolution) (m : Merge) (plan : Plan) → EndsUnless f h l r refusal rs m plan → EndsUnless f g l r refusal rs m plan
    over_there (Some cause) rs m plan e = e
    over_there None rs m plan e = ends_there (overridden rs m) plan e

    pub plans_there : (files : Table) (rs : List Resolution) (plan : Plan) → PlansSides f h l r files rs plan → PlansSides f g l r files rs plan
    plans_there files rs plan e = record {
      merge = e.merge;
      decides = merge_there l r e.merge e.decides;
      conflicts = e.conflicts;
      are = e.are;
      refusal = e.refusal;
      checked = e.checked;
      ends = over_there e.refusal rs e.merge plan e.ends;
    }

  pub looks_there : (l r : Id) (plan : Plan) → LooksAtSides h l r plan → LooksAtSides g l r plan
  looks_there l r plan e = record { merge = e.merge; decides = merge_there l r e.merge e.decides; conflicts = e.conflicts; are = e.are; is = e.is }

  -- with the resolutions that are given
  given_there : (f : List ℕ → List ℕ) (l r : Id) (files : Table) (given : Result (List Resolution) Cause) (plan : Plan) → PlansGiven f h l r files given plan → PlansGiven f g l r files given plan
  given_there f l r files (Err cause) plan e = e
  given_there f l r files (Ok rs) plan e = plans_there f l r files rs plan e

  -- the refusal of the sides is the same
  unless_there : (P Q : Plan → Type 0) (refusal : Option Cause) (plan : Plan) → (P plan → Q plan) → Unless refusal P plan → Unless refusal Q plan
  unless_there P Q (Some cause) plan there e = e
  unless_there P Q None plan there e = there e

  pub merges_there : (f : List ℕ → List ℕ) (files : Table) (a b : Id) (resolves : Bool) (payload : List ℕ) (plan : Plan) → Merges f files h a b resolves payload plan → Merges f files g a b resolves payload plan
  merges_there f files a b resolves payload plan e =
      subst (λ refusal. Unless refusal (PlansPayload f g (left_of a b) (right_of a b) files resolves payload) plan) (sym (same_side_refusal a b))
      (unless_there (PlansPayload f h (left_of a b) (right_of a b) files resolves payload) (PlansPayload f g (left_of a b) (right_of a b) files resolves payload) (side_refusal h a b) plan
      (λ x. (x.0, x.1, given_there f (left_of a b) (right_of a b) files x.0 plan x.2)) e)

  pub looked_there : (a b : Id) (plan : Plan) → Looks h a b plan → Looks g a b plan
  looked_there a b plan e =
      subst (λ refusal. Unless refusal (LooksAtSides g (left_of a b) (right_of a b)) plan) (sym (same_side_refusal a b))
      (unless_there (LooksAtSides h (left_of a b) (right_of a b)) (LooksAtSides g (left_of a b) (right_of a b)) (side_refusal h a b) plan (looks_there (left_of a b) (right_of a b) plan) e)

-- ---- the step

module _ (f : List ℕ → List ℕ) (s t : State) (same : IsSameUpToOrder f s t) where
  same_conflicted : (output : List ℕ) → IsSameOutcome f (conflicted s output) (conflicted t output)
  same_conflicted output = record { output = refl; status = refl; states = same }

  ended_there : (ends : Ending) → ((text : List ℕ) → IsOrderFree f (ends text)) → (plan : Plan) (o : Outcome) → Ended ends s o plan → (p : Outcome) × Ended ends t p plan × IsSameOutcome f o p
  ended_there ends free (Err cause) o e = (refused cause t, refl, is_outcome f o (refused cause s) (refused cause t) e (same_refused f s t same cause))
  ended_there ends free (Ok (Conflicted l r d)) o e =
      (conflicted t (conflict_text l r d), refl, is_outcome f o (conflicted s (conflict_text l r d)) (conflicted t (conflict_text l r d)) e (same_conflicted (conflict_text l r d)))
  ended_there ends free (Ok (Merged text)) o e = free text s t o same e

  shown_there : (plan : Plan) (o : Outcome) → Shown s o plan → (p : Outcome) × Shown t p plan × IsSameOutcome f o p
  shown_there (Err cause) o e = (refused cause t, refl, is_outcome f o (refused cause s) (refused cause t) e (same_refused f s t same cause))
  shown_there (Ok (Conflicted l r d)) o e =
      (done t (conflict_text l r d), refl, is_outcome f o (done s (conflict_text l r d)) (done t (conflict_text l r d)) e (same_done f s t same (conflict_text l r d)))
  shown_there (Ok (Merged text)) o e = absurd e

-- what is planned over one history is planned over the other
pub planned_there : (f : List ℕ → List ℕ) (s t : State) → IsSameUpToOrder f s t → (h g : List Revision) (to back : ℕ → ℕ) → IsRenaming h g to back → (a b : Id) (resolves : Bool) (payload : List ℕ) (ends : Ending) →
    ((text : List ℕ) → IsOrderFree f (ends text)) → (o : Outcome) → Planned (Merges f s.files h a b resolves payload) (Ended ends s o) →
    (p : Outcome) × Planned (Merges f t.files g a b resolves payload) (Ended ends t p) × IsSameOutcome f o p
planned_there f s t same h g to back is a b resolves payload ends free o e =
    let p = ended_there f s t same ends free e.0 o e.2 in
    (p.0, (e.0, subst (λ files. Merges f files g a b resolves payload e.0) same.files (merges_there h g to back is f s.files a b resolves payload e.0 e.1), p.1), p.2)

pub merge_free : (f : List ℕ → List ℕ) (a b : Id) (resolves : Bool) (payload : List ℕ) (ends : Ending) → ((text : List ℕ) → IsOrderFree f (ends text)) →
    IsOrderFree f (λ s o. OfHistory f s (λ h. Planned (Merges f s.files h a b resolves payload) (Ended ends s o)))
merge_free f a b resolves payload ends free = of_history_free f (λ h s o. Planned (Merges f s.files h a b resolves payload) (Ended ends s o))
    (λ s t h g to back o same is e. planned_there f s t same h g to back is a b resolves payload ends free o e)

pub shows_free : (f : List ℕ → List ℕ) (a b : Id) → IsOrderFree f (λ s o. OfHistory f s (λ h. Planned (Looks h a b) (Shown s o)))
shows_free f a b = of_history_free f (λ h s o. Planned (Looks h a b) (Shown s o)) (λ s t h g to back o same is e.
    let p = shown_there f s t same e.0 o e.2 in
    (p.0, (e.0, looked_there h g to back is a b e.0 e.1, p.1), p.2))

-- The tree of a merge and its text, over a history that has the sides.
use Rattle.std.specs.Prelude.{nat_lt, length, if◌then◌else◌}
use Rattle.std.specs.Option.{option_map_or}
use Rattle.std.proofs.Common.{◌≡◌, ◌<◌, ◌≤◌, ℕ, Bool, true, false, List, [], Option, Some, None, Ok, Err, refl, sym, ◌∙◌, ap, subst}
use Rattle.std.proofs.lemmas.Bool.Decides.{nat_tests}
use Rattle.std.proofs.Common.{arith}
use Rattle.mtn_base.specs.declared.id.Id.{Id}
use Rattle.mtn_base.specs.declared.limits.TheConstants.{MAX_TEXT}
use Rattle.mtn_base.specs.declared.refusal.Cause.{Cause}
use Rattle.mtn_base.specs.declared.refusal.Cause.TheVariants.{TextTooLong}
use Rattle.mtn_basic_io.specs.Spelling.{AreStanzas}
use Rattle.mtn_changes.specs.RevisionText.{revision_stanzas}
use Rattle.mtn_changes.specs.declared.change.Revision.{Revision as Spelled}
use Rattle.mtn_changeset_laws.specs.Changes.{or_else}
use Rattle.mtn_changeset_laws.specs.Laws.{NoneBornIn}
use Rattle.mtn_conflicts.specs.Result.{result_of}
use Rattle.mtn_decide.specs.Decisions.{Merge}
use Rattle.mtn_history.specs.declared.errors.HistoryError.{HistoryError}
use Rattle.mtn_history.specs.declared.errors.HistoryError.TheVariants.{Refused, Store}
use Rattle.mtn_history_laws.specs.History.{Revision, tree_at}
use Rattle.mtn_plans.specs.Plans.{IsResult, IsUnborn, limit_refusal, merge_revision, merge_text, merged_or, text_refusal}
use Rattle.mtn_plans.specs.declared.outcome.MergeOutcome.TheVariants.{Merged}
use Rattle.mtn_put_revision.specs.Finding.{IsRefusal}
use Rattle.mtn_replay.specs.Making.{parent_tree, too_long, too_many}
use Rattle.mtn_roster.specs.Tree.{Tree}
use Rattle.mtn_merge.specs.Plans.{Gives, HasKept, IsLimitOf, IsMadeIn, IsMadeOf, IsTreeIn, revision_of_sides, text_of_sides}
use Rattle.mtn_merge.specs.Sides.{IsSideOf}
use Rattle.mtn_merge.specs.declared.answer.Planned.TheVariants as planned
use Rattle.mtn_merge.specs.declared.sides.Side.{Side}

-- the tree of a side in the history
side_tree : (h : List Revision) (side : Side) → IsSideOf h side → parent_tree h (Some side.id) ≡ side.roster.tree
side_tree h side is = ap (λ o. option_map_or (tree_at h) o []) is.place ∙ is.marked.tree

-- the first of three
or_third : {X : Type 0} (a b c : Option X) (x : X) → or_else a b ≡ Some x → or_else a (or_else b c) ≡ Some x
or_third None None c x e = absurd cc
or_third None (Some y) c x e = e
or_third (Some y) b c x e = e

or_last : {X : Type 0} (a b c : Option X) → or_else a b ≡ None → or_else a (or_else b c) ≡ c
or_last None None c e = refl
or_last None (Some y) c e = absurd cc
or_last (Some y) b c e = absurd cc

module _ (f : List ℕ → List ℕ) (h : List Revision) (left right : Side) (m : Merge) (sl : IsSideOf h left) (sr : IsSideOf h right)
    (x : Id) (ul : NoneBornIn left.roster.tree x) (ur : NoneBornIn right.roster.tree x) (t : Tree) (is : t ≡ result_of m x) where
  born_nowhere : IsUnborn h left.id right.id x
  born_nowhere = (subst (λ u. NoneBornIn u x) (sym (side_tree h left sl)) ul, subst (λ u. NoneBornIn u x) (sym (side_tree h right sr)) ur)

  makes : IsResult h left.id right.id m t
  makes = (x, born_nowhere, is)

  -- the text
  abbrev of_trees : Tree → Tree → List ℕ
  of_trees a b = text_of_sides f left.id a right.id b t

  text_is : of_trees left.roster.tree right.roster.tree ≡ merge_text f h left.id right.id t
  text_is =
      ap (λ a. of_trees a right.roster.tree) (sym (side_tree h left sl))
      ∙ ap (λ b. of_trees (parent_tree h (Some left.id)) b) (sym (side_tree h right sr))

  pub too_much : (cause : Cause) → or_else (too_many t) (too_long t) ≡ Some cause → IsMadeOf f h left.id right.id m (Err cause)
  too_much cause e = (t, makes, sym (ap (λ o. merged_or o (merge_text f h left.id right.id t)) (or_third (too_many t) (too_long t) (text_refusal (merge_text f h left.id right.id t)) cause e)))

  module _ (fine : or_else (too_many t) (too_long t) ≡ None) (text : List ℕ) (same : text ≡ of_trees left.roster.tree right.roster.tree) where
    limit_is : limit_refusal f h left.id right.id t ≡ text_refusal text
    limit_is = or_last (too_many t) (too_long t) (text_refusal (merge_text f h left.id right.id t)) fine ∙ ap text_refusal (sym (same ∙ text_is))

    pub text_too_long : nat_lt MAX_TEXT (length text) ≡ true → IsMadeOf f h left.id right.id m (Err (TextTooLong (length text)))
    text_too_long e = (
      t,
      makes,
      sym (ap (λ o. merged_or o (merge_text f h left.id right.id t)) (limit_is ∙ ap (λ (b : Bool). if b then Some (TextTooLong (length text)) else None) e)),
    )

    pub made : nat_lt MAX_TEXT (length text) ≡ false → IsMadeOf f h left.id right.id m (Ok (Merged text))
    made e = (
      t,
      makes,
      ap (λ x. Ok (Merged x)) (same ∙ text_is)
          ∙ sym (ap (λ o. merged_or o (merge_text f h left.id right.id t)) (limit_is ∙ ap (λ (b : Bool). if b then Some (TextTooLong (length text)) else None) e)),
    )

    revision_is : revision_of_sides f left.id left.roster.tree right.id right.roster.tree t ≡ merge_revision f h left.id right.id t
    revision_is =
        ap (λ a. revision_of_sides f left.id a right.id right.roster.tree t) (sym (side_tree h left sl))
        ∙ ap (λ b. revision_of_sides f left.id (parent_tree h (Some left.id)) right.id b t) (sym (side_tree h right sr))

    -- what is handed on
    pub kept : nat_lt MAX_TEXT (length text) ≡ false → AreStanzas (revision_stanzas (revision_of_sides f left.id left.roster.tree right.id right.roster.tree t)) → (id : Id) → id.0 ≡ f text → (tree : Option Tree) → IsTreeIn m id tree →
        HasKept f h left.id right.id m (planned.Merged text id tree)
    kept e stanzas id named tree under = record {
      first = x;
      unborn = born_nowhere;
      within = ap (limit_refusal f h left.id right.id) (sym is) ∙ limit_is ∙ ap (λ (b : Bool). if b then Some (TextTooLong (length text)) else None) e;
      spelled = same ∙ text_is ∙ ap (merge_text f h left.id right.id) is;
      stanzas = subst (λ (u : Tree). AreStanzas (revision_stanzas (merge_revision f h left.id right.id u))) is (subst (λ (z : Spelled). AreStanzas (revision_stanzas z)) revision_is stanzas);
      named = named;
      made = under;
    }

-- the limits of the tree that was made
pub limit_told : (left right : Tree) (m : Merge) (t : Tree) → IsMadeIn left right m t → (e : HistoryError) → IsRefusal (or_else (too_many t) (too_long t)) e → IsLimitOf left right m e
limit_told left right m t made (Refused cause) is = (t, made, is)
limit_told left right m t made (Store e) is = tt

pub limit_made : (f : List ℕ → List ℕ) (h : List Revision) (left right : Side) (m : Merge) → IsSideOf h left → IsSideOf h right → (e : HistoryError) → IsLimitOf left.roster.tree right.roster.tree m e →
    Gives (IsMadeOf f h left.id right.id m) (Err e)
limit_made f h left right m sl sr (Refused cause) is = too_much f h left right m sl sr is.1.0 is.1.1 is.1.2 is.0 is.1.3 cause is.2
limit_made f h left right m sl sr (Store e) is = tt

-- the test of a length
pub long_test : (n k : ℕ) → k < n → nat_lt k n ≡ true
long_test n k lt = grind (arith, nat_tests, lt)

pub short_test : (n k : ℕ) → n ≤ k → nat_lt k n ≡ false
short_test n k le = grind (arith, nat_tests, le)

-- The tree that is handed on with a text is the one that the text makes; without one the text's id is held.
use Rattle.std.specs.Prelude.{IfOk, IsSome, is_some}
use Rattle.std.proofs.Common.{◌≡◌, ◌∙◌, ℕ, List, [], Option, Some, None, Result, Ok, Err, refl, sym, ap, subst}
use Rattle.mtn_base.specs.Hex.{id_of}
use Rattle.mtn_base.specs.declared.id.Id.{Id}
use Rattle.mtn_conflicts.specs.Lists.{AreClear}
use Rattle.mtn_conflicts.specs.Result.{result_of}
use Rattle.mtn_decide.specs.Decisions.{Merge}
use Rattle.mtn_history.specs.declared.errors.HistoryError.{HistoryError}
use Rattle.mtn_history_laws.specs.History.{Revision}
use Rattle.mtn_model.specs.State.{Logged}
use Rattle.mtn_model.specs.Table.{Table}
use Rattle.mtn_planned_trees.proofs.Births.{none_born}
use Rattle.mtn_planned_trees.proofs.Planned.{planned as planned_tree}
use Rattle.mtn_plans.specs.Sides.{left_of, right_of, side_refusal}
use Rattle.mtn_replay.specs.Lawful.{IsHistory, Spells}
use Rattle.mtn_replay.specs.Making.{made_tree, place_of, refusal_of}
use Rattle.mtn_replay.proofs.Histories.{history_is_grown}
use Rattle.mtn_resolve.specs.declared.resolution.Resolution.{Resolution}
use Rattle.mtn_resolve.specs.Overriding.{overridden}
use Rattle.mtn_resolve.specs.Texts.{AreResolutions}
use Rattle.mtn_roster.specs.Tree.{Tree}
use Rattle.mtn_merge.proofs.None.{not_overridden}
use Rattle.mtn_merge.specs.Given.{Overrides}
use Rattle.mtn_merge.specs.Plans.{HasClear, HasTree, IsKept}
use Rattle.mtn_merge.specs.Sides.{AreCompared}
use Rattle.mtn_merge.specs.declared.answer.Planned.{Planned}
use Rattle.mtn_merge.specs.declared.answer.Planned.TheVariants as planned
use Rattle.mtn_merge.specs.declared.sides.Compared.{Compared}

-- an id that is not without a place
held : (h : List Revision) (id : Id) → (place_of h id ≡ None → ⊥) → IsSome (place_of h id)
held h id some = by (place_of h id) refl
  where
    by : (o : Option ℕ) → place_of h id ≡ o → IsSome (place_of h id)
    by None e = absurd (some e)
    by (Some p) e = ap is_some e

module _ (f : List ℕ → List ℕ) (files : Table) (log : List Logged) (h : List Revision) (is : IsHistory f files log h) (a b : Id) (x : Compared) (known : side_refusal h a b ≡ None)
    (found : AreCompared h (left_of a b) (right_of a b) x) (rs : List Resolution) (lawful : AreResolutions [] rs) where
  abbrev decisions : Merge
  decisions = overridden rs x.decisions

  made : Overrides files x.decisions x.conflicts rs (Ok decisions) → (text : List ℕ) (id : Id) (o : Option Tree) → AreClear decisions → IsKept f h (left_of a b) (right_of a b) decisions text id o → HasTree f files h (planned.Merged text id o)
  made over text id (Some t) clear kept = λ z told fresh room.
      let p = planned_tree f files log h is a b known x.decisions found.merge rs x.conflicts over.0 lawful clear.0 clear.1 clear.2 kept.first kept.unborn kept.within
      (subst (λ (w : List ℕ). place_of h (id_of (f w)) ≡ None) kept.spelled fresh) kept.stanzas z (subst (λ (w : List ℕ). Spells w z) kept.spelled told) room in
      let q = subst (λ (w : List ℕ). (refusal_of f files h (id_of (f w)) z ≡ None) × (made_tree h (id_of (f w)) z.edges ≡ result_of decisions (id_of (f w)))) (sym kept.spelled) p in
      (q.0, q.1 ∙ ap (λ (w : List ℕ). result_of decisions (id_of w)) (sym kept.named) ∙ sym kept.made)
  made over text id None clear kept = held h id (λ fresh. kept.made (none_born h (history_is_grown f files log h is) (left_of a b) (right_of a b) x.decisions found.merge rs id fresh))

  pub tree_is_planned : (m : Merge) → Overrides files x.decisions x.conflicts rs (Ok m) → (r : Result Planned HistoryError) → IfOk r (HasClear f h x.left.id x.right.id m) → IfOk r (HasTree f files h)
  tree_is_planned m over (Ok (planned.Merged text id o)) has =
      made (subst (λ (n : Merge). Overrides files x.decisions x.conflicts rs (Ok n)) over.1 over) text id o (subst AreClear over.1 has.0)
      (subst (λ (n : Merge). IsKept f h (left_of a b) (right_of a b) n text id o) over.1
      (subst (λ (i : Id). IsKept f h (left_of a b) i m text id o) found.right
      (subst (λ (i : Id). IsKept f h i x.right.id m text id o) found.left has.1)))
  tree_is_planned m over (Ok (planned.Conflicted left right conflicts)) has = tt
  tree_is_planned m over (Err e) has = tt

  -- without resolutions
  pub plain_tree : rs ≡ [] → (r : Result Planned HistoryError) → IfOk r (HasClear f h x.left.id x.right.id x.decisions) → IfOk r (HasTree f files h)
  plain_tree none = tree_is_planned x.decisions (subst (λ l. Overrides files x.decisions x.conflicts l (Ok x.decisions)) (sym none) ((tt, refl), sym (not_overridden x.decisions found.merge.order)))

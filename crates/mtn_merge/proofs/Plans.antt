-- What the calls answer is the plan of the definitions.
use Rattle.std.specs.Prelude.{IfOk, ◌==◌}
use Rattle.std.proofs.Common.{◌≡◌, ◌≢◌, ℕ, suc, Bool, true, false, List, [], ◌∷◌, length, Option, Some, None, Result, Ok, Err, refl, sym, ◌∙◌, ap, subst, inl, inr}
use Rattle.std.specs.List.{IsDistinct}
use Rattle.std.proofs.lemmas.Bool.{ne_eqb}
use Rattle.mtn_base.specs.declared.id.Id.{Id}
use Rattle.mtn_base.specs.declared.refusal.Cause.{Cause}
use Rattle.mtn_conflicts.specs.Lists.{AreClear, AreConflictsOf, IsNone}
use Rattle.mtn_conflicts.specs.declared.lists.Conflicts.{Conflicts}
use Rattle.mtn_decide.specs.Decisions.{IsInOrder, Merge}
use Rattle.mtn_history.specs.Errors.{IfStoreDamage}
use Rattle.mtn_history.specs.declared.errors.HistoryError.{HistoryError}
use Rattle.mtn_history.specs.declared.errors.HistoryError.TheVariants.{Refused, Store}
use Rattle.mtn_history.specs.declared.errors.StoreError.TheVariants.{Failed, Damaged, NoMemory}
use Rattle.mtn_history_laws.specs.History.{Revision}
use Rattle.mtn_model.specs.Table.{Table}
use Rattle.mtn_plans.specs.Given.{IsGiven}
use Rattle.mtn_plans.specs.Plans.{Ends, Looks, Merges, Plan, Plans, PlansPayload, PlansSides, Unless}
use Rattle.mtn_plans.specs.Sides.{left_of, right_of, side_refusal}
use Rattle.mtn_plans.specs.declared.outcome.MergeOutcome.{MergeOutcome}
use Rattle.mtn_plans.specs.declared.outcome.MergeOutcome.TheVariants.{Conflicted}
use Rattle.mtn_put_revision.specs.Finding.{IsRefusal}
use Rattle.mtn_resolve.specs.Subjects.{AreApart}
use Rattle.mtn_resolve.specs.Texts.{AreResolutions}
use Rattle.mtn_resolve.specs.declared.resolution.Resolution.{Resolution}
use Rattle.mtn_merge.proofs.None.{not_overridden}
use Rattle.mtn_merge.specs.Given.{GivesResolutions, Overrides}
use Rattle.mtn_merge.specs.Plans.{Gives, HasClear, HasKept, IsMadeOf, MergesText}
use Rattle.mtn_merge.specs.Sides.{AreCompared, FindsSides}
use Rattle.mtn_merge.specs.declared.answer.Planned.{Planned}
use Rattle.mtn_merge.specs.declared.answer.Planned.TheVariants as planned
use Rattle.mtn_merge.specs.declared.sides.Compared.{Compared}

pub unless_some : (o : Option Cause) (cause : Cause) (Is : Plan → Type 0) → o ≡ Some cause → Unless o Is (Err cause)
unless_some o cause Is e = subst (λ u. Unless u Is (Err cause)) (sym e) refl

pub unless_none : (o : Option Cause) (Is : Plan → Type 0) (plan : Plan) → o ≡ None → Is plan → Unless o Is plan
unless_none o Is plan e is = subst (λ u. Unless u Is plan) (sym e) is

pub clear_kept : (f : List ℕ → List ℕ) (h : List Revision) (l r : Id) (m : Merge) (clear : AreClear m) (result : Result Planned HistoryError) → IfOk result (HasKept f h l r m) → IfOk result (HasClear f h l r m)
clear_kept f h l r m clear (Ok (planned.Merged text id tree)) has = (clear, has)
clear_kept f h l r m clear (Ok (planned.Conflicted left right conflicts)) has = tt
clear_kept f h l r m clear (Err e) has = tt

pub gives_map : (Is Js : Plan → Type 0) (r : Result MergeOutcome HistoryError) → ((plan : Plan) → Is plan → Js plan) → Gives Is r → Gives Js r
gives_map Is Js (Ok outcome) f is = f (Ok outcome) is
gives_map Is Js (Err (Refused cause)) f is = f (Err cause) is
gives_map Is Js (Err (Store e)) f is = tt

-- the sides are refused
pub sides_refused : (h : List Revision) (a b : Id) (Is : Plan → Type 0) (e : HistoryError) → FindsSides h a b (Err e) → Gives (Unless (side_refusal h a b) Is) (Err e)
sides_refused h a b Is (Refused cause) found = unless_some (side_refusal h a b) cause Is found
sides_refused h a b Is (Store e) found = tt

pub told_refused : (h : List Revision) (a b : Id) (e : HistoryError) → FindsSides h a b (Err e) → IsRefusal (side_refusal h a b) e
told_refused h a b (Refused cause) found = found
told_refused h a b (Store e) found = tt

pub refused_gives : (h : List Revision) (a b : Id) (Is : Plan → Type 0) (e : HistoryError) → IsRefusal (side_refusal h a b) e → Gives (Unless (side_refusal h a b) Is) (Err e)
refused_gives h a b Is (Refused cause) is = unless_some (side_refusal h a b) cause Is is
refused_gives h a b Is (Store e) is = tt

-- what a merge that is not refused for its sides comes to
module _ (f : List ℕ → List ℕ) (files : Table) (h : List Revision) (a b : Id) (x : Compared) (known : side_refusal h a b ≡ None) (found : AreCompared h (left_of a b) (right_of a b) x) (are : AreConflictsOf x.decisions x.conflicts) where
  pub looked : Looks h a b (Ok (Conflicted x.left.id x.right.id x.conflicts))
  looked = unless_none (side_refusal h a b) _ _ known (record {
    merge = x.decisions;
    decides = found.merge;
    conflicts = x.conflicts;
    are = are;
    is = ap (λ i. Ok (Conflicted i x.right.id x.conflicts)) found.left ∙ ap (λ i. Ok (Conflicted (left_of a b) i x.conflicts)) found.right;
  })

  module _ (rs : List Resolution) where
    pub not_resolved : (e : HistoryError) → Overrides files x.decisions x.conflicts rs (Err e) → Gives (Plans f files h a b rs) (Err e)
    not_resolved (Store e) over = tt
    not_resolved (Refused cause) over = unless_none (side_refusal h a b) (PlansSides f h (left_of a b) (right_of a b) files rs) (Err cause) known (record {
      merge = x.decisions;
      decides = found.merge;
      conflicts = x.conflicts;
      are = are;
      refusal = Some cause;
      checked = over;
      ends = refl;
    })

    ended : (n : Merge) → Overrides files x.decisions x.conflicts rs (Ok n) → (plan : Plan) → Ends f h x.left.id x.right.id n plan → Plans f files h a b rs plan
    ended n over plan e = unless_none (side_refusal h a b) (PlansSides f h (left_of a b) (right_of a b) files rs) plan known (record {
      merge = x.decisions;
      decides = found.merge;
      conflicts = x.conflicts;
      are = are;
      refusal = None;
      checked = over.0;
      ends =
          subst (λ k. Ends f h (left_of a b) (right_of a b) k plan) over.1
          (subst (λ i. Ends f h (left_of a b) i n plan) found.right
          (subst (λ i. Ends f h i x.right.id n plan) found.left e));
    })

    pub resolved : (n : Merge) → Overrides files x.decisions x.conflicts rs (Ok n) → (r : Result MergeOutcome HistoryError) → Gives (Ends f h x.left.id x.right.id n) r → Gives (Plans f files h a b rs) r
    resolved n over r g = gives_map (Ends f h x.left.id x.right.id n) (Plans f files h a b rs) r (ended n over) g

    -- without resolutions nothing is overridden
    pub unresolved : rs ≡ [] → IsInOrder x.decisions → (r : Result MergeOutcome HistoryError) → Gives (Ends f h x.left.id x.right.id x.decisions) r → Gives (Plans f files h a b rs) r
    unresolved none order r g = resolved x.decisions (subst (λ l. Overrides files x.decisions x.conflicts l (Ok x.decisions)) (sym none) ((tt, refl), sym (not_overridden x.decisions order))) r g

-- decisions that are not overridden any more
module _ (f : List ℕ → List ℕ) (h : List Revision) (l r : Id) (m : Merge) (c : Conflicts) (are : AreConflictsOf m c) where
  pub conflicted : (IsNone c → ⊥) → Ends f h l r m (Ok (Conflicted l r c))
  conflicted some = record { conflicts = c; are = are; ends = inl (record { some = some; is = refl }) }

  pub made : IsNone c → (plan : Plan) → IsMadeOf f h l r m plan → Ends f h l r m plan
  made none plan is = record { conflicts = c; are = are; ends = inr (record { none = none; tree = is.0; makes = is.1; is = is.2 }) }

-- with the resolutions of a text
with_given : (f : List ℕ → List ℕ) (files : Table) (h : List Revision) (l r : Id) (resolves : Bool) (payload : List ℕ) (rs : List Resolution) → IsGiven resolves payload (Ok rs) → (o : Option Cause) (plan : Plan) →
    Unless o (PlansSides f h l r files rs) plan → Unless o (PlansPayload f h l r files resolves payload) plan
with_given f files h l r resolves payload rs is (Some cause) plan p = p
with_given f files h l r resolves payload rs is None plan p = (Ok rs, is, p)

module _ (f : List ℕ → List ℕ) (files : Table) (h : List Revision) (a b : Id) where
  pub given_merges : (text : Option (List ℕ)) (rs : List Resolution) → GivesResolutions text (Ok rs) → (r : Result MergeOutcome HistoryError) → Gives (Plans f files h a b rs) r → Gives (MergesText f files h a b text) r
  given_merges (Some text) rs is r g = gives_map (Plans f files h a b rs) (Merges f files h a b true text) r (with_given f files h (left_of a b) (right_of a b) true text rs is (side_refusal h a b)) g
  given_merges None rs is r g = gives_map (Plans f files h a b rs) (Merges f files h a b false []) r (with_given f files h (left_of a b) (right_of a b) false [] rs (ap Ok is) (side_refusal h a b)) g

  pub given_refused : (text : Option (List ℕ)) (e : HistoryError) → GivesResolutions text (Err e) → side_refusal h a b ≡ None → Gives (MergesText f files h a b text) (Err e)
  given_refused (Some text) (Refused cause) is known = unless_none (side_refusal h a b) (PlansPayload f h (left_of a b) (right_of a b) files true text) (Err cause) known (Err cause, is, refl)
  given_refused (Some text) (Store e) is known = tt
  given_refused None e is known = absurd is

  pub given_told : (text : Option (List ℕ)) (e : HistoryError) → IsRefusal (side_refusal h a b) e → Gives (MergesText f files h a b text) (Err e)
  given_told (Some text) e is = refused_gives h a b (PlansPayload f h (left_of a b) (right_of a b) files true text) e is
  given_told None e is = refused_gives h a b (PlansPayload f h (left_of a b) (right_of a b) files false []) e is

-- what a text is refused for is no damage and no failure
pub given_sound : (text : Option (List ℕ)) (e : HistoryError) → GivesResolutions text (Err e) → IfStoreDamage e (λ _. ⊥) × (e ≢ Store Failed)
given_sound (Some text) (Refused cause) is = (tt, λ same. cc)
given_sound (Some text) (Store Failed) is = absurd cc
given_sound (Some text) (Store NoMemory) is = (tt, λ same. cc)
given_sound (Some text) (Store (Damaged d)) is = absurd cc
given_sound None e is = absurd is

-- a slice that is told as empty has no item
pub none_of : {X : Type 0} (xs ys : List X) (b : Bool) → ys ≡ xs → b ≡ (length ys == 0) → b ≡ true → xs ≡ []
none_of xs [] b same is t = sym same
none_of xs (y ∷ ys) b same is t = absurd (let some = ne_eqb (suc (length ys)) 0 (λ e. cc) in let e : true ≡ false = sym t ∙ is ∙ some in cc)

pub none_are_apart : (rs : List Resolution) → rs ≡ [] → AreApart rs
unfolding IsDistinct
none_are_apart [] is = tt
none_are_apart (r ∷ rs) is = absurd cc

-- given resolutions are lawful
pub given_lawful : (text : Option (List ℕ)) (rs : List Resolution) → GivesResolutions text (Ok rs) → AreResolutions [] rs
given_lawful (Some text) rs is = is.1.reads.lawful
given_lawful None rs is = subst (AreResolutions []) (sym is) tt

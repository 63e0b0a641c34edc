-- No merge of a generated history has conflicts.
use Rattle.std.specs.Prelude.{codes, decimal}
use Rattle.std.specs.Ordering.{is_lt}
use Rattle.std.proofs.Common.{◌≡◌, ◌<◌, ◌-◌, ◌^◌, ℕ, zero, suc, Bool, true, false, cond, List, [], ◌∷◌, Option, Some, None, Result, Ok, Err, refl, sym, ap, ◌∙◌, subst, ⊎_elim, arith, inl, inr}
use Rattle.mtn_base.specs.Hex.{id_of}
use Rattle.mtn_base.specs.Ids.{by_id}
use Rattle.mtn_base.specs.declared.id.Id.{Id}
use Rattle.mtn_base.specs.declared.refusal.Cause.{Cause}
use Rattle.mtn_certs.specs.Certificates.{IsIdBytes}
use Rattle.mtn_changeset_laws.specs.Changes.{tree_after}
use Rattle.mtn_conflicts.specs.declared.lists.Conflicts.{Conflicts}
use Rattle.mtn_decide.specs.Decisions.{IsInOrder, Merge}
use Rattle.mtn_decide.specs.Graph.{IsMergeOf}
use Rattle.mtn_generated.specs.Growing.{Adds, AddsWork, GrowthAnswer, Carries, Generates, Grown, Grows, MergesTips, Onward, PutsEdge, PutsText, Stop, Unless, files_refusal, grown, grown_or, store_refusal, with_files}
use Rattle.mtn_generated.specs.Growing.Stop.{Conflicting}
use Rattle.mtn_generated.specs.Numbered.{Tips, Work, changes_of, content_of, edge_fault, edge_of, edge_text, file_at, files_of, path_at, tips_after, work_at}
use Rattle.mtn_generated.specs.Numbered.Work.{Begins, Joins, Patches, Renames, Sets}
use Rattle.mtn_history_laws.specs.History.{IsGrown, Revision, tree_at}
use Rattle.mtn_model.specs.State.{State}
use Rattle.mtn_model.specs.Table.{Table}
use Rattle.mtn_plans.specs.Plans.{Ends, EndsUnless, Merges, Plan, PlansGiven, PlansPayload, PlansSides, Unless as UnlessPlan, limit_refusal, merge_text, merged_or}
use Rattle.mtn_plans.specs.Sides.{left_of, right_of, side_refusal}
use Rattle.mtn_plans.specs.declared.outcome.MergeOutcome.TheVariants.{Conflicted, Merged}
use Rattle.mtn_replay.specs.Lawful.{IsHistory}
use Rattle.mtn_replay.specs.Making.{place_of}
use Rattle.mtn_replay.proofs.Histories.{history_is_grown}
use Rattle.mtn_resolve.specs.declared.resolution.Resolution.{Resolution}
use Rattle.mtn_generated_laws.specs.Siblings.{AreSiblings}
use Rattle.mtn_generated_laws.proofs.Children.{IsChild, child_of_text}
use Rattle.mtn_generated_laws.proofs.Held.{HasText, put_held, put_stays}
use Rattle.mtn_generated_laws.proofs.Readable.{later_read}
use Rattle.mtn_generated_laws.proofs.Siblings.{no_conflict}
use Rattle.mtn_generated_laws.proofs.Sides.{are_siblings}
use Rattle.mtn_generated_laws.proofs.Steps.{IsEdgePut, before_merge, last_of, one_edge, one_text, tips_are_ids}
use Rattle.mtn_generated_laws.proofs.Unresolved.{not_overridden}

-- two ids of revisions that are children of one, and change different things
pub record IsPair (h : List Revision) (l r : Id) : Type 0 where
  pub parent : ℕ
  pub left : ℕ
  pub right : ℕ
  pub at_left : place_of h l ≡ Some left
  pub at_right : place_of h r ≡ Some right
  pub siblings : AreSiblings h parent left right

other_way : (h : List Revision) (l r : Id) → IsPair h l r → IsPair h r l
other_way h l r pair =
    let s = pair.siblings in
    record {
      parent = pair.parent;
      left = pair.right;
      right = pair.left;
      at_left = pair.at_right;
      at_right = pair.at_left;
      siblings = record { left_parent = s.right_parent; right_parent = s.left_parent; slots = λ n. sym (s.slots n); apart = λ x. ⊎_elim (λ a. inr a) (λ b. inl b) (s.apart x) };
    }

-- ---- a plan

module _ (f : List ℕ → List ℕ) (files : Table) (h : List Revision) (grown_so : IsGrown h) (x y : Id) (c : Conflicts) where
  abbrev conflicted : Plan
  conflicted = Ok (Conflicted x y c)

  no_end : (l r : Id) (p at_l at_r : ℕ) → AreSiblings h p at_l at_r → (m : Merge) → IsInOrder m → IsMergeOf h at_l at_r m → Ends f h l r m conflicted → ⊥
  no_end l r p at_l at_r siblings m order decides ends = ⊎_elim
      (λ torn. torn.some (no_conflict h p at_l at_r siblings m grown_so order decides ends.conflicts ends.are))
      (λ made. by (limit_refusal f h l r made.tree) (merge_text f h l r made.tree) made.is) ends.ends
    where
      by : (o : Option Cause) (text : List ℕ) → conflicted ≡ merged_or o text → ⊥
      by None text e = absurd cc
      by (Some cause) text e = absurd cc

  no_sides : (l r : Id) → IsPair h l r → PlansSides f h l r files [] conflicted → ⊥
  no_sides l r pair plans = by plans.refusal plans.ends
    where
      by : (o : Option Cause) → EndsUnless f h l r o [] plans.merge conflicted → ⊥
      by (Some cause) e = absurd cc
      by None ends =
          let d = plans.decides in
          let left : d.left ≡ pair.left = let both = sym d.at_left ∙ pair.at_left in cc in
          let right : d.right ≡ pair.right = let both = sym d.at_right ∙ pair.at_right in cc in
          no_end l r pair.parent pair.left pair.right pair.siblings plans.merge d.order
          (subst (λ (k : ℕ). IsMergeOf h pair.left k plans.merge) right (subst (λ (k : ℕ). IsMergeOf h k d.right plans.merge) left d.decides))
          (subst (λ (m : Merge). Ends f h l r m conflicted) (not_overridden plans.merge d.order) ends)

  by_order : (a b : Id) (t : Bool) → IsPair h a b → PlansSides f h (cond t b a) (cond t a b) files [] conflicted → ⊥
  by_order a b true pair plans = no_sides b a (other_way h a b pair) plans
  by_order a b false pair plans = no_sides a b pair plans

  no_given : (a b : Id) (given : Result (List Resolution) Cause) → given ≡ Ok [] → IsPair h a b → PlansGiven f h (left_of a b) (right_of a b) files given conflicted → ⊥
  no_given a b given none pair plans = by_order a b (is_lt (by_id b a)) pair (subst (λ g. PlansGiven f h (left_of a b) (right_of a b) files g conflicted) none plans)

  no_plan : (a b : Id) → IsPair h a b → Merges f files h a b false [] conflicted → ⊥
  no_plan a b pair merges = by (side_refusal h a b) merges
    where
      by : (o : Option Cause) → UnlessPlan o (PlansPayload f h (left_of a b) (right_of a b) files false []) conflicted → ⊥
      by (Some cause) e = absurd cc
      by None plans = no_given a b plans.0 plans.1 pair plans.2

-- ---- the tips before a merge

module _ (f : List ℕ → List ℕ) (makes : (text : List ℕ) → IsIdBytes (f text)) where
  module _ (s : State) (k : ℕ) (small : suc (suc (suc k)) < 2 ^ 64) (two three : Grown) (grew : Grows f s (suc (suc k)) (Ok two)) (sets : Adds f (suc (suc (suc k))) Sets two (Ok three)) where
    put_right : IsEdgePut f Sets two.tips two.state three (suc (suc (suc k)))
    put_right = one_edge f (suc (suc (suc k))) Sets two three sets (λ e. absurd cc)

    abbrev right_text : List ℕ
    right_text = edge_text f put_right.history (edge_of f (suc (suc (suc k))) Sets two.tips)

    right_held : HasText f three.state right_text
    right_held = put_held f two.state right_text three.state put_right.put.decides

    module _ (h : List Revision) (is : IsHistory f three.state.files three.state.log h) where
      right_child : IsChild h (id_of (f right_text)) two.tips.right (changes_of f (suc (suc (suc k))) Sets)
      right_child =
          let ids = tips_are_ids f makes s (suc (suc k)) two grew in
          let read = later_read f makes put_right.history (suc (suc (suc k))) Sets two.tips small ids.left ids.right (λ e. absurd cc) (λ e. absurd cc) in
          child_of_text f three.state.files three.state.log h is right_text two.tips.right (changes_of f (suc (suc (suc k))) Sets) right_held read.0 read.1 read.2

      module _ (one : Grown) (grew_one : Grows f s (suc k) (Ok one)) (patches : Adds f (suc (suc k)) Patches one (Ok two)) (both : one.tips.right ≡ one.tips.left) where
        abbrev before_patch : State
        before_patch = with_files f one.state (files_of (suc (suc k)) Patches)

        put_left : IsEdgePut f Patches one.tips before_patch two (suc (suc k))
        put_left = one_edge f (suc (suc k)) Patches one two patches (λ e. absurd cc)

        abbrev left_text : List ℕ
        left_text = edge_text f put_left.history (edge_of f (suc (suc k)) Patches one.tips)

        left_held : HasText f three.state left_text
        left_held = put_stays f two.state right_text three.state left_text (put_held f before_patch left_text two.state put_left.put.decides) put_right.put.decides

        left_child : IsChild h (id_of (f left_text)) one.tips.left (changes_of f (suc (suc k)) Patches)
        left_child =
            let ids = tips_are_ids f makes s (suc k) one grew_one in
            let read = later_read f makes put_left.history (suc (suc k)) Patches one.tips (omega (arith, small)) ids.left ids.right (λ e. absurd cc) (λ e. absurd cc) in
            child_of_text f three.state.files three.state.log h is left_text one.tips.left (changes_of f (suc (suc k)) Patches) left_held read.0 read.1 read.2

        -- both have one parent
        beside : IsChild h (id_of (f right_text)) one.tips.left (changes_of f (suc (suc (suc k))) Sets)
        beside = subst (λ (x : Id). IsChild h (id_of (f right_text)) x (changes_of f (suc (suc (suc k))) Sets)) (ap (λ (t : Tips). t.right) put_left.put.behind ∙ both) right_child

        pair_of_texts : IsPair h (id_of (f left_text)) (id_of (f right_text))
        pair_of_texts =
            let i = suc (suc k) in
            let j = suc (suc (suc k)) in
            let same : beside.above ≡ left_child.above = let e = sym beside.parent_at ∙ left_child.parent_at in cc in
            record {
              parent = left_child.above;
              left = left_child.place;
              right = beside.place;
              at_left = left_child.at;
              at_right = beside.at;
              siblings = are_siblings h left_child.above left_child.place beside.place (path_at i (file_at i)) (path_at j (file_at j)) (content_of f (file_at i) (i - 40)) (content_of f (file_at i) i)
                  (id_of (f left_text)) (id_of (f right_text)) (codes "gen:step") (decimal j) left_child.parents (beside.parents ∙ ap (λ (n : ℕ). n ∷ []) same) left_child.tree
                  (beside.tree ∙ ap (λ (n : ℕ). tree_after (tree_at h n) (changes_of f j Sets) (id_of (f right_text))) same);
            }

        pub pair_of_tips : IsPair h three.tips.left three.tips.right
        pair_of_tips =
            let left : id_of (f left_text) ≡ three.tips.left = sym (ap (λ (t : Tips). t.left) put_right.put.behind ∙ ap (λ (t : Tips). t.left) put_left.put.behind) in
            let right : id_of (f right_text) ≡ three.tips.right = sym (ap (λ (t : Tips). t.right) put_right.put.behind) in
            subst (λ (x : Id). IsPair h x three.tips.right) left (subst (λ (x : Id). IsPair h (id_of (f left_text)) x) right pair_of_texts)

  pub pair_before : (s : State) (n : ℕ) (g : Grown) → n < 2 ^ 64 → work_at (suc n) ≡ Joins → Grows f s n (Ok g) → (h : List Revision) → IsHistory f g.state.files g.state.log h → IsPair h g.tips.left g.tips.right
  pair_before s n g small joins grows h is =
      let b = before_merge n joins in
      let k = b.first in
      let third = last_of f s (suc (suc k)) g (subst (λ (m : ℕ). Grows f s m (Ok g)) b.is grows) in
      let second = last_of f s (suc k) third.before third.grew in
      let first = last_of f s k second.before second.grew in
      let t = one_text f (suc k) (work_at (suc k)) first.before second.before first.adds in
      let tips = t.1.behind ∙ b.both (id_of (f t.0)) first.before.tips in
      pair_of_tips s k (subst (λ (m : ℕ). m < 2 ^ 64) b.is small) third.before g third.grew (subst (λ (w : Work). Adds f (suc (suc (suc k))) w third.before (Ok g)) b.sets third.adds) h is
      second.before second.grew (subst (λ (w : Work). Adds f (suc (suc k)) w second.before (Ok third.before)) b.patches second.adds)
      (ap (λ (x : Tips). x.right) tips ∙ sym (ap (λ (x : Tips). x.left) tips))

-- ---- what stops

module _ (f : List ℕ → List ℕ) (l r : Id) (c : Conflicts) where
  abbrev torn : GrowthAnswer
  torn = Err (Conflicting l r c)

  no_text : (work : Work) (tips : Tips) (s : State) (text : List ℕ) → PutsText f work tips s text torn → ⊥
  no_text work tips s text is = by is.refusal is.is
    where
      by : (o : Option Cause) → torn ≡ grown_or o (grown is.after (tips_after work (id_of (f text)) tips)) → ⊥
      by None e = absurd cc
      by (Some cause) e = absurd cc

  no_edge : (work : Work) (tips : Tips) (s : State) (i : ℕ) → PutsEdge f work tips s i torn → ⊥
  no_edge work tips s i is = by (edge_fault is.history (edge_of f i work tips)) is.puts
    where
      by : (o : Option Cause) → Unless o (PutsText f work tips s (edge_text f is.history (edge_of f i work tips))) torn → ⊥
      by None puts = no_text work tips s (edge_text f is.history (edge_of f i work tips)) puts
      by (Some cause) e = absurd cc

  torn_plan : (work : Work) (tips : Tips) (s : State) (plan : Plan) → Carries f work tips s plan torn → (x y : Id) × (d : Conflicts) × (plan ≡ Ok (Conflicted x y d))
  torn_plan work tips s (Err cause) is = absurd cc
  torn_plan work tips s (Ok (Conflicted x y d)) is = (x, y, d, refl)
  torn_plan work tips s (Ok (Merged text)) is = absurd (no_text work tips s text is)

  no_merge : (tips : Tips) (s : State) → ((h : List Revision) → IsHistory f s.files s.log h → IsPair h tips.left tips.right) → MergesTips f Joins tips s torn → ⊥
  no_merge tips s pair is =
      let t = torn_plan Joins tips s is.plan is.carried in
      no_plan f s.files is.history (history_is_grown f s.files s.log is.history is.spelled) t.0 t.1 t.2 tips.left tips.right (pair is.history is.spelled)
      (subst (λ (p : Plan). Merges f s.files is.history tips.left tips.right false [] p) t.3 is.planned)

  no_work : (i : ℕ) (tips : Tips) (s : State) (work : Work) → (work ≡ Joins → (h : List Revision) → IsHistory f s.files s.log h → IsPair h tips.left tips.right) → AddsWork f i tips s work torn → ⊥
  no_work i tips s Joins pair is = no_merge tips s (pair refl) is
  no_work i tips s Begins pair is = no_edge Begins tips s i is
  no_work i tips s Patches pair is = no_edge Patches tips s i is
  no_work i tips s Sets pair is = no_edge Sets tips s i is
  no_work i tips s Renames pair is = no_edge Renames tips s i is

  -- a merge has no files of its own
  abbrev behind : ℕ → Work → Grown → State
  behind i work g = with_files f g.state (files_of i work)

  unmoved : (i : ℕ) (work : Work) (g : Grown) → work ≡ Joins → behind i work g ≡ g.state
  unmoved i work g joins = ap (λ (w : Work). behind i w g) joins

  no_adding : (i : ℕ) (work : Work) (g : Grown) → (work ≡ Joins → (h : List Revision) → IsHistory f g.state.files g.state.log h → IsPair h g.tips.left g.tips.right) → Adds f i work g torn → ⊥
  no_adding i work g pair is = by (files_refusal f g.state (files_of i work)) is
    where
      there : (work ≡ Joins) → (h : List Revision) → IsHistory f (behind i work g).files (behind i work g).log h → IsPair h g.tips.left g.tips.right
      there joins h is = pair joins h (subst (λ (t : State). IsHistory f t.files t.log h) (unmoved i work g joins) is)

      by : (o : Option Cause) → Unless o (AddsWork f i g.tips (behind i work g) work) torn → ⊥
      by None adds = no_work i g.tips (behind i work g) work there adds
      by (Some cause) e = absurd cc

  module _ (makes : (text : List ℕ) → IsIdBytes (f text)) (s : State) where
    no_growth : (n : ℕ) → n < 2 ^ 64 → Grows f s n torn → ⊥
    no_growth zero small is = absurd cc
    no_growth (suc n) small is = by is.0 is.1 is.2 (λ grows. no_growth n (omega (arith, small)) grows)
      where
        by : (before : GrowthAnswer) → Grows f s n before → Onward before (Adds f (suc n) (work_at (suc n))) torn → (Grows f s n torn → ⊥) → ⊥
        by (Err stop) grew on earlier = earlier (subst (λ (x : Stop). Grows f s n (Err x)) (let same : stop ≡ Conflicting l r c = cc in same) grew)
        by (Ok g) grew on earlier = no_adding (suc n) (work_at (suc n)) g (λ joins h spelled. pair_before f makes s n g (omega (arith, small)) joins grew h spelled) on

    pub never_torn : (n : ℕ) → n < 2 ^ 64 → Generates f n s torn → ⊥
    never_torn n small is = by (store_refusal s) is
      where
        by : (o : Option Cause) → Unless o (Grows f s n) torn → ⊥
        by None grows = no_growth n small grows
        by (Some cause) e = absurd cc

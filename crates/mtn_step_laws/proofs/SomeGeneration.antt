-- Generating comes to something.
use Rattle.std.proofs.Common.{◌≡◌, ℕ, zero, suc, false, List, [], Option, Some, None, Ok, Err, refl, subst}
use Rattle.mtn_base.specs.declared.refusal.Cause.{Cause}
use Rattle.mtn_generated.specs.Growing.{Adds, AddsWork, GrowthAnswer, Carries, Generates, Grown, Grows, MergesTips, Onward, PutsEdge, PutsText, Unless, files_refusal, store_refusal, with_files}
use Rattle.mtn_generated.specs.Growing.Stop.{Refused}
use Rattle.mtn_generated.specs.Numbered.{Tips, Work, edge_fault, edge_of, edge_text, files_of, work_at}
use Rattle.mtn_generated.specs.Numbered.Work.{Begins, Joins, Patches, Renames, Sets}
use Rattle.mtn_model.specs.State.{State}
use Rattle.mtn_plans.specs.Plans.{Plan}
use Rattle.mtn_plans.specs.declared.outcome.MergeOutcome.TheVariants.{Conflicted, Merged}
use Rattle.mtn_replay.specs.Lawful.{IsLawful}
use Rattle.mtn_replay.proofs.Histories.{history_is_grown}
use Rattle.mtn_step_laws.proofs.SomeDecision.{some_decision}
use Rattle.mtn_step_laws.proofs.SomePlan.{some_plan}
use Rattle.mtn_step_laws.proofs.LawfulGrowth.{lawful_files, lawful_growth}

some_unless : (refusal : Option Cause) (Is : GrowthAnswer → Type 0) → (refusal ≡ None → (answer : GrowthAnswer) × Is answer) → (answer : GrowthAnswer) × Unless refusal Is answer
some_unless None Is some = some refl
some_unless (Some cause) Is some = (Err (Refused cause), refl)

module _ (f : List ℕ → List ℕ) (work : Work) (tips : Tips) (s : State) (lawful : IsLawful f s) where
  some_text : (text : List ℕ) → (answer : GrowthAnswer) × PutsText f work tips s text answer
  some_text text = let d = some_decision f s lawful text in (_, record { refusal = d.0; after = d.1; decides = d.2; is = refl })

  some_edge : (i : ℕ) → (answer : GrowthAnswer) × PutsEdge f work tips s i answer
  some_edge i =
      let e = edge_of f i work tips in
      let t = some_unless (edge_fault lawful.history e) (PutsText f work tips s (edge_text f lawful.history e)) (λ fine. some_text (edge_text f lawful.history e)) in
      (t.0, record { history = lawful.history; spelled = lawful.log; puts = t.1 })

  some_carried : (plan : Plan) → (answer : GrowthAnswer) × Carries f work tips s plan answer
  some_carried (Err cause) = (_, refl)
  some_carried (Ok (Conflicted l r c)) = (_, refl)
  some_carried (Ok (Merged text)) = some_text text

  some_merge : (answer : GrowthAnswer) × MergesTips f work tips s answer
  some_merge =
      let plan = some_plan f s.files lawful.history (history_is_grown f s.files s.log lawful.history lawful.log) tips.left tips.right false [] in
      let t = some_carried plan.0 in
      (t.0, record { history = lawful.history; spelled = lawful.log; plan = plan.0; planned = plan.1; carried = t.1 })

module _ (f : List ℕ → List ℕ) where
  some_work : (i : ℕ) (tips : Tips) (s : State) (work : Work) → IsLawful f s → (answer : GrowthAnswer) × AddsWork f i tips s work answer
  some_work i tips s Joins law = some_merge f Joins tips s law
  some_work i tips s Begins law = some_edge f Begins tips s law i
  some_work i tips s Patches law = some_edge f Patches tips s law i
  some_work i tips s Sets law = some_edge f Sets tips s law i
  some_work i tips s Renames law = some_edge f Renames tips s law i

  some_adding : (i : ℕ) (work : Work) (g : Grown) → IsLawful f g.state → (answer : GrowthAnswer) × Adds f i work g answer
  some_adding i work g law = some_unless (files_refusal f g.state (files_of i work)) (AddsWork f i g.tips (with_files f g.state (files_of i work)) work)
      (λ fine. some_work i g.tips (with_files f g.state (files_of i work)) work (lawful_files f (files_of i work) g.state law fine))

  some_onward : (i : ℕ) (before : GrowthAnswer) → ((g : Grown) → before ≡ Ok g → IsLawful f g.state) → (answer : GrowthAnswer) × Onward before (Adds f i (work_at i)) answer
  some_onward i (Err stop) law = (_, refl)
  some_onward i (Ok g) law = some_adding i (work_at i) g (law g refl)

  some_growth : (s : State) (n : ℕ) → IsLawful f s → (answer : GrowthAnswer) × Grows f s n answer
  some_growth s zero law = (_, refl)
  some_growth s (suc n) law =
      let before = some_growth s n law in
      let answer = some_onward (suc n) before.0 (λ g e. lawful_growth f s n g law (subst (Grows f s n) e before.1)) in
      (answer.0, (before.0, before.1, answer.1))

  pub some_of : (n : ℕ) (s : State) → IsLawful f s → (answer : GrowthAnswer) × Generates f n s answer
  some_of n s law = some_unless (store_refusal s) (Grows f s n) (λ empty. some_growth s n law)

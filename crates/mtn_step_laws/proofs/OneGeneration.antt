-- Generating comes to one thing.
use Rattle.std.proofs.Common.{◌≡◌, ℕ, zero, suc, false, List, [], Option, Some, None, Ok, Err, refl, sym, ap, ◌∙◌, subst}
use Rattle.mtn_base.specs.Hex.{id_of}
use Rattle.mtn_base.specs.declared.refusal.Cause.{Cause}
use Rattle.mtn_generated.specs.Growing.{Adds, AddsWork, GrowthAnswer, Carries, Generates, Grown, Grows, MergesTips, Onward, PutsEdge, PutsText, Unless, files_refusal, grown, grown_or, store_refusal, with_files}
use Rattle.mtn_generated.specs.Numbered.{Tips, Work, edge_fault, edge_of, edge_text, files_of, tips_after, work_at}
use Rattle.mtn_generated.specs.Numbered.Work.{Begins, Joins, Patches, Renames, Sets}
use Rattle.mtn_model.specs.State.{State}
use Rattle.mtn_plans.specs.Plans.{Merges, Plan}
use Rattle.mtn_plans.specs.declared.outcome.MergeOutcome.TheVariants.{Conflicted, Merged}
use Rattle.mtn_replay.proofs.Histories.{one_history}
use Rattle.mtn_step_laws.proofs.Decided.{one_decision}
use Rattle.mtn_step_laws.proofs.OnePlan.{one_plan}

one_unless : (refusal : Option Cause) (Is : GrowthAnswer → Type 0) (a b : GrowthAnswer) → ((x y : GrowthAnswer) → Is x → Is y → x ≡ y) → Unless refusal Is a → Unless refusal Is b → a ≡ b
one_unless None Is a b one is also = one a b is also
one_unless (Some cause) Is a b one is also = is ∙ sym also

module _ (f : List ℕ → List ℕ) (work : Work) (tips : Tips) (s : State) where
  one_text : (text : List ℕ) (a b : GrowthAnswer) → PutsText f work tips s text a → PutsText f work tips s text b → a ≡ b
  one_text text a b is also =
      let one = one_decision f s text is.refusal also.refusal is.after also.after is.decides also.decides in
      let next = tips_after work (id_of (f text)) tips in
      is.is ∙ by is.refusal one.1 ∙ ap (λ r. grown_or r (grown also.after next)) one.0 ∙ sym also.is
    where
      by : (r : Option Cause) → (r ≡ None → is.after ≡ also.after) → grown_or r (grown is.after (tips_after work (id_of (f text)) tips)) ≡ grown_or r (grown also.after (tips_after work (id_of (f text)) tips))
      by None same = ap (λ (t : State). Ok (grown t (tips_after work (id_of (f text)) tips))) (same refl)
      by (Some cause) same = refl

  one_edge : (i : ℕ) (a b : GrowthAnswer) → PutsEdge f work tips s i a → PutsEdge f work tips s i b → a ≡ b
  one_edge i a b is also =
      let history = one_history f s.files s.log is.history also.history is.spelled also.spelled in
      let e = edge_of f i work tips in
      one_unless (edge_fault is.history e) (PutsText f work tips s (edge_text f is.history e)) a b (one_text (edge_text f is.history e)) is.puts
      (subst (λ h. Unless (edge_fault h e) (PutsText f work tips s (edge_text f h e)) b) (sym history) also.puts)

  one_carried : (plan : Plan) (a b : GrowthAnswer) → Carries f work tips s plan a → Carries f work tips s plan b → a ≡ b
  one_carried (Err cause) a b is also = is ∙ sym also
  one_carried (Ok (Conflicted l r c)) a b is also = is ∙ sym also
  one_carried (Ok (Merged text)) a b is also = one_text text a b is also

  one_merge : (a b : GrowthAnswer) → MergesTips f work tips s a → MergesTips f work tips s b → a ≡ b
  one_merge a b is also =
      let history = one_history f s.files s.log is.history also.history is.spelled also.spelled in
      let there = subst (λ h. Merges f s.files h tips.left tips.right false [] also.plan) (sym history) also.planned in
      let plan = one_plan f s.files s.log is.history is.spelled tips.left tips.right false [] is.plan also.plan is.planned there in
      one_carried is.plan a b is.carried (subst (λ p. Carries f work tips s p b) (sym plan) also.carried)

module _ (f : List ℕ → List ℕ) where
  one_work : (i : ℕ) (tips : Tips) (s : State) (work : Work) (a b : GrowthAnswer) → AddsWork f i tips s work a → AddsWork f i tips s work b → a ≡ b
  one_work i tips s Joins a b is also = one_merge f Joins tips s a b is also
  one_work i tips s Begins a b is also = one_edge f Begins tips s i a b is also
  one_work i tips s Patches a b is also = one_edge f Patches tips s i a b is also
  one_work i tips s Sets a b is also = one_edge f Sets tips s i a b is also
  one_work i tips s Renames a b is also = one_edge f Renames tips s i a b is also

  one_adding : (i : ℕ) (work : Work) (g : Grown) (a b : GrowthAnswer) → Adds f i work g a → Adds f i work g b → a ≡ b
  one_adding i work g a b = one_unless (files_refusal f g.state (files_of i work)) (AddsWork f i g.tips (with_files f g.state (files_of i work)) work) a b
      (one_work i g.tips (with_files f g.state (files_of i work)) work)

  one_onward : (i : ℕ) (before a b : GrowthAnswer) → Onward before (Adds f i (work_at i)) a → Onward before (Adds f i (work_at i)) b → a ≡ b
  one_onward i (Err stop) a b is also = is ∙ sym also
  one_onward i (Ok g) a b is also = one_adding i (work_at i) g a b is also

  one_growth : (s : State) (n : ℕ) (a b : GrowthAnswer) → Grows f s n a → Grows f s n b → a ≡ b
  one_growth s zero a b is also = is ∙ sym also
  one_growth s (suc n) a b is also =
      let before = one_growth s n is.0 also.0 is.1 also.1 in
      one_onward (suc n) is.0 a b is.2 (subst (λ x. Onward x (Adds f (suc n) (work_at (suc n))) b) (sym before) also.2)

  pub one_of : (n : ℕ) (s : State) (a b : GrowthAnswer) → Generates f n s a → Generates f n s b → a ≡ b
  one_of n s a b = one_unless (store_refusal s) (Grows f s n) a b (one_growth s n)

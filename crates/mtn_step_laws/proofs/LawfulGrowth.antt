-- What has grown is lawful.
use Rattle.std.proofs.Common.{◌≡◌, ℕ, zero, suc, List, [], ◌∷◌, Option, Some, None, Ok, Err, refl, sym, ap, subst}
use Rattle.mtn_base.specs.Hex.{id_of}
use Rattle.mtn_base.specs.declared.refusal.Cause.{Cause}
use Rattle.mtn_generated.specs.Growing.{Adds, AddsWork, GrowthAnswer, Carries, Generates, Grown, Grows, MergesTips, Onward, PutsEdge, PutsText, Unless, files_refusal, grown, grown_or, store_refusal, with_files}
use Rattle.mtn_generated.specs.Numbered.{Tips, Work, edge_fault, edge_of, edge_text, files_of, no_tips, tips_after, work_at}
use Rattle.mtn_generated.specs.Numbered.Work.{Begins, Joins, Patches, Renames, Sets}
use Rattle.mtn_model.specs.State.{State}
use Rattle.mtn_plans.specs.Plans.{Plan}
use Rattle.mtn_plans.specs.declared.outcome.MergeOutcome.TheVariants.{Conflicted, Merged}
use Rattle.mtn_replay.specs.Accepting.{Decides}
use Rattle.mtn_replay.specs.Files.{file_refusal, with_file}
use Rattle.mtn_replay.specs.Lawful.{IsLawful}
use Rattle.mtn_step_laws.proofs.Accepting.{lawful_decided, lawful_file}
use Rattle.mtn_step_laws.proofs.Certifying.{both_none}

-- a text that was put, without a refusal
pub record IsPut (f : List ℕ → List ℕ) (s : State) (g : Grown) : Type 0 where
  pub text : List ℕ
  pub refusal : Option Cause
  pub decides : Decides f s text refusal g.state
  pub none : refusal ≡ None

-- what is not refused stands after
unrefused : (refusal : Option Cause) (g after : Grown) → Ok g ≡ grown_or refusal after → (refusal ≡ None) × (after.state ≡ g.state)
unrefused None g after e = (refl, let same : g ≡ after = cc in ap (λ (x : Grown). x.state) (sym same))
unrefused (Some cause) g after e = absurd cc

-- what is not stopped was not refused
pub went_on : (refusal : Option Cause) (Is : GrowthAnswer → Type 0) (g : Grown) → Unless refusal Is (Ok g) → (refusal ≡ None) × Is (Ok g)
went_on None Is g is = (refl, is)
went_on (Some cause) Is g is = absurd cc

module _ (f : List ℕ → List ℕ) (work : Work) (tips : Tips) (s : State) (g : Grown) where
  put_text : (text : List ℕ) → PutsText f work tips s text (Ok g) → IsPut f s g
  put_text text is =
      let fine = unrefused is.refusal g (grown is.after (tips_after work (id_of (f text)) tips)) is.is in
      record { text = text; refusal = is.refusal; decides = subst (Decides f s text is.refusal) fine.1 is.decides; none = fine.0 }

  put_edge : (i : ℕ) → PutsEdge f work tips s i (Ok g) → IsPut f s g
  put_edge i is =
      let e = edge_of f i work tips in
      put_text (edge_text f is.history e) (went_on (edge_fault is.history e) (PutsText f work tips s (edge_text f is.history e)) g is.puts).1

  put_carried : (plan : Plan) → Carries f work tips s plan (Ok g) → IsPut f s g
  put_carried (Err cause) is = absurd cc
  put_carried (Ok (Conflicted l r c)) is = absurd cc
  put_carried (Ok (Merged text)) is = put_text text is

  put_merge : MergesTips f work tips s (Ok g) → IsPut f s g
  put_merge is = put_carried is.plan is.carried

module _ (f : List ℕ → List ℕ) where
  put_work : (i : ℕ) (tips : Tips) (s : State) (work : Work) (g : Grown) → AddsWork f i tips s work (Ok g) → IsPut f s g
  put_work i tips s Joins g is = put_merge f Joins tips s g is
  put_work i tips s Begins g is = put_edge f Begins tips s g i is
  put_work i tips s Patches g is = put_edge f Patches tips s g i is
  put_work i tips s Sets g is = put_edge f Sets tips s g i is
  put_work i tips s Renames g is = put_edge f Renames tips s g i is

  -- a revision that was added: its files were put, and then its text
  pub record IsAdded (i : ℕ) (work : Work) (before after : Grown) : Type 0 where
    pub files : files_refusal f before.state (files_of i work) ≡ None
    pub put : IsPut f (with_files f before.state (files_of i work)) after

  pub added : (i : ℕ) (work : Work) (before after : Grown) → Adds f i work before (Ok after) → IsAdded i work before after
  added i work before after is =
      let t = went_on (files_refusal f before.state (files_of i work)) (AddsWork f i before.tips (with_files f before.state (files_of i work)) work) after is in
      record { files = t.0; put = put_work i before.tips (with_files f before.state (files_of i work)) work after t.1 }

  -- what has grown by one more revision: what grew before, and that revision
  pub record IsNextGrown (s : State) (n : ℕ) (g : Grown) : Type 0 where
    pub before : Grown
    pub grew : Grows f s n (Ok before)
    pub added : IsAdded (suc n) (work_at (suc n)) before g

  pub next : (s : State) (n : ℕ) (g : Grown) → Grows f s (suc n) (Ok g) → IsNextGrown s n g
  next s n g is = by is.0 is.1 is.2
    where
      by : (before : GrowthAnswer) → Grows f s n before → Onward before (Adds f (suc n) (work_at (suc n))) (Ok g) → IsNextGrown s n g
      by (Err stop) grew on = absurd cc
      by (Ok b) grew on = record { before = b; grew = grew; added = added (suc n) (work_at (suc n)) b g on }

  pub lawful_files : (texts : List (List ℕ)) (s : State) → IsLawful f s → files_refusal f s texts ≡ None → IsLawful f (with_files f s texts)
  lawful_files [] s law fine = law
  lawful_files (text ∷ rest) s law fine =
      let none = both_none (file_refusal f s text) (files_refusal f (with_file f s text) rest) fine in
      lawful_files rest (with_file f s text) (lawful_file f s text law none.0) none.1

  lawful_added : (i : ℕ) (work : Work) (before after : Grown) → IsLawful f before.state → IsAdded i work before after → IsLawful f after.state
  lawful_added i work before after law is =
      let t = is.put in
      lawful_decided f (with_files f before.state (files_of i work)) t.text t.refusal after.state (lawful_files (files_of i work) before.state law is.files) t.decides t.none

  pub lawful_growth : (s : State) (n : ℕ) (g : Grown) → IsLawful f s → Grows f s n (Ok g) → IsLawful f g.state
  lawful_growth s zero g law is = subst (IsLawful f) (let same : g ≡ grown s no_tips = cc in ap (λ (x : Grown). x.state) (sym same)) law
  lawful_growth s (suc n) g law is =
      let t = next s n g is in
      lawful_added (suc n) (work_at (suc n)) t.before g (lawful_growth s n t.before law t.grew) t.added

  pub generated_is_lawful : (n : ℕ) (s : State) (g : Grown) → IsLawful f s → Generates f n s (Ok g) → IsLawful f g.state
  generated_is_lawful n s g law is = lawful_growth s n g law (went_on (store_refusal s) (Grows f s n) g is).1

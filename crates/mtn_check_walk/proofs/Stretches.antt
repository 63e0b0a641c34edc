-- What is found of the positions of a stretch, one after the other.
use Rattle.std.specs.Prelude.{IfOk, IfSome, MatchResult, slice_index_or}
use Rattle.std.proofs.Common.{◌≡◌, ◌≢◌, ◌≤◌, ◌<◌, ◌++◌, ℕ, List, length, get_or, Option, Some, None, Result, Ok, Err, sym, ap, ◌∙◌, subst}
use Rattle.std.proofs.lemmas.List.{get_or_default}
use Rattle.mtn_check_laws.specs.FirstDamage.{IsDamageAt}
use Rattle.mtn_check_pieces.specs.Verdict.{IsAgreeing, IsVerdict}
use Rattle.mtn_check_pieces.specs.declared.job.CheckJob.{CheckJob}
use Rattle.mtn_check_pieces.specs.declared.job.Verdict.TheVariants.{Agrees}
use Rattle.mtn_check_records.proofs.Answers.{both_answered}
use Rattle.mtn_check_records.specs.Fitting.{AnswersAll, AreAnswered, IsFitting, Shows}
use Rattle.mtn_check_records.specs.declared.hand.JobAnswer.{JobAnswer}
use Rattle.mtn_check_records.specs.declared.hand.Fit.TheVariants.{Fits}
use Rattle.mtn_check_records.specs.declared.hand.Position.{Position}
use Rattle.mtn_history.specs.Errors.{IfDamage}
use Rattle.mtn_history.specs.declared.errors.Damage.{Damage}
use Rattle.mtn_history.specs.declared.errors.Damage.TheVariants.{Bad}
use Rattle.mtn_history.specs.declared.errors.StoreError.{StoreError}
use Rattle.mtn_history.specs.declared.errors.StoreError.TheVariants.{Damaged, Failed, NoMemory}
use Rattle.mtn_check_hands.specs.declared.stretch.Stretch.{Stretch}
use Rattle.mtn_check_walk.specs.Judging.{IsJudged}
use Rattle.mtn_check_walk.specs.declared.judging.Judged.{Judged}
use Rattle.mtn_check_walk.specs.Stretches.{AreSound, Damages, IsShown, IsSound}

-- one position more is sound
pub sound_more : (f : List ℕ → List ℕ) (xs : List Position) (jobs : List CheckJob) (answers : List JobAnswer) (i : ℕ) (a : JobAnswer) → AreAnswered f xs jobs answers → i < length jobs →
    (get_or answers i a).verdict ≡ Agrees → (get_or answers i a).fit ≡ Fits → (x : Position) (job : CheckJob) → IsSound f (slice_index_or xs i x) (slice_index_or jobs i job)
sound_more f xs jobs answers i a answered lt agrees is x job =
    let at = answered i x job a lt in
    record { agrees = subst (λ w. IsVerdict (slice_index_or jobs i job) w) agrees at.verdict; leads = subst (λ k. IsFitting f (slice_index_or xs i x) (slice_index_or jobs i job) k) is at.fit }

-- the damage that an answer tells is that of the position
pub shown_as : (f : List ℕ → List ℕ) (x : Position) (job : CheckJob) (d : ℕ → Damage) (e : StoreError) → Shows f x job d → IsAgreeing job → IfDamage e (λ w. w ≡ d job.at) → IfDamage e (Damages f x job)
shown_as f x job d (Damaged w) shows agrees is = λ c r front walked low read. subst (IsDamageAt f c r front) (ap d (sym read.here) ∙ sym is) (shows c r front walked low read agrees)
shown_as f x job d Failed shows agrees is = tt
shown_as f x job d NoMemory shows agrees is = tt

-- and that of the position at its place
pub shown_at : (f : List ℕ → List ℕ) (xs : List Position) (jobs : List CheckJob) (n : ℕ) (x : Position) (job : CheckJob) (o : Option StoreError) → n < length xs → n < length jobs → x ≡ get_or xs n x → job ≡ get_or jobs n job →
    IfSome o (λ e. IfDamage e (Damages f x job)) → IfSome o (IsShown f xs jobs n)
shown_at f xs jobs n x job None in_xs in_jobs is_x is_job shown = tt
shown_at f xs jobs n x job (Some e) in_xs in_jobs is_x is_job shown = record {
  within = in_jobs;
  damages = λ y j.
      subst (λ z. IfDamage e (Damages f z (get_or jobs n j))) (is_x ∙ get_or_default xs n x y in_xs)
      (subst (λ z. IfDamage e (Damages f x z)) (is_job ∙ get_or_default jobs n job j in_jobs) shown);
}

-- the same record, read through references
pub shown_of : (e : StoreError) (table : ℕ) (k key b body : List ℕ) → k ≡ key → b ≡ body → IfDamage e (λ d. d ≡ Bad table k b) → IfDamage e (λ d. d ≡ Bad table key body)
shown_of e table k key b body same_key same_body is =
    subst (λ y. IfDamage e (λ d. d ≡ Bad table key y)) same_body (subst (λ y. IfDamage e (λ d. d ≡ Bad table y b)) same_key is)

-- the same lists
pub judged : (f : List ℕ → List ℕ) (stretch : Stretch) (xs ys : List Position) (jobs js : List CheckJob) (answers bs : List JobAnswer) (j : Judged) → xs ≡ stretch.positions.items → ys ≡ stretch.positions.items → jobs ≡ stretch.jobs.items → js ≡ stretch.jobs.items →
    bs ≡ answers → AreAnswered f xs jobs answers → j.sound ≤ length js → ((h : List ℕ → List ℕ) → AreAnswered h ys js bs → AreSound h ys js j.sound) →
    ((h : List ℕ → List ℕ) → AreAnswered h ys js bs → IfSome j.damage (IsShown h ys js j.sound)) → IfSome j.damage (λ e. e ≢ Failed) → IsJudged f stretch j
judged f stretch xs ys jobs js answers bs j is_xs is_ys is_jobs is_js is_bs answered within sound shown failed =
    let same_jobs : jobs ≡ js = is_jobs ∙ sym is_js in
    let same_xs : xs ≡ ys = is_xs ∙ sym is_ys in
    let a : AreAnswered f ys js bs = subst (λ l. AreAnswered f l js bs) same_xs (subst (λ l. AreAnswered f xs l bs) same_jobs (subst (AreAnswered f xs jobs) (sym is_bs) answered)) in
    record {
      within = subst (λ l. j.sound ≤ length l) is_js within;
      sound = subst (λ l. AreSound f l stretch.jobs.items j.sound) is_ys (subst (λ l. AreSound f ys l j.sound) is_js (sound f a));
      shown = subst (λ l. IfSome j.damage (IsShown f l stretch.jobs.items j.sound)) is_ys (subst (λ l. IfSome j.damage (IsShown f ys l j.sound)) is_js (shown f a));
      failed = failed;
    }

-- where there are answers on all, there are those on both parts
pub both_parts : {V E : Type 0} (items : V → List JobAnswer) (f : List ℕ → List ℕ) (all xs ys : List Position) (whole jobs js : List CheckJob) (front rest answers : Result V E) → all ≡ xs ++ ys → whole ≡ jobs ++ js → length xs ≡ length jobs →
    IfOk front (λ v. AnswersAll f xs jobs (items v)) → IfOk rest (λ v. AnswersAll f ys js (items v)) →
    IfOk answers (λ v. MatchResult front (λ a. MatchResult rest (λ b. items v ≡ items a ++ items b) (λ _. ⊥)) (λ _. ⊥)) → IfOk answers (λ v. AnswersAll f all whole (items v))
both_parts items f all xs ys whole jobs js front rest (Err e) is_all is_whole same left right is = tt
both_parts items f all xs ys whole jobs js (Err e) rest (Ok v) is_all is_whole same left right is = absurd is
both_parts items f all xs ys whole jobs js (Ok a) (Err e) (Ok v) is_all is_whole same left right is = absurd is
both_parts items f all xs ys whole jobs js (Ok a) (Ok b) (Ok v) is_all is_whole same left right is = both_answered f all xs ys whole jobs js (items v) (items a) (items b) is_all is_whole is same left right

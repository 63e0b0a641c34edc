-- Verdicts at their places; answers, one more each time, and those of lot behind lot.
use Rattle.std.specs.Prelude.{slice_index_or}
use Rattle.std.proofs.Common.{◌≡◌, ◌<◌, ◌+◌, ℕ, zero, suc, List, [], ◌∷◌, ◌++◌, length, get_or, refl, sym, ap, ◌∙◌, subst, arith, below_more}
use Rattle.std.proofs.lemmas.List.{get_or_append_left, get_or_default, length-append}
use Rattle.mtn_check_pieces.specs.Verdict.{AreVerdicts, IsVerdict}
use Rattle.mtn_check_pieces.specs.declared.job.CheckJob.{CheckJob}
use Rattle.mtn_check_pieces.specs.declared.job.Verdict.{Verdict}
use Rattle.mtn_check_records.specs.Fitting.{AreAnswers, AnswersAll}
use Rattle.mtn_check_records.specs.declared.hand.JobAnswer.{JobAnswer}
use Rattle.mtn_check_records.specs.declared.hand.Position.{Position}

-- as many verdicts as jobs
pub as_many : (jobs : List CheckJob) (vs : List Verdict) → AreVerdicts jobs vs → length jobs ≡ length vs
as_many [] [] each = refl
as_many [] (v ∷ vs) each = absurd each
as_many (j ∷ jobs) [] each = absurd each
as_many (j ∷ jobs) (v ∷ vs) each = ap suc (as_many jobs vs each.1)

verdict_at : (jobs : List CheckJob) (vs : List Verdict) (i : ℕ) (d : CheckJob) (e : Verdict) → AreVerdicts jobs vs → i < length jobs → IsVerdict (get_or jobs i d) (get_or vs i e)
verdict_at [] vs i d e each lt = absurd (omega (arith, lt))
verdict_at (j ∷ jobs) [] i d e each lt = absurd each
verdict_at (j ∷ jobs) (v ∷ vs) zero d e each lt = each.0
verdict_at (j ∷ jobs) (v ∷ vs) (suc i) d e each lt = verdict_at jobs vs i d e each.1 (omega (arith, lt))

-- the verdict that stands at the place of a job is on that job
pub verdict_on : (jobs : List CheckJob) (vs : List Verdict) (i : ℕ) (job : CheckJob) (v : Verdict) → AreVerdicts jobs vs → i < length jobs → job ≡ get_or jobs i job → v ≡ get_or vs i v → IsVerdict job v
verdict_on jobs vs i job v each lt is_job is_v =
    subst (λ j. IsVerdict j v) (sym is_job) (subst (λ w. IsVerdict (get_or jobs i job) w) (sym is_v) (verdict_at jobs vs i job v each lt))

at_push : (answers : List JobAnswer) (b d : JobAnswer) → get_or (answers ++ b ∷ []) (length answers) d ≡ b
at_push [] b d = refl
at_push (x ∷ answers) b d = at_push answers b d

-- the answers on the positions up to one
abbrev pub AnsweredTo : (List ℕ → List ℕ) → List Position → List CheckJob → List JobAnswer → ℕ → Type 0
AnsweredTo f xs jobs answers n = (i : ℕ) → i < n → (x : Position) (job : CheckJob) (a : JobAnswer) → AreAnswers f (slice_index_or xs i x) (slice_index_or jobs i job) (slice_index_or answers i a)

-- one answer more
pub answered_more : (f : List ℕ → List ℕ) (xs : List Position) (jobs : List CheckJob) (answers more : List JobAnswer) (i : ℕ) (x : Position) (job : CheckJob) (b : JobAnswer) → length answers ≡ i → i < length xs → i < length jobs →
    x ≡ get_or xs i x → job ≡ get_or jobs i job → AreAnswers f x job b → more ≡ answers ++ b ∷ [] → AnsweredTo f xs jobs answers i → AnsweredTo f xs jobs more (i + 1)
answered_more f xs jobs answers more i x job b long in_xs in_jobs is_x is_job is pushed each =
    subst (λ cs. AnsweredTo f xs jobs cs (i + 1)) (sym pushed)
    (below_more (λ k. (y : Position) (j : CheckJob) (d : JobAnswer) → AreAnswers f (slice_index_or xs k y) (slice_index_or jobs k j) (slice_index_or (answers ++ b ∷ []) k d)) i
    (λ k lt y j d. subst (λ z. AreAnswers f (slice_index_or xs k y) (slice_index_or jobs k j) z) (sym (get_or_append_left answers (b ∷ []) d k (let le = long in omega (arith, le, lt)))) (each k lt y j d))
    (λ y j d.
    subst (λ z. AreAnswers f z (get_or jobs i j) (get_or (answers ++ b ∷ []) i d)) (is_x ∙ get_or_default xs i x y in_xs)
    (subst (λ z. AreAnswers f x z (get_or (answers ++ b ∷ []) i d)) (is_job ∙ get_or_default jobs i job j in_jobs)
    (subst (λ z. AreAnswers f x job z) (sym (subst (λ k. get_or (answers ++ b ∷ []) k d ≡ b) long (at_push answers b d))) is))))

each_of_both : (f : List ℕ → List ℕ) (xs ys : List Position) (jobs js : List CheckJob) (cs bs : List JobAnswer) → length xs ≡ length jobs → AnswersAll f xs jobs cs → AnswersAll f ys js bs →
    (i : ℕ) (x : Position) (job : CheckJob) (a : JobAnswer) → i < length (jobs ++ js) → AreAnswers f (slice_index_or (xs ++ ys) i x) (slice_index_or (jobs ++ js) i job) (slice_index_or (cs ++ bs) i a)
each_of_both f [] ys [] js [] bs same left right i x job a lt = right.each i x job a lt
each_of_both f [] ys [] js (b ∷ cs) bs same left right i x job a lt = absurd (let is = left.len in omega (arith, is))
each_of_both f [] ys (j ∷ jobs) js cs bs same left right i x job a lt = absurd (omega (arith, same))
each_of_both f (y ∷ xs) ys [] js cs bs same left right i x job a lt = absurd (omega (arith, same))
each_of_both f (y ∷ xs) ys (j ∷ jobs) js [] bs same left right i x job a lt = absurd (let is = left.len in omega (arith, is))
each_of_both f (y ∷ xs) ys (j ∷ jobs) js (b ∷ cs) bs same left right zero x job a lt = left.each zero x job a (omega (arith))
each_of_both f (y ∷ xs) ys (j ∷ jobs) js (b ∷ cs) bs same left right (suc i) x job a lt =
    each_of_both f xs ys jobs js cs bs (omega (arith, same))
    (record { len = (let is = left.len in omega (arith, is)); each = λ k z w d under. left.each (suc k) z w d (omega (arith, under)) }) right i x job a (omega (arith, lt))

-- the answers on some positions, and those on what stands behind these
pub both_answered : (f : List ℕ → List ℕ) (all xs ys : List Position) (whole jobs js : List CheckJob) (answers cs bs : List JobAnswer) → all ≡ xs ++ ys → whole ≡ jobs ++ js → answers ≡ cs ++ bs → length xs ≡ length jobs →
    AnswersAll f xs jobs cs → AnswersAll f ys js bs → AnswersAll f all whole answers
both_answered f all xs ys whole jobs js answers cs bs is_all is_whole is_answers same left right =
    subst (λ l. AnswersAll f l whole answers) (sym is_all) (subst (λ l. AnswersAll f (xs ++ ys) l answers) (sym is_whole) (subst (λ l. AnswersAll f (xs ++ ys) (jobs ++ js) l) (sym is_answers)
    (record {
      len = (let one = left.len in let other = right.len in let of_answers = length-append cs bs in let of_jobs = length-append jobs js in omega (arith, one, other, of_answers, of_jobs));
      each = each_of_both f xs ys jobs js cs bs same left right;
    })))

-- What the clauses say of a single command.
use Rattle.std.proofs.Common.{◌≡◌, ℕ, List, [], ◌∷◌, ◌++◌, length, take, Option, subst, arith}
use Rattle.std.specs.Io.KnownBytes.{Appends}
use Rattle.std.proofs.lemmas.List.{append-nil}
use Rattle.mtn_model.specs.Table.{Contents}
use Rattle.mtn_frame.specs.declared.script.Job.{Job}
use Rattle.mtn_frame.specs.declared.script.Script.TheVariants.{Bare}
use Rattle.mtn_model.specs.declared.status.Status.{Status}
use Rattle.mtn_model.specs.declared.status.Status.TheVariants as status
use Rattle.mtn_frame.specs.Outcome.{JobOutcome}
use Rattle.mtn_frame.specs.Script.{Reaches, state_after, texts, printed, last_status}
use Rattle.mtn_frame.specs.Frame.{WalkedAll, WalkedShort, Stopped, StandsAfterSome}

module _ {S : Type 0} (Stands : Contents → S → Type 0) (Is : Job → S → JobOutcome S → Type 0) (job : Job) (s : S) where
  done_by : (d : Contents) (w0 w1 : Option (List ℕ)) (result : Status) (os : List (JobOutcome S)) → Reaches Is s (job ∷ []) os → Stands d (state_after s os) → Appends w0 w1 (texts (Bare job) os) → length os ≡ 1 → result ≡ last_status status.Ok os →
      (o : JobOutcome S) × Is job s o × (result ≡ o.status) × Stands d o.state × Appends w0 w1 o.output
  done_by d w0 w1 result [] reaches stands written long is = absurd (omega (arith, long))
  done_by d w0 w1 result (o ∷ []) reaches stands written long is = (o, reaches.0, is, stands, subst (Appends w0 w1) (append-nil o.output) written)
  done_by d w0 w1 result (o ∷ p ∷ os) reaches stands written long is = absurd reaches.1

  pub single_done : (d : Contents) (w0 w1 : Option (List ℕ)) (result : Status) → WalkedAll Stands Is (Bare job) s d w0 w1 result → (o : JobOutcome S) × Is job s o × (result ≡ o.status) × Stands d o.state × Appends w0 w1 o.output
  single_done d w0 w1 result all = done_by d w0 w1 result all.walked.outcomes all.walked.reaches all.walked.stands all.walked.written all.all all.status

  cut_by : (d : Contents) (w0 w1 : Option (List ℕ)) (os : List (JobOutcome S)) (last : JobOutcome S) (front : ℕ) → Reaches Is s (job ∷ []) (os ++ last ∷ []) → Stands d last.state → Appends w0 w1 (texts (Bare job) os ++ take front (printed (Bare job) (length os) last)) →
      (o : JobOutcome S) × Is job s o × Stands d o.state × ((n : ℕ) × Appends w0 w1 (take n o.output))
  cut_by d w0 w1 [] last front reaches stands written = (last, reaches.0, stands, (front, written))
  cut_by d w0 w1 (o ∷ []) last front reaches stands written = absurd reaches.1
  cut_by d w0 w1 (o ∷ p ∷ os) last front reaches stands written = absurd reaches.1

  pub single_cut : (d : Contents) (w0 w1 : Option (List ℕ)) → WalkedShort Stands Is (Bare job) s (job ∷ []) d w0 w1 → (o : JobOutcome S) × Is job s o × Stands d o.state × ((n : ℕ) × Appends w0 w1 (take n o.output))
  single_cut d w0 w1 short = cut_by d w0 w1 short.outcomes short.last short.front short.reaches short.stands short.written

  pub single_halted : (d : Contents) (w0 w1 : Option (List ℕ)) → Stopped Stands Is (Bare job) s d w0 w1 → Stands d s × Appends w0 w1 []
  single_halted d w0 w1 stopped = (subst (λ os. Stands d (state_after s os)) stopped.none stopped.walked.stands, subst (λ os. Appends w0 w1 (texts (Bare job) os)) stopped.none stopped.walked.written)

  crash_by : (e : Contents) (first : JobOutcome S) (more : List (JobOutcome S)) → Reaches Is s (job ∷ []) (first ∷ more) → Stands e (state_after s (first ∷ more)) → (o : JobOutcome S) × Is job s o × Stands e o.state
  crash_by e first [] reaches stands = (first, reaches.0, stands)
  crash_by e first (p ∷ os) reaches stands = absurd reaches.1

  pub single_crash : (e : Contents) → StandsAfterSome Stands Is s (job ∷ []) e → (o : JobOutcome S) × Is job s o × Stands e o.state
  single_crash e after = crash_by e after.first after.more after.reaches after.stands

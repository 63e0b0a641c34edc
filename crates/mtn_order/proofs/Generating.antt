-- A generated history, and the number of revisions, over states that are the same up to order. Such states with an empty log are one.
use Rattle.std.proofs.Common.{◌≡◌, ℕ, ◌<◌, Bool, true, false, cond, List, [], ◌∷◌, ◌++◌, length, Some, None, Ok, Err, refl, sym, ap, ◌∙◌, subst, arith}
use Rattle.std.specs.Prelude.{◌==◌, codes, decimal}
use Rattle.std.proofs.lemmas.Bool.Decides.{nat_tests}
use Rattle.mtn_base.specs.declared.refusal.Cause.TheVariants.{StoreNotEmpty}
use Rattle.mtn_generated.specs.Growing.{GrowthAnswer, Generates, Grows, Unless}
use Rattle.mtn_generated.specs.Growing.Stop.{Refused, Conflicting}
use Rattle.mtn_generated.proofs.Stopping.{not_empty}
use Rattle.mtn_model.specs.Outcome.{Outcome}
use Rattle.mtn_model.specs.State.{Logged, State}
use Rattle.mtn_replay.specs.Lawful.{IsLawful}
use Rattle.mtn_renaming.specs.Order.{IsSameUpToOrder}
use Rattle.mtn_renaming.specs.Renaming.{elsewhere}
use Rattle.mtn_renaming.proofs.Refusing.{same_length}
use Rattle.mtn_step.specs.Step.{Generated, done, refused, sound_text}
use Rattle.mtn_step_laws.proofs.LawfulGrowth.{generated_is_lawful}
use Rattle.mtn_order.specs.Free.{IsOrderFree, IsSameOutcome}
use Rattle.mtn_order.proofs.Framing.{is_outcome, other_history, same_done, same_refused}

module _ (f : List ℕ → List ℕ) (s t : State) (same : IsSameUpToOrder f s t) where
  same_lengths : length t.log ≡ length s.log
  same_lengths =
      let h = same.one.history in
      let other = other_history f s t h same same.one.log in
      sym other.1.long ∙ same_length h other.0 (elsewhere h other.0) (elsewhere other.0 h) other.2 ∙ same.one.log.long

  no_log : (log : List Logged) → length log ≡ 0 → log ≡ []
  no_log [] none = refl
  no_log (l ∷ rest) none = absurd (omega (arith, none))

  same_state : s.log ≡ [] → s ≡ t
  same_state none =
      let logs : s.log ≡ t.log = none ∙ sym (no_log t.log (same_lengths ∙ ap length none)) in
      λ i. record { files = same.files i; log = logs i; certs = same.certs i; keys = same.keys i }

abbrev pub DoesGenerate : (List ℕ → List ℕ) → ℕ → State → Outcome → Type 0
DoesGenerate f n s o = (answer : GrowthAnswer) × Generates f n s answer × Generated n s answer o

-- what is done leaves a lawful state
leaves_lawful : (f : List ℕ → List ℕ) (n : ℕ) (s : State) (o : Outcome) (answer : GrowthAnswer) → IsLawful f s → Generates f n s answer → Generated n s answer o → IsLawful f o.state
leaves_lawful f n s o (Ok g) law does is = subst (λ (x : Outcome). IsLawful f x.state) (sym is) (generated_is_lawful f n s g law does)
leaves_lawful f n s o (Err (Refused cause)) law does is = subst (λ (x : Outcome). IsLawful f x.state) (sym is) law
leaves_lawful f n s o (Err (Conflicting left right conflicts)) law does is = subst (λ (x : Outcome). IsLawful f x.state) (sym is) law

unchanged : (f : List ℕ → List ℕ) (o : Outcome) → IsLawful f o.state → IsSameOutcome f o o
unchanged f o law = record { output = refl; status = refl; states = record { one = law; other = law; files = refl; texts = λ l. (λ x. x, λ x. x); certs = refl; keys = refl } }

-- where there are revisions
stops_by : (f : List ℕ → List ℕ) (n : ℕ) (s : State) → 0 < length s.log → Generates f n s (Err (Refused (StoreNotEmpty (length s.log))))
stops_by f n s some = by (length s.log == 0) refl
  where
    by : (b : Bool) → (length s.log == 0) ≡ b → Unless (cond b None (Some (StoreNotEmpty (length s.log)))) (Grows f s n) (Err (Refused (StoreNotEmpty (length s.log))))
    by false e = refl
    by true e = absurd (grind (arith, nat_tests))

refused_of : (n : ℕ) (s : State) (o : Outcome) (answer : GrowthAnswer) (k : ℕ) → answer ≡ Err (Refused (StoreNotEmpty k)) → Generated n s answer o → o ≡ refused (StoreNotEmpty k) s
refused_of n s o answer k is does = subst (λ a. Generated n s a o) is does

module _ (f : List ℕ → List ℕ) (n : ℕ) (s t : State) (same : IsSameUpToOrder f s t) (o : Outcome) (does : DoesGenerate f n s o) where
  abbrev There : Type 0
  There = (p : Outcome) × DoesGenerate f n t p × IsSameOutcome f o p

  over_none : s.log ≡ [] → There
  over_none none = (o, subst (λ x. DoesGenerate f n x o) (same_state f s t same none) does, unchanged f o (leaves_lawful f n s o does.0 same.one does.1 does.2))

  over_some : 0 < length s.log → There
  over_some some =
      let cause = StoreNotEmpty (length t.log) in
      let is : o ≡ refused (StoreNotEmpty (length s.log)) s = refused_of n s o does.0 (length s.log) (not_empty f n s does.0 some does.1) does.2 in
      let is_there : o ≡ refused cause s = is ∙ ap (λ k. refused (StoreNotEmpty k) s) (sym (same_lengths f s t same)) in
      (refused cause t, (Err (Refused cause), stops, refl), is_outcome f o (refused cause s) (refused cause t) is_there (same_refused f s t same cause))
    where
      stops : Generates f n t (Err (Refused (StoreNotEmpty (length t.log))))
      stops = stops_by f n t (let long = same_lengths f s t same in omega (arith, long, some))

  by : (log : List Logged) → s.log ≡ log → There
  by [] is = over_none is
  by (l ∷ rest) is = over_some (let long = ap length is in omega (arith, long))

pub generates_free : (f : List ℕ → List ℕ) (n : ℕ) → IsOrderFree f (DoesGenerate f n)
generates_free f n s t o same does = by f n s t same o does s.log refl

pub checks_free : (f : List ℕ → List ℕ) → IsOrderFree f (λ s o. o ≡ done s (sound_text s))
checks_free f s t o same does = (
  done t (sound_text t),
  refl,
  is_outcome f o (done s (sound_text t)) (done t (sound_text t)) (does ∙ ap (λ k. done s (codes "ok " ++ decimal k ++ 10 ∷ [])) (sym (same_lengths f s t same))) (same_done f s t same (sound_text t)),
)

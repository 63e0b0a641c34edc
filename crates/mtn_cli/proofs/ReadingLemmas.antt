-- What is shown where packets are read, the store is checked, or an older one is migrated, from one job to a session and to the top call.
use Rattle.std.specs.List.{list_any}
use Rattle.std.specs.Prelude.{◌||◌}
use Rattle.std.proofs.Common.{◌≡◌, inl, inr, ℕ, Bool, true, false, List, [], ◌∷◌, ◌++◌, Option, Result, refl, sym, ap, ◌∙◌, subst}
use Rattle.mtn_frame.specs.Outcome.{JobOutcome as Ending}
use Rattle.mtn_model.specs.Table.{Contents}
use Rattle.mtn_model.specs.declared.status.Status.{Status}
use Rattle.mtn_frame.specs.One.{One}
use Rattle.mtn_frame.specs.Frame.{Shows}
use Rattle.mtn_frame.specs.Session.{RunsScript, is_framed}
use Rattle.mtn_frame.specs.Works.{Works}
use Rattle.mtn_frame.specs.declared.script.Form.{Form}
use Rattle.mtn_frame.specs.declared.script.Job.{Job}
use Rattle.mtn_frame.specs.declared.script.Job.TheVariants.{Call}
use Rattle.mtn_frame.specs.declared.script.Script.{Script}
use Rattle.mtn_frame.specs.declared.script.Script.TheVariants.{Bare}
use Rattle.mtn_frame.specs.declared.works.WorkError.{WorkError}
use Rattle.mtn_frame.specs.declared.works.Worked.{Worked}
use Rattle.mtn_old_stores.specs.Stores.{StandsIn, Store as AnyStore}
use Rattle.mtn_cli.specs.Store.{IsFirstLine, IsLine, IsOldStore, ShowsDamage, is_checking, is_migrating, is_reading, job_checking, job_migrating, job_reading, script_checking, script_migrating, script_reading}

-- a test that a job passes, of a list that has it behind others
any_behind : (test : Job → Bool) (front rest : List Job) (job : Job) → test job ≡ true → list_any test (front ++ job ∷ rest) ≡ true
any_behind test [] rest job on = ap (λ b. b || list_any test rest) on
any_behind test (x ∷ front) rest job on = ap (λ b. test x || b) (any_behind test front rest job on) ∙ or_true (test x)
  where
    or_true : (b : Bool) → (b || true) ≡ true
    or_true true = refl
    or_true false = refl

-- the same damage where more may read packets, check the store, or migrate it
shows_more : (f : List ℕ → List ℕ) (P Q R S U V : Type 0) → (P → Q) → (R → S) → (U → V) → (c : Contents) (line : List ℕ) → ShowsDamage f P R U c line → ShowsDamage f Q S V c line
shows_more f P Q R S U V more checks migrates c line shows = record {
  damage = shows.damage;
  cause = elim shows.cause [
    | inl own ↦ inl own
    | inr (inl (inl r, first)) ↦ inr (inl (inl (more r), first))
    | inr (inl (inr k, first)) ↦ inr (inl (inr (checks k), first))
    | inr (inr (m, cert)) ↦ inr (inr (migrates m, cert))
  ];
  is_shown = shows.is_shown;
  no_state = shows.no_state;
  is = shows.is;
}

module _ (f : List ℕ → List ℕ) {M : Type 0} (Knows : M → Contents → Type 0) {K : Type 0} (contents : K → Option Contents) (leaves : K → Contents → Type 0) (faults asked : K → ℕ) (old new : K) (m : M) where
  module _ (w0 w1 : Option (List ℕ)) (o0 o1 : ℕ) (form : Form) (spelled merges vouched : Bool) (Outcomes : AnyStore → Ending AnyStore → Type 0) (Bounded : AnyStore → ℕ → Type 0) (Changes : Contents → Contents → Type 0) (result : Status) where
    abbrev Does : Type 0 → Type 0 → Type 0 → Type 0
    Does P R U = One (StandsIn f) (ShowsDamage f P R U) (IsFirstLine f) IsOldStore IsLine Knows contents leaves faults asked old new m w0 w1 o0 o1 form spelled merges vouched Outcomes Bounded Changes result

    wider : (P Q R S U V : Type 0) → (P → Q) → (R → S) → (U → V) → Does P R U → Does Q S V
    wider P Q R S U V more checks migrates one = record {
      told = one.told;
      done = one.done;
      knows = one.knows;
      crash = one.crash;
      same = one.same;
      written = one.written;
      grows = one.grows;
      damage = λ ends c now. let shown = one.damage ends c now in record { line = shown.line; is = shows_more f P Q R S U V more checks migrates c shown.line shown.is; written = shown.written };
      usage = one.usage;
      words = one.words;
      conflicts = one.conflicts;
      store = one.store;
      sink = one.sink;
      few_reads = one.few_reads;
      changes = one.changes;
      vouches = one.vouches;
      later = one.later;
      sink_later = one.sink_later;
    }

    -- a job of a session
    pub one_of_jobs : (jobs front left rest : List Job) (job : Job) → front ++ left ≡ jobs → left ≡ job ∷ rest → Does (job_reading job ≡ true) (job_checking job ≡ true) (job_migrating job ≡ true) → Does (list_any job_reading jobs ≡ true) (list_any job_checking jobs ≡ true) (list_any job_migrating jobs ≡ true)
    one_of_jobs jobs front left rest job all is one =
        wider (job_reading job ≡ true) (list_any job_reading jobs ≡ true) (job_checking job ≡ true) (list_any job_checking jobs ≡ true) (job_migrating job ≡ true) (list_any job_migrating jobs ≡ true) (any job_reading) (any job_checking) (any job_migrating) one
      where
        any : (test : Job → Bool) → test job ≡ true → list_any test jobs ≡ true
        any test on = ap (list_any test) (sym all ∙ ap (λ js. front ++ js) is) ∙ any_behind test front rest job on

    -- a job alone
    pub bare_job : (script : Script) (job : Job) → script ≡ Bare job → Does (job_reading job ≡ true) (job_checking job ≡ true) (job_migrating job ≡ true) → Does (script_reading script ≡ true) (script_checking script ≡ true) (script_migrating script ≡ true)
    bare_job script job is one = subst (λ (x : Script). Does (script_reading x ≡ true) (script_checking x ≡ true) (script_migrating x ≡ true)) (sym is) one

  module _ (spelled merges vouched : Bool) (Outcomes : AnyStore → Ending AnyStore → Type 0) (Bounded : AnyStore → ℕ → Type 0) (Changes : Contents → Contents → Type 0) (r : Result Worked WorkError) where
    abbrev Of : Bool → Bool → Bool → Type 0
    Of reading checking migrating = Works (StandsIn f) (ShowsDamage f (reading ≡ true) (checking ≡ true) (migrating ≡ true)) (IsFirstLine f) IsOldStore IsLine Knows contents leaves faults asked old new m spelled merges vouched Outcomes Bounded Changes r

    -- a job by its words
    pub job_works : (job : Job) (words words1 : List (List ℕ)) (payload : List ℕ) → job ≡ Call words payload → words1 ≡ words → Of (is_reading words1) (is_checking words1) (is_migrating words1) → Of (job_reading job) (job_checking job) (job_migrating job)
    job_works job words words1 payload is same works =
        subst (λ (j : Job). Of (job_reading j) (job_checking j) (job_migrating j)) (sym is) (subst (λ (w : List (List ℕ)). Of (is_reading w) (is_checking w) (is_migrating w)) same works)

-- a script of the top call
module _ (f : List ℕ → List ℕ) (Is : Job → AnyStore → Ending AnyStore → Type 0) (Bounded : Job → AnyStore → ℕ → Type 0) (Changes : Job → Contents → Contents → Type 0) {K : Type 0} (contents : K → Option Contents) (leaves : K → Contents → Type 0) (faults asked : K → ℕ) (old new : K)
    (w0 w1 : Option (List ℕ)) (o0 o1 : ℕ) (script : Script) (spelled merges vouched : Bool) (result : Status) (P Q R S U V : Type 0) (more : P → Q) (checks : R → S) (migrates : U → V) where
  shown_by : (framed : Bool) (c : Contents) → Shows (ShowsDamage f P R U) framed c w0 w1 → Shows (ShowsDamage f Q S V) framed c w0 w1
  shown_by false c shows = record { line = shows.line; is = shows_more f P Q R S U V more checks migrates c shows.line shows.is; written = shows.written }
  shown_by true c shows = record { before = shows.before; form = shows.form; line = shows.line; is = shows_more f P Q R S U V more checks migrates c shows.line shows.is; written = shows.written }

  pub script_run : RunsScript (StandsIn f) (ShowsDamage f P R U) (IsFirstLine f) IsOldStore IsLine Is Bounded Changes contents leaves faults asked old new w0 w1 o0 o1 script spelled merges vouched result →
      RunsScript (StandsIn f) (ShowsDamage f Q S V) (IsFirstLine f) IsOldStore IsLine Is Bounded Changes contents leaves faults asked old new w0 w1 o0 o1 script spelled merges vouched result
  script_run run = record {
    told = run.told;
    done = run.done;
    crash = run.crash;
    same = run.same;
    written = run.written;
    damage = λ ends c now. shown_by (is_framed script) c (run.damage ends c now);
    usage = run.usage;
    words = run.words;
    conflicts = run.conflicts;
    store = run.store;
    sink = run.sink;
    few_reads = run.few_reads;
    changes = run.changes;
    vouches = run.vouches;
    read = run.read;
    later = run.later;
  }

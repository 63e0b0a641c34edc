-- A script from its one job, or from its loop.
use Rattle.std.proofs.Common.{◌≡◌, ◌≢◌, inl, inr, ℕ, Bool, true, false, List, [], ◌∷◌, Option, refl, sym, subst}
use Rattle.std.specs.Bool.{OnTrue}
use Rattle.std.specs.Io.KnownBytes.{Appends}
use Rattle.std.proofs.lemmas.List.{append-nil}
use Rattle.mtn_base.specs.declared.refusal.Refusal.{Refusal}
use Rattle.mtn_model.specs.Table.{Contents}
use Rattle.mtn_ports.specs.Kept.{Same}
use Rattle.mtn_frame.specs.declared.script.Job.{Job}
use Rattle.mtn_frame.specs.declared.script.Form.TheVariants.{Plain}
use Rattle.mtn_frame.specs.declared.script.Script.{Script}
use Rattle.mtn_frame.specs.declared.script.Script.TheVariants.{Bare, Framed}
use Rattle.mtn_model.specs.declared.status.Status.{Status}
use Rattle.mtn_model.specs.declared.status.Status.TheVariants as status
use Rattle.mtn_frame.specs.Kinds.{Kind, Answered, Cut, Halted, Quiet, Hurt, kind_of, ByKind, ByVouch}
use Rattle.mtn_frame.specs.Outcome.{JobOutcome}
use Rattle.mtn_frame.specs.Script.{print_as, Does, BoundsJob, ChangesJob}
use Rattle.mtn_frame.specs.Works.{is_spelled, is_merging, is_vouching}
use Rattle.mtn_frame.specs.One.{One, WritesOne}
use Rattle.mtn_frame.specs.Frame.{Writes, keeps}
use Rattle.mtn_frame.specs.Session.{RunsJobs, RunsScript, EndsSession, script_spelled, script_merging, script_vouching}

map_kind : (k : Kind) (a c h a' c' h' : Type 0) → ByKind k a c h ⊥ ⊥ → (a → a') → (c → c') → (h → h') → ByKind k a' c' h' ⊥ ⊥
map_kind Answered a c h a' c' h' x on_a on_c on_h = on_a x
map_kind Cut a c h a' c' h' x on_a on_c on_h = on_c x
map_kind Halted a c h a' c' h' x on_a on_c on_h = on_h x
map_kind Quiet a c h a' c' h' x on_a on_c on_h = x
map_kind Hurt a c h a' c' h' x on_a on_c on_h = x

map_vouch : (st : Status) (a r h h' : Type 0) → ByVouch st a r h → (h → h') → ByVouch st a r h'
map_vouch status.Ok a r h h' x on_h = x
map_vouch status.Refused a r h h' x on_h = x
map_vouch status.Usage a r h h' x on_h = x
map_vouch status.Conflicts a r h h' x on_h = x
map_vouch status.SourceFault a r h h' x on_h = x
map_vouch status.SinkFault a r h h' x on_h = x
map_vouch status.StoreFault a r h h' x on_h = x
map_vouch status.NoMemory a r h h' x on_h = x
map_vouch status.Damaged a r h h' x on_h = on_h x
map_vouch status.TooLong a r h h' x on_h = x

keep_by : (S : Type 0) (st : Status) → (st ≢ status.Ok → st ≢ status.SinkFault → S) → OnTrue (keeps false st) S
keep_by S status.Ok same = tt
keep_by S status.Refused same = same (λ is. cc) (λ is. cc)
keep_by S status.Usage same = same (λ is. cc) (λ is. cc)
keep_by S status.Conflicts same = same (λ is. cc) (λ is. cc)
keep_by S status.SourceFault same = same (λ is. cc) (λ is. cc)
keep_by S status.SinkFault same = tt
keep_by S status.StoreFault same = same (λ is. cc) (λ is. cc)
keep_by S status.NoMemory same = same (λ is. cc) (λ is. cc)
keep_by S status.Damaged same = same (λ is. cc) (λ is. cc)
keep_by S status.TooLong same = same (λ is. cc) (λ is. cc)

writes_by : (Lines : List ℕ → Type 0) (w0 w1 : Option (List ℕ)) (st : Status) → WritesOne Lines Plain w0 w1 st → Writes Lines false w0 w1 st
writes_by Lines w0 w1 status.Ok x = tt
writes_by Lines w0 w1 status.Refused x = x
writes_by Lines w0 w1 status.Usage x = x
writes_by Lines w0 w1 status.Conflicts x = tt
writes_by Lines w0 w1 status.SourceFault x = absurd x
writes_by Lines w0 w1 status.SinkFault x = tt
writes_by Lines w0 w1 status.StoreFault x = x
writes_by Lines w0 w1 status.NoMemory x = x
writes_by Lines w0 w1 status.Damaged x = x
writes_by Lines w0 w1 status.TooLong x = absurd x

session_keeps : (S : Type 0) (k0 k1 o0 o1 : ℕ) (st : Status) → EndsSession k0 k1 o0 o1 st → OnTrue (keeps true st) S
session_keeps S k0 k1 o0 o1 status.Ok x = tt
session_keeps S k0 k1 o0 o1 status.Refused x = absurd x
session_keeps S k0 k1 o0 o1 status.Usage x = absurd x
session_keeps S k0 k1 o0 o1 status.Conflicts x = absurd x
session_keeps S k0 k1 o0 o1 status.SourceFault x = absurd x
session_keeps S k0 k1 o0 o1 status.SinkFault x = tt
session_keeps S k0 k1 o0 o1 status.StoreFault x = tt
session_keeps S k0 k1 o0 o1 status.NoMemory x = tt
session_keeps S k0 k1 o0 o1 status.Damaged x = tt
session_keeps S k0 k1 o0 o1 status.TooLong x = absurd x

session_writes : (Lines : List ℕ → Type 0) (w0 w1 : Option (List ℕ)) (k0 k1 o0 o1 : ℕ) (st : Status) → EndsSession k0 k1 o0 o1 st → Writes Lines true w0 w1 st
session_writes Lines w0 w1 k0 k1 o0 o1 status.Ok x = tt
session_writes Lines w0 w1 k0 k1 o0 o1 status.Refused x = absurd x
session_writes Lines w0 w1 k0 k1 o0 o1 status.Usage x = absurd x
session_writes Lines w0 w1 k0 k1 o0 o1 status.Conflicts x = absurd x
session_writes Lines w0 w1 k0 k1 o0 o1 status.SourceFault x = absurd x
session_writes Lines w0 w1 k0 k1 o0 o1 status.SinkFault x = tt
session_writes Lines w0 w1 k0 k1 o0 o1 status.StoreFault x = tt
session_writes Lines w0 w1 k0 k1 o0 o1 status.NoMemory x = tt
session_writes Lines w0 w1 k0 k1 o0 o1 status.Damaged x = tt
session_writes Lines w0 w1 k0 k1 o0 o1 status.TooLong x = absurd x

module _ {S : Type 0} (Stands : Contents → S → Type 0) (Damages Firsts : Contents → List ℕ → Type 0) (Refuses : Contents → Refusal → Type 0) (Lines : List ℕ → Type 0) {M : Type 0} (Knows : M → Contents → Type 0) {K : Type 0} (contents : K → Option Contents) (leaves : K → Contents → Type 0) (faults asked : K → ℕ)
    (does : List (List ℕ) → List ℕ → S → JobOutcome S → Type 0) (bounds : List (List ℕ) → List ℕ → S → ℕ → Type 0) (changes : List (List ℕ) → List ℕ → Contents → Contents → Type 0) (spelled merging vouching : List (List ℕ) → Bool) (old new : K) (m1 : M) (w0 w1 : Option (List ℕ)) (o0 o1 : ℕ) (result : Status) where
  abbrev Target : Script → Type 0
  Target script = RunsScript Stands Damages Firsts Refuses Lines (Does does) (BoundsJob bounds) (ChangesJob changes) contents leaves faults asked old new w0 w1 o0 o1 script (script_spelled spelled script) (script_merging merging script) (script_vouching vouching script) result

  bare : (job : Job) → One Stands Damages Firsts Refuses Lines Knows contents leaves faults asked old new m1 w0 w1 o0 o1 Plain (is_spelled spelled job) (is_merging merging job) (is_vouching vouching job) (Does does job) (BoundsJob bounds job) (ChangesJob changes job) result → Target (Bare job)
  bare job one = record {
    told = one.told;
    done = λ c d s told now stands. map_kind (kind_of result) _ _ _ _ _ _ (one.done c d s told now stands)
        (λ a. record { walked = record { outcomes = a.outcome ∷ []; reaches = (a.is, tt); stands = a.stands; written = subst (Appends w0 w1) (sym (append-nil (print_as Plain a.outcome.status a.outcome.output))) a.written }; all = refl; status = a.status })
        (λ a. record { outcomes = []; last = a.outcome; reaches = (a.is, tt); stands = a.stands; front = a.front; written = a.written })
        (λ h. record { walked = record { outcomes = []; reaches = tt; stands = h.0; written = h.1 }; none = refl });
    crash = λ c d e s told now stands may. elim (one.crash c d e s told now stands may) [
      | inl before ↦ inl before
      | inr after ↦ inr (record { first = after.outcome; more = []; reaches = (after.is, tt); stands = after.stands })
    ];
    same = keep_by (Same (contents old) (contents new)) result one.same;
    written = writes_by Lines w0 w1 result one.written;
    damage = λ is c now. let shown = one.damage is c now in record { line = shown.line; is = shown.is; written = shown.written };
    few_reads = λ c d s n told now stands bounded. one.few_reads c d s n told now stands bounded;
    changes = one.changes;
    vouches = λ on d now. map_vouch result _ _ _ _ (one.vouches on d now) (λ shown. record { line = shown.line; is = shown.is; written = shown.written });
    usage = one.usage;
    words = one.words;
    conflicts = one.conflicts;
    store = one.store;
    sink = one.sink;
    read = (λ is. subst (WritesOne Lines Plain w0 w1) is one.written, λ is. subst (WritesOne Lines Plain w0 w1) is one.written);
    later = one.later;
  }

  session : (jobs : List Job) → RunsJobs Stands Damages (Does does) contents leaves faults old new w0 w1 o0 o1 jobs result → Target (Framed jobs)
  session jobs run = record {
    told = run.told;
    done = run.done;
    crash = run.crash;
    same = session_keeps (Same (contents old) (contents new)) (faults old) (faults new) o0 o1 result run.ends;
    written = session_writes Lines w0 w1 (faults old) (faults new) o0 o1 result run.ends;
    damage = run.damage;
    few_reads = tt;
    changes = tt;
    vouches = tt;
    usage = λ is. absurd (subst (EndsSession (faults old) (faults new) o0 o1) is run.ends);
    words = λ none. cc;
    conflicts = λ is. absurd (subst (EndsSession (faults old) (faults new) o0 o1) is run.ends);
    store = λ is. subst (EndsSession (faults old) (faults new) o0 o1) is run.ends;
    sink = λ is. subst (EndsSession (faults old) (faults new) o0 o1) is run.ends;
    read = (λ is. subst (EndsSession (faults old) (faults new) o0 o1) is run.ends, λ is. subst (EndsSession (faults old) (faults new) o0 o1) is run.ends);
    later = run.later;
  }

  pub of_bare : (script : Script) (job : Job) → script ≡ Bare job → One Stands Damages Firsts Refuses Lines Knows contents leaves faults asked old new m1 w0 w1 o0 o1 Plain (is_spelled spelled job) (is_merging merging job) (is_vouching vouching job) (Does does job) (BoundsJob bounds job) (ChangesJob changes job) result → Target script
  of_bare script job is one = subst Target (sym is) (bare job one)

  pub of_session : (script : Script) (jobs : List Job) → script ≡ Framed jobs → RunsJobs Stands Damages (Does does) contents leaves faults old new w0 w1 o0 o1 jobs result → Target script
  of_session script jobs is run = subst Target (sym is) (session jobs run)

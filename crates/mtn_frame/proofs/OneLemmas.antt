-- One job, from what its command did, what was settled, what was put and what was written.
use Rattle.std.proofs.Common.{◌≡◌, ◌≤◌, ◌<◌, ◌+◌, ◌⊎◌, inl, inr, ℕ, Bool, true, false, List, [], ◌∷◌, length, take, Option, Some, None, Result, Ok, Err, refl, sym, ap, ◌∙◌, subst, arith}
use Rattle.std.specs.Prelude.{⊤, if◌then◌else◌, IsErrOf, OnOk, OnErr}
use Rattle.std.specs.Io.KnownBytes.{Appends}
use Rattle.std.proofs.lemmas.List.{append-nil}
use Rattle.mtn_base.specs.declared.refusal.Refusal.{Refusal}
use Rattle.mtn_base.specs.Refusals.{refusal_text}
use Rattle.mtn_model.specs.Table.{Contents}
use Rattle.mtn_ports.specs.Causes.{Rose}
use Rattle.mtn_ports.specs.Kept.{Same, IfTold, Adds, Stays, with_all}
use Rattle.mtn_ports.specs.declared.batch.Put.{Put}
use Rattle.mtn_ports.specs.declared.keeper.KeepError.{KeepError}
use Rattle.mtn_ports.specs.declared.keeper.KeepError.TheVariants.{Failed as KeeperFailed, NoMemory as KeeperNoMemory}
use Rattle.mtn_frame.specs.declared.script.Form.{Form}
use Rattle.mtn_frame.specs.declared.works.Worked.{Worked}
use Rattle.mtn_frame.specs.declared.works.WorkError.{WorkError}
use Rattle.mtn_frame.specs.declared.works.WorkError.TheVariants.{Usage, Refused, Damaged, Failed, NoMemory}
use Rattle.mtn_frame.specs.declared.settle.Settled.{Settled}
use Rattle.mtn_model.specs.declared.status.Status.{Status}
use Rattle.mtn_model.specs.declared.status.Status.TheVariants as status
use Rattle.mtn_frame.specs.Kinds.{Kind, Answered, Cut, Halted, Quiet, Hurt, kind_of, ByKind, ByVouch}
use Rattle.mtn_frame.specs.Outcome.{JobOutcome}
use Rattle.mtn_frame.specs.Script.{refused, usage_line, print_as, Does, BoundsJob, ChangesJob}
use Rattle.mtn_frame.specs.declared.script.Job.{Job}
use Rattle.mtn_frame.specs.declared.script.Job.TheVariants.{Call}
use Rattle.mtn_frame.specs.Works.{Works, Settles, settled, silent, misused, is_spelled, is_merging, is_vouching}
use Rattle.mtn_frame.specs.One.{One, Puts, Delivers, AnsweredOne, CutOne, WritesOne, RefusesOne, ShowsOne, StandsAfter, Vouched, WasTold}

still : (old new : Option Contents) (c d : Contents) → Same old new → old ≡ Some c → new ≡ Some d → new ≡ Some c
still old new c d same told now = let e : old ≡ Some d = same d now in cc

pub told_is : (o : Option Contents) (c d : Contents) → o ≡ Some c → o ≡ Some d → c ≡ d
told_is o c d first second = cc

pub writes_nothing : (w : Option (List ℕ)) → Appends w w []
writes_nothing None = tt
writes_nothing (Some xs) = sym (append-nil xs)

no_text : (text : List ℕ) → text ≡ [] → 0 < length text → ⊥
no_text text none some = let long : length text ≡ 0 = ap length none in omega (arith, long, some)

module _ {S : Type 0} (Stands : Contents → S → Type 0) (Damages Firsts : Contents → List ℕ → Type 0) (Refuses : Contents → Refusal → Type 0) (Lines : List ℕ → Type 0) {M : Type 0} (Knows : M → Contents → Type 0) {K : Type 0} (contents : K → Option Contents) (leaves : K → Contents → Type 0) (faults asked : K → ℕ)
    (old mid : K) (m1 : M) (form : Form) (spelled merges vouched : Bool) (Outcomes : S → JobOutcome S → Type 0) (Bounded : S → ℕ → Type 0) (Changes : Contents → Contents → Type 0) where
  abbrev Answer : Contents → S → Settled → Type 0
  Answer c s out = (o : JobOutcome S) × Outcomes s o × (out.status ≡ o.status) × (out.text ≡ print_as form o.status o.output) × Stands (with_all c out.batch) o.state

  -- what is settled by its status alone
  abbrev Quietly : Settled → Status → Type 0
  Quietly out status.Ok = ⊤
  Quietly out status.Refused = (out.batch ≡ []) × ((refusal : Refusal) × (out.text ≡ print_as form status.Refused (refusal_text refusal)))
  Quietly out status.Usage = (out.batch ≡ []) × (out.text ≡ print_as form status.Usage usage_line) × (spelled ≡ false)
  Quietly out status.Conflicts = (out.batch ≡ []) × (merges ≡ true)
  Quietly out status.SourceFault = ⊥
  Quietly out status.SinkFault = ⊥
  Quietly out status.StoreFault = (out.batch ≡ []) × (out.text ≡ []) × Rose (faults old) (faults mid)
  Quietly out status.NoMemory = (out.batch ≡ []) × (out.text ≡ [])
  Quietly out status.Damaged = (out.batch ≡ []) × IfTold (contents mid) (λ c. (line : List ℕ) × Damages c line × (out.text ≡ print_as form status.Damaged line)) × ((line : List ℕ) × Lines line × (out.text ≡ print_as form status.Damaged line))
  Quietly out status.TooLong = ⊥

  -- what is to be put, if anything, changes the records only so
  abbrev Changed : Contents → List Put → Type 0
  Changed c puts = (puts ≡ []) ⊎ Changes c (with_all c puts)

  abbrev Few : Type 0
  Few = (c : Contents) (s : S) (n : ℕ) → contents mid ≡ Some c → Stands c s → Bounded s n → asked mid ≤ asked old + n

  -- what is settled for a command that vouches for the store, by its status
  abbrev Vouching : Contents → Settled → Status → Type 0
  Vouching c out st = ByVouch st ((s : S) × (o : JobOutcome S) × Stands c s × Outcomes s o × (st ≡ o.status) × (out.text ≡ print_as form o.status o.output) × (out.batch ≡ [])) ((refusal : Refusal) × Refuses c refusal × (out.text ≡ print_as form status.Refused (refusal_text refusal))) ((line : List ℕ) × Firsts c line × (out.text ≡ print_as form status.Damaged line))

  pub record Prepared (out : Settled) : Type 0 where
    pub stays : Stays contents leaves faults old mid
    pub done : (c : Contents) (s : S) → contents mid ≡ Some c → Stands c s → ByKind (kind_of out.status) (Answer c s out) ⊥ ⊤ ⊥ ⊥
    pub knows : (c : Contents) → contents mid ≡ Some c → ByKind (kind_of out.status) (Knows m1 (with_all c out.batch)) ⊤ ⊤ ⊤ ⊤
    pub quietly : Quietly out out.status
    pub words : spelled ≡ false → (out.status ≡ status.Usage) ⊎ (out.status ≡ status.NoMemory)
    pub few_reads : Few
    pub changes : (c : Contents) → contents mid ≡ Some c → Changed c out.batch
    pub vouches : (c : Contents) → contents mid ≡ Some c → vouched ≡ true → Vouching c out out.status

  abbrev Over : Result Worked WorkError → Type 0
  Over r = Works Stands Damages Firsts Refuses Lines Knows contents leaves faults asked old mid m1 spelled merges vouched Outcomes Bounded Changes r

  wanting : (r : Result Worked WorkError) → Over r → Prepared (silent status.NoMemory)
  wanting r works = record { stays = works.stays; done = λ c s now stands. tt; knows = λ c now. tt; quietly = (refl, refl); words = λ none. inr refl; few_reads = works.few_reads; changes = λ c now. inl refl; vouches = λ c now on. tt }

  spelled_not : (b : Bool) → b ≡ true → b ≡ false → ⊥
  spelled_not b is is_not = cc

  replying : (conflicts : Bool) (text : List ℕ) (puts : List Put) → Stays contents leaves faults old mid →
      ((c : Contents) (s : S) → contents mid ≡ Some c → Stands c s → (t : S) × Outcomes s (record { state = t; output = text; status = if conflicts then status.Conflicts else status.Ok }) × Stands (with_all c puts) t) →
      ((c : Contents) → contents mid ≡ Some c → Knows m1 (with_all c puts)) → spelled ≡ true → (conflicts ≡ true → (merges ≡ true) × (puts ≡ [])) → Few → ((c : Contents) → contents mid ≡ Some c → Changed c puts) →
      ((c : Contents) → contents mid ≡ Some c → vouched ≡ true → (s : S) × Stands c s × Outcomes s (record { state = s; output = text; status = if conflicts then status.Conflicts else status.Ok }) × (conflicts ≡ false) × (puts ≡ [])) →
      Prepared (settled form (if conflicts then status.Conflicts else status.Ok) text puts)
  replying true text puts stays done knows is_spelled conflicts few changed vouches = record {
    stays = stays;
    done = λ c s now stands. let did = done c s now stands in (record { state = did.0; output = text; status = status.Conflicts }, did.1, refl, refl, did.2);
    knows = knows;
    quietly = ((conflicts refl).1, (conflicts refl).0);
    words = λ none. absurd (spelled_not spelled is_spelled none);
    few_reads = few;
    changes = changed;
    vouches = λ c now on. let e = (vouches c now on).3 in spelled_not true refl e;
  }
  replying false text puts stays done knows is_spelled conflicts few changed vouches = record {
    stays = stays;
    done = λ c s now stands. let did = done c s now stands in (record { state = did.0; output = text; status = status.Ok }, did.1, refl, refl, did.2);
    knows = knows;
    quietly = tt;
    words = λ none. absurd (spelled_not spelled is_spelled none);
    few_reads = few;
    changes = changed;
    vouches = λ c now on. let v = vouches c now on in (v.0, record { state = v.0; output = text; status = status.Ok }, v.1, v.2, refl, refl, v.4);
  }

  pub prepared : (r : Result Worked WorkError) (out : Settled) → Over r → Settles form r out → Prepared out
  prepared (Ok worked) out works (inl is) = subst Prepared (sym is) (replying worked.reply.conflicts worked.reply.text worked.batch works.stays works.done works.knows works.reason.0 works.reason.1 works.few_reads works.changes works.vouches)
  prepared (Ok worked) out works (inr is) = subst Prepared (sym is) (wanting _ works)
  prepared (Err Usage) out works (inl is) = subst Prepared (sym is) record {
    stays = works.stays;
    done = λ c s now stands. (misused s, works.done c s now stands, refl, refl, stands);
    knows = works.knows;
    quietly = (refl, refl, works.reason);
    words = λ none. inl refl;
    few_reads = works.few_reads;
    changes = λ c now. inl refl;
    vouches = λ c now on. tt;
  }
  prepared (Err Usage) out works (inr is) = subst Prepared (sym is) (wanting _ works)
  prepared (Err (Refused refusal)) out works (inl is) = subst Prepared (sym is) record {
    stays = works.stays;
    done = λ c s now stands. (refused refusal s, works.done c s now stands, refl, refl, stands);
    knows = works.knows;
    quietly = (refl, (refusal, refl));
    words = λ none. absurd (spelled_not spelled works.reason none);
    few_reads = works.few_reads;
    changes = λ c now. inl refl;
    vouches = λ c now on. (refusal, works.vouches c now on, refl);
  }
  prepared (Err (Refused refusal)) out works (inr is) = subst Prepared (sym is) (wanting _ works)
  prepared (Err (Damaged line)) out works (inl is) = subst Prepared (sym is) record {
    stays = works.stays;
    done = works.done;
    knows = λ c now. tt;
    quietly = (refl, λ c now. (line, works.reason.1 c now, refl), (line, works.reason.2, refl));
    words = λ none. absurd (spelled_not spelled works.reason.0 none);
    few_reads = works.few_reads;
    changes = λ c now. inl refl;
    vouches = λ c now on. (line, works.vouches c now on, refl);
  }
  prepared (Err (Damaged line)) out works (inr is) = subst Prepared (sym is) (wanting _ works)
  prepared (Err Failed) out works is = subst Prepared (sym is) record {
    stays = works.stays;
    done = λ c s now stands. tt;
    knows = λ c now. tt;
    quietly = (refl, refl, works.reason.1);
    words = λ none. absurd (spelled_not spelled works.reason.0 none);
    few_reads = works.few_reads;
    changes = λ c now. inl refl;
    vouches = λ c now on. tt;
  }
  prepared (Err NoMemory) out works is = subst Prepared (sym is) (wanting _ works)

  -- where nothing is answered, or all is left, nothing is put
  puts_nothing : (out : Settled) (st : Status) → Quietly out st → (st ≡ status.Ok → ⊥) → out.batch ≡ []
  puts_nothing out status.Ok quietly other = absurd (other refl)
  puts_nothing out status.Refused quietly other = quietly.0
  puts_nothing out status.Usage quietly other = quietly.0
  puts_nothing out status.Conflicts quietly other = quietly.0
  puts_nothing out status.SourceFault quietly other = absurd quietly
  puts_nothing out status.SinkFault quietly other = absurd quietly
  puts_nothing out status.StoreFault quietly other = quietly.0
  puts_nothing out status.NoMemory quietly other = quietly.0
  puts_nothing out status.Damaged quietly other = quietly.0
  puts_nothing out status.TooLong quietly other = absurd quietly

  module _ (new : K) (out : Settled) (p : Prepared out) (put : Result (Unit {0}) KeepError) (puts : Puts contents leaves faults asked mid new out.batch put) where
    later : faults old ≤ faults new
    later = omega (arith, p.stays.later, puts.later)

    -- the contents in between
    between : WasTold (contents mid) (contents new) → (c d : Contents) → contents old ≡ Some c → contents new ≡ Some d → contents mid ≡ Some c
    between was c d told now = let at = was d now in still (contents old) (contents mid) c at.0 p.stays.same told at.1

    -- what a crash may leave
    crash_by : (c d e : Contents) (s : S) → contents mid ≡ Some c → contents new ≡ Some d → leaves new e → (st : Status) → out.status ≡ st → Quietly out st → ByKind (kind_of st) (Answer c s out) ⊥ ⊤ ⊥ ⊥ → leaves old e ⊎ StandsAfter Stands (Outcomes s) e
    crash_by c d e s at now may st is quietly done = by_kind st quietly done
      where
        by_answer : Answer c s out → leaves old e ⊎ StandsAfter Stands (Outcomes s) e
        by_answer answer = elim (puts.crash c at d now e may) [
          | inl before ↦ inl (p.stays.crash c at e before)
          | inr after ↦ inr (record { outcome = answer.0; is = answer.1; stands = subst (λ x. Stands x answer.0.state) (sym after) answer.4 })
        ]

        by_none : out.batch ≡ [] → leaves old e ⊎ StandsAfter Stands (Outcomes s) e
        by_none none = inl (p.stays.crash c at e ((puts.none none).crash d now e may))

        by_kind : (st : Status) → Quietly out st → ByKind (kind_of st) (Answer c s out) ⊥ ⊤ ⊥ ⊥ → leaves old e ⊎ StandsAfter Stands (Outcomes s) e
        by_kind status.Ok q a = by_answer a
        by_kind status.Refused q a = by_answer a
        by_kind status.Usage q a = by_answer a
        by_kind status.Conflicts q a = by_answer a
        by_kind status.SourceFault q a = absurd q
        by_kind status.SinkFault q a = absurd q
        by_kind status.StoreFault q a = by_none q.0
        by_kind status.NoMemory q a = by_none q.0
        by_kind status.Damaged q a = absurd a
        by_kind status.TooLong q a = absurd q

    crash_of : WasTold (contents mid) (contents new) → (c d e : Contents) (s : S) → contents old ≡ Some c → contents new ≡ Some d → Stands c s → leaves new e → leaves old e ⊎ StandsAfter Stands (Outcomes s) e
    crash_of was c d e s told now stands may =
        let at = between was c d told now in
        crash_by c d e s at now may out.status refl p.quietly (p.done c s at stands)

    abbrev Target : Option (List ℕ) → Option (List ℕ) → ℕ → ℕ → Status → Type 0
    Target w0 w1 o0 o1 r = One Stands Damages Firsts Refuses Lines Knows contents leaves faults asked old new m1 w0 w1 o0 o1 form spelled merges vouched Outcomes Bounded Changes r

    few_of : WasTold (contents mid) (contents new) → (c d : Contents) (s : S) (n : ℕ) → contents old ≡ Some c → contents new ≡ Some d → Stands c s → Bounded s n → asked new ≤ asked old + n
    few_of was c d s n told now stands bounded = let few = p.few_reads c s n (between was c d told now) stands bounded in let still = puts.reads in omega (arith, few, still)

    -- the records are as they were
    unchanged : (same : Same (contents mid) (contents new)) → (c d : Contents) → contents old ≡ Some c → contents new ≡ Some d → (d ≡ c) ⊎ Changes c d
    unchanged same c d told now = inl (told_is (contents mid) d c (same d now) (between (λ e now. (e, same e now)) c d told now))

    was_same : Same (contents mid) (contents new) → WasTold (contents mid) (contents new)
    was_same same = λ d now. (d, same d now)

    unspelled : (out.status ≡ status.Usage) ⊎ (out.status ≡ status.NoMemory) → out.batch ≡ []
    unspelled (inl is) = (subst (Quietly out) is p.quietly).0
    unspelled (inr is) = (subst (Quietly out) is p.quietly).0

    -- the records could not be put
    pub put_failed : (w : Option (List ℕ)) (o : ℕ) → Same (contents mid) (contents new) → Rose (faults mid) (faults new) → (out.batch ≡ [] → ⊥) → Target w w o o status.StoreFault
    put_failed w o same rose some = record {
      told = λ d now. (d, p.stays.same d (same d now));
      done = λ c d s told now stands. (subst (λ x. Stands x s) (told_is (contents mid) c d (between (was_same same) c d told now) (same d now)) stands, writes_nothing w);
      knows = λ d now. tt;
      crash = crash_of (was_same same);
      same = λ ok cut d now. p.stays.same d (same d now);
      written = writes_nothing w;
      grows = ([], writes_nothing w);
      few_reads = few_of (was_same same);
      changes = unchanged same;
      vouches = λ on d now. tt;
      damage = λ is. cc;
      usage = λ is. cc;
      words = λ none. absurd (some (unspelled (p.words none)));
      conflicts = λ is. cc;
      store = λ is. omega (arith, rose, p.stays.later);
      sink = λ is. cc;
      later = later;
      sink_later = omega arith;
    }

    pub put_wants : (w : Option (List ℕ)) (o : ℕ) → Same (contents mid) (contents new) → Target w w o o status.NoMemory
    put_wants w o same = record {
      told = λ d now. (d, p.stays.same d (same d now));
      done = λ c d s told now stands. (subst (λ x. Stands x s) (told_is (contents mid) c d (between (was_same same) c d told now) (same d now)) stands, writes_nothing w);
      knows = λ d now. tt;
      crash = crash_of (was_same same);
      same = λ ok cut d now. p.stays.same d (same d now);
      written = writes_nothing w;
      grows = ([], writes_nothing w);
      few_reads = few_of (was_same same);
      changes = unchanged same;
      vouches = λ on d now. tt;
      damage = λ is. cc;
      usage = λ is. cc;
      words = λ none. inr (inl refl);
      conflicts = λ is. cc;
      store = λ is. cc;
      sink = λ is. cc;
      later = later;
      sink_later = omega arith;
    }

    module _ (w0 w1 : Option (List ℕ)) (o0 o1 : ℕ) (result : Status) (adds : Adds (contents mid) (contents new) out.batch) (sink_later : o0 ≤ o1) where
      was : WasTold (contents mid) (contents new)
      was = λ d now. ((adds d now).0, (adds d now).1)

      -- the records at the end
      ends : (c d : Contents) → contents mid ≡ Some c → contents new ≡ Some d → with_all c out.batch ≡ d
      ends c d at now = let a = adds d now in ap (λ x. with_all x out.batch) (told_is (contents mid) c a.0 at a.1) ∙ sym a.2

      changes_of : (c d : Contents) → contents old ≡ Some c → contents new ≡ Some d → (d ≡ c) ⊎ Changes c d
      changes_of c d told now = let at = between was c d told now in elim (p.changes c at) [
        | inl none ↦ inl (sym (ends c d at now) ∙ ap (λ ps. with_all c ps) none)
        | inr changed ↦ inr (subst (Changes c) (ends c d at now) changed)
      ]

      abbrev End : S → Contents → Status → Type 0
      End s d r = ByKind (kind_of r) (AnsweredOne Stands (Outcomes s) form d w0 w1 r) (CutOne Stands (Outcomes s) form d w0 w1) (Stands d s × Appends w0 w1 []) ⊥ ⊥

      module _ (whole : Appends w0 w1 out.text) where
        answers : (s : S) (c d : Contents) (st : Status) → out.status ≡ st → contents mid ≡ Some c → contents new ≡ Some d → Answer c s out → AnsweredOne Stands (Outcomes s) form d w0 w1 st
        answers s c d st is at now a = record { outcome = a.0; is = a.1; status = sym is ∙ a.2; stands = subst (λ x. Stands x a.0.state) (ends c d at now) a.4; written = subst (Appends w0 w1) a.3 whole }

        leaves_all : (s : S) (c d : Contents) → contents mid ≡ Some c → contents new ≡ Some d → Stands c s → out.batch ≡ [] → out.text ≡ [] → Stands d s × Appends w0 w1 []
        leaves_all s c d at now stands none text = (subst (λ x. Stands x s) (ap (λ ps. with_all c ps) (sym none) ∙ ends c d at now) stands, subst (Appends w0 w1) text whole)

        whole_done : (s : S) (c d : Contents) → contents mid ≡ Some c → contents new ≡ Some d → Stands c s → (st : Status) → out.status ≡ st → Quietly out st → ByKind (kind_of st) (Answer c s out) ⊥ ⊤ ⊥ ⊥ → End s d st
        whole_done s c d at now stands status.Ok is q a = answers s c d _ is at now a
        whole_done s c d at now stands status.Refused is q a = answers s c d _ is at now a
        whole_done s c d at now stands status.Usage is q a = answers s c d _ is at now a
        whole_done s c d at now stands status.Conflicts is q a = answers s c d _ is at now a
        whole_done s c d at now stands status.SourceFault is q a = absurd q
        whole_done s c d at now stands status.SinkFault is q a = absurd q
        whole_done s c d at now stands status.StoreFault is q a = leaves_all s c d at now stands q.0 q.1
        whole_done s c d at now stands status.NoMemory is q a = leaves_all s c d at now stands q.0 q.1
        whole_done s c d at now stands status.Damaged is q a = absurd a
        whole_done s c d at now stands status.TooLong is q a = absurd q

        whole_written : (st : Status) → Quietly out st → WritesOne Lines form w0 w1 st
        whole_written status.Ok q = tt
        whole_written status.Refused q = (q.1.0, subst (Appends w0 w1) q.1.1 whole)
        whole_written status.Usage q = subst (Appends w0 w1) q.1 whole
        whole_written status.Conflicts q = tt
        whole_written status.SourceFault q = q
        whole_written status.SinkFault q = tt
        whole_written status.StoreFault q = subst (Appends w0 w1) q.1 whole
        whole_written status.NoMemory q = subst (Appends w0 w1) q.1 whole
        whole_written status.Damaged q = (q.2.0, q.2.1, subst (Appends w0 w1) q.2.2 whole)
        whole_written status.TooLong q = q

        whole_knows : (c d : Contents) (st : Status) → contents mid ≡ Some c → contents new ≡ Some d → ByKind (kind_of st) (Knows m1 (with_all c out.batch)) ⊤ ⊤ ⊤ ⊤ → ByKind (kind_of st) (Knows m1 d) ⊤ ⊤ ⊤ ⊤
        whole_knows c d st at now k = by_kind (kind_of st) k
          where
            by_kind : (kind : Kind) → ByKind kind (Knows m1 (with_all c out.batch)) ⊤ ⊤ ⊤ ⊤ → ByKind kind (Knows m1 d) ⊤ ⊤ ⊤ ⊤
            by_kind Answered k = subst (Knows m1) (ends c d at now) k
            by_kind Cut k = tt
            by_kind Halted k = tt
            by_kind Quiet k = tt
            by_kind Hurt k = tt

        whole_damage : (q : Quietly out status.Damaged) → IfTold (contents new) (λ c. ShowsOne Damages form c w0 w1)
        whole_damage q = λ c now. let line = q.1 c ((puts.none q.0).same c now) in record { line = line.0; is = line.1; written = subst (Appends w0 w1) line.2 whole }

        whole_vouches : (c d : Contents) (st : Status) → contents mid ≡ Some c → contents new ≡ Some d → Quietly out st → Vouching c out st → ByVouch st (Vouched Stands Outcomes form d w0 w1 st) (RefusesOne Refuses form d w0 w1) (ShowsOne Firsts form d w0 w1)
        whole_vouches c d status.Ok at now q v =
            let same : c ≡ d = ap (λ ps. with_all c ps) (sym v.6) ∙ ends c d at now in
            record { state = v.0; stands = subst (λ x. Stands x v.0) same v.2; outcome = v.1; is = v.3; status = v.4; written = subst (Appends w0 w1) v.5 whole }
        whole_vouches c d status.Refused at now q v =
            let same : c ≡ d = ap (λ ps. with_all c ps) (sym q.0) ∙ ends c d at now in
            record { refusal = v.0; is = subst (λ x. Refuses x v.0) same v.1; written = subst (Appends w0 w1) v.2 whole }
        whole_vouches c d status.Usage at now q v = tt
        whole_vouches c d status.Conflicts at now q v = v
        whole_vouches c d status.SourceFault at now q v = tt
        whole_vouches c d status.SinkFault at now q v = tt
        whole_vouches c d status.StoreFault at now q v = tt
        whole_vouches c d status.NoMemory at now q v = tt
        whole_vouches c d status.Damaged at now q v =
            let same : c ≡ d = ap (λ ps. with_all c ps) (sym q.0) ∙ ends c d at now in
            record { line = v.0; is = subst (λ x. Firsts x v.0) same v.1; written = subst (Appends w0 w1) v.2 whole }
        whole_vouches c d status.TooLong at now q v = tt

        at_status : (st : Status) → out.status ≡ st → Quietly out st
        at_status st is = subst (Quietly out) is p.quietly

        pub whole_one : Target w0 w1 o0 o1 out.status
        whole_one = record {
          told = λ d now. ((adds d now).0, p.stays.same (adds d now).0 (adds d now).1);
          done = λ c d s told now stands. let at = between was c d told now in whole_done s c d at now stands out.status refl p.quietly (p.done c s at stands);
          knows = λ d now. let a = adds d now in whole_knows a.0 d out.status a.1 now (p.knows a.0 a.1);
          crash = crash_of was;
          same = λ ok cut d now. p.stays.same d ((puts.none (puts_nothing out out.status p.quietly ok)).same d now);
          written = whole_written out.status p.quietly;
          grows = (out.text, whole);
          few_reads = few_of was;
          changes = changes_of;
          vouches = λ on d now. let a = adds d now in whole_vouches a.0 d out.status a.1 now p.quietly (p.vouches a.0 a.1 on);
          damage = λ is. whole_damage (at_status status.Damaged is);
          usage = λ is. (at_status status.Usage is).2;
          words = λ none. elim (p.words none) [ inl is ↦ inl is | inr is ↦ inr (inl is) ];
          conflicts = λ is. (at_status status.Conflicts is).1;
          store = λ is. let rose = (at_status status.StoreFault is).2 in omega (arith, rose, puts.later);
          sink = λ is. absurd (at_status status.SinkFault is);
          later = later;
          sink_later = sink_later;
        }

      module _ (rose : Rose o0 o1) (some : 0 < length out.text) (front : ℕ) (part : Appends w0 w1 (take front out.text)) where
        cut_done : (s : S) (c d : Contents) → contents mid ≡ Some c → contents new ≡ Some d → (st : Status) → Quietly out st → ByKind (kind_of st) (Answer c s out) ⊥ ⊤ ⊥ ⊥ → CutOne Stands (Outcomes s) form d w0 w1
        cut_done s c d at now st q a = by_status st q a
          where
            cuts : Answer c s out → CutOne Stands (Outcomes s) form d w0 w1
            cuts a = record { outcome = a.0; is = a.1; stands = subst (λ x. Stands x a.0.state) (ends c d at now) a.4; front = front; written = subst (λ t. Appends w0 w1 (take front t)) a.3 part }

            by_status : (st : Status) → Quietly out st → ByKind (kind_of st) (Answer c s out) ⊥ ⊤ ⊥ ⊥ → CutOne Stands (Outcomes s) form d w0 w1
            by_status status.Ok q a = cuts a
            by_status status.Refused q a = cuts a
            by_status status.Usage q a = cuts a
            by_status status.Conflicts q a = cuts a
            by_status status.SourceFault q a = absurd q
            by_status status.SinkFault q a = absurd q
            by_status status.StoreFault q a = absurd (no_text out.text q.1 some)
            by_status status.NoMemory q a = absurd (no_text out.text q.1 some)
            by_status status.Damaged q a = absurd a
            by_status status.TooLong q a = absurd q

        pub cut_one : Target w0 w1 o0 o1 status.SinkFault
        cut_one = record {
          told = λ d now. ((adds d now).0, p.stays.same (adds d now).0 (adds d now).1);
          done = λ c d s told now stands. let at = between was c d told now in cut_done s c d at now out.status p.quietly (p.done c s at stands);
          knows = λ d now. tt;
          crash = crash_of was;
          same = λ ok cut. absurd (cut refl);
          written = tt;
          grows = (take front out.text, part);
          few_reads = few_of was;
          changes = changes_of;
          vouches = λ on d now. tt;
          damage = λ is. cc;
          usage = λ is. cc;
          words = λ none. inr (inr refl);
          conflicts = λ is. cc;
          store = λ is. cc;
          sink = λ is. rose;
          later = later;
          sink_later = sink_later;
        }

      pub put_ok : Delivers out.status out.text w0 w1 o0 o1 result → Target w0 w1 o0 o1 result
      put_ok delivers = elim delivers [
        | inl whole ↦ subst (Target w0 w1 o0 o1) (sym whole.0) (whole_one whole.1)
        | inr cut ↦ subst (Target w0 w1 o0 o1) (sym cut.0) (cut_one cut.1 cut.2 cut.3.0 cut.3.1)
      ]

-- what a job comes to, by its words
pub works_call : {S : Type 0} (Stands : Contents → S → Type 0) (Damages Firsts : Contents → List ℕ → Type 0) (Refuses : Contents → Refusal → Type 0) (Lines : List ℕ → Type 0) {M : Type 0} (Knows : M → Contents → Type 0) {K : Type 0} (contents : K → Option Contents) (leaves : K → Contents → Type 0) (faults asked : K → ℕ) (old new : K) (m1 : M)
    (spelled merging vouching : List (List ℕ) → Bool) (does : List (List ℕ) → List ℕ → S → JobOutcome S → Type 0) (bounds : List (List ℕ) → List ℕ → S → ℕ → Type 0) (changes : List (List ℕ) → List ℕ → Contents → Contents → Type 0) (job : Job) (words words1 : List (List ℕ)) (payload payload1 : List ℕ) (r : Result Worked WorkError) →
    job ≡ Call words payload → words1 ≡ words → payload1 ≡ payload → Works Stands Damages Firsts Refuses Lines Knows contents leaves faults asked old new m1 (spelled words1) (merging words1) (vouching words1) (does words1 payload1) (bounds words1 payload1) (changes words1 payload1) r →
    Works Stands Damages Firsts Refuses Lines Knows contents leaves faults asked old new m1 (is_spelled spelled job) (is_merging merging job) (is_vouching vouching job) (Does does job) (BoundsJob bounds job) (ChangesJob changes job) r
works_call Stands Damages Firsts Refuses Lines Knows contents leaves faults asked old new m1 spelled merging vouching does bounds changes job words words1 payload payload1 r is is_words is_payload works =
    subst (λ j. Works Stands Damages Firsts Refuses Lines Knows contents leaves faults asked old new m1 (is_spelled spelled j) (is_merging merging j) (is_vouching vouching j) (Does does j) (BoundsJob bounds j) (ChangesJob changes j) r) (sym is)
    (subst (λ w. Works Stands Damages Firsts Refuses Lines Knows contents leaves faults asked old new m1 (spelled w) (merging w) (vouching w) (does w payload) (bounds w payload) (changes w payload) r) is_words
    (subst (λ p. Works Stands Damages Firsts Refuses Lines Knows contents leaves faults asked old new m1 (spelled words1) (merging words1) (vouching words1) (does words1 p) (bounds words1 p) (changes words1 p) r) is_payload works))

no_puts : (puts : List Put) → length puts ≡ 0 → puts ≡ []
no_puts [] none = refl
no_puts (p ∷ ps) none = absurd (omega (arith, none))

pub put_none : {K : Type 0} (contents : K → Option Contents) (leaves : K → Contents → Type 0) (faults asked : K → ℕ) (k : K) (puts : List Put) → length puts ≡ 0 → Puts contents leaves faults asked k k puts (Ok tt)
put_none contents leaves faults asked k puts none = record {
  ok = λ d now. (d, now, ap (λ ps. with_all d ps) (sym (no_puts puts none)));
  err = tt;
  crash = λ c told d now e may. inl may;
  none = λ is. record { same = λ d now. now; crash = λ d now e may. may; later = omega arith };
  some = tt;
  later = omega arith;
  failed = λ is. cc;
  reads = refl;
}

pub on_err : (r : Result (Unit {0}) KeepError) (P : Type 0) → P → OnErr r P
on_err (Ok u) P x = tt
on_err (Err e) P x = x

module _ {S : Type 0} (Stands : Contents → S → Type 0) (Damages Firsts : Contents → List ℕ → Type 0) (Refuses : Contents → Refusal → Type 0) (Lines : List ℕ → Type 0) {M : Type 0} (Knows : M → Contents → Type 0) {K : Type 0} (contents : K → Option Contents) (leaves : K → Contents → Type 0) (faults asked : K → ℕ)
    (old mid new : K) (m1 : M) (form : Form) (spelled merges vouched : Bool) (Outcomes : S → JobOutcome S → Type 0) (Bounded : S → ℕ → Type 0) (Changes : Contents → Contents → Type 0) (r : Result Worked WorkError) (out : Settled) (put : Result (Unit {0}) KeepError)
    (works : Works Stands Damages Firsts Refuses Lines Knows contents leaves faults asked old mid m1 spelled merges vouched Outcomes Bounded Changes r) (settles : Settles form r out) (puts : Puts contents leaves faults asked mid new out.batch put) where
  pub one_done : (w0 w1 : Option (List ℕ)) (o0 o1 : ℕ) (result : Status) (text : List ℕ) (u : Unit {0}) → put ≡ Ok u → text ≡ out.text → o0 ≤ o1 → Delivers out.status text w0 w1 o0 o1 result →
      One Stands Damages Firsts Refuses Lines Knows contents leaves faults asked old new m1 w0 w1 o0 o1 form spelled merges vouched Outcomes Bounded Changes result
  one_done w0 w1 o0 o1 result text u is is_text later delivers =
      put_ok Stands Damages Firsts Refuses Lines Knows contents leaves faults asked old mid m1 form spelled merges vouched Outcomes Bounded Changes new out (prepared Stands Damages Firsts Refuses Lines Knows contents leaves faults asked old mid m1 form spelled merges vouched Outcomes Bounded Changes r out works settles) put puts w0 w1 o0 o1 result
      (subst (λ x. OnOk x (Adds (contents mid) (contents new) out.batch)) is puts.ok) later (subst (λ t. Delivers out.status t w0 w1 o0 o1 result) is_text delivers)

  pub one_failed : (w : Option (List ℕ)) (o : ℕ) → put ≡ Err KeeperFailed → One Stands Damages Firsts Refuses Lines Knows contents leaves faults asked old new m1 w w o o form spelled merges vouched Outcomes Bounded Changes status.StoreFault
  one_failed w o is =
      put_failed Stands Damages Firsts Refuses Lines Knows contents leaves faults asked old mid m1 form spelled merges vouched Outcomes Bounded Changes new out (prepared Stands Damages Firsts Refuses Lines Knows contents leaves faults asked old mid m1 form spelled merges vouched Outcomes Bounded Changes r out works settles) put puts w o
      (subst (λ x. OnErr x (Same (contents mid) (contents new))) is puts.err) (subst (λ x. IsErrOf x KeeperFailed → Rose (faults mid) (faults new)) is puts.failed refl) (subst (λ x. OnErr x (out.batch ≡ [] → ⊥)) is puts.some)

  pub one_wants : (w : Option (List ℕ)) (o : ℕ) → put ≡ Err KeeperNoMemory → One Stands Damages Firsts Refuses Lines Knows contents leaves faults asked old new m1 w w o o form spelled merges vouched Outcomes Bounded Changes status.NoMemory
  one_wants w o is =
      put_wants Stands Damages Firsts Refuses Lines Knows contents leaves faults asked old mid m1 form spelled merges vouched Outcomes Bounded Changes new out (prepared Stands Damages Firsts Refuses Lines Knows contents leaves faults asked old mid m1 form spelled merges vouched Outcomes Bounded Changes r out works settles) put puts w o
      (subst (λ x. OnErr x (Same (contents mid) (contents new))) is puts.err)

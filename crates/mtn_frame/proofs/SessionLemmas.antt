-- The loop over the jobs of a session.
use Rattle.std.proofs.Common.{◌≡◌, ◌≤◌, ◌<◌, ◌⊎◌, inl, inr, ℕ, zero, suc, ◌+◌, Bool, true, false, List, [], ◌∷◌, ◌++◌, length, take, Option, Some, None, refl, sym, ap, ◌∙◌, subst, arith, append_assoc, length-append}
use Rattle.std.specs.Prelude.{IfSome}
use Rattle.std.specs.Io.KnownBytes.{Appends}
use Rattle.std.proofs.KnownBytes.{Appends-trans}
use Rattle.std.proofs.lemmas.List.{append-nil}
use Rattle.mtn_base.specs.declared.refusal.Refusal.{Refusal}
use Rattle.mtn_model.specs.Table.{Contents}
use Rattle.mtn_ports.specs.Kept.{IfTold}
use Rattle.mtn_frame.specs.declared.script.Job.{Job}
use Rattle.mtn_frame.specs.declared.script.Form.TheVariants.{Numbered}
use Rattle.mtn_frame.specs.declared.script.Script.{Script}
use Rattle.mtn_frame.specs.declared.script.Script.TheVariants.{Framed}
use Rattle.mtn_model.specs.declared.status.Status.{Status}
use Rattle.mtn_model.specs.declared.status.Status.TheVariants as status
use Rattle.mtn_frame.specs.Kinds.{kind_of, ByKind}
use Rattle.mtn_frame.specs.Outcome.{JobOutcome}
use Rattle.mtn_frame.specs.Script.{Reaches, state_after, texts, texts_from, printed, print_as}
use Rattle.mtn_frame.specs.One.{One, AnsweredOne, CutOne, WasTold, WritesOne}
use Rattle.mtn_frame.specs.Frame.{Walked, StandsAfterSome, RunsOver, ShowsLast}
use Rattle.mtn_frame.specs.Session.{RunsJobs, goes_on, EndsSession}
use Rattle.mtn_frame.proofs.OneLemmas.{writes_nothing}

told_is : (o : Option Contents) (c d : Contents) → o ≡ Some c → o ≡ Some d → c ≡ d
told_is o c d first second = cc

-- a fact of what is told
pub if_some : {A : Type 0} (told : Option A) (P : A → Type 0) → ((x : A) → told ≡ Some x → P x) → IfSome told P
if_some None P fact = tt
if_some (Some x) P fact = fact x refl

pub reaches_more : {S : Type 0} (Is : Job → S → JobOutcome S → Type 0) (s : S) (front rest : List Job) (job : Job) (os : List (JobOutcome S)) (o : JobOutcome S) → length os ≡ length front → Reaches Is s (front ++ job ∷ rest) os → Is job (state_after s os) o →
    Reaches Is s (front ++ job ∷ rest) (os ++ o ∷ [])
reaches_more Is s [] rest job [] o long reaches is = (is, tt)
reaches_more Is s [] rest job (x ∷ os) o long reaches is = absurd (omega (arith, long))
reaches_more Is s (j ∷ front) rest job [] o long reaches is = absurd (omega (arith, long))
reaches_more Is s (j ∷ front) rest job (x ∷ os) o long reaches is = (reaches.0, reaches_more Is x.state front rest job os o (omega (arith, long)) reaches.1 is)

pub state_more : {S : Type 0} (s : S) (os : List (JobOutcome S)) (o : JobOutcome S) → state_after s (os ++ o ∷ []) ≡ o.state
state_more s [] o = refl
state_more s (x ∷ os) o = state_more x.state os o

pub texts_more : {S : Type 0} (script : Script) (n : ℕ) (os : List (JobOutcome S)) (o : JobOutcome S) → texts_from script n (os ++ o ∷ []) ≡ texts_from script n os ++ printed script (n + length os) o
texts_more script n [] o = append-nil (printed script n o) ∙ ap (λ k. printed script k o) (plus_none n)
  where
    plus_none : (k : ℕ) → k ≡ k + 0
    plus_none k = omega arith
texts_more script n (x ∷ os) o =
    ap (λ t. printed script n x ++ t) (texts_more script (suc n) os o) ∙ sym (append_assoc (printed script n x) (texts_from script (suc n) os) (printed script (suc n + length os) o))
    ∙ ap (λ k. (printed script n x ++ texts_from script (suc n) os) ++ printed script k o) (plus_more n (length os))
  where
    plus_more : (k m : ℕ) → suc k + m ≡ k + suc m
    plus_more k m = omega arith

length_more : {S : Type 0} (os : List (JobOutcome S)) (o : JobOutcome S) → length (os ++ o ∷ []) ≡ suc (length os)
length_more [] o = refl
length_more (x ∷ os) o = ap suc (length_more os o)

some_after : {S : Type 0} (Stands : Contents → S → Type 0) (Is : Job → S → JobOutcome S → Type 0) (s : S) (jobs : List Job) (e : Contents) (os : List (JobOutcome S)) (o : JobOutcome S) → Reaches Is s jobs (os ++ o ∷ []) → Stands e o.state → StandsAfterSome Stands Is s jobs e
some_after Stands Is s jobs e [] o reaches stands = record { first = o; more = []; reaches = reaches; stands = stands }
some_after Stands Is s jobs e (x ∷ os) o reaches stands = record { first = x; more = os ++ o ∷ []; reaches = reaches; stands = subst (Stands e) (sym (state_more x.state os o)) stands }

-- the jobs so far with one more, and those that are left then
pub jobs_again : (front left rest jobs : List Job) (job : Job) → front ++ left ≡ jobs → left ≡ job ∷ rest → (front ++ job ∷ []) ++ rest ≡ jobs
jobs_again front left rest jobs job all is = append_assoc front (job ∷ []) rest ∙ ap (λ js. front ++ js) (sym is) ∙ all

pub one_more_job : (front : List Job) (job : Job) (n : ℕ) → n ≡ length front → n + 1 ≡ length (front ++ job ∷ [])
one_more_job front job n count = omega (arith, count, length-append front (job ∷ []))

-- so many are left
pub one_less : (left rest : List Job) (job : Job) (n m : ℕ) → n ≡ length left → left ≡ job ∷ rest → m + 1 ≡ n → m ≡ length rest
one_less left rest job n m long is less = omega (arith, long, ap length is, less)

pub none_left : (left : List Job) → length left ≡ 0 → left ≡ []
none_left [] none = refl
none_left (x ∷ left) none = absurd (omega (arith, none))

-- a job that is not the last has a number that can be counted on from
pub is_before : (front left rest jobs : List Job) (job : Job) → front ++ left ≡ jobs → left ≡ job ∷ rest → length front < length jobs
is_before front left rest jobs job all is = omega (arith, ap length all, length-append front left, ap length is)

module _ {S : Type 0} (Stands : Contents → S → Type 0) (Damages Firsts : Contents → List ℕ → Type 0) (Refuses : Contents → Refusal → Type 0) (Lines : List ℕ → Type 0) {M : Type 0} (Knows : M → Contents → Type 0) {K : Type 0} (contents : K → Option Contents) (leaves : K → Contents → Type 0) (faults asked : K → ℕ)
    (Is : Job → S → JobOutcome S → Type 0) (jobs : List Job) (old : K) (w0 : Option (List ℕ)) (o0 : ℕ) where
  -- the first n jobs were done and answered, over records that stand for a state
  pub record WalkedTo (s : S) (d : Contents) (w : Option (List ℕ)) (n : ℕ) : Type 0 where
    pub walked : Walked Stands Is (Framed jobs) s jobs d w0 w
    pub count : length walked.outcomes ≡ n

  pub record Walking (cur : K) (m : M) (w : Option (List ℕ)) (o : ℕ) (n : ℕ) : Type 0 where
    pub told : WasTold (contents old) (contents cur)
    pub done : (c d : Contents) (s : S) → contents old ≡ Some c → contents cur ≡ Some d → Stands c s → WalkedTo s d w n
    pub crash : (c d e : Contents) (s : S) → contents old ≡ Some c → contents cur ≡ Some d → Stands c s → leaves cur e → leaves old e ⊎ StandsAfterSome Stands Is s jobs e
    pub remembers : IfSome (contents cur) (Knows m)
    pub grows : (text : List ℕ) × Appends w0 w text
    pub later : faults old ≤ faults cur
    pub sink_later : o0 ≤ o

  pub begins : (m : M) → IfSome (contents old) (Knows m) → Walking old m w0 o0 0
  begins m knows = record {
    told = λ d now. (d, now);
    done = λ c d s told now stands.
        let same : c ≡ d = told_is (contents old) c d told now in
        record { walked = record { outcomes = []; reaches = tt; stands = subst (λ x. Stands x s) same stands; written = writes_nothing w0 }; count = refl };
    crash = λ c d e s told now stands may. inl may;
    remembers = knows;
    grows = ([], writes_nothing w0);
    later = omega arith;
    sink_later = omega arith;
  }

  module _ (cur next : K) (m m1 : M) (w w1 : Option (List ℕ)) (o o1 : ℕ) (front rest : List Job) (job : Job) (is_jobs : jobs ≡ front ++ job ∷ rest) (spelled merges vouched : Bool) (bounded : S → ℕ → Type 0) (changed : Contents → Contents → Type 0) (result : Status)
      (walking : Walking cur m w o (length front)) (one : One Stands Damages Firsts Refuses Lines Knows contents leaves faults asked cur next m1 w w1 o o1 (Numbered (length front)) spelled merges vouched (Is job) bounded changed result) where
    more_reached : (s : S) (os : List (JobOutcome S)) (x : JobOutcome S) → length os ≡ length front → Reaches Is s jobs os → Is job (state_after s os) x → Reaches Is s jobs (os ++ x ∷ [])
    more_reached s os x long reaches is = subst (λ js. Reaches Is s js (os ++ x ∷ [])) (sym is_jobs) (reaches_more Is s front rest job os x long (subst (λ js. Reaches Is s js os) is_jobs reaches) is)

    was : WasTold (contents old) (contents next)
    was d now = let at = one.told d now in walking.told at.0 at.1

    -- the walk so far, at contents in between
    abbrev Between : S → Contents → Contents → Type 0
    Between s c d = (x : Contents) × (contents cur ≡ Some x) × WalkedTo s x w (length front)

    between : (c d : Contents) (s : S) → contents old ≡ Some c → contents next ≡ Some d → Stands c s → Between s c d
    between c d s told now stands = let at = one.told d now in (at.0, at.1, walking.done c at.0 s told at.1 stands)

    crash_on : (c d e : Contents) (s : S) → contents old ≡ Some c → contents next ≡ Some d → Stands c s → leaves next e → leaves old e ⊎ StandsAfterSome Stands Is s jobs e
    crash_on c d e s told now stands may =
        let at = between c d s told now stands in
        elim (one.crash at.0 d e (state_after s at.2.walked.outcomes) at.1 now at.2.walked.stands may) [
          | inl before ↦ walking.crash c at.0 e s told at.1 stands before
          | inr after ↦ inr (some_after Stands Is s jobs e at.2.walked.outcomes after.outcome (more_reached s at.2.walked.outcomes after.outcome at.2.count at.2.walked.reaches after.is) after.stands)
        ]

    -- one more was answered
    answered : (s : S) (c d : Contents) → (at : Between s c d) → AnsweredOne Stands (Is job (state_after s at.2.walked.outcomes)) (Numbered (length front)) d w w1 result → WalkedTo s d w1 (suc (length front))
    answered s c d at a =
        let os : List (JobOutcome S) = at.2.walked.outcomes in
        record {
          walked = record {
            outcomes = os ++ a.outcome ∷ [];
            reaches = more_reached s os a.outcome at.2.count at.2.walked.reaches a.is;
            stands = subst (Stands d) (sym (state_more s os a.outcome)) a.stands;
            written = subst (Appends w0 w1) (ap (λ n. texts (Framed jobs) os ++ printed (Framed jobs) n a.outcome) (sym at.2.count ∙ plus_none (length os)) ∙ sym (texts_more (Framed jobs) 0 os a.outcome))
                (Appends-trans w0 w w1 (texts (Framed jobs) os) (printed (Framed jobs) (length front) a.outcome) at.2.walked.written a.written);
          };
          count = length_more os a.outcome ∙ ap suc at.2.count;
        }
      where
        plus_none : (n : ℕ) → n ≡ 0 + n
        plus_none n = omega arith

    goes : (st : Status) → goes_on st ≡ true → (a c h q u : Type 0) → ByKind (kind_of st) a c h q u → a
    goes status.Ok on a c h q u x = x
    goes status.Refused on a c h q u x = x
    goes status.Usage on a c h q u x = x
    goes status.Conflicts on a c h q u x = x
    goes status.SourceFault on a c h q u x = cc
    goes status.SinkFault on a c h q u x = cc
    goes status.StoreFault on a c h q u x = cc
    goes status.NoMemory on a c h q u x = cc
    goes status.Damaged on a c h q u x = cc
    goes status.TooLong on a c h q u x = cc

    pub walks_on : goes_on result ≡ true → Walking next m1 w1 o1 (suc (length front))
    walks_on on = record {
      told = was;
      done = λ c d s told now stands.
          let at = between c d s told now stands in
          answered s c d at (goes result on _ _ _ _ _ (one.done at.0 d (state_after s at.2.walked.outcomes) at.1 now at.2.walked.stands));
      crash = crash_on;
      remembers = if_some (contents next) (Knows m1) (λ d now. goes result on _ _ _ _ _ (one.knows d now));
      grows = (walking.grows.0 ++ one.grows.0, Appends-trans w0 w w1 walking.grows.0 one.grows.0 walking.grows.1 one.grows.1);
      later = omega (arith, walking.later, one.later);
      sink_later = omega (arith, walking.sink_later, one.sink_later);
    }

    abbrev One_end : S → S → Contents → Status → Type 0
    One_end s t d st = ByKind (kind_of st) (AnsweredOne Stands (Is job t) (Numbered (length front)) d w w1 st) (CutOne Stands (Is job t) (Numbered (length front)) d w w1) (Stands d t × Appends w w1 []) ⊥ ⊥

    -- how the session ends where it does not go on
    ended : (s : S) (c d : Contents) (at : Between s c d) (st : Status) → goes_on st ≡ false → One_end s (state_after s at.2.walked.outcomes) d st → RunsOver Stands Is (Framed jobs) s d w0 w1 st
    ended s c d at status.Ok off x = cc
    ended s c d at status.Refused off x = cc
    ended s c d at status.Usage off x = cc
    ended s c d at status.Conflicts off x = cc
    ended s c d at status.SourceFault off x = x
    ended s c d at status.SinkFault off x = record {
      outcomes = at.2.walked.outcomes;
      last = x.outcome;
      reaches = more_reached s at.2.walked.outcomes x.outcome at.2.count at.2.walked.reaches x.is;
      stands = x.stands;
      front = x.front;
      written = subst (λ n. Appends w0 w1 (texts (Framed jobs) at.2.walked.outcomes ++ take x.front (printed (Framed jobs) n x.outcome))) (sym at.2.count)
          (Appends-trans w0 w w1 (texts (Framed jobs) at.2.walked.outcomes) (take x.front (printed (Framed jobs) (length front) x.outcome)) at.2.walked.written x.written);
    }
    ended s c d at status.StoreFault off x = record {
      walked = record { outcomes = at.2.walked.outcomes; reaches = at.2.walked.reaches; stands = x.0; written = subst (Appends w0 w1) (append-nil (texts (Framed jobs) at.2.walked.outcomes)) (Appends-trans w0 w w1 (texts (Framed jobs) at.2.walked.outcomes) [] at.2.walked.written x.1) };
      none = tt;
    }
    ended s c d at status.NoMemory off x = record {
      walked = record { outcomes = at.2.walked.outcomes; reaches = at.2.walked.reaches; stands = x.0; written = subst (Appends w0 w1) (append-nil (texts (Framed jobs) at.2.walked.outcomes)) (Appends-trans w0 w w1 (texts (Framed jobs) at.2.walked.outcomes) [] at.2.walked.written x.1) };
      none = tt;
    }
    ended s c d at status.Damaged off x = x
    ended s c d at status.TooLong off x = x

    why : (st : Status) → goes_on st ≡ false → result ≡ st → EndsSession (faults old) (faults next) o0 o1 st
    why status.Ok off is = cc
    why status.Refused off is = cc
    why status.Usage off is = cc
    why status.Conflicts off is = cc
    why status.SourceFault off is = subst (WritesOne Lines (Numbered (length front)) w w1) is one.written
    why status.SinkFault off is = let rose = one.sink is in omega (arith, rose, walking.sink_later)
    why status.StoreFault off is = let rose = one.store is in omega (arith, rose, walking.later)
    why status.NoMemory off is = tt
    why status.Damaged off is = tt
    why status.TooLong off is = subst (WritesOne Lines (Numbered (length front)) w w1) is one.written

    -- the damage that ends it, of what the records tell
    damage_on : result ≡ status.Damaged → IfTold (contents next) (λ d. ShowsLast Damages d w0 w1)
    damage_on is = λ d now.
        let shown = one.damage is d now in
        record { before = walking.grows.0; form = Numbered (length front); line = shown.line; is = shown.is; written = Appends-trans w0 w w1 walking.grows.0 (print_as (Numbered (length front)) status.Damaged shown.line) walking.grows.1 shown.written }

    pub ends : goes_on result ≡ false → RunsJobs Stands Damages Is contents leaves faults old next w0 w1 o0 o1 jobs result
    ends off = record {
      told = was;
      done = λ c d s told now stands.
          let at = between c d s told now stands in
          ended s c d at result off (one.done at.0 d (state_after s at.2.walked.outcomes) at.1 now at.2.walked.stands);
      crash = crash_on;
      damage = damage_on;
      ends = why result off refl;
      later = omega (arith, walking.later, one.later);
      sink_later = omega (arith, walking.sink_later, one.sink_later);
    }

  -- all jobs were done
  pub all_done : (cur : K) (m : M) (w : Option (List ℕ)) (o : ℕ) → Walking cur m w o (length jobs) → RunsJobs Stands Damages Is contents leaves faults old cur w0 w o0 o jobs status.Ok
  all_done cur m w o walking = record {
    told = walking.told;
    done = λ c d s told now stands. let at = walking.done c d s told now stands in record { walked = at.walked; all = at.count; status = refl };
    crash = walking.crash;
    damage = λ is. cc;
    ends = tt;
    later = walking.later;
    sink_later = walking.sink_later;
  }

  module _ (cur next : K) (m m1 : M) (w w1 : Option (List ℕ)) (o o1 : ℕ) (front left rest : List Job) (job : Job) (n : ℕ) (spelled merges vouched : Bool) (bounded : S → ℕ → Type 0) (changed : Contents → Contents → Type 0) (result : Status) (all : front ++ left ≡ jobs) (is : left ≡ job ∷ rest) (count : n ≡ length front)
      (walking : Walking cur m w o n) (one : One Stands Damages Firsts Refuses Lines Knows contents leaves faults asked cur next m1 w w1 o o1 (Numbered n) spelled merges vouched (Is job) bounded changed result) where
    about : jobs ≡ front ++ job ∷ rest
    about = sym all ∙ ap (λ js. front ++ js) is

    walked : Walking cur m w o (length front)
    walked = subst (Walking cur m w o) count walking

    this : One Stands Damages Firsts Refuses Lines Knows contents leaves faults asked cur next m1 w w1 o o1 (Numbered (length front)) spelled merges vouched (Is job) bounded changed result
    this = subst (λ k. One Stands Damages Firsts Refuses Lines Knows contents leaves faults asked cur next m1 w w1 o o1 (Numbered k) spelled merges vouched (Is job) bounded changed result) count one

    pub ended_at : goes_on result ≡ false → RunsJobs Stands Damages Is contents leaves faults old next w0 w1 o0 o1 jobs result
    ended_at off = ends cur next m m1 w w1 o o1 front rest job about spelled merges vouched bounded changed result walked this off

    pub walked_on : goes_on result ≡ true → Walking next m1 w1 o1 (n + 1)
    walked_on on = subst (Walking next m1 w1 o1) (one_more front n count) (walks_on cur next m m1 w w1 o o1 front rest job about spelled merges vouched bounded changed result walked this on)
      where
        one_more : (front : List Job) (k : ℕ) → k ≡ length front → suc (length front) ≡ k + 1
        one_more front k e = omega (arith, e)

  pub all_walked : (cur : K) (m : M) (w : Option (List ℕ)) (o : ℕ) (front left : List Job) (n : ℕ) → front ++ left ≡ jobs → left ≡ [] → n ≡ length front → Walking cur m w o n → RunsJobs Stands Damages Is contents leaves faults old cur w0 w o0 o jobs status.Ok
  all_walked cur m w o front left n all none count walking =
      all_done cur m w o (subst (Walking cur m w o) (count ∙ ap length (sym (append-nil front) ∙ ap (λ js. front ++ js) (sym none) ∙ all)) walking)

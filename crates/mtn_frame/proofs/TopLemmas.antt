-- The top call from its parts.
use Rattle.std.proofs.Common.{◌≡◌, ◌≤◌, ◌+◌, ◌⊎◌, inl, inr, ℕ, Bool, true, false, ◌&&◌, ◌||◌, not, List, [], ◌∷◌, ◌++◌, length, Option, Some, None, refl, sym, ap, ◌∙◌, subst, arith}
use Rattle.std.specs.Bool.{OnTrue}
use Rattle.std.specs.Io.KnownBytes.{Consumes, IsAtEnd}
use Rattle.std.proofs.lemmas.List.{append-nil}
use Rattle.mtn_base.specs.declared.refusal.Refusal.{Refusal}
use Rattle.mtn_model.specs.Table.{Contents}
use Rattle.mtn_ports.specs.Causes.{Rose}
use Rattle.mtn_ports.specs.Kept.{Same}
use Rattle.mtn_frame.specs.declared.script.Form.TheVariants.{Plain}
use Rattle.mtn_frame.specs.declared.script.Job.{Job}
use Rattle.mtn_frame.specs.declared.script.Script.{Script}
use Rattle.mtn_model.specs.declared.status.Status.{Status}
use Rattle.mtn_model.specs.declared.status.Status.TheVariants as status
use Rattle.mtn_frame.specs.Kinds.{Kind, Answered, Cut, Halted, Quiet, Hurt, kind_of, ByKind}
use Rattle.mtn_frame.specs.Limit.{Past, Within}
use Rattle.mtn_frame.specs.Outcome.{JobOutcome}
use Rattle.mtn_frame.specs.Script.{Does, BoundsJob, ChangesJob, IsScript, IsScriptIf, Reaches, is_session, jobs_of, state_after}
use Rattle.mtn_frame.specs.Frame.{Told, Counts, IsReached, Shows, Untouched, Meets, LeavesRecords, Writes, keeps, HasCauses, Completes, StaysLawful, LeavesSource, VouchesBare}
use Rattle.mtn_frame.specs.Session.{RunsScript, AsksFewIf, ChangesIf, VouchesIf, is_framed, script_spelled, script_merging, script_vouching}
use Rattle.mtn_frame.specs.Top.{Runs, ComesTo, reads, fed, Feeds, Unread, in_grammar, is_merge, is_vouch}
use Rattle.mtn_frame.proofs.OneLemmas.{told_is, writes_nothing}
use Rattle.mtn_frame.proofs.SessionLemmas.{state_more}

consumed : (l0 l1 : Option (List ℕ)) (input p : List ℕ) → l0 ≡ Some input → Consumes l0 l1 p → IsAtEnd l1 → (p ≡ input) × (l1 ≡ Some [])
consumed None l1 input p told took done = cc
consumed (Some xs) None input p told took done = absurd took
consumed (Some xs) (Some ys) input p told took done =
    let same : xs ≡ input = cc in (sym (took ∙ ap (λ zs. p ++ zs) done ∙ append-nil p) ∙ same, ap Some done)

-- what was given is what is fed of the input
pub given : (b : Bool) (l0 l1 : Option (List ℕ)) (input p : List ℕ) → OnTrue b (l0 ≡ Some input) → Feeds b l0 l1 p → (p ≡ fed b input) × LeavesSource b l0 l1
given true l0 l1 input p told took = consumed l0 l1 input p told took.0 took.1
given false l0 l1 input p told took = took

not_past : (old new : Option (List ℕ)) (input : List ℕ) → old ≡ Some input → length input ≤ 268435456 → Past old new → ⊥
not_past None new input told small past = cc
not_past (Some xs) None input told small past = past
not_past (Some xs) (Some ys) input told small past = let same : xs ≡ input = cc in let long : length xs ≡ length input = ap length same in omega (arith, long, small, past)

-- the script is bare where the words are no session's; what is in the grammar, and what merges, is the script's
bare_of : (b : Bool) (takes : List (List ℕ) → Bool) (words : List (List ℕ)) (input : List ℕ) (script : Script) → b ≡ false → IsScriptIf b takes words input script → is_framed script ≡ false
bare_of true takes words input script none is = cc
bare_of false takes words input script none is = ap is_framed is

spelled_of : (b : Bool) (takes spelled : List (List ℕ) → Bool) (words : List (List ℕ)) (input : List ℕ) (script : Script) → IsScriptIf b takes words input script → script_spelled spelled script ≡ b || spelled words
spelled_of true takes spelled words input script (inl is) = ap (script_spelled spelled) is.2
spelled_of true takes spelled words input script (inr is) = ap (script_spelled spelled) is.2
spelled_of false takes spelled words input script is = ap (script_spelled spelled) is

merging_of : (b : Bool) (takes merging : List (List ℕ) → Bool) (words : List (List ℕ)) (input : List ℕ) (script : Script) → IsScriptIf b takes words input script → script_merging merging script ≡ not b && merging words
merging_of true takes merging words input script (inl is) = ap (script_merging merging) is.2
merging_of true takes merging words input script (inr is) = ap (script_merging merging) is.2
merging_of false takes merging words input script is = ap (script_merging merging) is

-- what a bare script keeps and writes, a session does
weaker_keeps : (S : Type 0) (st : Status) → OnTrue (keeps false st) S → OnTrue (keeps true st) S
weaker_keeps S status.Ok x = x
weaker_keeps S status.Refused x = x
weaker_keeps S status.Usage x = x
weaker_keeps S status.Conflicts x = x
weaker_keeps S status.SourceFault x = x
weaker_keeps S status.SinkFault x = x
weaker_keeps S status.StoreFault x = tt
weaker_keeps S status.NoMemory x = tt
weaker_keeps S status.Damaged x = tt
weaker_keeps S status.TooLong x = x

weaker_writes : (Lines : List ℕ → Type 0) (w0 w1 : Option (List ℕ)) (st : Status) → Writes Lines false w0 w1 st → Writes Lines true w0 w1 st
weaker_writes Lines w0 w1 status.Ok x = x
weaker_writes Lines w0 w1 status.Refused x = x
weaker_writes Lines w0 w1 status.Usage x = x
weaker_writes Lines w0 w1 status.Conflicts x = x
weaker_writes Lines w0 w1 status.SourceFault x = x
weaker_writes Lines w0 w1 status.SinkFault x = x
weaker_writes Lines w0 w1 status.StoreFault x = tt
weaker_writes Lines w0 w1 status.NoMemory x = tt
weaker_writes Lines w0 w1 status.Damaged x = tt
weaker_writes Lines w0 w1 status.TooLong x = x

same_by : (framed session : Bool) (S : Type 0) (st : Status) → (session ≡ false → framed ≡ false) → OnTrue (keeps framed st) S → OnTrue (keeps session st) S
same_by true true S st bare x = x
same_by false false S st bare x = x
same_by false true S st bare x = weaker_keeps S st x
same_by true false S st bare x = let e : true ≡ false = bare refl in cc

writes_as : (Lines : List ℕ → Type 0) (framed session : Bool) (w0 w1 : Option (List ℕ)) (st : Status) → (session ≡ false → framed ≡ false) → Writes Lines framed w0 w1 st → Writes Lines session w0 w1 st
writes_as Lines true true w0 w1 st bare x = x
writes_as Lines false false w0 w1 st bare x = x
writes_as Lines false true w0 w1 st bare x = weaker_writes Lines w0 w1 st x
writes_as Lines true false w0 w1 st bare x = let e : true ≡ false = bare refl in cc

-- a damage that a bare script shows, a session shows
shows_as : (Damages : Contents → List ℕ → Type 0) (framed session : Bool) (c : Contents) (w0 w1 : Option (List ℕ)) → (session ≡ false → framed ≡ false) → Shows Damages framed c w0 w1 → Shows Damages session c w0 w1
shows_as Damages true true c w0 w1 bare x = x
shows_as Damages false false c w0 w1 bare x = x
shows_as Damages false true c w0 w1 bare x = record { before = []; form = Plain; line = x.line; is = x.is; written = x.written }
shows_as Damages true false c w0 w1 bare x = let e : true ≡ false = bare refl in cc

map_kind : (k : Kind) (a c h q a' c' h' q' : Type 0) → ByKind k a c h ⊥ ⊥ → (a → a') → (c → c') → (h → h') → ByKind k a' c' h' q' ⊥
map_kind Answered a c h q a' c' h' q' x on_a on_c on_h = on_a x
map_kind Cut a c h q a' c' h' q' x on_a on_c on_h = on_c x
map_kind Halted a c h q a' c' h' q' x on_a on_c on_h = on_h x
map_kind Quiet a c h q a' c' h' q' x on_a on_c on_h = absurd x
map_kind Hurt a c h q a' c' h' q' x on_a on_c on_h = x

any_kind : (k : Kind) (a c h P : Type 0) → ByKind k a c h ⊥ ⊥ → (a → P) → (c → P) → (h → P) → P
any_kind Answered a c h P x on_a on_c on_h = on_a x
any_kind Cut a c h P x on_a on_c on_h = on_c x
any_kind Halted a c h P x on_a on_c on_h = on_h x
any_kind Quiet a c h P x on_a on_c on_h = absurd x
any_kind Hurt a c h P x on_a on_c on_h = absurd x

known_by : (a b c : Bool) → a || (b && c) ≡ true → a || b ≡ false → ⊥
known_by true b c on off = cc
known_by false true c on off = cc
known_by false false c on off = cc

module _ {S : Type 0} (Stands : Contents → S → Type 0) (Damages Firsts : Contents → List ℕ → Type 0) (Refuses : Contents → Refusal → Type 0) (Lines : List ℕ → Type 0) (does : List (List ℕ) → List ℕ → S → JobOutcome S → Type 0) (bounds : List (List ℕ) → List ℕ → S → ℕ → Type 0) (changes : List (List ℕ) → List ℕ → Contents → Contents → Type 0) (takes spelled merging vouching : List (List ℕ) → Bool) (words : List (List ℕ)) where
  abbrev Read : Bool
  Read = reads spelled takes words

  abbrev Scripts : List ℕ → Script → Type 0
  Scripts input = IsScript takes words (fed Read input)

  abbrev Bounded : List ℕ → S → ℕ → Type 0
  Bounded input = bounds words (fed Read input)

  abbrev Changes : List ℕ → Contents → Contents → Type 0
  Changes input = changes words (fed Read input)

  abbrev Target : Told → Told → Counts → Counts → (Contents → Type 0) → (Contents → Type 0) → Status → Type 0
  Target before after counts0 counts1 may0 may1 result = Runs Stands Damages Firsts Refuses Lines (Does does) Bounded Changes (does words) Scripts (is_session words) (in_grammar spelled words) (is_merge merging words) (is_vouch vouching words) Read before after counts0 counts1 may0 may1 result

  -- where nothing failed, by what the call meets and its causes
  completes : (before after : Told) (counts0 counts1 : Counts) (st : Status) → Meets Stands (Does does) Scripts Read before after st → HasCauses (is_session words) (in_grammar spelled words) (is_merge merging words) Read before after counts0 counts1 st →
      Completes Stands (Does does) Scripts Read before after counts0 counts1 st
  completes before after counts0 counts1 status.Ok meets causes s input w d tells now none small = inl (meets s input w d tells now)
  completes before after counts0 counts1 status.Refused meets causes s input w d tells now none small = inl (meets s input w d tells now)
  completes before after counts0 counts1 status.Usage meets causes s input w d tells now none small = inl (meets s input w d tells now)
  completes before after counts0 counts1 status.Conflicts meets causes s input w d tells now none small = inl (meets s input w d tells now)
  completes before after counts0 counts1 status.SourceFault meets causes s input w d tells now none small = absurd (none.source (causes.source refl))
  completes before after counts0 counts1 status.SinkFault meets causes s input w d tells now none small = absurd (none.sink (causes.sink refl))
  completes before after counts0 counts1 status.StoreFault meets causes s input w d tells now none small = absurd (none.keeper (causes.store refl))
  completes before after counts0 counts1 status.NoMemory meets causes s input w d tells now none small = inr refl
  completes before after counts0 counts1 status.Damaged meets causes s input w d tells now none small = absurd (meets s input w d tells now)
  completes before after counts0 counts1 status.TooLong meets causes s input w d tells now none small =
      let long = causes.too_long refl in
      absurd (not_past before.left after.left input (subst (λ b. OnTrue b (before.left ≡ Some input)) long.0 tells.left) small long.1)

  -- the state that outcomes lead to is reached
  reached_by : (s : S) (d : Contents) (jobs : List Job) (os : List (JobOutcome S)) → Reaches (Does does) s jobs os → Stands d (state_after s os) → (t : S) × Stands d t × IsReached (Does does) s t
  reached_by s d jobs os reaches stands = (state_after s os, stands, record { jobs = jobs; outcomes = os; reaches = reaches; is = refl })

  same_lawful : (told : Option Contents) → StaysLawful Stands (Does does) told told
  same_lawful told c d s is now stands = let e : c ≡ d = same_told told c d is now in (s, subst (λ x. Stands x s) e stands, record { jobs = []; outcomes = []; reaches = tt; is = refl })
    where
      same_told : (o : Option Contents) (a b : Contents) → o ≡ Some a → o ≡ Some b → a ≡ b
      same_told o a b first second = cc

  module _ (told : Option Contents) (left0 left1 w : Option (List ℕ)) (k s0 s1 o a : ℕ) (may : Contents → Type 0) (unread : Unread Read left0 left1) where
    abbrev Before : Told
    Before = record { contents = told; left = left0; written = w }

    abbrev After : Told
    After = record { contents = told; left = left1; written = w }

    abbrev Counts0 : Counts
    Counts0 = record { keeper = k; source = s0; sink = o; reads = a }

    abbrev Counts1 : Counts
    Counts1 = record { keeper = k; source = s1; sink = o; reads = a }

    abbrev Idle : Status → Type 0
    Idle st = Target Before After Counts0 Counts1 may may st

    -- the call ended before a job was done
    pub no_memory : Idle status.NoMemory
    no_memory =
        let causes : HasCauses (is_session words) (in_grammar spelled words) (is_merge merging words) Read Before After Counts0 Counts1 status.NoMemory = record { usage = λ is. cc; words = λ none. inr (inl refl); conflicts = λ is. cc; source = λ is. cc; sink = λ is. cc; store = λ is. cc; too_long = λ is. cc; within = λ long memory. absurd (memory refl); unread = unread } in
        record {
          meets = λ s input w d tells now. inl (record { contents = refl; written = refl });
          same = by_session (is_session words);
          written = write_none (is_session words);
          damage = λ is. cc;
          lawful = same_lawful told;
          causes = causes;
          complete = completes Before After Counts0 Counts1 status.NoMemory (λ s input w d tells now. inl (record { contents = refl; written = refl })) causes;
          crash = λ s input w d e tells now left. inl left;
          few_reads = λ single c d s input n told now stands is bounded. omega arith;
          changes = λ single c d input before now is. inl (told_is told d c now before);
          vouches = λ on d now. tt;
        }
      where
        by_session : (b : Bool) → LeavesRecords b told told status.NoMemory
        by_session true = tt
        by_session false = λ d at. at

        write_none : (b : Bool) → Writes Lines b w w status.NoMemory
        write_none true = tt
        write_none false = writes_nothing w

    pub source_failed : Rose s0 s1 → Within left0 left1 → (in_grammar spelled words ≡ false → ⊥) → Idle status.SourceFault
    source_failed rose within known =
        let causes : HasCauses (is_session words) (in_grammar spelled words) (is_merge merging words) Read Before After Counts0 Counts1 status.SourceFault = record { usage = λ is. cc; words = λ none. absurd (known none); conflicts = λ is. cc; source = λ is. rose; sink = λ is. cc; store = λ is. cc; too_long = λ is. cc; within = λ long memory. within; unread = unread } in
        record {
          meets = λ s input w d tells now. record { contents = refl; written = refl };
          same = λ d at. at;
          written = writes_nothing w;
          damage = λ is. cc;
          lawful = same_lawful told;
          causes = causes;
          complete = completes Before After Counts0 Counts1 status.SourceFault (λ s input w d tells now. record { contents = refl; written = refl }) causes;
          crash = λ s input w d e tells now left. inl left;
          few_reads = λ single c d s input n told now stands is bounded. omega arith;
          changes = λ single c d input before now is. inl (told_is told d c now before);
          vouches = λ on d now. tt;
        }

    pub too_long : (Read ≡ true) × Past left0 left1 → (in_grammar spelled words ≡ false → ⊥) → Idle status.TooLong
    too_long long known =
        let causes : HasCauses (is_session words) (in_grammar spelled words) (is_merge merging words) Read Before After Counts0 Counts1 status.TooLong = record { usage = λ is. cc; words = λ none. absurd (known none); conflicts = λ is. cc; source = λ is. cc; sink = λ is. cc; store = λ is. cc; too_long = λ is. long; within = λ other memory. absurd (other refl); unread = unread } in
        record {
          meets = λ s input w d tells now. record { contents = refl; written = refl };
          same = λ d at. at;
          written = writes_nothing w;
          damage = λ is. cc;
          lawful = same_lawful told;
          causes = causes;
          complete = completes Before After Counts0 Counts1 status.TooLong (λ s input w d tells now. record { contents = refl; written = refl }) causes;
          crash = λ s input w d e tells now left. inl left;
          few_reads = λ single c d s input n told now stands is bounded. omega arith;
          changes = λ single c d input before now is. inl (told_is told d c now before);
          vouches = λ on d now. tt;
        }

  module _ {K : Type 0} (contents : K → Option Contents) (leaves : K → Contents → Type 0) (faults asked : K → ℕ) (old new : K) (left0 left1 w0 w1 : Option (List ℕ)) (s0 s1 o0 o1 : ℕ) (payload : List ℕ) (script : Script) (result : Status)
      (feeds : Feeds Read left0 left1 payload) (within : Within left0 left1) (unread : Unread Read left0 left1) (is : IsScript takes words payload script)
      (run : RunsScript Stands Damages Firsts Refuses Lines (Does does) (BoundsJob bounds) (ChangesJob changes) contents leaves faults asked old new w0 w1 o0 o1 script (script_spelled spelled script) (script_merging merging script) (script_vouching vouching script) result) where
    abbrev Start : Told
    Start = record { contents = contents old; left = left0; written = w0 }

    abbrev Stop : Told
    Stop = record { contents = contents new; left = left1; written = w1 }

    abbrev First : Counts
    First = record { keeper = faults old; source = s0; sink = o0; reads = asked old }

    abbrev Last : Counts
    Last = record { keeper = faults new; source = s1; sink = o1; reads = asked new }

    script_is : (input : List ℕ) → OnTrue Read (left0 ≡ Some input) → Scripts input script
    script_is input told = subst (λ p. IsScript takes words p script) (given Read left0 left1 input payload told feeds).0 is

    bare_if : is_session words ≡ false → is_framed script ≡ false
    bare_if none = bare_of (is_session words) takes words payload script none is

    run_meets : Meets Stands (Does does) Scripts Read Start Stop result
    run_meets s input w d tells now = map_kind (kind_of result) _ _ _ ⊥ _ _ _ (Untouched Start Stop) (run.done tells.c d s tells.contents now tells.stands)
        (λ a. record { script = script; is = script_is input tells.left; all = a; source = (given Read left0 left1 input payload tells.left feeds).1 })
        (λ c. record { script = script; is = script_is input tells.left; some = c })
        (λ h. inr (script, script_is input tells.left, h))

    few : (b : Bool) → b ≡ false → (c d : Contents) (s : S) (n : ℕ) → contents old ≡ Some c → contents new ≡ Some d → Stands c s → IsScriptIf b takes words payload script → bounds words payload s n → asked new ≤ asked old + n
    few true single c d s n told now stands is_script bounded = cc
    few false single c d s n told now stands is_script bounded = subst (λ x. AsksFewIf Stands (BoundsJob bounds) x (contents old) (contents new) (asked old) (asked new)) is_script run.few_reads c d s n told now stands bounded

    change : (b : Bool) → b ≡ false → (c d : Contents) → contents old ≡ Some c → contents new ≡ Some d → IsScriptIf b takes words payload script → (d ≡ c) ⊎ changes words payload c d
    change true single c d told now is_script = cc
    change false single c d told now is_script = subst (λ x. ChangesIf (ChangesJob changes) x (contents old) (contents new)) is_script run.changes c d told now

    vouch : (b : Bool) → not b && vouching words ≡ true → IsScriptIf b takes words payload script → (d : Contents) → contents new ≡ Some d → VouchesBare Stands Firsts Refuses (does words payload) d w0 w1 result
    vouch true on is_script d now = cc
    vouch false on is_script d now = subst (λ x. VouchesIf Stands Firsts Refuses (Does does) x (script_vouching vouching x) (contents new) w0 w1 result) is_script run.vouches on d now

    with_source : (d : Contents) (st : Status) → VouchesBare Stands Firsts Refuses (does words payload) d w0 w1 st → VouchesBare Stands Firsts Refuses (ComesTo (does words) Read left0 left1) d w0 w1 st
    with_source d status.Ok v = record { state = v.state; stands = v.stands; outcome = v.outcome; is = (payload, feeds, v.is); status = v.status; written = v.written }
    with_source d status.Refused v = v
    with_source d status.Usage v = v
    with_source d status.Conflicts v = v
    with_source d status.SourceFault v = v
    with_source d status.SinkFault v = v
    with_source d status.StoreFault v = v
    with_source d status.NoMemory v = v
    with_source d status.Damaged v = v
    with_source d status.TooLong v = v

    run_causes : HasCauses (is_session words) (in_grammar spelled words) (is_merge merging words) Read Start Stop First Last result
    run_causes = record {
      usage = λ ends. sym (spelled_of (is_session words) takes spelled words payload script is) ∙ run.usage ends;
      words = λ none. run.words (spelled_of (is_session words) takes spelled words payload script is ∙ none);
      conflicts = λ ends. sym (merging_of (is_session words) takes merging words payload script is) ∙ run.conflicts ends;
      source = λ ends. absurd (run.read.0 ends);
      sink = run.sink;
      store = run.store;
      too_long = λ ends. absurd (run.read.1 ends);
      within = λ long memory. within;
      unread = unread;
    }

    pub ran : Target Start Stop First Last (leaves old) (leaves new) result
    ran = record {
      meets = run_meets;
      same = same_by (is_framed script) (is_session words) (Same (contents old) (contents new)) result bare_if run.same;
      written = writes_as Lines (is_framed script) (is_session words) w0 w1 result bare_if run.written;
      damage = λ ends c now. shows_as Damages (is_framed script) (is_session words) c w0 w1 bare_if (run.damage ends c now);
      lawful = λ c d s told now stands. any_kind (kind_of result) _ _ _ ((t : S) × Stands d t × IsReached (Does does) s t) (run.done c d s told now stands)
          (λ a. reached_by s d (jobs_of script) a.walked.outcomes a.walked.reaches a.walked.stands)
          (λ c. (c.last.state, c.stands, record { jobs = jobs_of script; outcomes = c.outcomes ++ c.last ∷ []; reaches = c.reaches; is = sym (state_more s c.outcomes c.last) }))
          (λ h. reached_by s d (jobs_of script) h.walked.outcomes h.walked.reaches h.walked.stands);
      causes = run_causes;
      complete = completes Start Stop First Last result run_meets run_causes;
      crash = λ s input w d e tells now left. elim (run.crash tells.c d e s tells.contents now tells.stands left) [
        | inl before ↦ inl before
        | inr after ↦ inr (script, script_is input tells.left, after)
      ];
      few_reads = λ single c d s input n told now stands is_told bounded. few (is_session words) single c d s n told now stands is (subst (λ p. bounds words p s n) (sym (given Read left0 left1 input payload is_told feeds).0) bounded);
      changes = λ single c d input told now is_told. subst (λ p. (d ≡ c) ⊎ changes words p c d) (given Read left0 left1 input payload is_told feeds).0 (change (is_session words) single c d told now is);
      vouches = λ on d now. with_source d result (vouch (is_session words) on is d now);
    }

  -- the same by the answer to whether the source is read
  module _ (b : Bool) (is_read : b ≡ Read) where
    pub read_as : (l0 l1 : Option (List ℕ)) → Unread b l0 l1 → Unread Read l0 l1
    read_as l0 l1 unread = subst (λ x. Unread x l0 l1) is_read unread

    pub feeds_as : (l0 l1 : Option (List ℕ)) (p : List ℕ) → Feeds b l0 l1 p → Feeds Read l0 l1 p
    feeds_as l0 l1 p feeds = subst (λ x. Feeds x l0 l1 p) is_read feeds

    pub known : b ≡ true → in_grammar spelled words ≡ false → ⊥
    known on off = known_by (is_session words) (spelled words) (takes words) (sym is_read ∙ on) off

    pub long_as : (l0 l1 : Option (List ℕ)) → (b ≡ true) × Past l0 l1 → (Read ≡ true) × Past l0 l1
    long_as l0 l1 long = (sym is_read ∙ long.0, long.1)

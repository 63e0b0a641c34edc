-- The three commands meet the contract of commands.
use Rattle.std.proofs.Common.{◌≡◌, ◌≤◌, ◌+◌, inl, inr, ℕ, Bool, true, false, ◌||◌, ◌&&◌, List, [], ◌∷◌, Option, Some, None, Result, Ok, Err, cond, refl, sym, ap, ◌∙◌, subst, arith}
use Rattle.std.specs.Prelude.{⊤, if◌then◌else◌, IfSome, bytes_eq}
use Rattle.std.specs.FinMap.{get, insert}
use Rattle.std.specs.Cmp.Lexicographic.{slice_cmp}
use Rattle.std.specs.Ordering.{nat_cmp}
use Rattle.std.specs.declared.cmp.Ordering.TheVariants.{Less}
use Rattle.std.proofs.lemmas.Slice.Eq.{bytes_eq-Decides}
use Rattle.mtn_base.specs.declared.refusal.Cause.TheVariants.{NoBranch}
use Rattle.mtn_model.specs.Table.{Contents, body_at, with_record}
use Rattle.mtn_model.specs.State.{State, empty_state}
use Rattle.mtn_frame.specs.Outcome.{JobOutcome}
use Rattle.mtn_ports.proofs.KeptLemmas.{body_at-with_record}
use Rattle.mtn_ports.specs.Causes.{Rose, RisesByOne}
use Rattle.mtn_ports.specs.Kept.{Stays, with_all, IsAbove, IsBody, IsNextKey}
use Rattle.mtn_ports.specs.declared.batch.Put.{Put}
use Rattle.mtn_frame.specs.declared.works.Reply.{Reply}
use Rattle.mtn_frame.specs.declared.works.Worked.{Worked}
use Rattle.mtn_frame.specs.declared.works.WorkError.{WorkError}
use Rattle.mtn_frame.specs.declared.works.WorkError.TheVariants.{Usage, Refused, Damaged, Failed, NoMemory}
use Rattle.mtn_frame.specs.Works.{ChangesBy, Works, replied, misused}
use Rattle.mtn_claims_frame.specs.Toy.{ToyChanges, ToyDamages, ToyFirst, ToyLines, ToyRefuses, ToyStands, checked, good_line, is_check, is_get, is_put, put_outcome, toy_found, toy_key, toy_line, toy_outcome, toy_spelled, toy_vouches}

apart : (key : List ℕ) (b : Bool) → bytes_eq key toy_key ≡ b → IsAbove toy_key key → b ≡ false
apart key false is above = refl
apart key true is above = let less : slice_cmp nat_cmp toy_key toy_key ≡ Less = subst (IsAbove toy_key) ((bytes_eq-Decides key toy_key).0 is) above in cc

-- a file under the one key leaves none behind it
stays_alone : (c : Contents) (payload : List ℕ) → ((key : List ℕ) → IsAbove toy_key key → body_at c 2 key ≡ None) → (key : List ℕ) → IsAbove toy_key key → body_at (with_record c 2 toy_key payload) 2 key ≡ None
stays_alone c payload alone key above =
    body_at-with_record c 2 toy_key payload 2 key
    ∙ ap (λ b. cond (true && b) (Some payload) (body_at c 2 key)) (apart key (bytes_eq key toy_key) refl above)
    ∙ alone key above

pub after_put : (c : Contents) (s : State) (payload : List ℕ) → ToyStands c s → ToyStands (with_record c 2 toy_key payload) (record s { files = insert s.files toy_key payload })
after_put c s payload stands = record { files = ap (λ m. insert m toy_key payload) stands.files; alone = stays_alone c payload stands.alone }

module _ {K : Type 0} (contents : K → Option Contents) (leaves : K → Contents → Type 0) (faults asked : K → ℕ) (old new : K) where
  -- what a command of this set does, in the words of the frame
  abbrev Ensures : Bool → Bool → (State → JobOutcome State → Type 0) → (Contents → Contents → Type 0) → Result Worked WorkError → Type 0
  Ensures spelled vouched Outcomes Changes r = Works ToyStands ToyDamages ToyFirst ToyRefuses ToyLines {M = Unit {0}} (λ m c. ⊤) contents leaves faults asked old new tt spelled false vouched Outcomes (λ s n. n ≡ 1) Changes r

  abbrev Few : Type 0
  Few = (c : Contents) (s : State) (n : ℕ) → contents new ≡ Some c → ToyStands c s → n ≡ 1 → asked new ≤ asked old + n

  few : RisesByOne (asked old) (asked new) → Few
  few one c s n now stands is = let most = one.at_most in omega (arith, most, is)

  unasked : old ≡ new → Few
  unasked same c s n now stands is = let e = ap asked same in omega (arith, e)

  rests : old ≡ new → Stays contents leaves faults old new
  rests same = subst (Stays contents leaves faults old) same (record { same = λ d now. now; crash = λ d now e may. may; later = omega arith })

  no_conflicts : (r : Reply) (text : List ℕ) (P : Type 0) → r ≡ record { conflicts = false; text = text } → r.conflicts ≡ true → P
  no_conflicts r text P is on = let e : r.conflicts ≡ false = ap (λ (x : Reply). x.conflicts) is in cc

  -- an answer that puts nothing
  answered : (c : Contents) (s : State) (worked : Worked) (text : List ℕ) (o : JobOutcome State) → worked.reply ≡ record { conflicts = false; text = text } → worked.batch ≡ [] → replied (record { conflicts = false; text = text }) s ≡ o → ToyStands c s →
      (t : State) × (replied worked.reply t ≡ o) × ToyStands (with_all c worked.batch) t
  answered c s worked text o is_reply is_batch is stands =
      (s, ap (λ (r : Reply). replied r s) is_reply ∙ is, subst (λ (ps : List Put). ToyStands (with_all c ps) s) (sym is_batch) stands)

  -- ---- the command over the keeper itself

  -- records that hold none behind the one key stand for a state
  stands_with : (c : Contents) → ((key : List ℕ) → IsAbove toy_key key → body_at c 2 key ≡ None) → ToyStands c (record empty_state { files = c 2 })
  stands_with c alone = record { files = refl; alone = alone }

  none_in : (b : Bool) (key : List ℕ) → b ≡ false → IfSome (contents new) (λ c. IsNextKey c 2 toy_key b key) → (c : Contents) → contents new ≡ Some c → (other : List ℕ) → IsAbove toy_key other → body_at c 2 other ≡ None
  none_in b key is found c now = subst (λ t. IsNextKey c 2 toy_key t key) is (subst (λ o. IfSome o (λ x. IsNextKey x 2 toy_key b key)) now found)

  pub finds_none : (worked : Worked) (b : Bool) (key : List ℕ) → RisesByOne (asked old) (asked new) → Stays contents leaves faults old new → worked.reply ≡ record { conflicts = false; text = good_line } → worked.batch ≡ [] →
      b ≡ false → IfSome (contents new) (λ c. IsNextKey c 2 toy_key b key) → Ensures true true (λ s o. o ≡ checked s) (λ c d. ⊥) (Ok worked)
  finds_none worked b key one stays is_reply is_batch is found = record {
    stays = stays;
    done = λ c s now stands. answered c s worked good_line (checked s) is_reply is_batch refl stands;
    knows = λ c now. tt;
    reason = (refl, no_conflicts worked.reply good_line _ is_reply);
    few_reads = few one;
    changes = λ c now. inl is_batch;
    vouches = λ c now on.
        let s : State = record empty_state { files = c 2 } in
        (s, stands_with c (none_in b key is found c now), ap (λ (r : Reply). replied r s) is_reply, ap (λ (r : Reply). r.conflicts) is_reply, is_batch);
  }

  pub finds_another : (key line : List ℕ) (b : Bool) → RisesByOne (asked old) (asked new) → Stays contents leaves faults old new → b ≡ true → IfSome (contents new) (λ c. IsNextKey c 2 toy_key b key) → IsAbove toy_key key → line ≡ toy_line key →
      Ensures true true (λ s o. o ≡ checked s) (λ c d. ⊥) (Err (Damaged line))
  finds_another key line b one stays is_true found above is = record {
    stays = stays;
    done = λ c s now stands. let some = held c now in let none = stands.alone key above in cc;
    knows = λ c now. tt;
    reason = (refl, (λ c now. record { key = key; above = above; body = (held c now).0; held = (held c now).1; is = is }), (key, is));
    few_reads = few one;
    changes = λ c now. tt;
    vouches = λ c now on. record { key = key; above = above; least = least c now; is = is };
  }
    where
      least : (c : Contents) → contents new ≡ Some c → IsNextKey c 2 toy_key true key
      least c now = subst (λ t. IsNextKey c 2 toy_key t key) is_true (subst (λ o. IfSome o (λ x. IsNextKey x 2 toy_key b key)) now found)

      held : (c : Contents) → contents new ≡ Some c → (body : List ℕ) × (body_at c 2 key ≡ Some body)
      held c now = (least c now).0

  pub finds_fault : RisesByOne (asked old) (asked new) → Stays contents leaves faults old new → Rose (faults old) (faults new) → Ensures true true (λ s o. o ≡ checked s) (λ c d. ⊥) (Err Failed)
  finds_fault one stays rose = record { few_reads = few one; changes = λ c now. tt; vouches = λ c now on. tt; stays = stays; done = λ c s now stands. tt; knows = λ c now. tt; reason = (refl, rose) }

  pub finds_want : RisesByOne (asked old) (asked new) → Stays contents leaves faults old new → Ensures true true (λ s o. o ≡ checked s) (λ c d. ⊥) (Err NoMemory)
  finds_want one stays = record { few_reads = few one; changes = λ c now. tt; vouches = λ c now on. tt; stays = stays; done = λ c s now stands. tt; knows = λ c now. tt; reason = tt }

  -- what changes nothing changes no more than that
  widened : (r : Result Worked WorkError) (Changes : Contents → Contents → Type 0) → Ensures true true (λ s o. o ≡ checked s) (λ c d. ⊥) r → Ensures true true (λ s o. o ≡ checked s) Changes r
  widened r Changes works = record { few_reads = works.few_reads; changes = λ c now. unchanged r c (works.changes c now); vouches = works.vouches; stays = works.stays; done = works.done; knows = works.knows; reason = works.reason }
    where
      unchanged : (q : Result Worked WorkError) (c : Contents) → ChangesBy (λ c d. ⊥) c q → ChangesBy Changes c q
      unchanged (Ok worked) c (inl none) = inl none
      unchanged (Ok worked) c (inr some) = absurd some
      unchanged (Err e) c any = tt

  module _ (words : List (List ℕ)) (payload : List ℕ) where
    abbrev Target : Result Worked WorkError → Type 0
    Target r = Ensures (toy_spelled words) (toy_vouches words) (λ s o. o ≡ toy_outcome words payload s) (ToyChanges words payload) r

    -- which command it is
    abbrev chosen : Bool → Bool → Bool → State → JobOutcome State
    chosen is_put is_check is_get s = if is_put then put_outcome payload s else if is_check then checked s else if is_get then toy_found s (get s.files toy_key) else misused s

    by_put : (s : State) → is_put words ≡ true → toy_outcome words payload s ≡ put_outcome payload s
    by_put s on = ap (λ b. chosen b (is_check words) (is_get words) s) on

    by_get : (s : State) → is_put words ≡ false → is_check words ≡ false → is_get words ≡ true → toy_outcome words payload s ≡ toy_found s (get s.files toy_key)
    by_get s off out on = ap (λ b. chosen b (is_check words) (is_get words) s) off ∙ ap (λ b. chosen false b (is_get words) s) out ∙ ap (λ b. chosen false false b s) on

    by_none : (s : State) → is_put words ≡ false → is_check words ≡ false → is_get words ≡ false → toy_outcome words payload s ≡ misused s
    by_none s off out none = ap (λ b. chosen b (is_check words) (is_get words) s) off ∙ ap (λ b. chosen false b (is_get words) s) out ∙ ap (λ b. chosen false false b s) none

    spelled_as : is_put words ≡ false → is_check words ≡ false → toy_spelled words ≡ is_get words
    spelled_as off out = ap (λ b. b || is_check words || is_get words) off ∙ ap (λ b. b || is_get words) out

    -- other words do not vouch
    put_quiet : (P : Type 0) → is_put words ≡ true → toy_vouches words ≡ true → P
    put_quiet P on vouches = let e : toy_vouches words ≡ false = ap (λ b. if b then false else is_check words) on in cc

    rest_quiet : (P : Type 0) → is_put words ≡ false → is_check words ≡ false → toy_vouches words ≡ true → P
    rest_quiet P off out vouches = let e : toy_vouches words ≡ false = ap (λ b. if b then false else is_check words) off ∙ out in cc

    pub puts : (worked : Worked) → old ≡ new → is_put words ≡ true → worked.reply ≡ record { conflicts = false; text = [] } → worked.batch ≡ record { table = 2; key = toy_key; body = payload } ∷ [] → Target (Ok worked)
    puts worked same on is_reply is_batch = record {
      stays = rests same;
      done = λ c s now stands.
          let t : State = record s { files = insert s.files toy_key payload } in
          (t, ap (λ (r : Reply). replied r t) is_reply ∙ sym (by_put s on), subst (λ (ps : List Put). ToyStands (with_all c ps) t) (sym is_batch) (after_put c s payload stands));
      knows = λ c now. tt;
      reason = (ap (λ b. b || is_check words || is_get words) on, no_conflicts worked.reply [] _ is_reply);
      few_reads = unasked same;
      changes = λ c now. inr (record { puts = on; file = ap (λ (ps : List Put). with_all c ps) is_batch });
      vouches = λ c now vouches. put_quiet _ on vouches;
    }

    pub checks : (r : Result Worked WorkError) → is_put words ≡ false → is_check words ≡ true → Ensures true true (λ s o. o ≡ checked s) (λ c d. ⊥) r → Target r
    checks r off on works =
        subst (λ b. Ensures (b || is_check words || is_get words) (if b then false else is_check words) (λ s o. o ≡ chosen b (is_check words) (is_get words) s) (ToyChanges words payload) r) (sym off)
        (subst (λ b. Ensures (false || b || is_get words) b (λ s o. o ≡ chosen false b (is_get words) s) (ToyChanges words payload) r) (sym on) (widened r (ToyChanges words payload) works))

    pub gets : (worked : Worked) (text : List ℕ) → RisesByOne (asked old) (asked new) → Stays contents leaves faults old new → is_put words ≡ false → is_check words ≡ false → is_get words ≡ true → worked.reply ≡ record { conflicts = false; text = text } → worked.batch ≡ [] →
        (b : Bool) → b ≡ true → IfSome (contents new) (λ c. IsBody (body_at c 2 toy_key) b text) → Target (Ok worked)
    gets worked text one stays off out on is_reply is_batch b is_true found = record {
      stays = stays;
      done = λ c s now stands.
          let body : body_at c 2 toy_key ≡ Some text = subst (λ t. IsBody (body_at c 2 toy_key) t text) is_true (subst (λ o. IfSome o (λ x. IsBody (body_at x 2 toy_key) b text)) now found) in
          answered c s worked text (toy_outcome words payload s) is_reply is_batch (sym (by_get s off out on ∙ ap (λ m. toy_found s (get m toy_key)) (sym stands.files) ∙ ap (toy_found s) body)) stands;
      knows = λ c now. tt;
      reason = (spelled_as off out ∙ on, no_conflicts worked.reply text _ is_reply);
      few_reads = few one;
      changes = λ c now. inl is_batch;
      vouches = λ c now vouches. rest_quiet _ off out vouches;
    }

    pub misses : RisesByOne (asked old) (asked new) → Stays contents leaves faults old new → is_put words ≡ false → is_check words ≡ false → is_get words ≡ true → IfSome (contents new) (λ c. body_at c 2 toy_key ≡ None) → Target (Err (Refused (record { packet = 0; cause = NoBranch })))
    misses one stays off out on found = record {
      stays = stays;
      done = λ c s now stands.
          let body : body_at c 2 toy_key ≡ None = subst (λ o. IfSome o (λ x. body_at x 2 toy_key ≡ None)) now found in
          sym (by_get s off out on ∙ ap (λ m. toy_found s (get m toy_key)) (sym stands.files) ∙ ap (toy_found s) body);
      knows = λ c now. tt;
      reason = spelled_as off out ∙ on;
      few_reads = few one;
      changes = λ c now. tt;
      vouches = λ c now vouches. rest_quiet _ off out vouches;
    }

    pub misuses : old ≡ new → is_put words ≡ false → is_check words ≡ false → is_get words ≡ false → Target (Err Usage)
    misuses same off out none = record {
      stays = rests same;
      done = λ c s now stands. sym (by_none s off out none);
      knows = λ c now. tt;
      reason = spelled_as off out ∙ none;
      few_reads = unasked same;
      changes = λ c now. tt;
      vouches = λ c now vouches. rest_quiet _ off out vouches;
    }

    pub fails : RisesByOne (asked old) (asked new) → Stays contents leaves faults old new → is_put words ≡ false → is_check words ≡ false → is_get words ≡ true → Rose (faults old) (faults new) → Target (Err Failed)
    fails one stays off out on rose = record { few_reads = few one; changes = λ c now. tt; vouches = λ c now vouches. tt; stays = stays; done = λ c s now stands. tt; knows = λ c now. tt; reason = (spelled_as off out ∙ on, rose) }

    pub wants : RisesByOne (asked old) (asked new) → Stays contents leaves faults old new → Target (Err NoMemory)
    wants one stays = record { few_reads = few one; changes = λ c now. tt; vouches = λ c now vouches. tt; stays = stays; done = λ c s now stands. tt; knows = λ c now. tt; reason = tt }

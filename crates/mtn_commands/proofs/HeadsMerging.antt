-- A merge of the two least heads of a branch, by what its calls say.
use Rattle.std.specs.Prelude.{IfSome}
use Rattle.std.proofs.Common.{◌≡◌, ◌<◌, ◌≤◌, ℕ, Bool, true, List, [], ◌∷◌, length, slice_index_or, Option, Some, Result, Ok, Err, refl, sym, ap, ◌∙◌, subst, arith}
use Rattle.mtn_base.specs.declared.id.Id.{Id}
use Rattle.mtn_base.specs.declared.refusal.Cause.TheVariants.{NoBranch, OneHead}
use Rattle.mtn_frame.specs.declared.works.Reply.{Reply}
use Rattle.mtn_history.specs.Damage.{IsDamage}
use Rattle.mtn_history.specs.Errors.{IfDamage}
use Rattle.mtn_history.specs.Marked.{IsCounted}
use Rattle.mtn_history.specs.Stands.{IsDraft}
use Rattle.mtn_history.specs.declared.errors.HistoryError.{HistoryError}
use Rattle.mtn_history.specs.declared.errors.HistoryError.TheVariants.{Refused, Store}
use Rattle.mtn_history.specs.declared.errors.StoreError.{StoreError}
use Rattle.mtn_history.specs.declared.errors.StoreError.TheVariants.{Failed, NoMemory}
use Rattle.mtn_history.specs.declared.pending.Pending.{Pending}
use Rattle.mtn_history.proofs.Founding.{founded}
use Rattle.mtn_history.proofs.MarkedLemmas.{draft_counts}
use Rattle.mtn_model.specs.Outcome.{Outcome}
use Rattle.mtn_model.specs.State.{State}
use Rattle.mtn_model.specs.Table.{Contents}
use Rattle.mtn_ports.specs.Causes.{Rose}
use Rattle.mtn_ports.specs.Kept.{Stays, with_all}
use Rattle.mtn_ports.proofs.KeptLemmas.{stays_trans}
use Rattle.mtn_step.specs.Certifying.{AreHeads, merge_said}
use Rattle.mtn_step.specs.Step.{Steps, refused}
use Rattle.mtn_step.specs.declared.call.Call.TheVariants.{MergeHeads}
use Rattle.mtn_step.specs.declared.call.Said.{Said}
use Rattle.mtn_commands.specs.Certifying.{AreHeadsOver, Merging, first_two}
use Rattle.mtn_commands.specs.Drafts.{Replies, drafted}
use Rattle.mtn_commands.proofs.ReasonLemmas.{wider_reason}
use Rattle.mtn_commands.proofs.ViewLemmas.{never, reason_of}

module _ (f : List ℕ → List ℕ) (branch author date : List ℕ) (key : Id) (resolves : Bool) (payload : List ℕ) {K : Type 0} (contents : K → Option Contents) (leaves : K → Contents → Type 0) (faults : K → ℕ)
    (old mid : K) (before : Pending) (stays : Stays contents leaves faults old mid) where
  abbrev Outcomes : State → Outcome → Type 0
  Outcomes = Steps f (MergeHeads branch author date key resolves) payload

  -- the heads could not be found
  pub no_heads : (after : Pending) (result : Result Reply HistoryError) (e : StoreError) → result ≡ Err (Store e) → IfSome (contents mid) (λ c. IsCounted before c → IfDamage e (IsDamage (with_all c before.batch))) →
      (e ≡ Failed → Rose (faults old) (faults mid)) → Replies f contents leaves faults old mid before after true Outcomes result
  no_heads after result e is damaged rose = subst (Replies f contents leaves faults old mid before after true Outcomes) (sym is) record {
    stays = stays;
    done = λ c s now draft. never f c before s e draft (subst (λ o. IfSome o (λ x. IsCounted before x → IfDamage e (IsDamage (with_all x before.batch)))) now damaged (draft_counts f c before s draft));
    reason = λ counts. reason_of (contents mid) before e (faults old) (faults mid) rose damaged counts;
    quiet = tt;
  }

  -- memory is wanting
  pub wants : (after : Pending) (result : Result Reply HistoryError) → result ≡ Err (Store NoMemory) → Replies f contents leaves faults old mid before after true Outcomes result
  wants after result is = subst (Replies f contents leaves faults old mid before after true Outcomes) (sym is) record { stays = stays; done = λ c s now draft. tt; reason = λ counts. tt; quiet = tt }

  -- fewer than two
  no_branch : (after : Pending) → AreHeadsOver f (contents mid) before branch [] → Replies f contents leaves faults old mid before after true Outcomes (Err (Refused NoBranch))
  no_branch after heads = record {
    stays = stays;
    done = λ c s now draft. let d = founded f (contents mid) c before s now draft in (d.stands.history, d.stands.spelled, ([], heads c s now draft d.stands.history d.stands.spelled, refl));
    reason = λ counts. tt;
    quiet = tt;
  }

  one_head : (after : Pending) (id : Id) → AreHeadsOver f (contents mid) before branch (id ∷ []) → Replies f contents leaves faults old mid before after true Outcomes (Err (Refused (OneHead id)))
  one_head after id heads = record {
    stays = stays;
    done = λ c s now draft. let d = founded f (contents mid) c before s now draft in (d.stands.history, d.stands.spelled, (id ∷ [], heads c s now draft d.stands.history d.stands.spelled, refl));
    reason = λ counts. tt;
    quiet = tt;
  }

  pub fewer : (after : Pending) (ids : List Id) (e : HistoryError) (result : Result Reply HistoryError) → result ≡ Err e → Err e ≡ first_two ids → AreHeadsOver f (contents mid) before branch ids →
      Replies f contents leaves faults old mid before after true Outcomes result
  fewer after [] e result is told heads = let same : e ≡ Refused NoBranch = cc in subst (Replies f contents leaves faults old mid before after true Outcomes) (sym (is ∙ ap Err same)) (no_branch after heads)
  fewer after (id ∷ []) e result is told heads = let same : e ≡ Refused (OneHead id) = cc in subst (Replies f contents leaves faults old mid before after true Outcomes) (sym (is ∙ ap Err same)) (one_head after id heads)
  fewer after (left ∷ right ∷ rest) e result is told heads = absurd (let apart : Err e ≡ Ok (left, right) = told in cc)

  module _ (new : K) (p after : Pending) (ids : List Id) (left right : Id) (rest : List Id) (said : Said) (is : ids ≡ left ∷ right ∷ rest) (heads : AreHeadsOver f (contents mid) before branch ids)
      (says : said ≡ merge_said key author branch date left right) (same : p ≡ before) (put : Stays contents leaves faults mid new) where
    lead : (c : Contents) (s : State) → contents new ≡ Some c → IsDraft f c before s → (o : Outcome) → Merging f left right resolves (Some (merge_said key author branch date left right)) payload s o → Outcomes s o
    lead c s now draft o m = (m.0, m.1, (left ∷ right ∷ rest, subst (AreHeads s m.0 branch) is (heads c s (put.same c now) draft m.0 m.1), m.2))

    abbrev Two : Pending → Said → Result Reply HistoryError → Type 0
    Two q x r = Replies f contents leaves faults mid new q after true (Merging f left right resolves (Some x) payload) r

    merged : (r : Result Reply HistoryError) → Two before (merge_said key author branch date left right) r → Replies f contents leaves faults old new before after true Outcomes r
    merged (Ok reply) replies = record {
      stays = stays_trans contents leaves faults old mid new stays put;
      done = λ c s now draft. let x = replies.done c s now draft in (x.0, lead c s now draft _ x.1, x.2);
      reason = λ counts. tt;
      quiet = replies.quiet;
    }
    merged (Err (Refused cause)) replies = record {
      stays = stays_trans contents leaves faults old mid new stays put;
      done = λ c s now draft. lead c s now draft (refused cause s) (replies.done c s now draft);
      reason = λ counts. tt;
      quiet = tt;
    }
    merged (Err (Store e)) replies = record {
      stays = stays_trans contents leaves faults old mid new stays put;
      done = replies.done;
      reason = λ counts. wider_reason (drafted before (contents new)) (faults old) (faults mid) (faults new) (faults new) (Err (Store e)) stays.later (omega arith) (replies.reason counts);
      quiet = tt;
    }

    pub two_heads : (r : Result Reply HistoryError) → Two p said r → Replies f contents leaves faults old new before after true Outcomes r
    two_heads r replies = merged r (subst (λ (x : Said). Two before x r) says (subst (λ (q : Pending). Two q said r) same replies))

-- how many there are
abbrev pub no_id : Id
no_id = record { 0 = [] }

pub empty_of : (xs : List Id) → length xs < 1 → xs ≡ []
empty_of [] lt = refl
empty_of (x ∷ xs) lt = absurd (omega (arith, lt))

pub one_of : (xs : List Id) → 1 ≤ length xs → length xs < 2 → xs ≡ slice_index_or xs 0 no_id ∷ []
one_of [] le lt = absurd (omega (arith, le))
one_of (x ∷ []) le lt = refl
one_of (x ∷ y ∷ xs) le lt = absurd (omega (arith, lt))

pub two_of : (xs : List Id) → 2 ≤ length xs → (rest : List Id) × (xs ≡ slice_index_or xs 0 no_id ∷ slice_index_or xs 1 no_id ∷ rest)
two_of [] le = absurd (omega (arith, le))
two_of (x ∷ []) le = absurd (omega (arith, le))
two_of (x ∷ y ∷ xs) le = (xs, refl)

-- the two that are chosen are the first of them
pub chosen : (xs : List Id) (left right : Id) → Ok (left, right) ≡ first_two xs → (rest : List Id) × (xs ≡ left ∷ right ∷ rest)
chosen [] left right told = absurd (let apart : Ok (left, right) ≡ Err (Refused NoBranch) = told in cc)
chosen (x ∷ []) left right told = absurd (let apart : Ok (left, right) ≡ Err (Refused (OneHead x)) = told in cc)
chosen (x ∷ y ∷ rest) left right told = (rest, let same : (left, right) ≡ (x, y) = cc in sym (ap (λ (p : Id × Id). p.0 ∷ p.1 ∷ rest) same))

-- the heads of a branch by another name of it
pub of_branch : (f : List ℕ → List ℕ) (told : Option Contents) (p : Pending) (said branch : List ℕ) (ids : List Id) → said ≡ branch → AreHeadsOver f told p said ids → AreHeadsOver f told p branch ids
of_branch f told p said branch ids same = subst (λ (b : List ℕ). AreHeadsOver f told p b ids) same

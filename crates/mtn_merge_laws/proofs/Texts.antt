-- Each text is the printed form of stanzas, or stops at a offset to begin one.
use Rattle.std.proofs.Common.{◌≡◌, ◌≤◌, ◌<◌, ◌+◌, ◌⊎◌, ℕ, zero, suc, List, length, take, get_or, Option, Some, None, refl, sym, ap, ◌∙◌, inl, inr, subst, arith}
use Rattle.std.proofs.lemmas.List.{take_all}
use Rattle.mtn_basic_io.specs.Spelling.{LineText, AreStanzas, spelling}
use Rattle.mtn_basic_io.specs.Steps.{Reads, Stops, answer, run, start, step}
use Rattle.mtn_basic_io.specs.declared.error.ReadError.TheVariants.{NotText, NoMemory}
use Rattle.mtn_basic_io.specs.declared.steps.Done.{Done}
use Rattle.mtn_basic_io.specs.declared.steps.Phase.{Phase}
use Rattle.mtn_basic_io.specs.declared.steps.Phase.TheVariants.{Indent}
use Rattle.mtn_basic_io.proofs.Place.{fault_from_stop, only_memory}
use Rattle.mtn_basic_io.proofs.Run.{run_nil, run_more}
use Rattle.mtn_basic_io.proofs.Sound.{reads_sound}
use Rattle.mtn_changes.specs.ChangesText.{IsNoText}

module _ (text : List ℕ) where
  -- a front of the text is read
  record IsRead (k : ℕ) : Type 0 where
    done : Done
    phase : Phase
    ran : run start (Indent 0) (take k text) ≡ Some (done, phase)

  abbrev HasStopped : Type 0
  HasStopped = (offset : ℕ) × Stops text offset

  plus_one : (k : ℕ) → k + 1 ≡ suc k
  plus_one k = omega arith

  one_more : (k : ℕ) → k < length text → (r : IsRead k) → (o : Option (Done × Phase)) → step r.done r.phase (get_or text k 0) ≡ o → IsRead (suc k) ⊎ HasStopped
  one_more k lt r None is = inr (
    k,
    record {
      within = omega (arith, lt);
      done = r.done;
      phase = r.phase;
      ran = r.ran;
      stuck = λ _. is;
      ended = λ e. absurd (omega (arith, lt, e));
    },
  )
  one_more k lt r (Some s) is = inl (record { done = s.0; phase = s.1; ran = subst (λ n. run start (Indent 0) (take n text) ≡ Some s) (plus_one k) (run_more start (Indent 0) text k r.done r.phase (Some s) lt r.ran is) })

  front : (k : ℕ) → k ≤ length text → IsRead k ⊎ HasStopped
  front zero le = inl (record { done = start; phase = Indent 0; ran = run_nil start (Indent 0) })
  front (suc k) le = elim (front k (omega (arith, le))) [
    | inl r ↦ one_more k (omega (arith, le)) r (step r.done r.phase (get_or text k 0)) refl
    | inr stopped ↦ inr stopped
  ]

  ends : (r : IsRead (length text)) → (o : Option (List (List LineText))) → answer r.done r.phase ≡ o → ((ss : List (List LineText)) × Reads text ss) ⊎ HasStopped
  ends r None is = inr (
    length text,
    record {
      within = omega arith;
      done = r.done;
      phase = r.phase;
      ran = r.ran;
      stuck = λ lt. absurd (omega (arith, lt));
      ended = λ e. is;
    },
  )
  ends r (Some ss) is = inl (ss, record { done = r.done; phase = r.phase; ran = ap (run start (Indent 0)) (sym (take_all (length text) text (omega arith))) ∙ r.ran; ends = is })

  read_text : ((ss : List (List LineText)) × Reads text ss) ⊎ HasStopped
  read_text = elim (front (length text) (omega arith)) [
    | inl r ↦ ends r (answer r.done r.phase) refl
    | inr stopped ↦ inr stopped
  ]

  no_text : (offset : ℕ) → Stops text offset → IsNoText text offset
  no_text offset stops = record {
    none = λ ss ok same. absurd (let e : NotText offset ≡ NoMemory = only_memory text ss (NotText offset) ok same stops in cc);
    begun = fault_from_stop text (NotText offset) stops;
  }

  pub stanzas_or_offset : ((ss : List (List LineText)) × AreStanzas ss × (text ≡ spelling ss)) ⊎ ((offset : ℕ) × IsNoText text offset)
  stanzas_or_offset = elim read_text [
    | inl r ↦ let s = reads_sound text r.0 r.1 in inl (r.0, s.0, s.1)
    | inr stopped ↦ inr (stopped.0, no_text stopped.0 stopped.1)
  ]

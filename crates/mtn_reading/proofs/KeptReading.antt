-- A file and a revision that are read.
use Rattle.std.specs.Prelude.{IsSome, MatchBool, not}
use Rattle.std.specs.FinMap.{get}
use Rattle.std.proofs.Common.{◌≡◌, ◌≢◌, ◌+◌, nat_eq, ℕ, Bool, true, false, List, [], ◌∷◌, ◌++◌, length, Option, Some, None, Ok, Err, refl, sym, ap, ◌∙◌, inl, inr, arith}
use Rattle.std.proofs.lemmas.Bool.Decides.{nat_tests}
use Rattle.mtn_base.specs.declared.id.Id.{Id}
use Rattle.mtn_history.specs.Files.{IsFileHeld, KeepsFile}
use Rattle.mtn_history.specs.Stands.{IsDraft, IsNew, StandsFor}
use Rattle.mtn_history.specs.declared.errors.HistoryError.{HistoryError}
use Rattle.mtn_history.specs.declared.errors.HistoryError.TheVariants.{Refused, Store}
use Rattle.mtn_history.specs.declared.pending.Pending.{Pending}
use Rattle.mtn_imports.specs.Imports.{kept, one_new}
use Rattle.mtn_model.specs.State.{Logged, State}
use Rattle.mtn_model.specs.Table.{Contents, body_at}
use Rattle.mtn_packets.specs.declared.packet.Packet.TheVariants as packet
use Rattle.mtn_ports.specs.Kept.{with_all}
use Rattle.mtn_put_revision.specs.Accepting.{KeepsRevision}
use Rattle.mtn_replay.specs.Accepting.{Decides, logged_beside}
use Rattle.mtn_replay.specs.Files.{with_file}
use Rattle.mtn_replay.specs.Texts.{text_under}
use Rattle.mtn_reading.specs.Counting.{one_of}
use Rattle.mtn_reading.specs.Reading.{ReadsTo}

-- table 2 of a draft is the files
files_of : (b : Bool) (f : List ℕ → List ℕ) (c : Contents) (s : State) → MatchBool b (IsNew c s) (StandsFor f c s) → c 2 ≡ s.files
files_of true f c s new = ap (λ (d : Contents). d 2) new.records ∙ ap (λ (x : State). x.files) (sym new.state)
files_of false f c s stands = stands.base.files

module _ (f : List ℕ → List ℕ) (c : Contents) (s : State) (id : Id) (bytes : List ℕ) where
  pub file_errs : (e : HistoryError) (p : Pending) → KeepsFile f c s bytes (Err e) p → ReadsTo f c s (packet.File id bytes) (Err e) p
  file_errs (Refused cause) p is = (with_file f s bytes, kept (one_new (get s.files (f bytes))) 0 0, (sym is, refl, refl))
  file_errs (Store e) p is = is

  one_held : (held : Bool) (o : Option (List ℕ)) → MatchBool held (IsSome o) (o ≡ None) → one_of (not held) ≡ one_new o
  one_held true (Some body) is = refl
  one_held true None is = absurd cc
  one_held false o is = sym (ap one_new is)

  pub file_reads : (p after : Pending) (held : Bool) (count : ℕ) → IsDraft f c p s → id.0 ≡ f bytes → IsFileHeld (with_all c p.batch) id held → count ≡ one_of (not held) → KeepsFile f c s bytes (Ok tt) after →
      ReadsTo f c s (packet.File id bytes) (Ok (record { files = count; revisions = 0; certs = 0 })) after
  file_reads p after held count draft same is counted keeps =
      let at : body_at (with_all c p.batch) 2 id.0 ≡ get s.files (f bytes) = (λ i. get (files_of p.is_new f (with_all c p.batch) s draft.stands i) (same i)) in
      let number : count ≡ one_new (get s.files (f bytes)) = counted ∙ one_held held (body_at (with_all c p.batch) 2 id.0) is ∙ ap one_new at in
      (with_file f s bytes, (sym keeps.0, refl, ap (λ n. kept n 0 0) number), keeps.1)

module _ (f : List ℕ → List ℕ) (c : Contents) (s : State) (id : Id) (text : List ℕ) where
  pub revision_errs : (e : HistoryError) (p : Pending) → KeepsRevision f c s text (Err e) p → ReadsTo f c s (packet.Revision id text) (Err e) p
  revision_errs (Refused cause) p a = (a.0, kept 0 (one_new (text_under s.log (f text))) 0, (a.1, refl))
  revision_errs (Store e) p is = is

  -- one revision more, where its text was not held
  longer : (o : Option (List ℕ)) → length (logged_beside o f s text).log ≡ length s.log + one_new o
  longer None = more_by_one s.log
    where
      more_by_one : (xs : List Logged) → length (xs ++ record { id = f text; text = text } ∷ []) ≡ length xs + 1
      more_by_one [] = refl
      more_by_one (x ∷ xs) = let e = more_by_one xs in omega (arith, e)
  longer (Some held) = omega arith

  counted : (t : State) → Decides f s text None t → length t.log ≡ length s.log + one_new (text_under s.log (f text))
  counted t (inl long) = absurd (let e = long.is in cc)
  counted t (inr (inl unread)) = absurd (let e = unread.is in cc)
  counted t (inr (inr decided)) = ap (λ (x : State). length x.log) decided.after ∙ longer (text_under s.log (f text))

  rises : (a b : ℕ) (o : Option (List ℕ)) → b ≡ a + one_new o → one_of (not (nat_eq b a)) ≡ one_new o
  rises a b None more = by (nat_eq b a) refl
    where
      by : (same : Bool) → nat_eq b a ≡ same → one_of (not same) ≡ 1
      by false e = refl
      by true e = absurd (let x : b ≡ a = grind (arith, nat_tests) in omega (arith, x, more))
  rises a b (Some held) more = by (nat_eq b a) refl
    where
      by : (same : Bool) → nat_eq b a ≡ same → one_of (not same) ≡ 0
      by true e = refl
      by false e = absurd (let x : b ≢ a = grind (arith, nat_tests) in x (omega (arith, more)))

  pub revision_reads : (p after : Pending) (before now count : ℕ) → IsDraft f c p s → before ≡ p.count → now ≡ after.count → count ≡ one_of (not (nat_eq now before)) → KeepsRevision f c s text (Ok tt) after →
      ReadsTo f c s (packet.Revision id text) (Ok (record { files = 0; revisions = count; certs = 0 })) after
  revision_reads p after before now count draft old new is keeps =
      let held = text_under s.log (f text) in
      let at : now ≡ before + one_new held = new ∙ keeps.2.count ∙ counted keeps.0 keeps.1 ∙ ap (λ n. n + one_new held) (sym (old ∙ draft.count)) in
      (keeps.0, (keeps.1, ap (λ n. kept 0 n 0) (is ∙ rises before now held at)), keeps.2)

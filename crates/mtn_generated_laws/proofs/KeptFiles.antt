-- The files of all revisions are held.
use Rattle.std.specs.Prelude.{Contains, bytes_eq, nat_lt}
use Rattle.std.specs.FinMap.{get, insert}
use Rattle.std.proofs.Common.{◌≡◌, ℕ, zero, suc, ◌<◌, ◌≤◌, Bool, true, false, cond, List, [], ◌∷◌, length, Option, Some, None, Ok, refl, sym, ap, ◌∙◌, subst, ⊎_elim, arith, inl, inr}
use Rattle.std.proofs.lemmas.Bool.{cases_lt}
use Rattle.std.proofs.lemmas.Slice.Eq.{bytes_eq-Decides}
use Rattle.mtn_base.specs.Hex.{id_of}
use Rattle.mtn_base.specs.declared.refusal.Cause.{Cause}
use Rattle.mtn_base.specs.declared.refusal.Cause.TheVariants.{Collision, TextTooLong}
use Rattle.mtn_base.proofs.IdOrder.{contains_cases, contains_nil}
use Rattle.mtn_generated.specs.Growing.{Generates, Grown, Grows, files_refusal, grown, store_refusal, with_files}
use Rattle.mtn_generated.specs.Numbered.{Work, files_of, no_tips, work_at}
use Rattle.mtn_model.specs.State.{State}
use Rattle.mtn_model.specs.Table.{Table}
use Rattle.mtn_replay.specs.Accepting.{Decides, logged_beside}
use Rattle.mtn_replay.specs.Files.{collision, file_refusal, with_file}
use Rattle.mtn_replay.specs.Lawful.{Keeps}
use Rattle.mtn_replay.specs.Texts.{text_under}
use Rattle.mtn_replay.proofs.FileLemmas.{get_inserted, insert_held, keeps_more}
use Rattle.mtn_step_laws.proofs.Accepting.{refused_already}
use Rattle.mtn_step_laws.proofs.Certifying.{both_none}
use Rattle.mtn_step_laws.proofs.LawfulGrowth.{IsAdded, next, went_on}

onward : (a b c : Table) → Keeps a b → Keeps b c → Keeps a c
onward a b c first then id bytes held = then id bytes (first id bytes held)

pub equal_bytes : (held bytes : List ℕ) (cause : Cause) (t : Bool) → bytes_eq held bytes ≡ t → cond t None (Some cause) ≡ None → held ≡ bytes
equal_bytes held bytes cause true same e = (bytes_eq-Decides held bytes).0 same
equal_bytes held bytes cause false same e = absurd cc

module _ (f : List ℕ → List ℕ) where
  pub no_collision : (s : State) (text : List ℕ) → file_refusal f s text ≡ None → collision (get s.files (f text)) (f text) text ≡ None
  no_collision s text fine = by (nat_lt 67108864 (length text)) fine
    where
      by : (t : Bool) → cond t (Some (TextTooLong (length text))) (collision (get s.files (f text)) (f text) text) ≡ None → collision (get s.files (f text)) (f text) text ≡ None
      by true e = absurd cc
      by false e = e

  -- a file that is not refused leaves all that are held
  file_keeps : (s : State) (text : List ℕ) → file_refusal f s text ≡ None → Keeps s.files (with_file f s text).files
  file_keeps s text fine = by (get s.files (f text)) refl (no_collision s text fine)
    where
      by : (o : Option (List ℕ)) → get s.files (f text) ≡ o → collision o (f text) text ≡ None → Keeps s.files (insert s.files (f text) text)
      by None none e = keeps_more s.files (f text) text none
      by (Some held) some e =
          let same = insert_held s.files (f text) text (some ∙ ap Some (equal_bytes held text (Collision (id_of (f text))) (bytes_eq held text) refl e)) in
          subst (Keeps s.files) (sym same) (λ id bytes there. there)

  file_held : (s : State) (text : List ℕ) → get (with_file f s text).files (f text) ≡ Some text
  file_held s text = get_inserted s.files (f text) text (f text) ∙ ap (λ t. cond t (Some text) (get s.files (f text))) ((bytes_eq-Decides (f text) (f text)).1 refl)

  pub files_keep : (texts : List (List ℕ)) (s : State) → files_refusal f s texts ≡ None → Keeps s.files (with_files f s texts).files
  files_keep [] s fine = λ id bytes there. there
  files_keep (text ∷ rest) s fine =
      let none = both_none (file_refusal f s text) (files_refusal f (with_file f s text) rest) fine in
      onward s.files (with_file f s text).files (with_files f (with_file f s text) rest).files (file_keeps s text none.0) (files_keep rest (with_file f s text) none.1)

  pub files_held : (texts : List (List ℕ)) (s : State) (text : List ℕ) → files_refusal f s texts ≡ None → Contains texts text → get (with_files f s texts).files (f text) ≡ Some text
  files_held [] s text fine there = absurd (contains_nil there)
  files_held (first ∷ rest) s text fine there =
      let none = both_none (file_refusal f s first) (files_refusal f (with_file f s first) rest) fine in
      ⊎_elim
      (λ e. files_keep rest (with_file f s first) none.1 (f text) text (subst (λ (t : List ℕ). get (with_file f s first).files (f t) ≡ Some t) e (file_held s first)))
      (λ later. files_held rest (with_file f s first) text none.1 later) (contains_cases first rest text there)

  -- a text leaves the files
  decided_files : (s : State) (text : List ℕ) (refusal : Option Cause) (t : State) → refusal ≡ None → Decides f s text refusal t → t.files ≡ s.files
  decided_files s text refusal t none (inl long) = absurd (refused_already refusal (TextTooLong (length text)) long.is none)
  decided_files s text refusal t none (inr (inl unread)) = absurd (refused_already refusal unread.cause unread.is none)
  decided_files s text refusal t none (inr (inr d)) = ap (λ (x : State). x.files) d.after ∙ by (text_under s.log (f text))
    where
      by : (o : Option (List ℕ)) → (logged_beside o f s text).files ≡ s.files
      by None = refl
      by (Some held) = refl

  added_files : (i : ℕ) (work : Work) (before after : Grown) → IsAdded f i work before after → after.state.files ≡ (with_files f before.state (files_of i work)).files
  added_files i work before after is =
      let t = is.put in
      decided_files (with_files f before.state (files_of i work)) t.text t.refusal after.state t.none t.decides

  added_keeps : (i : ℕ) (work : Work) (before after : Grown) → IsAdded f i work before after → Keeps before.state.files after.state.files
  added_keeps i work before after is = subst (Keeps before.state.files) (sym (added_files i work before after is)) (files_keep (files_of i work) before.state is.files)

  added_held : (i : ℕ) (work : Work) (before after : Grown) (text : List ℕ) → IsAdded f i work before after → Contains (files_of i work) text → get after.state.files (f text) ≡ Some text
  added_held i work before after text is there =
      subst (λ (files : Table). get files (f text) ≡ Some text) (sym (added_files i work before after is)) (files_held (files_of i work) before.state text is.files there)

  grown_keeps : (s : State) (n : ℕ) (g : Grown) → Grows f s n (Ok g) → Keeps s.files g.state.files
  grown_keeps s zero g is = subst (λ (x : Grown). Keeps s.files x.state.files) (let same : grown s no_tips ≡ g = cc in same) (λ id bytes there. there)
  grown_keeps s (suc n) g is =
      let t = next f s n g is in
      onward s.files t.before.state.files g.state.files (grown_keeps s n t.before t.grew) (added_keeps (suc n) (work_at (suc n)) t.before g t.added)

  pub grown_held : (s : State) (n i : ℕ) (g : Grown) (text : List ℕ) → Grows f s n (Ok g) → 0 < i → i ≤ n → Contains (files_of i (work_at i)) text → get g.state.files (f text) ≡ Some text
  grown_held s zero i g text is some most there = absurd (omega (arith, some, most))
  grown_held s (suc n) i g text is some most there =
      let t = next f s n g is in
      elim (cases_lt n i) [
        | inl last ↦ let same : i ≡ suc n = omega (arith, last, most) in
            added_held (suc n) (work_at (suc n)) t.before g text t.added (subst (λ m. Contains (files_of m (work_at m)) text) same there)
        | inr earlier ↦ added_keeps (suc n) (work_at (suc n)) t.before g t.added (f text) text (grown_held s n i t.before text t.grew some earlier there)
      ]

  pub keeps_files : (n : ℕ) (s : State) (g : Grown) → Generates f n s (Ok g) → Keeps s.files g.state.files
  keeps_files n s g is = grown_keeps s n g (went_on (store_refusal s) (Grows f s n) g is).1

  pub holds_files : (n i : ℕ) (s : State) (g : Grown) (text : List ℕ) → Generates f n s (Ok g) → 0 < i → i ≤ n → Contains (files_of i (work_at i)) text → get g.state.files (f text) ≡ Some text
  holds_files n i s g text is = grown_held s n i g text (went_on (store_refusal s) (Grows f s n) g is).1

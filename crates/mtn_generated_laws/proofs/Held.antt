-- Texts that a log has under their ids, and where they stand in its history.
use Rattle.std.specs.Prelude.{bytes_eq, find, option_map, slice_get, take}
use Rattle.std.proofs.Common.{◌≡◌, ℕ, suc, Bool, true, false, cond, List, [], ◌∷◌, ◌++◌, length, Option, Some, None, refl, sym, ap, ◌∙◌, subst, arith, inl, inr}
use Rattle.mtn_base.specs.Hex.{id_of}
use Rattle.mtn_base.specs.Names.{same_bytes}
use Rattle.mtn_base.specs.declared.refusal.Cause.TheVariants.{Collision, TextTooLong}
use Rattle.mtn_base.proofs.Tests.{same_bytes-self}
use Rattle.mtn_changes.specs.declared.change.Revision.{Revision as Spelled}
use Rattle.mtn_generated.specs.Growing.{with_files}
use Rattle.mtn_history_laws.specs.History.{Revision}
use Rattle.mtn_model.specs.State.{Logged, State}
use Rattle.mtn_model.specs.Table.{Table}
use Rattle.mtn_replay.specs.Accepting.{Decides, logged_beside, refusal_beside}
use Rattle.mtn_replay.specs.Files.{with_file}
use Rattle.mtn_replay.specs.Lawful.{IsHistory, IsNext}
use Rattle.mtn_replay.specs.Texts.{text_under}
use Rattle.mtn_replay.proofs.Places.{inside, within}
use Rattle.mtn_step_laws.proofs.Accepting.{is_under, logged, refused_already, under}
use Rattle.mtn_generated_laws.proofs.KeptFiles.{equal_bytes}

abbrev text_of : Option Logged → Option (List ℕ)
text_of o = option_map (λ (l : Logged). l.text) o

-- a longer log has it still
text_kept : (log more : List Logged) (id text : List ℕ) → text_under log id ≡ Some text → text_under (log ++ more) id ≡ Some text
text_kept [] more id text there = absurd cc
text_kept (l ∷ log) more id text there =
    elim (same_bytes l.id id) as (λ b. text_of (cond b (Some l) (find (is_under id) log)) ≡ Some text → text_of (cond b (Some l) (find (is_under id) (log ++ more))) ≡ Some text) [
      | true ↦ λ e. e
      | false ↦ λ e. text_kept log more id text e
    ] there

-- a new one ends the log
text_last : (log : List Logged) (l : Logged) → text_under log l.id ≡ None → text_under (log ++ l ∷ []) l.id ≡ Some l.text
text_last [] l none = ap (λ b. text_of (cond b (Some l) None)) (same_bytes-self l.id)
text_last (k ∷ log) l none =
    elim (same_bytes k.id l.id) as (λ b. text_of (cond b (Some k) (find (is_under l.id) log)) ≡ None → text_of (cond b (Some k) (find (is_under l.id) (log ++ l ∷ []))) ≡ Some l.text) [
      | true ↦ λ e. absurd cc
      | false ↦ λ e. text_last log l e
    ] none

-- the place of what is found
find_at : {X : Type 0} (p : X → Bool) (xs : List X) (x : X) → find p xs ≡ Some x → (k : ℕ) × (slice_get xs k ≡ Some x) × (p x ≡ true)
find_at p [] x e = absurd cc
find_at p (y ∷ ys) x e = by (p y) refl e (λ is. find_at p ys x is)
  where
    by : (b : Bool) → p y ≡ b → cond b (Some y) (find p ys) ≡ Some x → (find p ys ≡ Some x → (k : ℕ) × (slice_get ys k ≡ Some x) × (p x ≡ true)) → (k : ℕ) × (slice_get (y ∷ ys) k ≡ Some x) × (p x ≡ true)
    by true passes is rest = let same : y ≡ x = cc in (0, is, ap p (sym same) ∙ passes)
    by false fails is rest = let t = rest is in (suc t.0, t.1, t.2)

module _ (f : List ℕ → List ℕ) where
  abbrev pub HasText : State → List ℕ → Type 0
  HasText s text = text_under s.log (f text) ≡ Some text

  module _ (s : State) (text : List ℕ) where
    beside_held : (o : Option (List ℕ)) (files : Table) (h : List Revision) (read : Spelled) → text_under s.log (f text) ≡ o → refusal_beside o f files h text read ≡ None → HasText (logged_beside o f s text) text
    beside_held (Some held) files h read e fine = e ∙ ap (λ (t : List ℕ). Some t) (equal_bytes held text (Collision (id_of (f text))) (bytes_eq held text) refl fine)
    beside_held None files h read e fine = text_last s.log (logged f text) e

    beside_stays : (o : Option (List ℕ)) (other : List ℕ) → HasText s other → HasText (logged_beside o f s text) other
    beside_stays (Some held) other there = there
    beside_stays None other there = text_kept s.log (logged f text ∷ []) (f other) other there

    -- a text that is not refused is held behind it
    pub put_held : (after : State) → Decides f s text None after → HasText after text
    put_held after (inl long) = absurd (refused_already None (TextTooLong (length text)) long.is refl)
    put_held after (inr (inl unread)) = absurd (refused_already None unread.cause unread.is refl)
    put_held after (inr (inr d)) = subst (λ (t : State). HasText t text) (sym d.after) (beside_held (text_under s.log (f text)) s.files d.history d.read refl (sym d.is))

    -- and so is each that was held
    pub put_stays : (after : State) (other : List ℕ) → HasText s other → Decides f s text None after → HasText after other
    put_stays after other there (inl long) = absurd (refused_already None (TextTooLong (length text)) long.is refl)
    put_stays after other there (inr (inl unread)) = absurd (refused_already None unread.cause unread.is refl)
    put_stays after other there (inr (inr d)) = subst (λ (t : State). HasText t other) (sym d.after) (beside_stays (text_under s.log (f text)) other there)

  -- files leave the log
  pub files_leave : (texts : List (List ℕ)) (s : State) → (with_files f s texts).log ≡ s.log
  files_leave [] s = refl
  files_leave (text ∷ rest) s = files_leave rest (with_file f s text)

  -- where a text of the log stands: a revision that was made of the history before it
  pub record IsLogged (files : Table) (h : List Revision) (text : List ℕ) : Type 0 where
    pub place : ℕ
    pub revision : Revision
    pub at : slice_get h place ≡ Some revision
    pub next : IsNext f files (take place h) (logged f text) revision

  pub logged_at : (files : Table) (log : List Logged) (h : List Revision) (text : List ℕ) → IsHistory f files log h → text_under log (f text) ≡ Some text → IsLogged files h text
  logged_at files log h text is there = by (find (is_under (f text)) log) refl there
    where
      by : (o : Option Logged) → find (is_under (f text)) log ≡ o → text_of o ≡ Some text → IsLogged files h text
      by None e t = absurd cc
      by (Some l) e t =
          let same : l.text ≡ text = cc in
          let found = find_at (is_under (f text)) log l e in
          let id = under (f text) l found.2 in
          let v = within h found.0 (let lt = inside log found.0 l found.1 in omega (arith, lt, is.long)) in
          let one : l ≡ logged f text = λ i. record { id = id i; text = same i } in
          record {
            place = found.0;
            revision = v.0;
            at = v.1;
            next = subst (λ (x : Logged). IsNext f files (take found.0 h) x v.0) one (is.each found.0 l v.0 found.1 v.1);
          }

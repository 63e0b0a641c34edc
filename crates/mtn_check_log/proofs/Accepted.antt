-- A text that is accepted again over the state of a front brings the step that is due there.
use Rattle.std.proofs.Common.{◌≡◌, ℕ, zero, suc, List, [], ◌∷◌, ◌++◌, length, Some, None, refl, sym, ap, ◌∙◌, subst, inl, inr, arith}
use Rattle.std.proofs.lemmas.List.{length-append}
use Rattle.mtn_base.specs.Hex.{id_of}
use Rattle.mtn_base.specs.declared.refusal.Cause.{Cause}
use Rattle.mtn_changes.specs.declared.change.Revision.{Revision as Spelled}
use Rattle.mtn_changes.specs.declared.error.ChangeTextError.TheVariants as error
use Rattle.mtn_changes.proofs.OneValue.{no_revision_fault, same_revision}
use Rattle.mtn_history_laws.specs.History.{Revision, IsGrown}
use Rattle.mtn_model.specs.State.{Logged, State}
use Rattle.mtn_model.specs.Table.{Contents, Table}
use Rattle.mtn_replay.specs.Accepting.{Decides, fault_cause, refusal_beside, logged_beside}
use Rattle.mtn_replay.specs.Lawful.{IsNext}
use Rattle.mtn_replay.specs.Making.{refusal_of}
use Rattle.mtn_replay.specs.Texts.{text_under}
use Rattle.mtn_replay.proofs.Histories.{history_is_grown, one_history}
use Rattle.mtn_history.specs.Stands.{StandsFor}
use Rattle.mtn_check_laws.specs.Fronts.{Front, Step, with_step, IsFrontAt, IsKeptNext, IsStepAt}
use Rattle.mtn_check_laws.specs.Sets.{HaveSets}
use Rattle.mtn_check_laws.proofs.Cutting.{stands_walk}
use Rattle.mtn_check_laws.proofs.Due.{due_sets, front_sets}
use Rattle.mtn_check_laws.proofs.Rosters.{one_kept}
use Rattle.mtn_check_laws.proofs.Sound.{front, to_end}
use Rattle.mtn_check_laws.proofs.Standing.{front_stands}
use Rattle.mtn_check_laws.proofs.Walks.{one_next}
use Rattle.mtn_check_log.specs.Positions.{state_of}

-- one more of two lists
pub one_more_of : {X : Type 0} (xs ys : List X) (x y : X) → xs ++ x ∷ [] ≡ ys ++ y ∷ [] → (xs ≡ ys) × (x ≡ y)
one_more_of [] [] x y e = (refl, let same : x ≡ y = cc in same)
one_more_of [] (z ∷ []) x y e = absurd cc
one_more_of [] (z ∷ w ∷ ys) x y e = absurd cc
one_more_of (z ∷ []) [] x y e = absurd cc
one_more_of (z ∷ w ∷ xs) [] x y e = absurd cc
one_more_of (z ∷ xs) (w ∷ ys) x y e =
    let head : z ≡ w = cc in
    let tail : xs ++ x ∷ [] ≡ ys ++ y ∷ [] = cc in
    let more = one_more_of xs ys x y tail in
    (λ i. head i ∷ more.0 i, more.1)

module _ (f : List ℕ → List ℕ) (c d : Contents) (files : c 2 ≡ d 2) where
  sets_of : (b : Contents) (r : ℕ) (p : Front) (s : Step) → IsFrontAt f b r p → IsStepAt f b r p s → HaveSets s.kept.entries
  sets_of b r p s walked step = due_sets p.kept s.revision.parents s.kept step.roster.is.roster (front_sets f b r p walked) step.roster.is.is step.roster.is.text.formed

  same_step : (r : ℕ) (p : Front) (s t : Step) → IsFrontAt f c r p → IsFrontAt f d r p → s.logged ≡ t.logged → IsStepAt f c r p s → IsStepAt f d r p t → s ≡ t
  same_step r p s t walked walked' logged a b =
      let v : s.revision ≡ t.revision =
      one_next f (c 2) p.history s.logged t.logged s.revision t.revision logged a.text.lawful (subst (λ (u : Table). IsNext f u p.history t.logged t.revision) (sym files) b.text.lawful) in
      let grown : IsGrown (p.history ++ s.revision ∷ []) =
      history_is_grown f (c 2) (p.log ++ s.logged ∷ []) (p.history ++ s.revision ∷ []) (front_stands f c (suc r) (with_step p s) (p, s, walked, a, refl)).spelled in
      let kept : s.kept ≡ t.kept =
      one_kept p.history p.kept s.revision s.kept t.kept grown a.roster.kept (subst (λ (w : Revision). IsKeptNext p.history p.kept w t.kept) (sym v) b.roster.kept)
      (sets_of c r p s walked a) (sets_of d r p t walked' b) in
      λ i. record { logged = logged i; revision = v i; kept = kept i }

  -- fronts of one log are one
  pub same_fronts : (r : ℕ) (a b : Front) → IsFrontAt f c r a → IsFrontAt f d r b → a.log ≡ b.log → a ≡ b
  same_fronts zero a b x y logs = x ∙ sym y
  same_fronts (suc r) a b (p, s, walked, step, is) (q, t, walked', step', is') logs =
      let both : p.log ++ s.logged ∷ [] ≡ q.log ++ t.logged ∷ [] = ap (λ (x : Front). x.log) (sym is) ∙ logs ∙ ap (λ (x : Front). x.log) is' in
      let cut = one_more_of p.log q.log s.logged t.logged both in
      let before : p ≡ q = same_fronts r p q walked walked' cut.0 in
      let same : s ≡ t = same_step r p s t walked (subst (IsFrontAt f d r) (sym before) walked') cut.1 step (subst (λ x. IsStepAt f d r x t) (sym before) step') in
      is ∙ (λ i. with_step (before i) (same i)) ∙ sym is'

-- a new text that is accepted ends the log
pub taken : (f : List ℕ → List ℕ) (s t : State) (text : List ℕ) → text_under s.log (f text) ≡ None → Decides f s text None t → t ≡ record s { log = s.log ++ record { id = f text; text = text } ∷ [] }
taken f s t text new (inl long) = absurd (let e = long.is in cc)
taken f s t text new (inr (inl unread)) = absurd (let e = unread.is in cc)
taken f s t text new (inr (inr is)) = is.after ∙ ap (λ o. logged_beside o f s text) new

-- the front that contents stand for, and the step at its end
record Ends (f : List ℕ → List ℕ) (c d : Contents) (r : ℕ) (p : Front) (l : Logged) : Type 0 where
  step : Step
  logged : step.logged ≡ l
  is : IsStepAt f d r p step

module _ (f : List ℕ → List ℕ) (c d : Contents) (r : ℕ) (p : Front) (walked : IsFrontAt f c r p) (text : List ℕ) (new : text_under p.log (f text) ≡ None) where
  abbrev l : Logged
  l = record { id = f text; text = text }

  ended : (n : ℕ) (q : Front) → n ≡ suc r → IsFrontAt f d n q → q.log ≡ p.log ++ l ∷ [] → c 2 ≡ d 2 → Ends f c d r p l
  ended n q long walk logs files = by (subst (λ m. IsFrontAt f d m q) long walk)
    where
      by : IsFrontAt f d (suc r) q → Ends f c d r p l
      by (before, s, walked', step, is) =
          let both : before.log ++ s.logged ∷ [] ≡ p.log ++ l ∷ [] = ap (λ (x : Front). x.log) (sym is) ∙ logs in
          let cut = one_more_of before.log p.log s.logged l both in
          let same : p ≡ before = same_fronts f c d files r p before walked walked' (sym cut.0) in
          record { step = s; logged = cut.1; is = subst (λ x. IsStepAt f d r x s) (sym same) step }

  -- the step that is due
  pub due_step : (t : State) → Decides f (state_of c p) text None t → StandsFor f d t → (s : Step) × (s.logged ≡ record { id = f text; text = text }) × IsStepAt f d r p s × (c 2 ≡ d 2)
  due_step t decides stands =
      let is = taken f (state_of c p) t text new decides in
      let logs : t.log ≡ p.log ++ l ∷ [] = ap (λ (x : State). x.log) is in
      let long : length t.log ≡ suc r = ap length logs ∙ length-append p.log (l ∷ []) ∙ (let long_p = (front_stands f c r p walked).long in omega (arith, long_p)) in
      let files : c 2 ≡ d 2 = sym (stands.base.files ∙ ap (λ (x : State). x.files) is) in
      let o = ended (length t.log) (front f d t stands) long (stands_walk f d (length t.log) (front f d t stands) (to_end f d t stands)) logs files in
      (o.step, o.logged, o.is, files)

  -- a lawful text is not refused
  pub never_refused : (cause : Cause) (t : State) (v : Revision) → IsNext f (c 2) p.history l v → Decides f (state_of c p) text (Some cause) t → ⊥
  never_refused cause t v next (inl long) = let short = next.short in let more = long.long in omega (arith, short, more)
  never_refused cause t v next (inr (inl unread)) =
      let none : unread.fault ≡ error.NoMemory = no_revision_fault text next.read unread.fault next.spells.stanzas next.spells.reads unread.faulty in
      let named : fault_cause error.NoMemory ≡ Some unread.cause = ap fault_cause (sym none) ∙ unread.named in cc
  never_refused cause t v next (inr (inr is)) =
      let read : is.read ≡ next.read = same_revision text is.read next.read is.spells.stanzas next.spells.stanzas is.spells.reads next.spells.reads in
      let history : is.history ≡ p.history = one_history f (c 2) p.log is.history p.history is.spelled (front_stands f c r p walked).spelled in
      let answer : Some cause ≡ None = is.is ∙ ap (λ o. refusal_beside o f (c 2) is.history text is.read) new
      ∙ ap (λ (h : List Revision). refusal_of f (c 2) h (id_of (f text)) is.read) history ∙ ap (λ (x : Spelled). refusal_of f (c 2) p.history (id_of (f text)) x) read ∙ next.accepted in
      cc

-- The graph that a draft tells is that of the history which its log spells.
use Rattle.std.specs.Prelude.{MatchBool}
use Rattle.std.proofs.Common.{◌≡◌, ℕ, Bool, true, false, List, [], length, sym, ap, ◌∙◌, subst, arith}
use Rattle.mtn_ancestry.specs.declared.pos.LogEntry.{LogEntry}
use Rattle.mtn_history_laws.specs.History.{Revision}
use Rattle.mtn_replay.specs.Graphs.{IsGraphOf}
use Rattle.mtn_replay.specs.Lawful.{IsHistory}
use Rattle.mtn_replay.proofs.Histories.{history_is_grown, history_none}
use Rattle.mtn_replay.proofs.Places.{inside}
use Rattle.mtn_model.specs.Table.{Contents}
use Rattle.mtn_model.specs.State.{State}
use Rattle.mtn_ports.specs.Kept.{with_all}
use Rattle.mtn_history.specs.Errors.{IfDamage}
use Rattle.mtn_history.specs.Logs.{IsReadTo, WrongBelow}
use Rattle.mtn_history.specs.Stands.{IsDraft, IsNew, StandsFor}
use Rattle.mtn_history.specs.declared.errors.Damage.{Damage}
use Rattle.mtn_history.specs.declared.errors.StoreError.{StoreError}
use Rattle.mtn_history.specs.declared.errors.StoreError.TheVariants.{Failed, Damaged, NoMemory}
use Rattle.mtn_history.specs.declared.pending.Pending.{Pending}
use Rattle.mtn_history.proofs.LogLemmas.{read_tells, never_wrong}

module _ (f : List ℕ → List ℕ) (c : Contents) (p : Pending) (s : State) where
  no_revision : p.count ≡ length s.log → IsNew (with_all c p.batch) s → p.count ≡ 0
  no_revision same new = same ∙ ap (λ (t : State). length t.log) new.state

  told_by : (b : Bool) → p.count ≡ length s.log → MatchBool b (IsNew (with_all c p.batch) s) (StandsFor f (with_all c p.batch) s) → (entries : List LogEntry) → IsReadTo (with_all c p.batch) p.count entries →
      (h : List Revision) × IsHistory f s.files s.log h × IsGraphOf h entries
  told_by true same new entries read = (
    [],
    subst (λ l. IsHistory f s.files l []) (sym (ap (λ (t : State). t.log) new.state)) (history_none f s.files),
    record { long = read.long ∙ no_revision same new; each = λ r e v here at. absurd (let lt = inside {X = Revision} [] r v at in omega (arith, lt)) },
  )
  told_by false same stands entries read =
      let long : p.count ≡ length stands.base.history = same ∙ sym stands.base.spelled.long in (
        stands.base.history,
        stands.base.spelled,
        read_tells (with_all c p.batch) stands.base.history stands.base.kept (history_is_grown f s.files s.log stands.base.history stands.base.spelled) stands.base.revisions.long stands.base.log entries (subst (λ n. IsReadTo (with_all c p.batch) n entries) long read),
      )

  -- the graph that was read tells the history of the state
  pub graph_told : IsDraft f c p s → (entries : List LogEntry) → IsReadTo (with_all c p.batch) p.count entries → (h : List Revision) × IsHistory f s.files s.log h × IsGraphOf h entries
  graph_told draft = told_by p.is_new draft.count draft.stands

  sound_by : (b : Bool) → p.count ≡ length s.log → MatchBool b (IsNew (with_all c p.batch) s) (StandsFor f (with_all c p.batch) s) → (d : Damage) → WrongBelow p.count (with_all c p.batch) d → ⊥
  sound_by true same new d wrong = let none = no_revision same new in omega (arith, none, wrong.below)
  sound_by false same stands d wrong =
      never_wrong (with_all c p.batch) stands.base.history stands.base.kept (history_is_grown f s.files s.log stands.base.history stands.base.spelled) stands.base.revisions.long stands.base.log p.count d (same ∙ sym stands.base.spelled.long) wrong

  -- no damage is found in the log of a state
  pub graph_sound : IsDraft f c p s → (e : StoreError) → IfDamage e (WrongBelow p.count (with_all c p.batch)) → IfDamage e (λ _. ⊥)
  graph_sound draft Failed wrong = tt
  graph_sound draft NoMemory wrong = tt
  graph_sound draft (Damaged d) wrong = sound_by p.is_new draft.count draft.stands d wrong

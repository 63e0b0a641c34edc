-- What an export answers, and what its errors show.
use Rattle.std.specs.Prelude.{Contains, IfErr, IfSome}
use Rattle.std.proofs.Common.{◌≡◌, ◌<◌, inl, inr, ℕ, List, [], ◌∷◌, Option, Some, None, Result, Ok, Err, length, refl, sym, ap, subst, arith}
use Rattle.mtn_ancestry.specs.declared.pos.LogEntry.{LogEntry}
use Rattle.mtn_answers.specs.Queries.{IsAnswer, IsHeld, first_unknown}
use Rattle.mtn_answers.specs.declared.query.Query.TheVariants.{AncestryDifference}
use Rattle.mtn_base.specs.declared.id.Id.{Id}
use Rattle.mtn_exports.specs.Exports.{IsExportedIn}
use Rattle.mtn_history.specs.Damage.{IsDamage}
use Rattle.mtn_history.specs.Errors.{IfDamage, IfStoreDamage}
use Rattle.mtn_history.specs.Logs.{IsReadTo, WrongBelow}
use Rattle.mtn_history.specs.Marked.{IsCounted}
use Rattle.mtn_history.specs.Stands.{IsFounded}
use Rattle.mtn_history.specs.declared.errors.Damage.{Damage}
use Rattle.mtn_history.specs.declared.errors.HistoryError.{HistoryError}
use Rattle.mtn_history.specs.declared.errors.HistoryError.TheVariants.{Refused, Store}
use Rattle.mtn_history.specs.declared.errors.StoreError.{StoreError}
use Rattle.mtn_history.specs.declared.errors.StoreError.TheVariants.{Damaged, Failed, NoMemory}
use Rattle.mtn_history.specs.declared.pending.Pending.{Pending}
use Rattle.mtn_history.proofs.Founding.{back, told_of}
use Rattle.mtn_history.proofs.LogLemmas.{told_on}
use Rattle.mtn_history.proofs.MarkedLemmas.{as_error, counted_some, founded_stands, log_bad}
use Rattle.mtn_history_laws.specs.History.{Revision}
use Rattle.mtn_model.specs.State.{State}
use Rattle.mtn_model.specs.Table.{Contents}
use Rattle.mtn_ports.specs.Kept.{Same, with_all}
use Rattle.mtn_put_certs.proofs.HeldLemmas.{told_if}
use Rattle.mtn_put_certs.proofs.LoggedLemmas.{shows_graph}
use Rattle.mtn_replay.specs.Graphs.{IsGraphOf}
use Rattle.mtn_replay.proofs.Places.{within}
use Rattle.mtn_sending.specs.Sending.{AsksFor, Exports, Gives, IsShownBelow, WritesAll}
use Rattle.mtn_sending.proofs.One.{FindsAll}

-- the revisions of an answer are held
pub asked_held : (h : List Revision) (id : Id) (have ids : List Id) → IsAnswer h (AncestryDifference id have) ids → (x : Id) → Contains ids x → IsHeld h x
asked_held h id have ids asked x among = let up = ((asked.exact x).0 among).0 in (up.0, up.2)

-- the text of all packets
pub exported : (s : State) (h : List Revision) (id : Id) (have ids : List Id) (text : List ℕ) → first_unknown h (id ∷ have) ≡ None → IsAnswer h (AncestryDifference id have) ids → WritesAll s ids [] text → Exports s h id have (Ok text)
exported s h id have ids text known asked all =
    subst (λ o. IsExportedIn s h id have o (Ok text)) (sym known) (all.0, record { revisions = ids; asked = asked; files = all.1; sent = all.2 }, ap Ok all.3)

-- what is shown of a position is damage, where no state has it
module _ (c : Contents) (p : Pending) (told : Option Contents) (entries : List LogEntry) (tells : told ≡ Some c) (counts : IsCounted p c) (read : IsReadTo (with_all c p.batch) p.count entries) where
  damage_of : (d : Damage) → ((f : List ℕ → List ℕ) (s : State) → IsFounded f told p s → ⊥) → IsShownBelow (with_all c p.batch) (length entries) d → IsDamage (with_all c p.batch) d
  damage_of d none (at, low, inl text) = inr (inl text)
  damage_of d none (at, low, inr (inl cert)) = inr (inr (inr (inr (inr (inr (inr cert))))))
  damage_of d none (at, low, inr (inr held)) =
      let entry = within entries at low in
      let logged = read.each at entry.0 entry.1 in
      let below : at < p.count = subst (λ n. at < n) read.long low in
      inr (inr (inr (inr (inr (inl (record {
        count = p.count;
        counted = counted_some p.is_new (with_all c p.batch) p.count counts (λ z. omega (arith, z, below));
        place = at;
        below = below;
        bad = log_bad (with_all c p.batch) at logged.0 d logged.1 held;
        held = inl held;
        unfit = λ f s stands. none f s (founded_stands f told c p s tells counts stands);
      }))))))

  pub shown_damage : (e : StoreError) → ((f : List ℕ → List ℕ) (s : State) → IsFounded f told p s → IfDamage e (λ _. ⊥)) → IfDamage e (IsShownBelow (with_all c p.batch) (length entries)) → IfDamage e (IsDamage (with_all c p.batch))
  shown_damage (Damaged d) none shown = damage_of d none shown
  shown_damage Failed none shown = tt
  shown_damage NoMemory none shown = tt

-- an error of the store ends it
pub store_ends : (s : State) (h : List Revision) (id : Id) (have : List Id) (r : Result (List ℕ) HistoryError) (e : StoreError) → r ≡ Err (Store e) → IfDamage e (λ _. ⊥) → Exports s h id have r
store_ends s h id have r e is none = subst (Exports s h id have) (sym is) none

-- so does one of asking
asking_by : (s : State) (h : List Revision) (id : Id) (have : List Id) (e : HistoryError) → AsksFor h id have (Err e) → Exports s h id have (Err e)
asking_by s h id have (Refused cause) unknown = subst (λ o. IsExportedIn s h id have o (Err cause)) (sym unknown.2) (ap Err unknown.1)
asking_by s h id have (Store e) none = none

pub asking_ends : (s : State) (h : List Revision) (id : Id) (have : List Id) (r : Result (List ℕ) HistoryError) (e : HistoryError) → r ≡ Err e → AsksFor h id have (Err e) → Exports s h id have r
asking_ends s h id have r e is asked = subst (Exports s h id have) (sym is) (asking_by s h id have e asked)

-- an error of asking shows no damage
undamaged : (e : HistoryError) (D : Damage → Type 0) → IfStoreDamage e (λ _. ⊥) → IfStoreDamage e D
undamaged (Refused cause) D none = tt
undamaged (Store Failed) D none = tt
undamaged (Store NoMemory) D none = tt
undamaged (Store (Damaged d)) D none = absurd none

pub asking_damages : (told : Option Contents) (p : Pending) (r : Result (List ℕ) HistoryError) (e : HistoryError) → r ≡ Err e → IfStoreDamage e (λ _. ⊥) → IfSome told (λ c. IsCounted p c → IfErr r (λ x. IfStoreDamage x (IsDamage (with_all c p.batch))))
asking_damages None p r e is none = tt
asking_damages (Some c) p r e is none = λ counts. subst (λ (y : Result (List ℕ) HistoryError). IfErr y (λ x. IfStoreDamage x (IsDamage (with_all c p.batch)))) (sym is) (undamaged e (IsDamage (with_all c p.batch)) none)

-- a log that tells no graph
pub log_damages : (told : Option Contents) (p : Pending) (r : Result (List ℕ) HistoryError) (e : StoreError) → r ≡ Err (Store e) → IfSome told (λ c. IfDamage e (WrongBelow p.count (with_all c p.batch))) →
    IfSome told (λ c. IsCounted p c → IfErr r (λ x. IfStoreDamage x (IsDamage (with_all c p.batch))))
log_damages told p r e is wrong = as_error told p r e is (shows_graph {X = Unit {0}} told p p (Err e) e refl refl wrong)

-- what was sent of the revisions of the graph that the log tells
module _ (told now : Option Contents) (p q : Pending) (entries : List LogEntry) (id : Id) (have ids : List Id) (same : Same told now) (kept : q ≡ p)
    (tells : (f : List ℕ → List ℕ) (s : State) (d : IsFounded f told p s) → IsGraphOf d.stands.history entries) (asks : (h : List Revision) → IsGraphOf h entries → AsksFor h id have (Ok ids)) where
  module _ {X : Type 0} (sent : Result X StoreError) (old new : List ℕ) (finds : FindsAll now q ids old new sent) where
    pub sent_of : (f : List ℕ → List ℕ) (s : State) (d : IsFounded f now p s) → Gives sent (λ _. WritesAll s ids old new)
    sent_of f s d =
        let asked = asks d.stands.history (tells f s (back f told now p s same d)) in
        (subst (λ (z : Pending). FindsAll now z ids old new sent) kept finds) f s d (asked_held d.stands.history id have ids asked.1)

  -- an error on the way
  module _ (e : StoreError) (old new : List ℕ) (finds : FindsAll {X = Unit {0}} now q ids old new (Err e)) where
    none : (f : List ℕ → List ℕ) (s : State) → IsFounded f now p s → IfDamage e (λ _. ⊥)
    none f s d = sent_of {X = Unit {0}} (Err e) old new finds f s d

    pub sending_damages : (r : Result (List ℕ) HistoryError) → r ≡ Err (Store e) → IfSome told (λ c. IsReadTo (with_all c p.batch) p.count entries) →
        IfSome now (λ c. IfDamage e (IsShownBelow (with_all c q.batch) (length entries))) → IfSome now (λ c. IsCounted p c → IfErr r (λ x. IfStoreDamage x (IsDamage (with_all c p.batch))))
    sending_damages r is read shown = as_error now p r e is (told_if now _ (λ c at counts.
        shown_damage c p now entries at counts (told_on told now (λ x. IsReadTo (with_all x p.batch) p.count entries) same read c at) e none
        (subst (λ (z : Pending). IfDamage e (IsShownBelow (with_all c z.batch) (length entries))) kept (told_of now c (λ x. IfDamage e (IsShownBelow (with_all x q.batch) (length entries))) at shown))))

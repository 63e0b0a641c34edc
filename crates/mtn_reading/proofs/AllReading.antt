-- The packets of some heads, one after the other.
use Rattle.std.specs.Prelude.{IfSome}
use Rattle.std.proofs.Common.{◌≡◌, ◌<◌, ◌≤◌, ◌+◌, ℕ, suc, List, length, get_or, take, drop, Option, Some, None, Ok, Err, inl, sym, ◌∙◌, subst, arith}
use Rattle.std.proofs.lemmas.List.{take_all}
use Rattle.mtn_history.specs.Damage.{IsDamage}
use Rattle.mtn_history.specs.Errors.{IfStoreDamage}
use Rattle.mtn_history.specs.Meta.{IsMetaOf}
use Rattle.mtn_history.specs.Stands.{IsDraft}
use Rattle.mtn_history.specs.declared.errors.HistoryError.{HistoryError}
use Rattle.mtn_history.specs.declared.errors.HistoryError.TheVariants as history
use Rattle.mtn_history.specs.declared.errors.StoreError.TheVariants.{Failed}
use Rattle.mtn_history.specs.declared.pending.Pending.{Pending}
use Rattle.mtn_imports.specs.Imports.{Kept, ReadsFrom, with_more}
use Rattle.mtn_model.specs.State.{State}
use Rattle.mtn_model.specs.Table.{Contents}
use Rattle.mtn_packets.specs.declared.packet.Packet.{Packet}
use Rattle.mtn_ports.specs.Kept.{with_all}
use Rattle.mtn_reading.specs.Heads.{packet_at, packets_at}
use Rattle.mtn_reading.specs.Reading.{Comes, IfReadDamage, IsNumbered, ReadsTo, kept_of}
use Rattle.mtn_reading.specs.Unfit.{SpoilsReading}
use Rattle.mtn_reading.specs.declared.counts.Counts.{Counts}
use Rattle.mtn_reading.specs.declared.error.ReadError.{ReadError}
use Rattle.mtn_reading.specs.declared.error.ReadError.TheVariants.{Store}
use Rattle.mtn_reading.specs.declared.head.Head.{Head}
use Rattle.mtn_reading.proofs.MismatchLemmas.{about, so_many, up_to}
use Rattle.mtn_reading.proofs.ReadsLemmas.{one_more, refused}
use Rattle.mtn_reading.proofs.UnfitReading.{wider}

-- the answer so far: a state that the packets of the heads up to a place lead to
abbrev pub Reached : (List ℕ → List ℕ) → Contents → State → List (List ℕ) → List Head → Kept → Pending → Type 0
Reached f c s payloads heads a p = (mid : State) × ReadsFrom f 1 s (packets_at payloads heads) None mid a × IsDraft f c p mid

module _ (f : List ℕ → List ℕ) (c : Contents) (s : State) (payloads : List (List ℕ)) (heads : List Head) where
  module _ (i : ℕ) (h : Head) (lt : i < length heads) (is : h ≡ get_or heads i h) (a : Kept) (p : Pending) (so : Reached f c s payloads (take i heads) a p) where
    -- a packet is read
    pub reached : (one sum : Counts) (after : Pending) → ReadsTo f c so.0 (packet_at payloads h) (Ok one) after → kept_of sum ≡ with_more a (kept_of one) → Reached f c s payloads (take (i + 1) heads) (kept_of sum) after
    reached one sum after reads both = (
      reads.0,
      subst (λ (k : Kept). ReadsFrom f 1 s (packets_at payloads (take (i + 1) heads)) None reads.0 k) (sym both)
          (subst (λ (ps : List Packet). ReadsFrom f 1 s ps None reads.0 (with_more a (kept_of one))) (sym (up_to payloads heads i h lt is))
          (one_more f (packets_at payloads (take i heads)) 1 s so.0 a so.1 (packet_at payloads h) reads.0 (kept_of one) reads.1)),
      reads.2,
    )

    -- or it is not
    pub stopped : (number : ℕ) (error : HistoryError) (e : ReadError) (after : Pending) → number ≡ i + 1 → IsNumbered number error e → ReadsTo f c so.0 (packet_at payloads h) (Err error) after →
        Comes (ReadsFrom f 1 s (packets_at payloads heads)) f c (Err e) after
    stopped number (history.Refused cause) e after counted named reads =
        let last = refused f (packets_at payloads (take i heads)) (packets_at payloads (drop (suc i) heads)) 1 s so.0 a so.1 (packet_at payloads h) cause reads.0 reads.1 reads.2 number
        (let many = so_many payloads heads i h lt is in omega (arith, many, counted)) in
        subst (λ (x : ReadError). Comes (ReadsFrom f 1 s (packets_at payloads heads)) f c (Err x) after) (sym named)
        (reads.0, last.0, subst (λ (ps : List Packet). ReadsFrom f 1 s ps (Some (record { packet = number; cause = cause })) reads.0 last.0) (sym (about payloads heads i h lt is)) last.1)
    stopped number (history.Store error) e after counted named reads = subst (λ (x : ReadError). Comes (ReadsFrom f 1 s (packets_at payloads heads)) f c (Err x) after) (sym named) reads

  -- all are read
  pub ended : (i : ℕ) (counts : Counts) (p : Pending) → length heads ≤ i → Reached f c s payloads (take i heads) (kept_of counts) p → Comes (ReadsFrom f 1 s (packets_at payloads heads)) f c (Ok counts) p
  ended i counts p past so = (so.0, subst (λ (hs : List Head). ReadsFrom f 1 s (packets_at payloads hs) None so.0 (kept_of counts)) (take_all i heads past) so.1, so.2)

-- a packet's damage is one of the draft's records as they are then
module _ (number : ℕ) (error : HistoryError) (e : ReadError) (named : IsNumbered number error e) where
  shown : (f : List ℕ → List ℕ) (c : Contents) (p : Pending) → IfStoreDamage error (IsDamage (with_all c p.batch)) → IfReadDamage e (SpoilsReading f (with_all c p.batch))
  shown f c p damaged = by error named damaged
    where
      by : (error : HistoryError) → IsNumbered number error e → IfStoreDamage error (IsDamage (with_all c p.batch)) → IfReadDamage e (SpoilsReading f (with_all c p.batch))
      by (history.Refused cause) is damage = subst (λ (x : ReadError). IfReadDamage x (SpoilsReading f (with_all c p.batch))) (sym is) tt
      by (history.Store x) is damage = subst (λ (y : ReadError). IfReadDamage y (SpoilsReading f (with_all c p.batch))) (sym is) (wider (IsDamage (with_all c p.batch)) (SpoilsReading f (with_all c p.batch)) (λ d own. inl own) x damage)

  pub damage_shown : (f : List ℕ → List ℕ) (told : Option Contents) (before after : Pending) → after ≡ before →
      IfSome told (λ c. IsMetaOf (with_all c before.batch) (record { count = before.count; is_new = before.is_new }) → IfStoreDamage error (IsDamage (with_all c before.batch))) →
      IfSome told (λ c. IsMetaOf (with_all c after.batch) (record { count = after.count; is_new = after.is_new }) → IfReadDamage e (SpoilsReading f (with_all c after.batch)))
  damage_shown f None before after same damaged = tt
  damage_shown f (Some c) before after same damaged =
      subst (λ (p : Pending). IsMetaOf (with_all c p.batch) (record { count = p.count; is_new = p.is_new }) → IfReadDamage e (SpoilsReading f (with_all c p.batch))) (sym same)
      (λ counted. shown f c before (damaged counted))

  -- a fault is the packet's
  pub fault_of : e ≡ Store Failed → error ≡ history.Store Failed
  fault_of is = by error named
    where
      by : (error : HistoryError) → IsNumbered number error e → error ≡ history.Store Failed
      by (history.Refused cause) at = absurd (let x = sym at ∙ is in cc)
      by (history.Store x) at = let same : Store x ≡ Store Failed = sym at ∙ is in cc

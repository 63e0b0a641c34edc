-- The roster of a new revision is what its record gives, and so is its record of the log.
use Rattle.std.specs.Prelude.{IfSome}
use Rattle.std.proofs.Common.{◌≡◌, ◌<◌, ◌+◌, ◌^◌, ℕ, List, Option, Some, None, refl, sym, ap, subst, ◌∙◌, arith}
use Rattle.mtn_roster_deltas.specs.Chain.{Entries}
use Rattle.mtn_roster_deltas.specs.Difference.{IsDifference}
use Rattle.mtn_roster_deltas.specs.Spelled.{Spells}
use Rattle.mtn_marking.specs.Marking.{MarkedTree}
use Rattle.mtn_model.specs.State.{Logged}
use Rattle.mtn_model.specs.Table.{Contents, body_at}
use Rattle.mtn_ports.specs.Kept.{with_all}
use Rattle.mtn_records.specs.Bounds.{IsLogAt, IsRosterAt}
use Rattle.mtn_records.specs.Fields.{number_text}
use Rattle.mtn_records.specs.declared.record.LogRecord.{LogRecord}
use Rattle.mtn_records.specs.declared.record.RosterRecord.TheVariants.{Whole, Delta}
use Rattle.mtn_history.specs.Logs.{IsLogged}
use Rattle.mtn_history.specs.Records.{meta_puts, with_revision}
use Rattle.mtn_history.specs.Rosters.{IsRebuilt}
use Rattle.mtn_history.specs.declared.pending.Pending.{Pending}
use Rattle.mtn_history.proofs.Extending.{get_itself}
use Rattle.mtn_history.proofs.Knowing.{chain_kept, grown_is, same_rosters}
use Rattle.mtn_history.proofs.RosterLemmas.{Chained, whole_chained, delta_chained}

-- the record of the log
logged_accepted : (c : Contents) (p : Pending) (l : Logged) (log roster : List ℕ) (entry : LogRecord) → IsLogAt p.count log entry → IsLogged (with_all c (with_revision p l log roster).batch) p.count entry
logged_accepted c p l log roster entry text = record {
  body = log;
  held = ap (λ (d : Contents). body_at d 4 (number_text p.count)) (grown_is c p l log roster)
      ∙ get_itself (with_all (with_all c p.batch) (meta_puts p.is_new p.count) 4) (number_text p.count) log;
  text = text;
}

pub logged_told : (told : Option Contents) (p after : Pending) (l : Logged) (log roster : List ℕ) (at : ℕ) (entry : LogRecord) → after ≡ with_revision p l log roster → at ≡ p.count → IsLogAt at log entry →
    IfSome told (λ c. IsLogged (with_all c after.batch) at entry)
logged_told None p after l log roster at entry is place text = tt
logged_told (Some c) p after l log roster at entry is place text =
    subst (λ (q : Pending). IsLogged (with_all c q.batch) at entry) (sym is)
    (subst (λ n. IsLogged (with_all c (with_revision p l log roster).batch) n entry) (sym place) (logged_accepted c p l log roster entry (subst (λ n. IsLogAt n log entry) place text)))

module _ (c : Contents) (p : Pending) (l : Logged) (log roster : List ℕ) (room : p.count < 2 ^ 63) (es : Entries) (t : MarkedTree) (spells : Spells es t) where
  abbrev pub grown : Contents
  grown = with_all c (with_revision p l log roster).batch

  held : body_at grown 5 (number_text p.count) ≡ Some roster
  held = ap (λ (d : Contents). body_at d 5 (number_text p.count)) (grown_is c p l log roster)
      ∙ get_itself (with_all (with_all c p.batch) (meta_puts p.is_new p.count) 5) (number_text p.count) roster

  from_chain : (depth : ℕ) → Chained grown p.count depth es → IsRebuilt grown p.count es t depth
  from_chain depth x = record { chain = x.chain; down = x.down; entries = x.made; spelled = spells; deltas = x.long ∙ omega arith }

  -- whole
  pub whole_accepted : IsRosterAt p.count roster (Whole es) → IsRebuilt grown p.count es t 0
  whole_accepted text = from_chain 0 (whole_chained grown p.count roster es spells.ascending held text)

  -- what differs from the first parent's
  pub delta_accepted : (base depth : ℕ) (below : Entries) (under : MarkedTree) (gone : List ℕ) (changed : Entries) → base < p.count → depth < 15 → IsRebuilt (with_all c p.batch) base below under depth →
      IsDifference below es gone changed → IsRosterAt p.count roster (Delta base (depth + 1) gone changed) → IsRebuilt grown p.count es t (depth + 1)
  delta_accepted base depth below under gone changed lt low is differ text =
      let chained : Chained grown base depth below = record {
        chain = is.chain;
        down = chain_kept (with_all c p.batch) grown p.count base is.chain (same_rosters c p l log roster (omega (arith, room))) lt is.down;
        made = is.entries;
        long = is.deltas ∙ omega arith;
      } in
      from_chain (depth + 1) (delta_chained grown p.count base (depth + 1) depth roster gone changed below es spells.ascending held text chained differ low refl)

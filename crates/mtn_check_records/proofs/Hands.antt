-- What is kept of a revision stays so behind one revision more, and what was read at a position is what is kept of its own.
use Rattle.std.proofs.Common.{◌≡◌, ℕ, List, ◌++◌, ◌∷◌, [], length, Some, sym, ap, ◌∙◌, subst}
use Rattle.std.specs.Prelude.{slice_get}
use Rattle.mtn_check_laws.specs.Fronts.{Front, Step, with_step, StandsTo}
use Rattle.mtn_check_laws.proofs.Standing.{stays_at}
use Rattle.mtn_check_pieces.specs.declared.job.CheckJob.{CheckJob}
use Rattle.mtn_history.specs.Revisions.{Kept}
use Rattle.mtn_model.specs.Table.{Contents}
use Rattle.mtn_records.specs.declared.record.RosterRecord.{RosterRecord}
use Rattle.mtn_records.specs.declared.record.RosterRecord.TheVariants.{Whole}
use Rattle.mtn_replay.proofs.Histories.{last_at}
use Rattle.mtn_roster_deltas.specs.Chain.{Entries}
use Rattle.mtn_check_records.specs.Reading.{IsHandOf, IsStepOf}
use Rattle.mtn_check_records.specs.declared.hand.Hand.{Hand}
use Rattle.mtn_check_records.specs.declared.hand.Position.{Position}

pub hand_stays : (front : Front) (s : Step) (p : ℕ) (hand : Hand) → IsHandOf front p hand → IsHandOf (with_step front s) p hand
hand_stays front s p hand is = record {
  revision = is.revision;
  made = stays_at front.history s.revision is.revision p is.made;
  same = is.same;
  kept = stays_at front.kept s.kept (record { entries = hand.entries; next = hand.next; depth = hand.depth }) p is.kept;
}

one_whole : (r : RosterRecord) (es fs : Entries) → r ≡ Whole es → r ≡ Whole fs → es ≡ fs
one_whole r es fs a b = cc

pub step_is_kept : (f : List ℕ → List ℕ) (c : Contents) (r : ℕ) (front : Front) (x : Position) (job : CheckJob) (hand : Hand) → StandsTo f c r front → (s : IsStepOf f c r front x job) →
    hand.id ≡ x.entry.id → hand.next ≡ x.entry.next_node → hand.depth ≡ x.depth → job.stored ≡ Whole hand.entries → IsHandOf (with_step front s.step) r hand
step_is_kept f c r front x job hand stands s id next depth entries =
    let k : Kept = s.step.kept in
    let long : length front.history ≡ r = stands.spelled.long ∙ stands.long in
    let same : k.entries ≡ hand.entries = one_whole job.stored k.entries hand.entries s.entries entries in
    let after : k.next ≡ hand.next = s.next ∙ sym next in
    let deep : k.depth ≡ hand.depth = s.depth ∙ sym depth in
    let kept : k ≡ record { entries = hand.entries; next = hand.next; depth = hand.depth } = λ i. record { entries = same i; next = after i; depth = deep i } in
    record {
      revision = s.step.revision;
      made = subst (λ n. slice_get (front.history ++ s.step.revision ∷ []) n ≡ Some s.step.revision) long (last_at front.history s.step.revision);
      same = s.id ∙ sym id;
      kept = subst (λ n. slice_get (front.kept ++ k ∷ []) n ≡ Some k) (stands.revisions.long ∙ long) (last_at front.kept k) ∙ ap Some kept;
    }

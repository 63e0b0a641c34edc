use Rattle.std.proofs.Common.{◌∙◌, sym, subst}
use Rattle.std.specs.Prelude.{IfSome}
use Rattle.mtn_ports.proofs.KeptLemmas.{stays_trans}
use Rattle.mtn_ports.specs.Kept.{with_all}
use Rattle.mtn_history.proofs.Founding.{back}
use Rattle.mtn_history.specs.Rosters.{Rebuilds}
use Rattle.mtn_history.specs.declared.pending.Pending.{Pending}
use Rattle.mtn_history.specs.Remembered.{RebuiltRoster}
use Rattle.mtn_check_records.specs.Reading.{IsHandOf}
use Rattle.mtn_check_hands.specs.Reading.{front_with}
use Rattle.mtn_check_hands.proofs.Answering.{hand_is}
use Rattle.mtn_check_hands.proofs.asked.hand_of.Goals as goal

pub returns-in_err-rebuilt-clause-stays : goal.returns-in_err-rebuilt-clause-stays
returns-in_err-rebuilt-clause-stays g c = stays_trans g.K.Keeper.contents g.K.Keeper.leaves g.K.Keeper.faults _ _ _ c.log_at.ensures.asks.stays c.roster_at.ensures.asks.stays

pub returns-in_err-copied-clause-stays : goal.returns-in_err-copied-clause-stays
returns-in_err-copied-clause-stays g c = stays_trans g.K.Keeper.contents g.K.Keeper.leaves g.K.Keeper.faults _ _ _ c.log_at.ensures.asks.stays c.roster_at.ensures.asks.stays

pub returns-in_err-entries-clause-stays : goal.returns-in_err-entries-clause-stays
returns-in_err-entries-clause-stays g c = stays_trans g.K.Keeper.contents g.K.Keeper.leaves g.K.Keeper.faults _ _ _ c.log_at.ensures.asks.stays c.roster_at.ensures.asks.stays

pub returns-clause-stays : goal.returns-clause-stays
returns-clause-stays g c = stays_trans g.K.Keeper.contents g.K.Keeper.leaves g.K.Keeper.faults _ _ _ c.log_at.ensures.asks.stays c.roster_at.ensures.asks.stays

pub returns-clause-found : goal.returns-clause-found
returns-clause-found g c = λ f s d.
    let told = g.K.Keeper.contents c.roster_at.new.self.keeper.now in
    let p = c.args.draft.now.pending in
    let held = c.as_ref-held.result.now in
    let read = subst (λ (x : RebuiltRoster). IfSome told (λ y. Rebuilds (with_all y c.log_at.new.self.pending.batch) c.args.at x)) (sym c.as_ref-held.ensures) c.in_ok-rebuilt.ensures.rebuilt in
    subst (λ n. IsHandOf (front_with s.log d.stands.history d.stands.kept) c.args.at (record { id = c.in_ok-log.log.id; next = c.in_ok-log.log.next_node; depth = n; entries = c.in_ok-entries.entries })) (sym c.depth.ensures)
    (hand_is f told p s d c.args.at c.in_ok-log.log held c.in_ok-entries.entries (c.in_ok-entries.ensures ∙ c.in_ok-copied.ensures) c.requires.below
    (c.in_ok-log.ensures.found f s (back f (g.K.Keeper.contents c.log_at.new.self.keeper.now) told p s c.roster_at.ensures.asks.stays.same d) c.requires.below)
    (subst (λ (x : Pending). IfSome told (λ y. Rebuilds (with_all y x.batch) c.args.at held)) c.log_at.ensures.asks.pending read))

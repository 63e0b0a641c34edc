use Rattle.std.proofs.Common.{◌+◌}
use Rattle.std.specs.Prelude.{max}
use Rattle.mtn_ports.specs.Kept.{with_all}
use Rattle.mtn_history.specs.Errors.{IfDamage}
use Rattle.mtn_history.specs.Rosters.{EndsAt, IsChainOf, IsUnmade, UnmadeBelow}
use Rattle.mtn_history.proofs.MeetingLemmas.{told_both, told_then}
use Rattle.mtn_history.proofs.draft.Draft.make_rosters.Goals as goal

pub returns-in-Err-clause-damaged : goal.returns-in-Err-clause-damaged
returns-in-Err-clause-damaged g c =
    let ps = c.args.self.now.pending.batch in
    told_both (g.K.Keeper.contents c.args.self.now.keeper.now) (g.K.Keeper.contents c.shown.new.self.keeper.now) (λ d. IsUnmade (with_all d ps) c.args.left c.args.right c.in-Err.unmade)
    (λ d. IfDamage c.shown.result (UnmadeBelow (max c.args.left c.args.right + 1) (with_all d ps))) c.shown.ensures.asks.stays.same
    (told_then (g.K.Keeper.contents c.args.self.now.keeper.now) (λ d. IsChainOf (with_all d ps) c.args.left c.args.ours) (λ d. EndsAt (with_all d ps) c.args.right c.args.left c.args.ours.records.items c.args.theirs.records.items c.args.theirs.end)
    (λ d. IsUnmade (with_all d ps) c.args.left c.args.right c.in-Err.unmade) c.requires.ours c.requires.theirs (λ d. c.in-Err.ensures.unmade (with_all d ps)))
    (c.shown.ensures.damaged c.args.left c.args.right)

use Rattle.std.proofs.Common.{refl, arith}
use Rattle.mtn_changes.specs.Targets.{target_of}
use Rattle.mtn_changes.proofs.Parts.{last_rank-push, taken, not_taken, targets_more}
use Rattle.mtn_changes.proofs.order.Part.put.Goals as goal

pub returns-then-not-fresh-clause-err : goal.returns-then-not-fresh-clause-err
returns-then-not-fresh-clause-err c = (
  c.args.change,
  c.requires.lawful,
  refl,
  omega (arith, c.requires.part.rank_is, c.rank-rank.ensures),
  taken c.args.self.now.changes c.args.self.now.targets c.args.change (target_of c.args.change) c.in_ok-fresh.fresh refl c.requires.part.targets_are c.in_ok-fresh.ensures.fresh c.if-not-fresh.true,
)

pub returns-clause-ok : goal.returns-clause-ok
returns-clause-ok c =
    let cs = c.args.self.now.changes in
    record {
      same = c.in_ok-push.ensures.ok;
      rank_is = rw (last_rank-push cs c.args.change) c.rank-rank.ensures;
      targets_are = targets_more cs c.args.self.now.targets _ c.args.change (target_of c.args.change) refl c.requires.part.targets_are c.in_ok-fresh.ensures.taken;
    }

pub returns-clause-stands : goal.returns-clause-stands
returns-clause-stands c = record {
  lawful = c.requires.lawful;
  ordered = omega (arith, c.requires.part.rank_is, c.rank-rank.ensures);
  fresh = not_taken c.args.self.now.changes c.args.self.now.targets c.args.change (target_of c.args.change) c.in_ok-fresh.fresh refl c.requires.part.targets_are c.in_ok-fresh.ensures.fresh c.if-not-fresh.false;
}

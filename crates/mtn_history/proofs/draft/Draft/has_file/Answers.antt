use Rattle.std.specs.Prelude.{IfOk, IfSome}
use Rattle.std.proofs.Common.{◌≡◌, refl, subst}
use Rattle.mtn_model.specs.Table.{body_at}
use Rattle.mtn_ports.specs.Kept.{IsBody, with_all}
use Rattle.mtn_history.proofs.AskingLemmas.{asks_on}
use Rattle.mtn_history.proofs.Nearest.{never_late}
use Rattle.mtn_history.proofs.draft.Draft.has_file.Goals as goal

pub returns-clause-asks : goal.returns-clause-asks
returns-clause-asks g c = asks_on g.K.Keeper.contents g.K.Keeper.leaves g.K.Keeper.faults g.K.Keeper.reads 1 1 c.args.self.now c.follows.new.self c.get.new.self c.follows.ensures.asks c.get.ensures.asks

pub returns-clause-few : goal.returns-clause-few
returns-clause-few g c = λ f s d ids.
    never_late f (g.K.Keeper.contents c.follows.new.self.keeper.now) (g.K.Keeper.contents c.get.new.self.keeper.now) c.args.self.now.pending c.follows.new.self.pending s d ids c.get.ensures.asks.stays.same c.follows.ensures.asks.pending
    c.args.id.0 c.get.new.out.items c.in_ok-follows.field-0 c.get.result _ c.in_ok-follows.ensures.missed c.if-branch.false (λ x. subst (λ k. body_at (with_all x c.args.self.now.pending.batch) 2 k ≡ body_at x 2 k) c.as_slice.ensures (c.if-is_pending.ensures.not_there x refl))
    (subst (λ k. IfSome (g.K.Keeper.contents c.get.new.self.keeper.now) (λ x. IfOk c.get.result (λ found. IsBody (body_at (with_all x c.follows.new.self.pending.batch) 2 k) found c.get.new.out.items))) c.as_slice-2.ensures c.get.ensures.found)

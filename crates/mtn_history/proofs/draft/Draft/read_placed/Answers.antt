use Rattle.std.proofs.Common.{subst, ◌<◌, ◌^◌, refl}
use Rattle.mtn_history.proofs.PlaceLemmas.{unplaced}
use Rattle.mtn_history.proofs.draft.Draft.read_placed.Goals as goal

pub returns-in-Err-Bad-clause-damaged : goal.returns-in-Err-Bad-clause-damaged
returns-in-Err-Bad-clause-damaged g c =
    unplaced (g.K.Keeper.contents c.get.new.self.keeper.now) c.args.self.now.pending.batch c.args.self.now.pending.count c.in_ok-get.field-0 c.get.new.out.items c.as_slice-key.result.now c.deref.result.now c.deref-in-Err-Bad.result.now c.bad.result
    c.in_ok-get.ensures.found c.if-not-branch.false c.deref.ensures.value c.deref-in-Err-Bad.ensures.value (subst (λ n. n < 2 ^ 64) c.count-count.ensures c.count-count.type_inv) ((rw c.in-Err-Bad.field-0-is at c.in-Err-Bad.ensures.bad) refl) c.bad.ensures.damaged

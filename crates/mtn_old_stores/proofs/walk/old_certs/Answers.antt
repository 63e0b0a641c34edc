use Rattle.std.proofs.lemmas.Result.{IfOk-weaker}
use Rattle.mtn_put_certs.proofs.HeldLemmas.{at_told}
use Rattle.mtn_old_stores.proofs.Counting.{counted_in}
use Rattle.mtn_old_stores.proofs.WalkLemmas.{are_held, never_damaged}
use Rattle.mtn_old_stores.proofs.walk.old_certs.Goals as goal

pub returns-clause-found : goal.returns-clause-found
returns-clause-found g c f d s told stands =
    IfOk-weaker c.all_old.result _ _ (λ v read. are_held f d s v.items stands read) (at_told (g.K.Keeper.contents c.all_old.new.keeper) d _ told c.all_old.ensures.read)

pub returns-clause-sound : goal.returns-clause-sound
returns-clause-sound g c f d s told stands = never_damaged f (g.K.Keeper.contents c.all_old.new.keeper) d s c.all_old.result told stands c.all_old.ensures.damaged

pub returns-clause-count : goal.returns-clause-count
returns-clause-count g c f d s told stands = counted_in f d s (λ v. v.items) c.all_old.result stands (at_told (g.K.Keeper.contents c.all_old.new.keeper) d _ told c.all_old.ensures.read) c.all_old.ensures.once

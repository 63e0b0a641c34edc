use Rattle.mtn_claims_frame.proofs.ToyLemmas.{finds_none}
use Rattle.mtn_claims_frame.proofs.toy.check.Goals as goal

pub returns-in-Ok-false : goal.returns-in-Ok-false
returns-in-Ok-false g c =
    finds_none g.K.Keeper.contents g.K.Keeper.leaves g.K.Keeper.faults g.K.Keeper.reads c.args.keeper.now c.next.new.self c.in_ok-good-in-Ok-false.field-0 c.in-Ok-false.field-0 c.next.new.key.items
    c.in-Ok-false.ensures.reads c.in-Ok-false.ensures.stays c.in_ok-good-in-Ok-false.ensures.0 c.in_ok-good-in-Ok-false.ensures.1 c.in-Ok-false.field-0-test c.in-Ok-false.ensures.found

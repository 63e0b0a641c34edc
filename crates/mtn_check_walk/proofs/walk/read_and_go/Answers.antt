use Rattle.mtn_check_hands.specs.Hands.{AreRead}
use Rattle.mtn_ports.proofs.KeptLemmas.{if_same, stays_trans}
use Rattle.mtn_check_walk.proofs.walk.read_and_go.Goals as goal

pub returns-in_err-stretch-clause-held : goal.returns-in_err-stretch-clause-held
returns-in_err-stretch-clause-held g c = if_same (g.K.Keeper.contents c.args.keeper.now) (g.K.Keeper.contents c.load_stretch.new.keeper) (g.E.Errand.holds c.args.errand.now c.args.extent.count) c.load_stretch.ensures.stays.same c.requires.held

pub returns-in_err-go-clause-stays : goal.returns-in_err-go-clause-stays
returns-in_err-go-clause-stays g c = stays_trans g.K.Keeper.contents g.K.Keeper.leaves g.K.Keeper.faults _ _ _ c.load_stretch.ensures.stays c.go.ensures.stays

pub returns-clause-stays : goal.returns-clause-stays
returns-clause-stays g c = stays_trans g.K.Keeper.contents g.K.Keeper.leaves g.K.Keeper.faults _ _ _ c.load_stretch.ensures.stays c.go.ensures.stays

pub returns-clause-read : goal.returns-clause-read
returns-clause-read g c =
    if_same (g.K.Keeper.contents c.load_stretch.new.keeper) (g.K.Keeper.contents c.go.new.keeper) (λ k. AreRead k c.args.extent.from c.args.hands.now c.in_ok-stretch.stretch.positions.items c.in_ok-stretch.stretch.jobs.items c.load_stretch.new.hands) c.go.ensures.stays.same c.in_ok-stretch.ensures.read

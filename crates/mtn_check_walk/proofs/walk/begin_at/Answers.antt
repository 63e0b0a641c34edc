use Rattle.mtn_check_walk.proofs.Walks.{told_begun}
use Rattle.mtn_check_walk.proofs.walk.begin_at.Goals as goal

pub load_stretch-requires : goal.load_stretch-requires
load_stretch-requires g c = record { none = λ p hand has. absurd (c.new-hands.ensures p hand has) }

pub returns-clause-read : goal.returns-clause-read
returns-clause-read g c =
    told_begun (g.I.Ident.meaning c.args.ident.now) c.args.count (record { at = c.args.at; stretch = c.in_ok-stretch.stretch; hands = c.load_stretch.new.hands }) c.new-hands.result (g.K.Keeper.contents c.args.keeper.now)
    (g.K.Keeper.contents c.load_stretch.new.keeper) c.load_stretch.ensures.stays.same c.new-hands.ensures c.requires.walked c.in_ok-stretch.ensures.read

use Rattle.std.specs.Prelude.{drop}
use Rattle.mtn_history.proofs.MarkedLemmas.{placed_found}
use Rattle.mtn_history.proofs.draft.Draft.placed.Goals as goal

pub returns-clause-found : goal.returns-clause-found
returns-clause-found g c f s d =
    placed_found f (g.K.Keeper.contents c.read_placed.new.self.keeper.now) c.args.self.now.pending s d c.args.id c.read_placed.result (drop 8 c.read_placed.new.body.items) c.read_placed.ensures.read

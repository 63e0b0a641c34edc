-- By how many there are.
use Rattle.std.proofs.Common.{[], ◌∷◌, arith}
use Rattle.mtn_history.proofs.Founding.{grown}
use Rattle.mtn_put_revision.proofs.Bases.{no_places, root_basis, under, under_none}
use Rattle.mtn_put_revision.proofs.over.over_places.Goals as goal

pub over-requires-clause-based : goal.over-requires-clause-based
over-requires-clause-based g c κs within = λ f s d.
    let on = c.requires.parents f s d in
    let b = root_basis d.stands.history d.stands.kept c.args.fresh.now c.args.places.now c.requires.edges on (no_places c.args.places.now c.in-empty.len_below) in (
      under d.stands.history c.args.fresh.now.read.now.edges _ c.args.fresh.now.id (b.0 ∷ []) (grown f (g.K.Keeper.contents c.args.draft.now.keeper.now) c.args.draft.now.pending s d) on.new b.1 b.2,
      b.3,
    )

pub over-requires-clause-root : goal.over-requires-clause-root
over-requires-clause-root g c κs within = λ e. under_none c.args.fresh.now.read.now.edges c.args.fresh.now.id c.requires.edges (c.requires.root e)

pub returns-in-empty-clause-reads : goal.returns-in-empty-clause-reads
returns-in-empty-clause-reads g c = λ f s d ids w within. let asked = c.over.ensures.reads f s d ids in omega (arith, asked)

pub returns-in-len1-clause-reads : goal.returns-in-len1-clause-reads
returns-in-len1-clause-reads g c = λ f s d ids w within. let asked = c.over_one.ensures.reads f s d ids in omega (arith, asked)

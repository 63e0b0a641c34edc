-- A chain with the difference behind it.
use Rattle.std.proofs.Common.{◌∙◌}
use Rattle.mtn_roster_deltas.proofs.Differing.{grows_by}
use Rattle.mtn_roster_deltas.proofs.difference.delta.Goals as goal

pub returns-clause-rebuilds : goal.returns-clause-rebuilds
returns-clause-rebuilds c = λ chain.
    grows_by chain c.args.base.now c.args.new.now c.from_vec-2.result c.as_slice.result.now c.as_slice-2.result.now c.in_ok-found.found.changed.items c.from_vec.result c.in_ok-found.found.gone.items c.args.base_at c.args.depth
    (c.as_slice.ensures ∙ c.base.view_is) (c.as_slice-2.ensures ∙ c.new.view_is) c.from_vec.ensures c.from_vec-2.ensures c.in_ok-found.ensures

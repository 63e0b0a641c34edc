-- One entry more each time.
use Rattle.std.proofs.Common.{◌∙◌}
use Rattle.mtn_roster_deltas.specs.Chain.{with_all}
use Rattle.mtn_roster_deltas.proofs.Merging.{merges_more, merges_all}
use Rattle.mtn_roster_deltas.proofs.merge.merged.Goals as goal

pub loop-entry-preserved : goal.loop-entry-preserved
loop-entry-preserved c = merges_more _ _ _ _ _ _ _ c.in-Some.entry c.loop-entry.invariant c.in-Some.ensures.gives c.in_ok-push.ensures.items

pub returns : goal.returns
returns c = merges_all _ _ _ _ _ _ c.loop-entry.invariant c.in_default.ensures.gives ∙ (λ i. with_all (c.from_vec-changed.ensures.items i) (c.from_vec-entries.ensures.items i))

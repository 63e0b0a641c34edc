-- What is left of entries ascends.
use Rattle.std.proofs.Common.{◌≡◌, true, sym, subst}
use Rattle.mtn_roster_deltas.specs.Chain.{Entries, ascend}
use Rattle.mtn_roster_deltas.proofs.Merging.{without_rises}
use Rattle.mtn_roster_deltas.proofs.chain.apply.Goals as goal

pub merged-requires-clause-entries : goal.merged-requires-clause-entries
merged-requires-clause-entries c = subst (λ (es : Entries). ascend es ≡ true) (sym c.drop_gone.ensures) (without_rises c.args.gone.now c.args.entries.items c.requires)

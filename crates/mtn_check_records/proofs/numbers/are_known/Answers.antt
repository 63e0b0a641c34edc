-- One entry more each time.
use Rattle.std.proofs.Common.{subst, arith}
use Rattle.std.specs.Prelude.{All}
use Rattle.std.proofs.lemmas.List.{take_all}
use Rattle.std.proofs.lemmas.List.Elements.{All-nil, All-more}
use Rattle.mtn_check_records.specs.Due.{IsKnownIn}
use Rattle.mtn_check_records.proofs.numbers.are_known.Goals as goal

pub loop-entry-init : goal.loop-entry-init
loop-entry-init c = All-nil (IsKnownIn c.args.below.now)

pub loop-entry-preserved : goal.loop-entry-preserved
loop-entry-preserved c = All-more (IsKnownIn c.args.below.now) c.args.entries.now c.loop-entry.entry-index c.entry-item.result c.loop-entry-test.true c.loop-entry.invariant (subst (IsKnownIn c.args.below.now) c.entry-item.is (c.is_known.ensures c.if-not-is_known.false))

pub returns : goal.returns
returns c = λ _. subst (All (IsKnownIn c.args.below.now)) (take_all c.loop-entry.entry-index c.args.entries.now (omega (arith, c.loop-entry-test.false))) c.loop-entry.invariant

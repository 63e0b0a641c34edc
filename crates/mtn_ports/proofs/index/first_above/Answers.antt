use Rattle.std.proofs.Common.{rules}
use Rattle.mtn_ports.proofs.PlaceLemmas.{least_is, least_is_none}
use Rattle.mtn_ports.proofs.index.first_above.Goals as goal

pub returns-in-Some : goal.returns-in-Some
returns-in-Some c =
    least_is c.args.places.now c.in_ok-to_vec.field-0 c.args.after.now (c.in-Some.key.now, c.in-Some.field-0-1.now) _ _ c.as_slice.result.now
    (search rules) c.as_slice.ensures.value c.in-Some.ensures.steps (c.range.ensures.in_range tt)

pub returns-in-None : goal.returns-in-None
returns-in-None c =
    least_is_none c.args.places.now c.in_ok-to_vec.field-0 c.args.after.now _ (search rules) c.in-None.ensures.steps.0 (c.range.ensures.in_range tt)

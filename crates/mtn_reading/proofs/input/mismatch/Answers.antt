use Rattle.std.proofs.Common.{◌∙◌}
use Rattle.mtn_reading.proofs.input.mismatch.Goals as goal

pub returns : goal.returns
returns g c = c.first_of.ensures (g.I.Ident.meaning c.args.ident.now) c.args.payloads.now (c.deref.ensures.value ∙ c.in_ok-ids.ensures)

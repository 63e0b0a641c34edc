use Rattle.std.proofs.Common.{sym, ◌∙◌}
use Rattle.mtn_reading.proofs.CertReading.{speaks, speaks_long}
use Rattle.mtn_reading.proofs.certs.spoken_of.Goals as goal

pub returns-in-Some-clause-speaks : goal.returns-in-Some-clause-speaks
returns-in-Some-clause-speaks g c f k s told draft =
    let p = c.args.cert.now in
    speaks_long s p.revision p.value p.signature c.in-Some.cause (sym c.too_much.ensures ∙ c.in-Some.is)

pub returns-clause-speaks : goal.returns-clause-speaks
returns-clause-speaks g c f k s told draft =
    let p = c.args.cert.now in
    speaks s p.revision p.value p.signature c.text_of.result c.text_of.new.out.items (sym c.too_much.ensures ∙ c.in_default.is) (c.text_of.ensures.finds f k s told draft)

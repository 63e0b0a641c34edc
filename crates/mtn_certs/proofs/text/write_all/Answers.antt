use Rattle.std.specs.BTreeMap.{get}
use Rattle.std.specs.Option.{option_copied}
use Rattle.std.proofs.Common.{◌++◌, ◌∙◌, Bor, ap}
use Rattle.mtn_base.specs.Ids.{by_id}
use Rattle.mtn_basic_io.specs.Spelling.{line_between, stanza_text}
use Rattle.mtn_certs.specs.Certificates.{Certificate}
use Rattle.mtn_certs.specs.Listing.{stanza_of}
use Rattle.mtn_certs.proofs.Stanzas.{stanza_more}
use Rattle.mtn_certs.proofs.text.write_all.Goals as goal

pub loop-i-preserved : goal.loop-i-preserved
loop-i-preserved c =
    let names = c.args.names.now in
    let i = c.loop-i.i in
    let cert = c.index-certs-i.result in
    let named = ap option_copied (c.copied.ensures ∙ c.get.ensures.value ∙ ap (get by_id names) (ap (λ (b : Bor Certificate). b.now.key) c.cert.view_is)) in
    stanza_more (λ b. b.now) (λ d. stanza_of (option_copied (get by_id names d.key)) d) c.args.certs.now i cert _ _ _ c.loop-i-test.true c.index-certs-i.is c.loop-i.invariant
    (c.in_ok-write_behind.ensures ∙ ap (λ n. c.loop-i.out.items ++ (line_between i ++ stanza_text (stanza_of n cert.now))) named)

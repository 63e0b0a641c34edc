use Rattle.mtn_certs.specs.Certificates.{certificate}
use Rattle.mtn_put_certs.proofs.CertLemmas.{short_name, short_signature, short_value}
use Rattle.mtn_reading.proofs.certs.record_key.Goals as goal

pub write-requires-2 : goal.write-requires-2
write-requires-2 c = let p = c.args.cert.now in short_name (certificate p.revision p.name c.args.key p.value p.signature) c.requires.lawful

pub write-requires-4 : goal.write-requires-4
write-requires-4 c = let p = c.args.cert.now in short_value (certificate p.revision p.name c.args.key p.value p.signature) c.requires.lawful

pub write-requires-5 : goal.write-requires-5
write-requires-5 c = let p = c.args.cert.now in short_signature (certificate p.revision p.name c.args.key p.value p.signature) c.requires.lawful

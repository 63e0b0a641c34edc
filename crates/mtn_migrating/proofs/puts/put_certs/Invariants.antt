use Rattle.std.specs.Option.{option_copied}
use Rattle.std.proofs.Common.{◌≡◌, ◌++◌, List, take}
use Rattle.mtn_certs.specs.declared.cert.KeyName.{KeyName}
use Rattle.mtn_old_stores.specs.Migrating.{cert_puts, under_ids}
use Rattle.mtn_old_stores.specs.Stores.{IsLeastUnknown}
use Rattle.mtn_migrating.specs.Working.{AreIdsOf}
use Rattle.mtn_migrating.proofs.puts.put_certs.Given as goal

abbrev pub invariant-loop-cert : goal.invariant-loop-cert
invariant-loop-cert l = record {
  puts : (table : List KeyName) → AreIdsOf l.ids table → l.batch ≡ l.fn.batch ++ cert_puts (under_ids table (take l.cert-index l.certs));
  unknown : (table : List KeyName) → AreIdsOf l.ids table → IsLeastUnknown table (take l.cert-index l.certs) (option_copied l.unknown);
}

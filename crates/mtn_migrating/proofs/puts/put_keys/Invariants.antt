use Rattle.std.specs.List.{AllByRecursion}
use Rattle.std.proofs.Common.{◌≡◌, ◌++◌, take}
use Rattle.mtn_certs.specs.Certificates.{IsIdBytes}
use Rattle.mtn_certs.specs.declared.cert.KeyName.{KeyName}
use Rattle.mtn_old_stores.specs.Migrating.{key_puts}
use Rattle.mtn_migrating.proofs.puts.put_keys.Given as goal

abbrev pub invariant-loop-key : goal.invariant-loop-key
invariant-loop-key l = record {
  puts : l.batch ≡ l.fn.batch ++ key_puts (take l.key-index l.table);
  ids : AllByRecursion (λ (k : KeyName). IsIdBytes k.id.0) (take l.key-index l.table);
}

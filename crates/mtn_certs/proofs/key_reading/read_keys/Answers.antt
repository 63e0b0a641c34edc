use Rattle.std.proofs.Common.{sym, subst}
use Rattle.mtn_certs.specs.KeyTables.{IsKeyTable}
use Rattle.mtn_certs.proofs.KeyTexting.{is_table}
use Rattle.mtn_certs.proofs.key_reading.read_keys.Goals as goal

pub returns-clause-table : goal.returns-clause-table
returns-clause-table c = subst IsKeyTable (sym c.into_vec.ensures) (is_table c.in_ok-items.items c.in_ok-items.ensures.ok.lawful)

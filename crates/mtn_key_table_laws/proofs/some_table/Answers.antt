use Rattle.mtn_key_table_laws.proofs.Given as laws
use Rattle.mtn_key_table_laws.proofs.some_table.Goals as goal

pub returns : goal.returns
returns c = laws.some_table

use Rattle.mtn_roster_deltas.proofs.Spelling.{one_tree}
use Rattle.mtn_roster_deltas.proofs.laws.entries_spell_one.Goals as goal

pub returns : goal.returns
returns c = λ es t u a b. one_tree es t u a b

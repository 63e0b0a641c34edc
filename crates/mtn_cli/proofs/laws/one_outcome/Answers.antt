use Rattle.mtn_words.specs.Calls.{call_of}
use Rattle.mtn_cli.proofs.OutcomeLemmas.{one_of_words}
use Rattle.mtn_cli.proofs.laws.one_outcome.Goals as goal

pub returns : goal.returns
returns c f s words payload o p lawful is also = one_of_words c.one_migration.ensures f s (call_of words) payload o p lawful is also

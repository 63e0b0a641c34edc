use Rattle.mtn_entry_laws.proofs.LawfulEntries.{all_spell}
use Rattle.mtn_entry_laws.proofs.lawful_entries.Goals as goal

pub returns : goal.returns
returns c f files log h is r n e at = all_spell f files log h is r n e at

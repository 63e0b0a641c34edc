use Rattle.std.proofs.Common.{◌≡◌, true, false, sym, ap, ◌∙◌}
use Rattle.mtn_changes.proofs.OneValue.{no_revision_fault}
use Rattle.mtn_sending.specs.Sending.{is_wanting}
use Rattle.mtn_sending.proofs.texts.spelled.Goals as goal

pub returns-else-wants_memory-clause-sound : goal.returns-else-wants_memory-clause-sound
returns-else-wants_memory-clause-sound g c = λ r spells.
    absurd (let wants = no_revision_fault c.args.text.now r c.in-Err.error spells.stanzas spells.reads c.in-Err.ensures.err in let t : true ≡ false = sym (ap is_wanting wants) ∙ sym c.wants_memory.ensures ∙ c.if-wants_memory.false in cc)

use Rattle.std.proofs.Common.{◌≡◌, map}
use Rattle.std.proofs.lemmas.Result.{IfErr-weaker, IfOk-weaker}
use Rattle.mtn_basic_io.specs.Spelling.{AreStanzas}
use Rattle.mtn_changes.specs.declared.error.ChangeTextError.TheVariants.{NoMemory}
use Rattle.mtn_changes.specs.ChangesText.{AreChanges, IsChangesText, IsChangesFault}
use Rattle.mtn_changes.specs.Sorting.{IsSortedAs}
use Rattle.mtn_changes.specs.Stanzas.{stanza_of}
use Rattle.mtn_changes.proofs.ReadBack.{of_both, changes_back, changes_memory}
use Rattle.mtn_changes.proofs.laws.sorted_changes.Goals as goal

pub returns-clause-sorted : goal.returns-clause-sorted
returns-clause-sorted c =
    let text = c.as_slice.result.now in
    of_both c.read_changes.result (λ ds. IsChangesText text ds) (λ ds. AreStanzas (map stanza_of ds)) (λ ds. IsSortedAs c.args.changes.now ds)
    (λ ds is ok. changes_back c.new-text.result.items c.write_changes.new.out.items text c.new-text.ensures.items c.as_slice.ensures.value c.args.changes.now c.in_ok-write_changes.ensures.ok ds is ok)
    c.read_changes.ensures.ok c.read_changes.ensures.stanzas

pub returns-clause-lawful : goal.returns-clause-lawful
returns-clause-lawful c =
    let text = c.as_slice.result.now in
    IfOk-weaker c.read_changes.result (λ ds. IsChangesText text ds) (λ ds. AreChanges ds) (λ ds is. is.lawful) c.read_changes.ensures.ok

pub returns-clause-memory : goal.returns-clause-memory
returns-clause-memory c =
    let text = c.as_slice.result.now in
    IfErr-weaker c.read_changes.result (λ e. IsChangesFault text e) (λ e. e ≡ NoMemory)
    (λ e fault. changes_memory c.new-text.result.items c.write_changes.new.out.items text c.new-text.ensures.items c.as_slice.ensures.value c.args.changes.now c.in_ok-write_changes.ensures.ok e fault)
    c.read_changes.ensures.err

use Rattle.std.proofs.Common.{◌≡◌}
use Rattle.std.proofs.lemmas.Result.{IfErr-weaker, IfOk-weaker}
use Rattle.mtn_basic_io.specs.Spelling.{AreStanzas}
use Rattle.mtn_changes.specs.declared.error.ChangeTextError.TheVariants.{NoMemory}
use Rattle.mtn_changes.specs.RevisionText.{AreEdges, revision_stanzas, IsRevisionText, IsRevisionFault}
use Rattle.mtn_changes.specs.Sorting.{AreSortedAs}
use Rattle.mtn_changes.proofs.ReadBack.{of_both, manifest_back, edges_back, revision_memory}
use Rattle.mtn_changes.proofs.laws.sorted_revision.Goals as goal

pub returns-clause-manifest : goal.returns-clause-manifest
returns-clause-manifest c =
    let text = c.as_slice.result.now in
    of_both c.read_revision.result (λ s. IsRevisionText text s) (λ s. AreStanzas (revision_stanzas s)) (λ s. s.manifest ≡ c.args.revision.now.manifest)
    (λ s is ok. manifest_back c.new-text.result.items c.write_revision.new.out.items text c.new-text.ensures.items c.as_slice.ensures.value c.args.revision.now c.in_ok-write_revision.ensures.ok s is ok)
    c.read_revision.ensures.ok c.read_revision.ensures.stanzas

pub returns-clause-edges : goal.returns-clause-edges
returns-clause-edges c =
    let text = c.as_slice.result.now in
    of_both c.read_revision.result (λ s. IsRevisionText text s) (λ s. AreStanzas (revision_stanzas s)) (λ s. AreSortedAs c.args.revision.now.edges s.edges)
    (λ s is ok. edges_back c.new-text.result.items c.write_revision.new.out.items text c.new-text.ensures.items c.as_slice.ensures.value c.args.revision.now c.in_ok-write_revision.ensures.ok s is ok)
    c.read_revision.ensures.ok c.read_revision.ensures.stanzas

pub returns-clause-lawful : goal.returns-clause-lawful
returns-clause-lawful c =
    let text = c.as_slice.result.now in
    IfOk-weaker c.read_revision.result (λ s. IsRevisionText text s) (λ s. AreEdges s.edges) (λ s is. is.lawful) c.read_revision.ensures.ok

pub returns-clause-memory : goal.returns-clause-memory
returns-clause-memory c =
    let text = c.as_slice.result.now in
    IfErr-weaker c.read_revision.result (λ e. IsRevisionFault text e) (λ e. e ≡ NoMemory)
    (λ e fault. revision_memory c.new-text.result.items c.write_revision.new.out.items text c.new-text.ensures.items c.as_slice.ensures.value c.args.revision.now c.in_ok-write_revision.ensures.ok e fault)
    c.read_revision.ensures.err

use Rattle.std.proofs.Common.{rules}
use Rattle.mtn_changes.specs.RevisionText.{AreEdges}
use Rattle.mtn_changes.proofs.Sorted.{sorted_edges_lawful}
use Rattle.mtn_changes.proofs.writing.write_revision.Goals as goal

pub returns-clause-ok : goal.returns-clause-ok
returns-clause-ok c =
    let lawful : AreEdges c.in_ok-push_edges.ensures.sorted = sorted_edges_lawful c.args.revision.now.edges c.in_ok-push_edges.ensures.sorted c.requires (rw c.as_slice.ensures at c.in_ok-push_edges.ensures.are) in
    search rules

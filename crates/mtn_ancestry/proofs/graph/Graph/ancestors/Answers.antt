use Rattle.std.specs.Prelude.{Contains}
use Rattle.std.proofs.Common.{ℕ, List}
use Rattle.mtn_ancestry.specs.declared.pos.LogEntry.{LogEntry}
use Rattle.mtn_ancestry.specs.Ancestors.{IsProperAncestor}
use Rattle.mtn_ancestry.specs.Log.{parents_of}
use Rattle.mtn_ancestry.proofs.Answering.{set_answered}
use Rattle.mtn_ancestry.proofs.graph.Graph.ancestors.Goals as goal

pub returns : goal.returns
returns c =
    set_answered (λ (l : List LogEntry) (x : ℕ). (r : ℕ) × Contains c.args.of.now r × IsProperAncestor (parents_of l) x r)
    c.entries.result.now c.args.self.now c.in_ok-flags.flags.items c.deref.result.now c.in_ok-flagged.field-0.items c.new.result
    c.entries.ensures.value c.deref.ensures.value c.in_ok-flags.ensures.exact c.in_ok-flagged.ensures c.new.ensures

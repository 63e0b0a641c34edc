use Rattle.std.proofs.Common.{ℕ, List, sym, subst, ◌∙◌}
use Rattle.mtn_commands.proofs.ReplyLemmas.{performs_as, replies_as}
use Rattle.mtn_put_revision.specs.Reads.{IsBoundOf}
use Rattle.mtn_commands.proofs.perform.perform.Goals as goal

pub on_draft-requires-clause-other : goal.on_draft-requires-clause-other
on_draft-requires-clause-other g c = λ κs alive. c.in_default.not-Read

pub returns-in_default-clause-performs : goal.returns-in_default-clause-performs
returns-in_default-clause-performs g c = rw (sym c.as_slice-in_default.ensures) (performs_as _ _ _ _ _ _ _ _ _ _ _ c.on_draft.result c.whole-in_default.result c.whole-in_default.ensures c.on_draft.ensures.replies)

pub returns-in-Generate-clause-performs : goal.returns-in-Generate-clause-performs
returns-in-Generate-clause-performs g c = rw c.in-Generate.is c.generate.ensures.performs

pub returns-in-Read-clause-performs : goal.returns-in-Read-clause-performs
returns-in-Read-clause-performs g c = rw (c.in-Read.is, sym c.as_slice-in-Read.ensures) c.read.ensures.performs

pub returns-in-Read-clause-few_reads : goal.returns-in-Read-clause-few_reads
returns-in-Read-clause-few_reads g c = λ x s n told draft asks. absurd (let both = sym asks.0 ∙ c.in-Read.is in cc)

pub returns-in-Generate-clause-few_reads : goal.returns-in-Generate-clause-few_reads
returns-in-Generate-clause-few_reads g c = λ x s n told draft asks. absurd (let both = sym asks.0 ∙ c.in-Generate.is in cc)

pub on_draft-requires-clause-unput : goal.on_draft-requires-clause-unput
on_draft-requires-clause-unput g c = λ κs alive. c.in_default.not-PutRevision

pub returns-in-PutRevision-clause-performs : goal.returns-in-PutRevision-clause-performs
returns-in-PutRevision-clause-performs g c = rw (c.in-PutRevision.is, sym c.as_slice.ensures) (performs_as _ _ _ _ _ _ _ _ _ _ _ c.told-in-PutRevision.result c.whole-in-PutRevision.result c.whole-in-PutRevision.ensures
    (replies_as _ _ _ _ _ _ _ _ _ _ c.put_revision.result c.told-in-PutRevision.result c.told-in-PutRevision.ensures c.put_revision.ensures.drafts))

pub returns-in-PutRevision-clause-few_reads : goal.returns-in-PutRevision-clause-few_reads
returns-in-PutRevision-clause-few_reads g c = λ x s n told draft asks. c.put_revision.ensures.reads x s n told draft
    (subst (λ (p : List ℕ). IsBoundOf 38 (g.I.Ident.meaning c.args.ident.now) s p n) (sym c.as_slice.ensures) asks.1)

pub returns-in_default-clause-few_reads : goal.returns-in_default-clause-few_reads
returns-in_default-clause-few_reads g c = λ x s n told draft asks. absurd (c.in_default.not-PutRevision asks.0)

pub returns-in-PutFile-clause-performs : goal.returns-in-PutFile-clause-performs
returns-in-PutFile-clause-performs g c = rw c.in-PutFile.is (performs_as _ _ _ _ _ _ _ _ _ _ _ c.told.result c.whole.result c.whole.ensures (replies_as _ _ _ _ _ _ _ _ _ _ c.put_file.result c.told.result c.told.ensures c.put_file.ensures.drafts))

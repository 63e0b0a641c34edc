-- Each command by its own clause.
use Rattle.mtn_commands.proofs.on_draft.answered.Goals as goal

pub returns-in-GetFile-clause-drafts : goal.returns-in-GetFile-clause-drafts
returns-in-GetFile-clause-drafts g c = rw c.in-GetFile.is c.get_file.ensures.drafts

pub returns-in-GetRevision-clause-drafts : goal.returns-in-GetRevision-clause-drafts
returns-in-GetRevision-clause-drafts g c = rw c.in-GetRevision.is c.get_revision.ensures.drafts

pub returns-in-GetManifestOf-clause-drafts : goal.returns-in-GetManifestOf-clause-drafts
returns-in-GetManifestOf-clause-drafts g c = rw c.in-GetManifestOf.is c.get_manifest_of.ensures.drafts

pub returns-in-GetRoster-clause-drafts : goal.returns-in-GetRoster-clause-drafts
returns-in-GetRoster-clause-drafts g c = rw c.in-GetRoster.is c.get_roster.ensures.drafts

pub returns-in-GetContentChanged-clause-drafts : goal.returns-in-GetContentChanged-clause-drafts
returns-in-GetContentChanged-clause-drafts g c = rw c.in-GetContentChanged.is c.get_content_changed.ensures.drafts

pub returns-in-GetCorrespondingPath-clause-drafts : goal.returns-in-GetCorrespondingPath-clause-drafts
returns-in-GetCorrespondingPath-clause-drafts g c = rw c.in-GetCorrespondingPath.is c.get_corresponding_path.ensures.drafts

pub returns-in-Ask-clause-drafts : goal.returns-in-Ask-clause-drafts
returns-in-Ask-clause-drafts g c = rw c.in-Ask.is c.ask.ensures.drafts

pub returns-in-Graph-clause-drafts : goal.returns-in-Graph-clause-drafts
returns-in-Graph-clause-drafts g c = rw c.in-Graph.is c.graph.ensures.drafts

pub returns-in-ShowConflicts-clause-drafts : goal.returns-in-ShowConflicts-clause-drafts
returns-in-ShowConflicts-clause-drafts g c = rw c.in-ShowConflicts.is c.show_conflicts.ensures.drafts

pub returns-in-Cert-clause-drafts : goal.returns-in-Cert-clause-drafts
returns-in-Cert-clause-drafts g c = rw c.in-Cert.is c.cert.ensures.drafts

pub returns-in-Certs-clause-drafts : goal.returns-in-Certs-clause-drafts
returns-in-Certs-clause-drafts g c = rw c.in-Certs.is c.certs.ensures.drafts

pub returns-in-Key-clause-drafts : goal.returns-in-Key-clause-drafts
returns-in-Key-clause-drafts g c = rw c.in-Key.is c.key.ensures.drafts

pub returns-in-Heads-clause-drafts : goal.returns-in-Heads-clause-drafts
returns-in-Heads-clause-drafts g c = rw c.in-Heads.is c.heads.ensures.drafts

pub returns-in-Branches-clause-drafts : goal.returns-in-Branches-clause-drafts
returns-in-Branches-clause-drafts g c = rw c.in-Branches.is c.branches.ensures.drafts

pub returns-in-Commit-clause-drafts : goal.returns-in-Commit-clause-drafts
returns-in-Commit-clause-drafts g c = rw c.in-Commit.is c.commit.ensures.drafts

pub returns-in-Packets-clause-drafts : goal.returns-in-Packets-clause-drafts
returns-in-Packets-clause-drafts g c = rw c.in-Packets.is c.packets.ensures.drafts

pub unreachable-requires-in-Read : goal.unreachable-requires-in-Read
unreachable-requires-in-Read g c = c.requires.other c.in-Read.is

pub unreachable-requires-in-PutFile : goal.unreachable-requires-in-PutFile
unreachable-requires-in-PutFile g c = c.requires.unkept c.in-PutFile.is

pub unreachable-requires-in-PutRevision : goal.unreachable-requires-in-PutRevision
unreachable-requires-in-PutRevision g c = c.requires.unput c.in-PutRevision.is

pub unreachable-requires-in-Generate : goal.unreachable-requires-in-Generate
unreachable-requires-in-Generate g c = c.requires.ungenerated c.in-Generate.count c.in-Generate.is

pub unreachable-requires-in-Check : goal.unreachable-requires-in-Check
unreachable-requires-in-Check g c = c.requires.unchecked c.in-Check.is

pub unreachable-requires-in-Migrate : goal.unreachable-requires-in-Migrate
unreachable-requires-in-Migrate g c = c.requires.unmigrated c.in-Migrate.is

pub unreachable-requires : goal.unreachable-requires
unreachable-requires g c = c.requires.unmerged c.in-Merge.a c.in-Merge.b c.in-Merge.resolves c.in-Merge.is

pub unreachable-requires-in-MergeHeads : goal.unreachable-requires-in-MergeHeads
unreachable-requires-in-MergeHeads g c = c.requires.unled c.in-MergeHeads.branch c.in-MergeHeads.author c.in-MergeHeads.date c.in-MergeHeads.key c.in-MergeHeads.resolves c.in-MergeHeads.is

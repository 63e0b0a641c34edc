use Rattle.std.proofs.Common.{◌+◌, ◌++◌, ◌∷◌, [], List, length, ap, ◌∙◌, rules}
use Rattle.mtn_changes.specs.declared.change.Change.{Change}
use Rattle.mtn_changes.specs.declared.change.Edge.{Edge}
use Rattle.mtn_changes.specs.RevisionText.{IsStanzasFault}
use Rattle.mtn_changes.proofs.Edges.{first_fault, second_fault, two_ok}
use Rattle.mtn_changes.proofs.revision.revision_of.Goals as goal

pub returns-in_err-changes-clause-err : goal.returns-in_err-changes-clause-err
returns-in_err-changes-clause-err c =
    let f : IsStanzasFault c.args.stanzas.now c.in_err-changes.field-0.0 = first_fault c.args.stanzas.now c.in_ok-manifest.field-0.manifest c.in_ok-manifest.field-0.parent c.in_err-changes.field-0.0 c.in_ok-manifest.ensures.ok c.in_err-changes.ensures.err in
    search rules

pub returns-in_err-second_of-clause-err : goal.returns-in_err-second_of-clause-err
returns-in_err-second_of-clause-err c =
    let f : IsStanzasFault c.args.stanzas.now c.in_err-second_of.field-0.0 =
    second_fault c.args.stanzas.now c.in_ok-manifest.field-0.manifest c.in_ok-manifest.field-0.parent c.in-Some.next c.in_ok-changes.field-0.changes c.in_ok-changes.field-0.next (3 + length c.as_slice.result.now) c.in_err-second_of.field-0.0 c.in_ok-manifest.ensures.ok c.in-Some.is c.in_ok-changes.ensures.ok (ap (λ (l : List Change). 3 + length l) c.as_slice.ensures) c.in_err-second_of.ensures.err in
    search rules

pub returns-clause-ok : goal.returns-clause-ok
returns-clause-ok c =
    let e1 : Edge = record { parent = c.in_ok-manifest.field-0.parent; changes = c.in_ok-changes.field-0.changes } in
    let e2 : Edge = c.in_ok-second_of.field-0 in
    two_ok c.args.stanzas.now c.in_ok-manifest.field-0.manifest c.in_ok-manifest.field-0.parent c.in-Some.next c.in_ok-changes.field-0.changes c.in_ok-changes.field-0.next (3 + length c.as_slice.result.now) e2 c.push-2.new.self c.in_ok-manifest.ensures.ok c.in-Some.is c.in_ok-changes.ensures.ok (ap (λ (l : List Change). 3 + length l) c.as_slice.ensures) c.in_ok-second_of.ensures.ok (c.in_ok-push-2.ensures.ok ∙ ap (λ (l : List Edge). l ++ e2 ∷ []) (c.in_ok-push.ensures.ok ∙ ap (λ (l : List Edge). l ++ e1 ∷ []) c.new-edges.ensures))

-- The first refusal of the text.
use Rattle.std.proofs.Common.{◌≡◌, ◌∙◌, true, false, List, sym, subst, ◌≤◌, ◌+◌, length}
use Rattle.std.specs.Prelude.{find, is_none}
use Rattle.std.specs.FinMap.{get}
use Rattle.mtn_base.specs.declared.id.Id.{Id}
use Rattle.mtn_changes.specs.declared.change.Edge.{Edge}
use Rattle.mtn_replay.specs.Making.{new_contents}
use Rattle.mtn_put_revision.proofs.Refusing.{unheld, differs, fine, not_same}
use Rattle.mtn_put_revision.proofs.Counting.{looks_most, looks_none}
use Rattle.mtn_put_revision.proofs.tree.accept_tree.Goals as goal

pub returns-in-Some-clause-refused : goal.returns-in-Some-clause-refused
returns-in-Some-clause-refused g c = λ s d.
    unheld (g.I.Ident.meaning c.args.ident.now) s.files c.args.read.now c.args.made.now.tree c.in-Some.id (sym c.in-Some.is ∙ subst (λ (es : List Edge). c.in_ok-id.field-0 ≡ find (λ (i : Id). is_none (get s.files i.0)) (new_contents es)) c.as_slice.ensures (c.in_ok-id.ensures.found (g.I.Ident.meaning c.args.ident.now) s d))

pub returns-then-ne-clause-refused : goal.returns-then-ne-clause-refused
returns-then-ne-clause-refused g c = λ s d.
    differs (g.I.Ident.meaning c.args.ident.now) s.files c.args.read.now c.args.made.now.tree c.in_ok-computed.computed (sym c.in_default.is ∙ subst (λ (es : List Edge). c.in_ok-id.field-0 ≡ find (λ (i : Id). is_none (get s.files i.0)) (new_contents es)) c.as_slice.ensures (c.in_ok-id.ensures.found (g.I.Ident.meaning c.args.ident.now) s d))
    c.in_ok-computed.ensures (not_same c.in_ok-computed.computed c.args.read.now.manifest c.ne.result true c.ne.ensures c.if-ne.true)

pub returns-clause-fine : goal.returns-clause-fine
returns-clause-fine g c = λ s d.
    fine (g.I.Ident.meaning c.args.ident.now) s.files c.args.read.now c.args.made.now.tree c.in_ok-computed.computed (sym c.in_default.is ∙ subst (λ (es : List Edge). c.in_ok-id.field-0 ≡ find (λ (i : Id). is_none (get s.files i.0)) (new_contents es)) c.as_slice.ensures (c.in_ok-id.ensures.found (g.I.Ident.meaning c.args.ident.now) s d))
    c.in_ok-computed.ensures (not_same c.in_ok-computed.computed c.args.read.now.manifest c.ne.result false c.ne.ensures c.if-ne.false)

pub returns-in_err-id-clause-reads : goal.returns-in_err-id-clause-reads
returns-in_err-id-clause-reads g c = λ f s d ids. subst (λ (es : List Edge). g.K.Keeper.reads c.unknown_content.new.draft.keeper.now ≤ g.K.Keeper.reads c.args.draft.now.keeper.now + (length (new_contents es) + 1)) c.as_slice.ensures (looks_most (g.K.Keeper.reads c.args.draft.now.keeper.now) (g.K.Keeper.reads c.unknown_content.new.draft.keeper.now) _ c.unknown_content.result (c.unknown_content.ensures.reads f s d ids))

pub returns-in-Some-clause-reads : goal.returns-in-Some-clause-reads
returns-in-Some-clause-reads g c = λ f s d ids. subst (λ (es : List Edge). g.K.Keeper.reads c.unknown_content.new.draft.keeper.now ≤ g.K.Keeper.reads c.args.draft.now.keeper.now + (length (new_contents es) + 1)) c.as_slice.ensures (looks_most (g.K.Keeper.reads c.args.draft.now.keeper.now) (g.K.Keeper.reads c.unknown_content.new.draft.keeper.now) _ c.unknown_content.result (c.unknown_content.ensures.reads f s d ids))

pub returns-in_err-computed-clause-reads : goal.returns-in_err-computed-clause-reads
returns-in_err-computed-clause-reads g c = λ f s d ids. subst (λ (es : List Edge). g.K.Keeper.reads c.unknown_content.new.draft.keeper.now ≤ g.K.Keeper.reads c.args.draft.now.keeper.now + (length (new_contents es) + 1)) c.as_slice.ensures (looks_most (g.K.Keeper.reads c.args.draft.now.keeper.now) (g.K.Keeper.reads c.unknown_content.new.draft.keeper.now) _ c.unknown_content.result (c.unknown_content.ensures.reads f s d ids))

pub returns-then-ne-clause-reads : goal.returns-then-ne-clause-reads
returns-then-ne-clause-reads g c = λ f s d ids. subst (λ (es : List Edge). g.K.Keeper.reads c.unknown_content.new.draft.keeper.now ≤ g.K.Keeper.reads c.args.draft.now.keeper.now + (length (new_contents es) + 1)) c.as_slice.ensures (looks_most (g.K.Keeper.reads c.args.draft.now.keeper.now) (g.K.Keeper.reads c.unknown_content.new.draft.keeper.now) _ c.unknown_content.result (c.unknown_content.ensures.reads f s d ids))

pub returns-clause-reads : goal.returns-clause-reads
returns-clause-reads g c = λ f s d ids. subst (λ (es : List Edge). g.K.Keeper.reads c.unknown_content.new.draft.keeper.now ≤ g.K.Keeper.reads c.args.draft.now.keeper.now + (length (new_contents es) + 1)) c.as_slice.ensures (looks_most (g.K.Keeper.reads c.args.draft.now.keeper.now) (g.K.Keeper.reads c.unknown_content.new.draft.keeper.now) _ c.unknown_content.result (c.unknown_content.ensures.reads f s d ids))

pub returns-clause-few : goal.returns-clause-few
returns-clause-few g c = λ f s d ids.
    subst (λ (es : List Edge). g.K.Keeper.reads c.unknown_content.new.draft.keeper.now ≤ g.K.Keeper.reads c.args.draft.now.keeper.now + length (new_contents es)) c.as_slice.ensures
    (looks_none (g.K.Keeper.reads c.args.draft.now.keeper.now) (g.K.Keeper.reads c.unknown_content.new.draft.keeper.now) _ c.in_ok-id.field-0 c.in_default.is (c.in_ok-id.ensures.reads f s d ids))

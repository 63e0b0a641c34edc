-- Where the text spells nothing, or nothing is stored so, the job differs.
use Rattle.std.proofs.Common.{List, ℕ, sym, ◌∙◌, subst}
use Rattle.mtn_changes.specs.declared.change.Edge.{Edge}
use Rattle.mtn_check_pieces.specs.Verdict.{IsOneOf, IsRevisionOf, IsStoredWith}
use Rattle.mtn_check_pieces.proofs.Answering.{differs, none_at, some_at}
use Rattle.mtn_check_pieces.proofs.verdict.check_one.Goals as goal

pub returns-in_default : goal.returns-in_default
returns-in_default c = λ g. none_at (IsRevisionOf c.args.job.now.text) c.in_ok-revision.field-0 c.in_default.is (subst (λ (t : List ℕ). IsOneOf (IsRevisionOf t) c.in_ok-revision.field-0) c.as_slice.ensures c.in_ok-revision.ensures) g.revision g.read

pub returns : goal.returns
returns c =
    let job = c.args.job.now in
    let read = some_at (IsRevisionOf job.text) c.in_ok-revision.field-0 c.in-Some.revision c.in-Some.is (subst (λ (t : List ℕ). IsOneOf (IsRevisionOf t) c.in_ok-revision.field-0) c.as_slice.ensures c.in_ok-revision.ensures) in
    let one = subst (λ (es : List Edge). IsOneOf (IsStoredWith job es job.parents) c.in_ok-over_parents.field-0) c.as_slice-2.ensures c.in_ok-over_parents.ensures in
    differs job c.in-Some.revision read c.in_ok-over_parents.field-0 (sym c.is_some.ensures ∙ c.if-is_some.false) one

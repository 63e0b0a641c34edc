-- What was found says what holds of the position; where nothing is spelled, the job differs.
use Rattle.std.proofs.Common.{List, ℕ, subst}
use Rattle.mtn_make_roster.proofs.Told.{ok_then}
use Rattle.mtn_check_pieces.specs.Verdict.{IsOneOf, IsRevisionOf, IsWholeOf}
use Rattle.mtn_check_pieces.proofs.Answering.{none_at, some_at}
use Rattle.mtn_check_records.proofs.Leading.{found_fits}
use Rattle.mtn_check_records.proofs.fit.fits.Goals as goal

pub returns-in_default : goal.returns-in_default
returns-in_default g c = λ d r front walked low at a.
    none_at (IsRevisionOf c.args.job.now.text) c.in_ok-revision.field-0 c.in_default.is (subst (λ (t : List ℕ). IsOneOf (IsRevisionOf t) c.in_ok-revision.field-0) c.as_slice.ensures c.in_ok-revision.ensures) a.revision a.read

pub returns-in_default-2 : goal.returns-in_default-2
returns-in_default-2 g c = λ d r front walked low at a.
    none_at (IsWholeOf c.args.job.now.stored) c.in_ok-stored.field-0 c.in_default-2.is c.in_ok-stored.ensures a.stored a.spelled

pub found-requires-clause-read : goal.found-requires-clause-read
found-requires-clause-read g c κs within =
    some_at (IsRevisionOf c.args.job.now.text) c.in_ok-revision.field-0 c.in-Some.revision c.in-Some.is (subst (λ (t : List ℕ). IsOneOf (IsRevisionOf t) c.in_ok-revision.field-0) c.as_slice.ensures c.in_ok-revision.ensures)

pub found-requires-clause-spelled : goal.found-requires-clause-spelled
found-requires-clause-spelled g c κs within = some_at (IsWholeOf c.args.job.now.stored) c.in_ok-stored.field-0 c.in-Some-2.stored c.in-Some-2.is c.in_ok-stored.ensures

pub returns : goal.returns
returns g c = ok_then c.found.result _ _ (λ fit is. found_fits (g.I.Ident.meaning c.args.ident.now) c.args.position.now c.args.job.now fit is) c.found.ensures

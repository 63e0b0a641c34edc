use Rattle.std.proofs.Common.{subst, refl}
use Rattle.std.specs.Prelude.{option_copied}
use Rattle.std.proofs.lemmas.Result.{err_from_is_err_and}
use Rattle.mtn_base.specs.Paths.{FirstPiece}
use Rattle.mtn_base.proofs.PathLemmas.{piece_fault, fault_at, taken_more, all_lawful, all_taken}
use Rattle.mtn_base.proofs.path.push_pieces.Goals as goal

pub returns-in_err-push_piece-clause-err : goal.returns-in_err-push_piece-clause-err
returns-in_err-push_piece-clause-err c =
    let p = err_from_is_err_and c.from_residual.result c.from_residual.ensures.1 in
    rw (p.1, p.2) (fault_at c.in_err-push_piece.field-0.0 _ _ _ _ c.loop-more.invariant (piece_fault c.in_err-push_piece.field-0.0 c.loop-more.rest.now c.first_piece.result.0.now _ c.first_piece.ensures c.in_err-push_piece.ensures.err))

pub loop-more-preserved : goal.loop-more-preserved
loop-more-preserved c =
    let first = subst (λ o. FirstPiece c.loop-more.rest.now c.first_piece.result.0.now (option_copied o)) c.in-Some.is c.first_piece.ensures in
    taken_more _ _ _ _ _ _ _ _ c.loop-more.invariant first.0 refl c.in_ok-push_piece.ensures.lawful c.in_ok-push_piece.ensures.ok

pub returns-in-None-clause-lawful : goal.returns-in-None-clause-lawful
returns-in-None-clause-lawful c =
    let first = subst (λ o. FirstPiece c.loop-more.rest.now c.first_piece.result.0.now (option_copied o)) c.in-None.is c.first_piece.ensures in
    all_lawful _ _ _ _ _ c.loop-more.invariant first c.in_ok-push_piece.ensures.lawful

pub returns-in-None-clause-ok : goal.returns-in-None-clause-ok
returns-in-None-clause-ok c =
    let first = subst (λ o. FirstPiece c.loop-more.rest.now c.first_piece.result.0.now (option_copied o)) c.in-None.is c.first_piece.ensures in
    all_taken _ _ _ _ _ _ c.loop-more.invariant first c.in_ok-push_piece.ensures.ok

-- A text with a fault spells no revision.
use Rattle.std.proofs.Common.{◌≡◌, true}
use Rattle.mtn_check_pieces.proofs.Answering.{unread}
use Rattle.mtn_check_pieces.proofs.reading.revision_of.Goals as goal

pub returns-else-is_want : goal.returns-else-is_want
returns-else-is_want c =
    unread c.args.text.now c.in-Err.error (λ e. let same : c.is_want.result ≡ true = c.is_want.ensures.1 e in let other = c.if-is_want.false in cc) c.in-Err.ensures.err

use Rattle.std.proofs.Common.{arith, ◌∷◌, []}
use Rattle.mtn_make_roster.proofs.Told.{ok_then, two_are, once_two}
use Rattle.mtn_check_pieces.specs.Verdict.{IsWholeOf}
use Rattle.mtn_check_pieces.proofs.Answering.{some_at, over_records}
use Rattle.mtn_check_pieces.proofs.verdict.over_two.Goals as goal

pub on_merge-requires-clause-first : goal.on_merge-requires-clause-first
on_merge-requires-clause-first c =
    let are = two_are c.args.edges.now c.first-item.result c.second-item.result (omega (arith, c.in-len2.len_at_least, c.in-len2.len_below)) c.first-item.is c.second-item.is in
    (once_two c.args.edges.now c.first-item.result c.second-item.result are c.requires).0

pub on_merge-requires-clause-second : goal.on_merge-requires-clause-second
on_merge-requires-clause-second c =
    let are = two_are c.args.edges.now c.first-item.result c.second-item.result (omega (arith, c.in-len2.len_at_least, c.in-len2.len_below)) c.first-item.is c.second-item.is in
    (once_two c.args.edges.now c.first-item.result c.second-item.result are c.requires).1

pub returns : goal.returns
returns c =
    let are = two_are c.args.edges.now c.first-item.result c.second-item.result (omega (arith, c.in-len2.len_at_least, c.in-len2.len_below)) c.first-item.is c.second-item.is in
    let ours = some_at (IsWholeOf c.args.left.now) c.in_ok-ours.field-0 c.in-Some.ours c.in-Some.is c.in_ok-ours.ensures in
    let theirs = some_at (IsWholeOf c.args.right.now) c.in_ok-theirs.field-0 c.in-Some-2.theirs c.in-Some-2.is c.in_ok-theirs.ensures in
    ok_then c.on_merge.result _ _ (over_records c.args.job.now c.args.edges.now (c.first-item.result ∷ c.second-item.result ∷ []) are
    (c.args.left.now ∷ c.args.right.now ∷ []) (c.in-Some.ours ∷ c.in-Some-2.theirs ∷ []) (ours, (theirs, tt))) c.on_merge.ensures

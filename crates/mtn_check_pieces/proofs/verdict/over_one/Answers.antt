use Rattle.std.proofs.Common.{arith, ◌∷◌, []}
use Rattle.mtn_make_roster.proofs.Told.{ok_then, one_is, once_one}
use Rattle.mtn_check_pieces.specs.Verdict.{IsWholeOf}
use Rattle.mtn_check_pieces.proofs.Answering.{some_at, over_records}
use Rattle.mtn_check_pieces.proofs.verdict.over_one.Goals as goal

pub on_child-requires : goal.on_child-requires
on_child-requires c =
    let is = one_is c.args.edges.now c.edge-item.result (omega (arith, c.in-len1.len_at_least, c.in-len1.len_below)) c.edge-item.is in
    once_one c.args.edges.now c.edge-item.result is c.requires

pub returns : goal.returns
returns c =
    let is = one_is c.args.edges.now c.edge-item.result (omega (arith, c.in-len1.len_at_least, c.in-len1.len_below)) c.edge-item.is in
    let spelled = some_at (IsWholeOf c.args.parent.now) c.in_ok-roster.field-0 c.in-Some.roster c.in-Some.is c.in_ok-roster.ensures in
    ok_then c.on_child.result _ _ (over_records c.args.job.now c.args.edges.now (c.edge-item.result ∷ []) is (c.args.parent.now ∷ []) (c.in-Some.roster ∷ []) (spelled, tt)) c.on_child.ensures

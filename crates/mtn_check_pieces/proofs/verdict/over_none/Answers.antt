use Rattle.std.proofs.Common.{arith}
use Rattle.mtn_make_roster.proofs.Told.{one_is, once_one}
use Rattle.mtn_check_pieces.proofs.verdict.over_none.Goals as goal

pub on_root-requires : goal.on_root-requires
on_root-requires c =
    let is = one_is c.args.edges.now c.edge-item.result (omega (arith, c.in-len1.len_at_least, c.in-len1.len_below)) c.edge-item.is in
    once_one c.args.edges.now c.edge-item.result is c.requires

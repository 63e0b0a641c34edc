use Rattle.std.proofs.Common.{◌<◌, length, inr, arith}
use Rattle.mtn_changes.proofs.Fronts.{some, wrong1, wrong2, wrong3, early1, early2}
use Rattle.mtn_changes.proofs.opening.opening_of.Goals as goal

pub returns-in-Err-clause-err : goal.returns-in-Err-clause-err
returns-in-Err-clause-err c =
    let lt : 0 < length c.args.stanzas.now = some c.args.stanzas.now c.is_empty.result c.is_empty.ensures c.if-is_empty.false in
    wrong1 c.args.stanzas.now c.index-stanzas-0.result c.in-Err.fault c.numbered.result (omega arith) c.index-stanzas-0.is c.in-Err.ensures.err c.numbered.ensures

pub returns-then-stanzas-eq1-clause-err : goal.returns-then-stanzas-eq1-clause-err
returns-then-stanzas-eq1-clause-err c = inr (early1 c.args.stanzas.now c.index-stanzas-0.result (omega arith) c.index-stanzas-0.is c.in_default.ensures.ok)

pub returns-in-Err-manifest_at-clause-err : goal.returns-in-Err-manifest_at-clause-err
returns-in-Err-manifest_at-clause-err c =
    let lt : 0 < length c.args.stanzas.now = some c.args.stanzas.now c.is_empty.result c.is_empty.ensures c.if-is_empty.false in
    wrong2 c.args.stanzas.now c.index-stanzas-0.result c.index-stanzas-1.result c.in-Err-manifest_at.fault c.numbered-in-Err-manifest_at.result (omega arith) c.index-stanzas-0.is c.index-stanzas-1.is c.in_default.ensures.ok c.in-Err-manifest_at.ensures.err c.numbered-in-Err-manifest_at.ensures

pub returns-then-stanzas-eq2-clause-err : goal.returns-then-stanzas-eq2-clause-err
returns-then-stanzas-eq2-clause-err c =
    inr (early2 c.args.stanzas.now c.index-stanzas-0.result c.index-stanzas-1.result c.in-Ok.id (omega arith) c.index-stanzas-0.is c.index-stanzas-1.is c.in_default.ensures.ok c.in-Ok.ensures.ok)

pub returns-in-Err-parent_at-clause-err : goal.returns-in-Err-parent_at-clause-err
returns-in-Err-parent_at-clause-err c =
    let lt : 0 < length c.args.stanzas.now = some c.args.stanzas.now c.is_empty.result c.is_empty.ensures c.if-is_empty.false in
    wrong3 c.args.stanzas.now c.index-stanzas-0.result c.index-stanzas-1.result c.index-stanzas-2.result c.in-Ok.id c.in-Err-parent_at.fault c.numbered-in-Err-parent_at.result (omega arith) c.index-stanzas-0.is c.index-stanzas-1.is c.index-stanzas-2.is c.in_default.ensures.ok c.in-Ok.ensures.ok c.in-Err-parent_at.ensures.err c.numbered-in-Err-parent_at.ensures

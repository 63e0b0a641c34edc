-- One edge over its parent's tree, and two edges with the joining of their trees.
use Rattle.std.proofs.Common.{[], arith, refl}
use Rattle.std.proofs.lemmas.Result.{err_from_is_err_and}
use Rattle.mtn_changes.specs.declared.change.Edge.{Edge}
use Rattle.mtn_make_roster.proofs.Told.{ok_then, on_ok_then, err_then, one_is, two_are, once_one, once_two, root_old, parent_old, one_tree, one_cause, left_cause, right_cause, two_tree, join_cause_is, join_none_is}
use Rattle.mtn_make_roster.proofs.making.tree_of_edges.Goals as goal

pub edge_tree-requires : goal.edge_tree-requires
edge_tree-requires c =
    let is = one_is c.args.edges.now c.edge-item.result (omega (arith, c.in-len1.len_at_least, c.in-len1.len_below)) c.edge-item.is in
    once_one c.args.edges.now c.edge-item.result is c.requires

pub edge_tree-requires-in-len1-edges : goal.edge_tree-requires-in-len1-edges
edge_tree-requires-in-len1-edges c =
    let e : Edge = c.edge-item-then-edges-lt2-2.result in
    let is = one_is c.args.edges.now e (omega (arith, c.in-len1-edges.len_at_least, c.in-len1-edges.len_below)) c.edge-item-then-edges-lt2-2.is in
    once_one c.args.edges.now e is c.requires

pub edge_tree-requires-in-len2 : goal.edge_tree-requires-in-len2
edge_tree-requires-in-len2 c =
    let are = two_are c.args.edges.now c.first-item.result c.second-item.result (omega (arith, c.in-len2.len_at_least, c.in-len2.len_below)) c.first-item.is c.second-item.is in
    (once_two c.args.edges.now c.first-item.result c.second-item.result are c.requires).0

pub edge_tree-requires-in-len2-2 : goal.edge_tree-requires-in-len2-2
edge_tree-requires-in-len2-2 c =
    let are = two_are c.args.edges.now c.first-item.result c.second-item.result (omega (arith, c.in-len2.len_at_least, c.in-len2.len_below)) c.first-item.is c.second-item.is in
    (once_two c.args.edges.now c.first-item.result c.second-item.result are c.requires).1

pub returns-in-len1-clause-tree : goal.returns-in-len1-clause-tree
returns-in-len1-clause-tree c =
    let e : Edge = c.edge-item.result in
    let is = one_is c.args.edges.now e (omega (arith, c.in-len1.len_at_least, c.in-len1.len_below)) c.edge-item.is in
    ok_then c.edge_tree.result _ _ (λ t at h u. one_tree c.args.edges.now e c.args.new is h [] (root_old c.args.edges.now e c.args.basis.now c.args.new is h u c.in-Root.is) t at) c.edge_tree.ensures.ok

pub returns-in_err-left-in-len2-clause-err : goal.returns-in_err-left-in-len2-clause-err
returns-in_err-left-in-len2-clause-err c =
    let e : Edge = c.first-item.result in
    let f : Edge = c.second-item.result in
    let are = two_are c.args.edges.now e f (omega (arith, c.in-len2.len_at_least, c.in-len2.len_below)) c.first-item.is c.second-item.is in
    let p = err_from_is_err_and c.from_residual.result c.from_residual.ensures.1 in
    rw (p.1, p.2) (λ h u. left_cause c.args.edges.now e f c.args.basis.now c.args.new c.in-Two.left c.in-Two.right c.in-Two.only_left c.in-Two.only_right are c.in-Two.is c.requires
    c.roster-in-len2.result.now c.in-Two.right.now.tree c.roster-in-len2.ensures.tree refl h u c.in_err-left-in-len2.field-0.0 c.in_err-left-in-len2.ensures.err)

pub returns-in-len1-edges-clause-err : goal.returns-in-len1-edges-clause-err
returns-in-len1-edges-clause-err c =
    let e : Edge = c.edge-item-then-edges-lt2-2.result in
    let is = one_is c.args.edges.now e (omega (arith, c.in-len1-edges.len_at_least, c.in-len1-edges.len_below)) c.edge-item-then-edges-lt2-2.is in
    err_then c.edge_tree-in-len1-edges.result _ _ (λ err why h u. one_cause c.args.edges.now e c.args.new is h c.roster.result.now
    (parent_old c.args.edges.now e c.args.basis.now c.args.new is h u c.in-One.parent c.roster.result.now c.roster.ensures.tree c.in-One.is) err why) c.edge_tree-in-len1-edges.ensures.err

pub returns-in_err-right-in-len2-clause-err : goal.returns-in_err-right-in-len2-clause-err
returns-in_err-right-in-len2-clause-err c =
    let e : Edge = c.first-item.result in
    let f : Edge = c.second-item.result in
    let are = two_are c.args.edges.now e f (omega (arith, c.in-len2.len_at_least, c.in-len2.len_below)) c.first-item.is c.second-item.is in
    let p = err_from_is_err_and c.from_residual-in_err-right-in-len2.result c.from_residual-in_err-right-in-len2.ensures.1 in
    rw (p.1, p.2) (λ h u. right_cause c.args.edges.now e f c.args.basis.now c.args.new c.in-Two.left c.in-Two.right c.in-Two.only_left c.in-Two.only_right are c.in-Two.is c.requires
    c.roster-in-len2.result.now c.roster-in-len2-2.result.now c.roster-in-len2.ensures.tree c.roster-in-len2-2.ensures.tree h u
    c.in_ok-left-in-len2.ensures.fine c.in_err-right-in-len2.field-0.0 c.in_err-right-in-len2.ensures.err)

pub returns-in_ok-right-in-len2-clause-tree : goal.returns-in_ok-right-in-len2-clause-tree
returns-in_ok-right-in-len2-clause-tree c =
    let e : Edge = c.first-item.result in
    let f : Edge = c.second-item.result in
    let are = two_are c.args.edges.now e f (omega (arith, c.in-len2.len_at_least, c.in-len2.len_below)) c.first-item.is c.second-item.is in
    ok_then c.joined_tree.result _ _ (λ t at h u. two_tree c.args.edges.now e f c.args.basis.now c.args.new c.in-Two.left c.in-Two.right c.in-Two.only_left c.in-Two.only_right are c.in-Two.is c.requires
    c.roster-in-len2.result.now c.roster-in-len2-2.result.now c.roster-in-len2.ensures.tree c.roster-in-len2-2.ensures.tree h u
    c.in_ok-left-in-len2.left c.in_ok-right-in-len2.right c.in_ok-left-in-len2.ensures.ok c.in_ok-right-in-len2.ensures.ok t at) c.joined_tree.ensures.ok

pub returns-in_ok-right-in-len2-clause-fine : goal.returns-in_ok-right-in-len2-clause-fine
returns-in_ok-right-in-len2-clause-fine c =
    let e : Edge = c.first-item.result in
    let f : Edge = c.second-item.result in
    let are = two_are c.args.edges.now e f (omega (arith, c.in-len2.len_at_least, c.in-len2.len_below)) c.first-item.is c.second-item.is in
    on_ok_then c.joined_tree.result _ _ (λ none h u. join_none_is c.args.edges.now e f c.args.basis.now c.args.new c.in-Two.left c.in-Two.right c.in-Two.only_left c.in-Two.only_right are c.in-Two.is c.requires
    c.roster-in-len2.result.now c.roster-in-len2-2.result.now c.roster-in-len2.ensures.tree c.roster-in-len2-2.ensures.tree h u
    c.in_ok-left-in-len2.left c.in_ok-right-in-len2.right c.in_ok-left-in-len2.ensures.ok c.in_ok-right-in-len2.ensures.ok
    c.in_ok-left-in-len2.ensures.fine c.in_ok-right-in-len2.ensures.fine none) c.joined_tree.ensures.agreed

pub returns-in_ok-right-in-len2-clause-err : goal.returns-in_ok-right-in-len2-clause-err
returns-in_ok-right-in-len2-clause-err c =
    let e : Edge = c.first-item.result in
    let f : Edge = c.second-item.result in
    let are = two_are c.args.edges.now e f (omega (arith, c.in-len2.len_at_least, c.in-len2.len_below)) c.first-item.is c.second-item.is in
    err_then c.joined_tree.result _ _ (λ err why h u. join_cause_is c.args.edges.now e f c.args.basis.now c.args.new c.in-Two.left c.in-Two.right c.in-Two.only_left c.in-Two.only_right are c.in-Two.is c.requires
    c.roster-in-len2.result.now c.roster-in-len2-2.result.now c.roster-in-len2.ensures.tree c.roster-in-len2-2.ensures.tree h u
    c.in_ok-left-in-len2.left c.in_ok-right-in-len2.right c.in_ok-left-in-len2.ensures.ok c.in_ok-right-in-len2.ensures.ok
    c.in_ok-left-in-len2.ensures.fine c.in_ok-right-in-len2.ensures.fine err why) c.joined_tree.ensures.err

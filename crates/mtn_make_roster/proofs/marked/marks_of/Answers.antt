-- The history grows by what is made.
use Rattle.mtn_replay.specs.Making.{made}
use Rattle.mtn_make_roster.proofs.Told.{ok_then}
use Rattle.mtn_make_roster.proofs.Grown.{root_grows, one_grows, two_grow}
use Rattle.mtn_make_roster.proofs.marked.marks_of.Goals as goal

pub returns-in-Root-clause-marks : goal.returns-in-Root-clause-marks
returns-in-Root-clause-marks c =
    ok_then c.mark_root.result _ _ (λ marks g h edges new u lawful fine is here.
    g h (made h new edges) (root_grows h edges new c.args.basis.now u lawful fine c.args.roster.now is c.args.at here c.in-Root.is)) c.mark_root.ensures.graph

pub returns-in-One-clause-marks : goal.returns-in-One-clause-marks
returns-in-One-clause-marks c =
    ok_then c.mark_one.result _ _ (λ marks g h edges new u lawful fine is here.
    let x = one_grows h edges new c.args.basis.now u lawful fine c.args.roster.now is c.args.at here c.in-One.parent c.in-One.is in
    g h (made h new edges) x.p x.extends x.marked) c.mark_one.ensures.graph

pub returns-in-Two-clause-marks : goal.returns-in-Two-clause-marks
returns-in-Two-clause-marks c =
    ok_then c.mark_two.result _ _ (λ marks g h edges new u lawful fine is here.
    let x = two_grow h edges new c.args.basis.now u lawful fine c.args.roster.now is c.args.at here c.in-Two.left c.in-Two.right c.in-Two.only_left c.in-Two.only_right c.in-Two.is in
    g h (made h new edges) x.p x.q x.extends x.left_marked x.right_marked x.left_alone x.right_alone) c.mark_two.ensures.graph

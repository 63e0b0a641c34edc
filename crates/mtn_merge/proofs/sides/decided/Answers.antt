use Rattle.std.proofs.Common.{refl, sym, subst}
use Rattle.mtn_decide.specs.Decisions.{IsInOrder}
use Rattle.mtn_marking.specs.Graph.{IsMarkedAt}
use Rattle.mtn_merge.proofs.sides.decided.Goals as goal

pub returns-clause-compared : goal.returns-clause-compared
returns-clause-compared c = λ h grows sl sr lefts rights.
    let l = c.args.left in
    let r = c.args.right in
    record {
      left = refl;
      right = refl;
      left_side = sl;
      right_side = sr;
      merge = record {
        left = l.at;
        right = r.at;
        at_left = sl.place;
        at_right = sr.place;
        order = subst IsInOrder c.decisions.view_is c.decisions.invariant;
        decides = c.in_ok-decisions.ensures.graph h l.at r.at grows (subst (IsMarkedAt h l.at) (sym c.marked.ensures) sl.marked) (subst (IsMarkedAt h r.at) (sym c.marked-2.ensures) sr.marked) lefts rights;
      };
    }

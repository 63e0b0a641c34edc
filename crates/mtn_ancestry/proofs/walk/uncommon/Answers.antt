use Rattle.std.specs.Prelude.{All, max}
use Rattle.std.proofs.Common.{ℕ, suc, ◌+◌, ◌-◌, ◌≤◌, Option, sym, subst, arith}
use Rattle.mtn_ancestry.specs.Ancestors.{IsUncommon}
use Rattle.mtn_ancestry.specs.Sets.{IsAscendingListOf}
use Rattle.mtn_ancestry.specs.declared.frontier.Reach.{Reach}
use Rattle.mtn_ancestry.specs.Walking.{pending_of, IsUnderWay, IsOrderly, IsNextBelow}
use Rattle.mtn_ancestry.proofs.Advancing.{All-reversed, listed_found, none_up_to}
use Rattle.mtn_ancestry.proofs.Asking.{IsSpent, anywhere, next_under, stands_within, spent_next}
use Rattle.mtn_ancestry.proofs.walk.uncommon.Goals as goal

pub loop-next-init : goal.loop-next-init
loop-next-init g c = record {
  matched = c.in_ok-walk.ensures.matched;
  next_up_to = omega (arith, c.in_ok-walk.ensures.greater);
  up_to = none_up_to (max c.args.left c.args.right) c.in_ok-walk.walk.left.items c.in_ok-walk.walk.right.items c.in_ok-walk.ensures.none.0 c.in_ok-walk.ensures.none.1;
  asking = record {
    order = c.in_ok-walk.ensures.order;
    same = λ count parents t. t;
    stayed = g.met.P.Parents.stays_itself c.args.graph.now;
    walked = λ count parents low t floor. c.in_ok-walk.ensures.stands parents low (g.met.P.Parents.earlier c.args.graph.now count parents t) floor;
    spent = λ count parents low t floor. omega (arith, c.in_ok-walk.ensures.greater);
  };
}

pub parents-requires : goal.parents-requires
parents-requires g c = λ count parents t.
    let inv = c.loop-next.invariant.asking in
    let stands = subst (λ (n : Option (ℕ × Reach)). IsUnderWay parents c.args.left c.args.right 0 n (pending_of c.loop-next.walk.frontier) c.loop-next.walk.left.items c.loop-next.walk.right.items)
    c.in-Some.is (inv.walked count parents 0 t (anywhere parents c.args.left c.args.right)) in
    let within = c.requires count parents (inv.same count parents t) in
    (stands_within parents (g.met.P.Parents.earlier c.loop-next.graph count parents t) c.args.left c.args.right 0 c.in-Some.here.0 count c.in-Some.here.1
    (pending_of c.loop-next.walk.frontier) c.loop-next.walk.left.items c.loop-next.walk.right.items stands within.0 within.1)

pub returns-in-Err-clause-count : goal.returns-in-Err-clause-count
returns-in-Err-clause-count g c = λ count parents low now floor.
    let inv = c.loop-next.invariant.asking in
    let told = c.parents.ensures.same_graph count parents now in
    let stands = subst (λ (n : Option (ℕ × Reach)). IsUnderWay parents c.args.left c.args.right low n (pending_of c.loop-next.walk.frontier) c.loop-next.walk.left.items c.loop-next.walk.right.items)
    c.in-Some.is (inv.walked count parents low told floor) in
    let spent = subst (λ (n : Option (ℕ × Reach)). IsSpent (g.P.Parents.asked c.loop-next.graph - g.P.Parents.asked c.args.graph.now) (max c.args.left c.args.right + 1) low n)
    c.in-Some.is (inv.spent count parents low told floor) in
    let low_is = stands.reach_at in
    let one = c.parents.ensures.count in
    omega arith

pub returns-in_err-next-clause-count : goal.returns-in_err-next-clause-count
returns-in_err-next-clause-count g c = λ count parents low now floor.
    let inv = c.loop-next.invariant.asking in
    let told = c.parents.ensures.same_graph count parents now in
    let stands = subst (λ (n : Option (ℕ × Reach)). IsUnderWay parents c.args.left c.args.right low n (pending_of c.loop-next.walk.frontier) c.loop-next.walk.left.items c.loop-next.walk.right.items)
    c.in-Some.is (inv.walked count parents low told floor) in
    let spent = subst (λ (n : Option (ℕ × Reach)). IsSpent (g.P.Parents.asked c.loop-next.graph - g.P.Parents.asked c.args.graph.now) (max c.args.left c.args.right + 1) low n)
    c.in-Some.is (inv.spent count parents low told floor) in
    let low_is = stands.reach_at in
    let one = c.parents.ensures.count in
    omega arith

pub loop-next-preserved : goal.loop-next-preserved
loop-next-preserved g c =
    let inv = c.loop-next.invariant.asking in
    record {
      matched = c.in_ok-next.ensures.matched;
      next_up_to = next_under c.in-Some.here.0 (suc (max c.args.left c.args.right)) c.in_ok-next.next c.in_ok-next.ensures.below
          (subst (λ (n : Option (ℕ × Reach)). IsNextBelow n (suc (max c.args.left c.args.right))) c.in-Some.is c.loop-next.invariant.next_up_to);
      up_to = c.in_ok-next.ensures.up_to (max c.args.left c.args.right)
          (let h = subst (λ (n : Option (ℕ × Reach)). IsNextBelow n (suc (max c.args.left c.args.right))) c.in-Some.is c.loop-next.invariant.next_up_to in omega arith)
          c.loop-next.invariant.up_to;
      asking = record {
        order = c.in_ok-next.ensures.order;
        same = λ count parents t. inv.same count parents (c.parents.ensures.same_graph count parents t);
        stayed = g.met.P.Parents.stays_on c.args.graph.now c.loop-next.graph c.parents.new.self inv.stayed c.parents.ensures.stays;
        walked = λ count parents low now floor.
            let told = c.parents.ensures.same_graph count parents now in
            let stands = subst (λ (n : Option (ℕ × Reach)). IsUnderWay parents c.args.left c.args.right low n (pending_of c.loop-next.walk.frontier) c.loop-next.walk.left.items c.loop-next.walk.right.items)
            c.in-Some.is (inv.walked count parents low told floor) in
            c.in_ok-next.ensures.walked parents c.args.left c.args.right low (g.met.P.Parents.earlier c.loop-next.graph count parents told) floor
            (c.in-Ok.ensures.told count parents now) stands;
        spent = λ count parents low now floor.
            let told = c.parents.ensures.same_graph count parents now in
            let stands = subst (λ (n : Option (ℕ × Reach)). IsUnderWay parents c.args.left c.args.right low n (pending_of c.loop-next.walk.frontier) c.loop-next.walk.left.items c.loop-next.walk.right.items)
            c.in-Some.is (inv.walked count parents low told floor) in
            let spent = subst (λ (n : Option (ℕ × Reach)). IsSpent (g.P.Parents.asked c.loop-next.graph - g.P.Parents.asked c.args.graph.now) (max c.args.left c.args.right + 1) low n)
            c.in-Some.is (inv.spent count parents low told floor) in
            let one = c.parents.ensures.count in
            spent_next (g.P.Parents.asked c.loop-next.graph - g.P.Parents.asked c.args.graph.now) (g.P.Parents.asked c.parents.new.self - g.P.Parents.asked c.args.graph.now)
            (max c.args.left c.args.right + 1) low c.in-Some.here.0 c.in_ok-next.next spent stands.reach_at (omega arith) c.in_ok-next.ensures.below;
      };
    }

pub returns-clause-left : goal.returns-clause-left
returns-clause-left g c = λ count parents told.
    let inv = c.loop-next.invariant.asking in
    let all = subst (λ (n : Option (ℕ × Reach)). IsUnderWay parents c.args.left c.args.right 0 n (pending_of c.loop-next.walk.frontier) c.loop-next.walk.left.items c.loop-next.walk.right.items)
    c.in_default.is (inv.walked count parents 0 told (anywhere parents c.args.left c.args.right)) in
    let order = subst (λ (n : Option (ℕ × Reach)). IsOrderly n (pending_of c.loop-next.walk.frontier) c.loop-next.walk.left.items c.loop-next.walk.right.items)
    c.in_default.is inv.order in
    subst (IsAscendingListOf (IsUncommon parents c.args.left c.args.right)) (sym c.in_ok-ascending.ensures)
    (listed_found (IsUncommon parents c.args.left c.args.right) c.loop-next.walk.left.items order.0 all.left_found)

pub returns-clause-right : goal.returns-clause-right
returns-clause-right g c = λ count parents told.
    let inv = c.loop-next.invariant.asking in
    let all = subst (λ (n : Option (ℕ × Reach)). IsUnderWay parents c.args.left c.args.right 0 n (pending_of c.loop-next.walk.frontier) c.loop-next.walk.left.items c.loop-next.walk.right.items)
    c.in_default.is (inv.walked count parents 0 told (anywhere parents c.args.left c.args.right)) in
    let order = subst (λ (n : Option (ℕ × Reach)). IsOrderly n (pending_of c.loop-next.walk.frontier) c.loop-next.walk.left.items c.loop-next.walk.right.items)
    c.in_default.is inv.order in
    subst (IsAscendingListOf (IsUncommon parents c.args.right c.args.left)) (sym c.in_ok-ascending-2.ensures)
    (listed_found (IsUncommon parents c.args.right c.args.left) c.loop-next.walk.right.items order.1 all.right_found)

pub returns-clause-within : goal.returns-clause-within
returns-clause-within g c =
    let top = max c.args.left c.args.right in (
      subst (All (λ x. x ≤ top)) (sym c.in_ok-ascending.ensures) (All-reversed (λ x. x ≤ top) c.loop-next.walk.left.items c.loop-next.invariant.up_to.left_up_to),
      subst (All (λ x. x ≤ top)) (sym c.in_ok-ascending-2.ensures) (All-reversed (λ x. x ≤ top) c.loop-next.walk.right.items c.loop-next.invariant.up_to.right_up_to),
    )

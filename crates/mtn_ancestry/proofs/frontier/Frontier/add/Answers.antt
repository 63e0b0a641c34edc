use Rattle.std.proofs.Common.{◌≡◌, ℕ, Some, cond, ◌∙◌, ap, nat_cmp}
use Rattle.std.specs.Ordering.{is_eq}
use Rattle.std.specs.BTreeSet.{contains}
use Rattle.mtn_ancestry.specs.Walking.{pending_of, after_reach, is_single}
use Rattle.mtn_ancestry.proofs.Reaching.{matched_on, left_on, right_on, single_tests}
use Rattle.mtn_ancestry.proofs.frontier.Frontier.add.Goals as goal

pub returns-clause-matched : goal.returns-clause-matched
returns-clause-matched c =
    matched_on (pending_of c.args.self.now) (pending_of (record { reaches = c.insert.new.self; single = c.set_single.new.single }))
    (contains nat_cmp c.args.self.now.single) (contains nat_cmp c.set_single.new.single) c.args.at (Some c.reached-joined.result) (is_single c.reached-joined.result)
    c.requires c.in_ok-insert.ensures.updates.0 c.in_ok-set_single.ensures (single_tests c.reached-joined.result)

pub returns-clause-left : goal.returns-clause-left
returns-clause-left c =
    let f = pending_of c.args.self.now in
    let at : ℕ = c.args.at in
    let e : c.reached-joined.result ≡ after_reach (f at) c.args.reach = c.reached-joined.ensures ∙ ap (λ o. after_reach o c.args.reach) c.get.ensures.value in
    left_on f (pending_of (record { reaches = c.insert.new.self; single = c.set_single.new.single })) at c.args.reach
    (λ x. c.in_ok-insert.ensures.updates.0 x ∙ ap (λ j. cond (is_eq (nat_cmp at x)) (Some j) (f x)) e)

pub returns-clause-right : goal.returns-clause-right
returns-clause-right c =
    let f = pending_of c.args.self.now in
    let at : ℕ = c.args.at in
    let e : c.reached-joined.result ≡ after_reach (f at) c.args.reach = c.reached-joined.ensures ∙ ap (λ o. after_reach o c.args.reach) c.get.ensures.value in
    right_on f (pending_of (record { reaches = c.insert.new.self; single = c.set_single.new.single })) at c.args.reach
    (λ x. c.in_ok-insert.ensures.updates.0 x ∙ ap (λ j. cond (is_eq (nat_cmp at x)) (Some j) (f x)) e)

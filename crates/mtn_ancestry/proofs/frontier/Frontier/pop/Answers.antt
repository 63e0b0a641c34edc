use Rattle.std.proofs.Common.{ℕ, false, None, ◌∙◌, nat_cmp}
use Rattle.std.proofs.lemmas.Bool.{false≢true}
use Rattle.std.specs.BTreeSet.{contains}
use Rattle.mtn_ancestry.specs.Walking.{pending_of, IsSingle}
use Rattle.mtn_ancestry.proofs.Reaching.{matched_on, above_none, not_above, cond_other}
use Rattle.mtn_ancestry.proofs.frontier.Frontier.pop.Goals as goal

pub returns-clause-matched : goal.returns-clause-matched
returns-clause-matched c =
    matched_on (pending_of c.args.self.now) (pending_of (record { reaches = c.pop_last.new.self; single = c.remove.new.self }))
    (contains nat_cmp c.args.self.now.single) (contains nat_cmp c.remove.new.self) c.in_ok-at.at None false
    c.requires c.in_ok-at.ensures.updates.0 c.remove.ensures.updates.0 (λ e. absurd (false≢true e), λ s. absurd s)

pub returns-clause-greatest : goal.returns-clause-greatest
returns-clause-greatest c = λ x h. above_none c.in_ok-at.at x (pending_of c.args.self.now x) (c.in_ok-at.ensures.greatest x) h

pub returns-clause-rest : goal.returns-clause-rest
returns-clause-rest c = λ x n. c.in_ok-at.ensures.updates.0 x ∙ cond_other c.in_ok-at.at x None (pending_of c.args.self.now x) n

pub returns-clause-single : goal.returns-clause-single
returns-clause-single c =
    let u : ℕ = c.in_ok-last.field-0.now in
    let s : IsSingle (pending_of c.args.self.now u) = (c.requires u).0 c.in_ok-last.ensures.member in
    (u, not_above c.in_ok-at.at u (pending_of c.args.self.now u) (c.in_ok-at.ensures.greatest u) s, s)

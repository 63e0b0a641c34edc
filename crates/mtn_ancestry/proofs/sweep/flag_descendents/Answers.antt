use Rattle.std.specs.Prelude.{Contains}
use Rattle.std.proofs.Common.{◌≡◌, ◌↔◌, ◌⊎◌, ℕ, ◌+◌, ◌<◌, true, length, sym, subst, inl, inr, ⊎_elim, arith}
use Rattle.std.proofs.Math.ListN.{set}
use Rattle.std.proofs.Math.Decide.{ℕ_discrete}
use Rattle.mtn_ancestry.specs.Ancestors.{IsProperAncestor}
use Rattle.mtn_ancestry.specs.Log.{parents_of}
use Rattle.mtn_ancestry.specs.Sets.{IsFlagged}
use Rattle.mtn_ancestry.proofs.Ancestry.{descends, proper_cases}
use Rattle.mtn_ancestry.proofs.Flagging.{written_here, written_other}
use Rattle.mtn_ancestry.proofs.Placing.{parents_read, parents_within}
use Rattle.mtn_ancestry.proofs.sweep.flag_descendents.Goals as goal

pub has_parent_in-requires-clause-given : goal.has_parent_in-requires-clause-given
has_parent_in-requires-clause-given c = λ p m.
    let at : ℕ = c.loop-at.at in
    let below : p < at = c.requires.earlier at p (subst (λ l. Contains l p) (sym (parents_read c.args.log.now at c.index-log-at.result c.loop-at-test.true)) m) in
    omega arith

pub has_parent_in-requires-clause-below : goal.has_parent_in-requires-clause-below
has_parent_in-requires-clause-below c = λ p m.
    let at : ℕ = c.loop-at.at in
    let below : p < at = c.requires.earlier at p (subst (λ l. Contains l p) (sym (parents_read c.args.log.now at c.index-log-at.result c.loop-at-test.true)) m) in
    omega arith

pub loop-at-preserved : goal.loop-at-preserved
loop-at-preserved c =
    let at : ℕ = c.loop-at.at in
    let room : at < length c.loop-at.below = let l : at < length c.args.log.now = c.loop-at-test.true in omega arith in
    let parents = parents_of c.args.log.now in
    let has = subst (λ l. (c.has_parent_in.result ≡ true) ↔ ((p : ℕ) × Contains l p × (IsFlagged c.args.given.now p ⊎ IsFlagged c.loop-at.below p)))
    (sym (parents_read c.args.log.now at c.index-log-at.result c.loop-at-test.true)) c.has_parent_in.ensures in
    let rule = descends c.requires.earlier (IsFlagged c.args.given.now) at in
    let here = written_here c.loop-at.below at c.has_parent_in.result room in
    λ x. elim (ℕ_discrete x at) [
      | yes e ↦ subst (λ y. IsFlagged (set c.loop-at.below at c.has_parent_in.result) y ↔ ((y < at + 1) × ((r : ℕ) × IsFlagged c.args.given.now r × IsProperAncestor parents r y))) (sym e) (
        λ f. (omega arith, rule.1 (let t = has.0 (here.0 f) in (t.0, t.1, ⊎_elim inl (λ g. inr ((c.loop-at.invariant t.0).0 g).1) t.2))),
        λ u. here.1 (has.1 (let t = rule.0 u.1 in (t.0, t.1, ⊎_elim inl (λ d. inr ((c.loop-at.invariant t.0).1 (c.requires.earlier at t.0 t.1, d))) t.2))),
      )
      | no n ↦ (
        λ f. let u = (c.loop-at.invariant x).0 ((written_other c.loop-at.below at c.has_parent_in.result x n).0 f) in (omega (arith, u.0), u.1),
        λ u. (written_other c.loop-at.below at c.has_parent_in.result x n).1 ((c.loop-at.invariant x).1 (let l : x < at + 1 = u.0 in omega arith, u.1)),
      )
    ]

pub returns-clause-exact : goal.returns-clause-exact
returns-clause-exact c = λ x. (
  λ f. ((c.loop-at.invariant x).0 f).1,
  λ t.
      let q = proper_cases (parents_of c.args.log.now) x t.0 t.2 in
      let within : x < length c.args.log.now = parents_within c.args.log.now x q.0 q.1 in
      (c.loop-at.invariant x).1 (omega arith, t),
)

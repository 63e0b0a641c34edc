use Rattle.std.specs.Prelude.{Contains}
use Rattle.std.proofs.Common.{◌↔◌, ◌⊎◌, ℕ, ◌-◌, ◌<◌, length, sym, subst, arith}
use Rattle.mtn_ancestry.specs.Log.{parents_of}
use Rattle.mtn_ancestry.specs.Sets.{IsFlaggedIn}
use Rattle.mtn_ancestry.proofs.Placing.{parents_read}
use Rattle.mtn_ancestry.proofs.Sweeping.{swept_start, swept_more, swept_all}
use Rattle.mtn_ancestry.proofs.Joining.{set_within}
use Rattle.mtn_ancestry.proofs.sweep.join_ancestors.Goals as goal

pub loop-at-init : goal.loop-at-init
loop-at-init c =
    let words = c.args.words.now in
    record {
      within = omega arith;
      swept = λ j. swept_start (parents_of c.args.log.now) (IsFlaggedIn words j) (length words) (λ r h f. omega (arith, set_within words j r f));
    }

pub join_parents-requires : goal.join_parents-requires
join_parents-requires c = λ p m.
    let at : ℕ = c.loop-at.at - 1 in
    let within : at < length c.args.log.now = omega arith in
    let e = parents_read c.args.log.now at c.index-log-at.result within in
    let below : p < at = c.requires.earlier at p (subst (λ l. Contains l p) (sym e) m) in
    omega arith

pub loop-at-preserved : goal.loop-at-preserved
loop-at-preserved c =
    let at : ℕ = c.loop-at.at - 1 in
    let within : at < length c.args.log.now = omega arith in
    let e = parents_read c.args.log.now at c.index-log-at.result within in
    let words = c.loop-at.words in
    let new = c.join_parents.new.words in
    record {
      within = omega (arith, c.join_parents.ensures.count);
      swept = λ j. swept_more (parents_of c.args.log.now) c.requires.earlier (IsFlaggedIn c.args.words.now j) (IsFlaggedIn words j) (IsFlaggedIn new j)
          c.loop-at.at at (omega arith) (c.loop-at.invariant.swept j)
          (λ x. subst (λ l. IsFlaggedIn new j x ↔ (IsFlaggedIn words j x ⊎ (Contains l x × IsFlaggedIn words j at))) (sym e) (c.join_parents.ensures.exact j x));
    }

pub returns-clause-exact : goal.returns-clause-exact
returns-clause-exact c = λ j x.
    swept_all (parents_of c.args.log.now) c.requires.earlier (IsFlaggedIn c.args.words.now j) (IsFlaggedIn c.loop-at.words j) 0 c.loop-at.at (omega arith)
    (c.loop-at.invariant.swept j) x (omega arith)

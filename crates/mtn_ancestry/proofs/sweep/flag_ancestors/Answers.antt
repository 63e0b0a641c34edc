use Rattle.std.specs.Prelude.{Contains}
use Rattle.std.proofs.Common.{◌≡◌, ◌↔◌, ◌⊎◌, ℕ, ◌-◌, ◌<◌, length, sym, subst, inl, inr, ⊎_elim, arith}
use Rattle.mtn_ancestry.specs.Log.{parents_of}
use Rattle.mtn_ancestry.specs.Sets.{IsFlagged}
use Rattle.mtn_ancestry.proofs.Flagging.{flag_within}
use Rattle.mtn_ancestry.proofs.Placing.{parents_read}
use Rattle.mtn_ancestry.proofs.Sweeping.{swept_start, swept_more, swept_all}
use Rattle.mtn_ancestry.proofs.sweep.flag_ancestors.Goals as goal

pub loop-at-init : goal.loop-at-init
loop-at-init c = record {
  within = omega arith;
  swept = swept_start (parents_of c.args.log.now) (IsFlagged c.args.flags.now) (length c.args.flags.now) (λ r h f. omega (arith, flag_within c.args.flags.now r f));
}

pub flag_parents-requires : goal.flag_parents-requires
flag_parents-requires c = λ p m.
    let at = c.loop-at.at - 1 in
    let within : at < length c.args.log.now = omega arith in
    let e = parents_read c.args.log.now at c.index-log-at.result within in
    let below : p < at = c.requires.earlier at p (subst (λ l. Contains l p) (sym e) m) in
    omega arith

pub loop-at-preserved-then-flags-at : goal.loop-at-preserved-then-flags-at
loop-at-preserved-then-flags-at c =
    let at : ℕ = c.loop-at.at - 1 in
    let within : at < length c.args.log.now = omega arith in
    let e = parents_read c.args.log.now at c.index-log-at.result within in
    let is : IsFlagged c.loop-at.flags at = c.if-flags-at.true in
    record {
      within = omega (arith, c.flag_parents.ensures.count);
      swept = swept_more (parents_of c.args.log.now) c.requires.earlier (IsFlagged c.args.flags.now) (IsFlagged c.loop-at.flags) (IsFlagged c.flag_parents.new.flags)
          c.loop-at.at at (omega arith) c.loop-at.invariant.swept
          (λ x.
          let one = subst (λ l. IsFlagged c.flag_parents.new.flags x ↔ (IsFlagged c.loop-at.flags x ⊎ Contains l x)) (sym e) (c.flag_parents.ensures.exact x) in
          (λ f. ⊎_elim inl (λ m. inr (m, is)) (one.0 f), λ s. one.1 (⊎_elim inl (λ t. inr t.0) s)));
    }

pub returns-clause-exact : goal.returns-clause-exact
returns-clause-exact c =
    let low : c.low.inside.0 ≡ c.args.low = c.low.view_is in
    swept_all (parents_of c.args.log.now) c.requires.earlier (IsFlagged c.args.flags.now) (IsFlagged c.loop-at.flags) c.args.low c.loop-at.at (omega arith) c.loop-at.invariant.swept

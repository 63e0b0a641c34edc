use Rattle.std.specs.Prelude.{Contains}
use Rattle.std.proofs.Common.{◌≡◌, ◌↔◌, ◌⊎◌, ℕ, ◌<◌, length, get_or, sym, ◌∙◌, subst, ap, inl, inr, ⊎_elim, arith}
use Rattle.std.proofs.lemmas.List.Elements.{Contains-get_or}
use Rattle.std.proofs.lemmas.List.{get_or_default}
use Rattle.std.proofs.Math.Decide.{ℕ_discrete}
use Rattle.mtn_ancestry.specs.Log.{parents_of}
use Rattle.mtn_ancestry.specs.Sets.{IsFlagged}
use Rattle.mtn_ancestry.proofs.Members.{Contains-at}
use Rattle.mtn_ancestry.proofs.sweep.flag_all_parents.Goals as goal

pub flag_parents-requires : goal.flag_parents-requires
flag_parents-requires c = λ p m.
    let r = c.at-item.result in
    let known : r < length c.args.log.now = subst (λ n. n < length c.args.log.now) (sym c.at-item.is) (c.requires.within c.loop-at.at-index r c.loop-at-test.true) in
    let below : p < r = c.requires.earlier r p (subst (λ l. Contains l p) c.parents_at.ensures m) in
    omega arith

pub loop-at-preserved : goal.loop-at-preserved
loop-at-preserved c =
    let r : ℕ = c.at-item.result in
    let i : ℕ = c.loop-at.at-index in
    let at : get_or c.args.of.now i 0 ≡ r = get_or_default c.args.of.now i 0 r c.loop-at-test.true ∙ sym c.at-item.is in
    let new = λ (x : ℕ). subst (λ l. IsFlagged c.flag_parents.new.flags x ↔ (IsFlagged c.loop-at.flags x ⊎ Contains l x)) c.parents_at.ensures (c.flag_parents.ensures.exact x) in
    record {
      kept = λ x f. (new x).1 (inl (c.loop-at.invariant.kept x f));
      done = λ k x h m. elim (ℕ_discrete k i) [
        | yes e ↦ (new x).1 (inr (subst (λ q. Contains (parents_of c.args.log.now q) x) (ap (λ j. get_or c.args.of.now j 0) e ∙ at) m))
        | no n ↦ (new x).1 (inl (c.loop-at.invariant.done k x (omega arith) m))
      ];
      only = λ x f. ⊎_elim (c.loop-at.invariant.only x)
          (λ m. inr (r, subst (Contains c.args.of.now) at (Contains-get_or c.args.of.now i 0 c.loop-at-test.true), m)) ((new x).0 f);
    }

pub returns-clause-exact : goal.returns-clause-exact
returns-clause-exact c = λ x. (
  c.loop-at.invariant.only x,
  ⊎_elim (c.loop-at.invariant.kept x)
      (λ t. Contains-at c.args.of.now t.0 (λ r. Contains (parents_of c.args.log.now r) x → IsFlagged c.loop-at.flags x)
      (λ k h m. c.loop-at.invariant.done k x (omega arith) m) t.1 t.2),
)

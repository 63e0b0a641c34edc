use Rattle.std.specs.Prelude.{Contains}
use Rattle.std.proofs.Common.{◌≡◌, ℕ, ◌<◌, ◌*◌, ◌^◌, ◌%◌, length, get_or, sym, ◌∙◌, subst, arith}
use Rattle.std.proofs.lemmas.List.Elements.{Contains-get_or}
use Rattle.std.proofs.lemmas.List.{get_or_default}
use Rattle.std.proofs.lemmas.Nat.{one_shl}
use Rattle.mtn_ancestry.proofs.Joining.{each_more}
use Rattle.mtn_ancestry.proofs.words.flag_each.Goals as goal

pub join-requires : goal.join-requires
join-requires c =
    let of = c.args.of.now in
    let i : ℕ = c.loop-set.set in
    let r : ℕ = c.index-of-set.result in
    let here : get_or of i 0 ≡ r = get_or_default of i 0 r c.loop-set-test.true ∙ sym c.index-of-set.is in
    let known : r < length c.args.words.now = c.requires.within r (subst (Contains of) here (Contains-get_or of i 0 c.loop-set-test.true)) in
    omega arith

pub loop-set-preserved : goal.loop-set-preserved
loop-set-preserved c =
    let of = c.args.of.now in
    let i : ℕ = c.loop-set.set in
    let r : ℕ = c.index-of-set.result in
    record {
      count = c.join.ensures.count ∙ c.loop-set.invariant.count;
      each = each_more c.loop-set.words c.join.new.words of i r (1 * 2 ^ i % 2 ^ 64) (get_or_default of i 0 r c.loop-set-test.true ∙ sym c.index-of-set.is)
          (one_shl i 64 (omega arith)) c.loop-set.invariant.each c.join.ensures.exact;
    }

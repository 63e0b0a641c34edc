-- Parents stand as their places do.
use Rattle.std.proofs.Common.{ℕ, sym, ◌∙◌, arith}
use Rattle.std.proofs.lemmas.Bool.Decides.{nat_tests}
use Rattle.mtn_roster.proofs.Near.{parent_stands}
use Rattle.mtn_roster.proofs.walk.compare_up.Goals as goal

pub returns : goal.returns
returns c = λ are rising low at.
    let x : ℕ = c.args.at in
    c.cmp.ensures ∙ sym (parent_stands c.args.entries.now rising c.args.ups.now are x c.args.above c.up_at-up.result c.args.name.now c.up_at-up.ensures
    (λ e. grind (arith, nat_tests, e, c.if-up-at.false)) low at)

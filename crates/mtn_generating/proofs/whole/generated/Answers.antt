-- What grew is told.
use Rattle.std.proofs.Common.{◌≡◌, arith}
use Rattle.mtn_generating.proofs.ToldLemmas.{told}
use Rattle.mtn_generating.proofs.whole.generated.Goals as goal

pub returns-in_ok-summary-in-Ok-clause-generates : goal.returns-in_ok-summary-in-Ok-clause-generates
returns-in_ok-summary-in-Ok-clause-generates g c = λ k s now draft.
    let none : c.args.draft.now.pending.count ≡ 0 = (let is = c.count-before.ensures in let low = c.if-before-gt0.false in omega (arith, is, low)) in
    told (g.I.Ident.meaning c.args.ident.now) k s c.args.count c.args.draft.now.pending draft none c.in-Ok.tips c.in_ok-summary-in-Ok.field-0 c.grow.new.draft.pending (c.in-Ok.ensures.goes.done k s now draft) c.in_ok-summary-in-Ok.ensures

use Rattle.std.proofs.Common.{sym, ap, ◌∙◌, length}
use Rattle.mtn_frame.proofs.OneLemmas.{put_none, on_err}
use Rattle.mtn_frame.proofs.one.put_all.Goals as goal

pub returns-then-len-eq0 : goal.returns-then-len-eq0
returns-then-len-eq0 g c = put_none g.K.Keeper.contents g.K.Keeper.leaves g.K.Keeper.faults g.K.Keeper.reads c.args.keeper.now c.args.batch (sym c.len.ensures ∙ c.if-len-eq0.true)

pub returns : goal.returns
returns g c =
    record { ok = c.apply.ensures.ok; err = c.apply.ensures.err; crash = c.apply.ensures.crash; none = λ is. absurd (c.if-len-eq0.false (c.len.ensures ∙ ap length is)); some = on_err c.apply.result _ (λ is. c.if-len-eq0.false (c.len.ensures ∙ ap length is)); later = c.apply.ensures.later; failed = c.apply.ensures.failed; reads = c.apply.ensures.reads }

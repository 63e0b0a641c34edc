use Rattle.std.proofs.Common.{◌∙◌, sym}
use Rattle.mtn_sending.proofs.Adding.{adds_new}
use Rattle.mtn_sending.proofs.brought.put_new.Goals as goal

pub returns-in_ok-push : goal.returns-in_ok-push
returns-in_ok-push c =
    adds_new c.args.sent.now c.insert.new.self c.args.files.now.items c.push.new.self.items c.args.id (sym c.if-branch.true ∙ c.in_ok-insert.ensures.added) c.in_ok-insert.ensures.updates c.in_ok-push.ensures.items

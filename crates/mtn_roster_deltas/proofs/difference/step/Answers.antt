-- By the order of the two numbers, and whether the entries are one.
use Rattle.std.proofs.Common.{◌∙◌, [], ◌∷◌, ◌++◌, sym, ap}
use Rattle.mtn_roster_deltas.proofs.Walking.{steps_gone, steps_added, steps_kept, steps_changed}
use Rattle.mtn_roster_deltas.proofs.difference.step.Goals as goal

pub returns-in_ok-push-in-Less-clause-goes : goal.returns-in_ok-push-in-Less-clause-goes
returns-in_ok-push-in-Less-clause-goes c = λ base after es ns w.
    steps_gone base after c.args.found.now.gone.items c.args.found.now.changed.items c.args.old.now es c.args.new.now ns w c.push.new.self.items c.in_ok-push-in-Less.ensures.items (sym c.cmp.ensures ∙ c.in-Less.is)

pub returns-in_ok-push-in-Greater-clause-goes : goal.returns-in_ok-push-in-Greater-clause-goes
returns-in_ok-push-in-Greater-clause-goes c = λ base after es ns w.
    steps_added base after c.args.found.now.gone.items c.args.found.now.changed.items c.args.old.now es c.args.new.now ns w c.push-in-Greater.new.self.items
    (c.in_ok-push-in-Greater.ensures.items ∙ ap (λ z. c.args.found.now.changed.items ++ z ∷ []) c.in_ok-copy-in-Greater.ensures) (sym c.cmp.ensures ∙ c.in-Greater.is)

pub returns-then-are_same-clause-goes : goal.returns-then-are_same-clause-goes
returns-then-are_same-clause-goes c = λ base after es ns w.
    steps_kept base after c.args.found.now.gone.items c.args.found.now.changed.items c.args.old.now es c.args.new.now ns w (c.are_same.ensures.0 c.if-are_same.true)

pub returns-in_ok-push-in-Equal-clause-goes : goal.returns-in_ok-push-in-Equal-clause-goes
returns-in_ok-push-in-Equal-clause-goes c = λ base after es ns w.
    steps_changed base after c.args.found.now.gone.items c.args.found.now.changed.items c.args.old.now es c.args.new.now ns w c.push-in-Equal.new.self.items
    (c.in_ok-push-in-Equal.ensures.items ∙ ap (λ z. c.args.found.now.changed.items ++ z ∷ []) c.in_ok-copy-in-Equal.ensures) (sym c.cmp.ensures ∙ c.in-Equal.is)
    (λ e. let a = c.are_same.ensures.1 e in let b = c.if-are_same.false in cc)

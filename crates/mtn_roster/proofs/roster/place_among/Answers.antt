-- The closure compares the names, and the names ascend.
use Rattle.std.proofs.Common.{rules, Ok, Err}
use Rattle.std.proofs.lemmas.Fn.{always_returns_same}
use Rattle.mtn_base.specs.Names.{name_cmp}
use Rattle.mtn_roster.specs.declared.entry.Entry.{Entry}
use Rattle.mtn_roster.proofs.Searching.{halved}
use Rattle.mtn_roster.proofs.roster.place_among.Goals as goal

pub returns-in-Ok-clause-entry : goal.returns-in-Ok-clause-entry
returns-in-Ok-clause-entry c =
    halved c.args.entries.now c.requires.rising c.args.name.now (Ok c.in-Ok.at) c.in-Ok.ensures.bound
    (c.in-Ok.ensures.position (λ (e : Entry). name_cmp e.name c.args.name.now) (always_returns_same _ _ _ (λ a r g called. (search rules, search rules))))

pub returns-in-Err-clause-entry : goal.returns-in-Err-clause-entry
returns-in-Err-clause-entry c =
    halved c.args.entries.now c.requires.rising c.args.name.now (Err c.in-Err.field-0) c.in-Err.ensures.bound
    (c.in-Err.ensures.position (λ (e : Entry). name_cmp e.name c.args.name.now) (always_returns_same _ _ _ (λ a r g called. (search rules, search rules))))

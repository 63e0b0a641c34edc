-- The entry at a place is that of its name.
use Rattle.std.specs.Prelude.{option_and_then}
use Rattle.std.proofs.Common.{refl, sym, ◌∙◌, ap}
use Rattle.mtn_roster.specs.Tree.{child_of}
use Rattle.mtn_roster.proofs.Near.{named_there}
use Rattle.mtn_base.proofs.Tests.{same_name-self}
use Rattle.mtn_roster.proofs.child.child_at.Goals as goal

pub child_below-requires-clause-there : goal.child_below-requires-clause-there
child_below-requires-clause-there c =
    let e = c.in-Some.above.now in
    named_there c.args.entries.now c.requires.rising c.args.place e e.name (sym c.in-Some.ensures) (same_name-self e.name)

pub returns-in-None-clause-entry : goal.returns-in-None-clause-entry
returns-in-None-clause-entry c = ap (option_and_then (child_of c.args.entries.now c.args.name.now)) c.in-None.ensures

pub returns-in-Some-clause-entry : goal.returns-in-Some-clause-entry
returns-in-Some-clause-entry c =
    c.child_below.ensures.entry c.in-Some.above.now refl ∙ ap (option_and_then (child_of c.args.entries.now c.args.name.now)) c.in-Some.ensures

-- The closure compares the keys, and these ascend.
use Rattle.std.proofs.Common.{rules, Ok, Err}
use Rattle.std.proofs.lemmas.Fn.{always_returns_same}
use Rattle.mtn_base.specs.Names.{name_cmp, same_name}
use Rattle.mtn_marking.proofs.Keyed.{halved}
use Rattle.mtn_base.proofs.Orders.{names_total, exact_names}
use Rattle.mtn_base.proofs.Tests.{same_name-is, same_name-self}
use Rattle.mtn_decide.specs.declared.decision.Pending.{Pending}
use Rattle.mtn_resolve.proofs.find.place_of_file.Goals as goal

pub returns-in-Ok-clause-file : goal.returns-in-Ok-clause-file
returns-in-Ok-clause-file c =
    halved name_cmp (λ (x : Pending). x.entry.name) same_name names_total same_name-is same_name-self exact_names c.args.files.now c.requires c.args.name.now (Ok c.in-Ok.place) c.in-Ok.ensures.bound
    (c.in-Ok.ensures.position (λ (x : Pending). name_cmp (x.entry.name) c.args.name.now) (always_returns_same _ _ _ (λ a r g called. (search rules, search rules))))

pub returns-in-Err-clause-file : goal.returns-in-Err-clause-file
returns-in-Err-clause-file c =
    halved name_cmp (λ (x : Pending). x.entry.name) same_name names_total same_name-is same_name-self exact_names c.args.files.now c.requires c.args.name.now (Err c.in-Err.field-0) c.in-Err.ensures.bound
    (c.in-Err.ensures.position (λ (x : Pending). name_cmp (x.entry.name) c.args.name.now) (always_returns_same _ _ _ (λ a r g called. (search rules, search rules))))

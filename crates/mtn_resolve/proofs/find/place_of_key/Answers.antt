-- The closure compares the keys, and these ascend.
use Rattle.std.proofs.Common.{rules, Ok, Err}
use Rattle.std.proofs.lemmas.Fn.{always_returns_same}
use Rattle.mtn_base.specs.Names.{bytes_cmp, same_bytes}
use Rattle.mtn_marking.proofs.Keyed.{halved}
use Rattle.mtn_base.proofs.Orders.{bytes_total, exact_bytes}
use Rattle.mtn_base.proofs.Tests.{same_bytes-is, same_bytes-self}
use Rattle.mtn_decide.specs.declared.decision.AttrDecision.{AttrDecision}
use Rattle.mtn_resolve.proofs.find.place_of_key.Goals as goal

pub returns-in-Ok-clause-attr : goal.returns-in-Ok-clause-attr
returns-in-Ok-clause-attr c =
    halved bytes_cmp (λ (x : AttrDecision). x.key) same_bytes bytes_total same_bytes-is same_bytes-self exact_bytes c.args.attrs.now c.requires c.args.key.now (Ok c.in-Ok.place) c.in-Ok.ensures.bound
    (c.in-Ok.ensures.position (λ (x : AttrDecision). bytes_cmp (x.key) c.args.key.now) (always_returns_same _ _ _ (λ a r g called. (search rules, search rules))))

pub returns-in-Err-clause-attr : goal.returns-in-Err-clause-attr
returns-in-Err-clause-attr c =
    halved bytes_cmp (λ (x : AttrDecision). x.key) same_bytes bytes_total same_bytes-is same_bytes-self exact_bytes c.args.attrs.now c.requires c.args.key.now (Err c.in-Err.field-0) c.in-Err.ensures.bound
    (c.in-Err.ensures.position (λ (x : AttrDecision). bytes_cmp (x.key) c.args.key.now) (always_returns_same _ _ _ (λ a r g called. (search rules, search rules))))

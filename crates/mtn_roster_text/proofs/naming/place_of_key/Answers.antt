-- The closure compares the keys, and the keys ascend.
use Rattle.std.proofs.Common.{rules, Ok, Err}
use Rattle.std.proofs.lemmas.Fn.{always_returns_same}
use Rattle.mtn_base.specs.Names.{bytes_cmp}
use Rattle.mtn_marking.specs.declared.node.AttrMarks.{AttrMarks}
use Rattle.mtn_roster_text.proofs.Tables.{halved_keys}
use Rattle.mtn_roster_text.proofs.naming.place_of_key.Goals as goal

pub returns-in-Ok-clause-attr : goal.returns-in-Ok-clause-attr
returns-in-Ok-clause-attr c =
    halved_keys c.args.attrs.now c.requires.rising c.args.key.now (Ok c.in-Ok.place) c.in-Ok.ensures.bound
    (c.in-Ok.ensures.position (λ (a : AttrMarks). bytes_cmp a.key c.args.key.now) (always_returns_same _ _ _ (λ a r g called. (search rules, search rules))))

pub returns-in-Err-clause-attr : goal.returns-in-Err-clause-attr
returns-in-Err-clause-attr c =
    halved_keys c.args.attrs.now c.requires.rising c.args.key.now (Err c.in-Err.field-0) c.in-Err.ensures.bound
    (c.in-Err.ensures.position (λ (a : AttrMarks). bytes_cmp a.key c.args.key.now) (always_returns_same _ _ _ (λ a r g called. (search rules, search rules))))

-- What the map had at the name comes next.
use Rattle.mtn_apply.specs.Maps.{of_name}
use Rattle.std.proofs.Common.{◌≡◌, Bool, cond, Some, sym, ap, ◌∙◌}
use Rattle.mtn_base.specs.Names.{same_name}
use Rattle.mtn_base.specs.declared.name.NodeName.{NodeName}
use Rattle.mtn_base.specs.Lists.{is_some_with}
use Rattle.mtn_base.proofs.Tests.{same_name-is}
use Rattle.mtn_apply.proofs.Links.{get-set_at, get-set_other}
use Rattle.mtn_apply.proofs.edits.note_edit.Goals as goal

pub returns-in_ok-later-clause-first : goal.returns-in_ok-later-clause-first
returns-in_ok-later-clause-first c = λ n.
    c.in_ok-later.ensures.updates n
    ∙ ap (λ (b : Bool). cond b (Some c.args.at) (of_name c.args.first.now n))
    (ap (is_some_with (λ (m : NodeName). same_name m n)) (sym c.in-Some.is))

pub returns-in_ok-later-clause-here : goal.returns-in_ok-later-clause-here
returns-in_ok-later-clause-here c = λ n h.
    let is : c.in-Some.name ≡ n = same_name-is c.in-Some.name n (ap (is_some_with (λ (m : NodeName). same_name m n)) (sym c.in-Some.is) ∙ h) in
    get-set_at c.args.next.now.items c.args.at c.in_ok-later.later c.requires.within ∙ ap Some (c.in_ok-later.ensures.old ∙ ap (of_name c.args.first.now) is)

pub returns-in_ok-later-clause-others : goal.returns-in_ok-later-clause-others
returns-in_ok-later-clause-others c = λ k ne. get-set_other c.args.next.now.items c.args.at k c.in_ok-later.later ne

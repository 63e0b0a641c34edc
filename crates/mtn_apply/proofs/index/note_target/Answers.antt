-- The key is the target.
use Rattle.std.proofs.Common.{sym, ap, ◌∙◌, cond, Some, option_copied, List, ℕ, Bool}
use Rattle.mtn_apply.specs.Maps.{of_path}
use Rattle.mtn_base.specs.Names.{same_path}
use Rattle.mtn_base.specs.Lists.{is_some_with}
use Rattle.mtn_apply.proofs.index.note_target.Goals as goal

pub returns-in_ok-insert : goal.returns-in_ok-insert
returns-in_ok-insert c = λ q.
    c.in_ok-insert.ensures q
    ∙ ap (λ (b : Bool). cond b (Some c.args.at) (of_path c.args.targets.now q))
    (ap (λ (p : List (List ℕ)). same_path p q) c.in_ok-copy.ensures
    ∙ ap (λ o. is_some_with (λ t. same_path t q) (option_copied o)) (sym c.in-Some.is))

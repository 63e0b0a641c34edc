-- By the test of names.
use Rattle.std.proofs.Common.{◌∙◌, sym, ap}
use Rattle.mtn_base.specs.Names.{same_name}
use Rattle.mtn_base.proofs.Tests.{same_name-is, same_name-self}
use Rattle.mtn_check_pieces.proofs.same_marks.is_same_name.Goals as goal

pub returns : goal.returns
returns c = (
  λ t. same_name-is c.args.first.now c.args.second.now (sym c.same.ensures ∙ t),
  λ e. c.same.ensures ∙ ap (same_name c.args.first.now) (sym e) ∙ same_name-self c.args.first.now,
)

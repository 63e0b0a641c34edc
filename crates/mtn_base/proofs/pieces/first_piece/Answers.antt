use Rattle.std.proofs.Common.{sym, ◌∙◌}
use Rattle.mtn_base.proofs.PathLemmas.{first_of_some, first_of_none}
use Rattle.mtn_base.proofs.pieces.first_piece.Goals as goal

pub returns-in-Some : goal.returns-in-Some
returns-in-Some c = first_of_some c.args.text.now c.in-Some.end (sym c.slash_in.ensures ∙ c.in-Some.is)

pub returns-in-None : goal.returns-in-None
returns-in-None c = first_of_none c.args.text.now (sym c.slash_in.ensures ∙ c.in-None.is)

use Rattle.std.proofs.Common.{◌++◌, ◌∙◌, ap}
use Rattle.std.proofs.lemmas.List.Splits.{join_with_byte-slice_split}
use Rattle.mtn_base.specs.Paths.{path_text, pieces_of}
use Rattle.mtn_base.proofs.path.Path.read.Goals as goal

pub returns-clause-ok : goal.returns-clause-ok
returns-clause-ok c =
    ap path_text (c.in_ok-share.ensures ∙ c.in_ok-push_pieces.ensures.ok ∙ ap (λ xs. xs ++ pieces_of c.args.text.now) c.new-comps.ensures.items) ∙ join_with_byte-slice_split 47 c.args.text.now

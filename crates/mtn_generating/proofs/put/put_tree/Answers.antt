use Rattle.std.proofs.Common.{List, ℕ, ◌∙◌, subst}
use Rattle.mtn_generating.specs.Generating.{Goes}
use Rattle.mtn_generating.proofs.GoingLemmas.{Puts}
use Rattle.mtn_generating.proofs.put.put_tree.Goals as goal

pub returns-clause-goes : goal.returns-clause-goes
returns-clause-goes g c =
    subst (λ (b : List ℕ). Goes (g.I.Ident.meaning c.args.ident.now) g.K.Keeper.contents g.K.Keeper.leaves g.K.Keeper.faults c.args.draft.now.keeper.now c.put_text.new.draft.keeper.now c.args.draft.now.pending c.put_text.new.draft.pending
    (Puts (g.I.Ident.meaning c.args.ident.now) g.K.Keeper.contents g.K.Keeper.leaves g.K.Keeper.faults c.args.work c.args.tips.now b) c.put_text.result) (c.as_slice-bytes.ensures ∙ c.in_ok-text.ensures) c.put_text.ensures.goes

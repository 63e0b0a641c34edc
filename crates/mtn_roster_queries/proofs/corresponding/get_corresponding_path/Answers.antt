use Rattle.std.proofs.Common.{◌≡◌, Err, Ok, sym, ap, ◌∙◌, subst}
use Rattle.std.proofs.lemmas.Result.{err_from_is_err_and}
use Rattle.mtn_base.specs.declared.refusal.Cause.TheVariants.{NoSuchPath}
use Rattle.mtn_marking.specs.Marking.{MarkedTree}
use Rattle.mtn_roster.specs.Tree.{node_at}
use Rattle.mtn_answers.specs.Views.{corresponding_at, node_text, over}
use Rattle.mtn_roster_queries.specs.Answers.{Gives}
use Rattle.mtn_roster_queries.proofs.Views.{gives_same, neither_found, with_both}
use Rattle.mtn_roster_queries.proofs.corresponding.get_corresponding_path.Goals as goal

pub returns-in_err-both-clause-found : goal.returns-in_err-both-clause-found
returns-in_err-both-clause-found g c f s d =
    let h = d.stands.history in
    let p = err_from_is_err_and c.from_residual.result c.from_residual.ensures.1 in
    subst (Gives (λ answer. answer ≡ corresponding_at h c.args.id c.args.path.now c.args.other)) (sym (p.1 ∙ ap Err p.2))
    (neither_found h c.args.id c.args.other c.args.path.now c.in_err-both.field-0.0 (c.in_err-both.ensures.found f s d))

pub returns-clause-found : goal.returns-clause-found
returns-clause-found g c f s d =
    let h = d.stands.history in
    let both = c.in_ok-both.both in
    let found = c.in_ok-both.ensures.found f s d in
    gives_same (over (NoSuchPath c.args.path.now) (node_at c.roster.result.now c.args.path.now) (λ n. Ok (node_text c.roster-2.result.now n.name))) (corresponding_at h c.args.id c.args.path.now c.args.other) c.corresponding.result
    (with_both h c.args.id c.args.other c.args.path.now both.left both.right c.roster.result.now c.roster-2.result.now found.0 found.2 (found.1.tree ∙ sym (c.roster.ensures.tree ∙ ap (λ (x : MarkedTree). x.tree) c.marked.ensures)) (found.3.tree ∙ sym (c.roster-2.ensures.tree ∙ ap (λ (x : MarkedTree). x.tree) c.marked-2.ensures)))
    c.corresponding.ensures.found

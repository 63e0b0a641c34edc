use Rattle.mtn_merge.specs.Plans.{IsMadeOf, outcomes}
use Rattle.mtn_plans.specs.Plans.{Ends}
use Rattle.mtn_merge.proofs.Plans.{clear_kept, conflicted, gives_map, made}
use Rattle.mtn_merge.proofs.planning.ends.Goals as goal

pub returns-then-not-none-clause-ends : goal.returns-then-not-none-clause-ends
returns-then-not-none-clause-ends g c = λ h sl sr.
    let x = c.args.compared in
    conflicted (g.I.Ident.meaning c.args.ident.now) h x.left.id x.right.id x.decisions x.conflicts c.requires.conflicts
    (λ none. let t = c.none.ensures.1 none in let n = c.if-not-none.true in cc)

pub text_of-requires-clause-clear : goal.text_of-requires-clause-clear
text_of-requires-clause-clear g c = λ κs alive. (c.args.compared.conflicts, c.requires.conflicts, c.none.ensures.0 c.if-not-none.false)

pub returns-clause-ends : goal.returns-clause-ends
returns-clause-ends g c = λ h sl sr.
    let f = g.I.Ident.meaning c.args.ident.now in
    let x = c.args.compared in
    gives_map (IsMadeOf f h x.left.id x.right.id x.decisions) (Ends f h x.left.id x.right.id x.decisions) (outcomes c.text_of.result)
    (made f h x.left.id x.right.id x.decisions x.conflicts c.requires.conflicts (c.none.ensures.0 c.if-not-none.false))
    (c.text_of.ensures.made h sl sr)

pub returns-clause-clear : goal.returns-clause-clear
returns-clause-clear g c = λ h sl sr.
    let x = c.args.compared in
    clear_kept (g.I.Ident.meaning c.args.ident.now) h x.left.id x.right.id x.decisions (x.conflicts, c.requires.conflicts, c.none.ensures.0 c.if-not-none.false) c.text_of.result (c.text_of.ensures.kept h sl sr)

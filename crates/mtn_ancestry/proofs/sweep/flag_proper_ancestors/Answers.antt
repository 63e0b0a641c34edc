use Rattle.std.proofs.Common.{inr, ⊎_elim, arith}
use Rattle.mtn_ancestry.specs.Log.{parents_of}
use Rattle.mtn_ancestry.proofs.Ancestry.{proper_cases, proper_through}
use Rattle.mtn_ancestry.proofs.sweep.flag_proper_ancestors.Goals as goal

pub returns-clause-exact : goal.returns-clause-exact
returns-clause-exact c = λ x.
    let all = c.flag_ancestors.ensures.exact x (omega arith) in (
      λ f.
          let t = all.0 f in
          ⊎_elim (λ g. absurd (c.requires.none t.0 g)) (λ u. (u.0, u.1, proper_through c.requires.earlier u.2 t.2)) ((c.flag_all_parents.ensures.exact t.0).0 t.1),
      λ t.
          let q = proper_cases (parents_of c.args.log.now) t.0 x t.2 in
          all.1 (q.0, (c.flag_all_parents.ensures.exact q.0).1 (inr (t.0, t.1, q.1)), q.2),
    )

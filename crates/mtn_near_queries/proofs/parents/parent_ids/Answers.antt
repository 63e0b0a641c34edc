use Rattle.std.specs.Prelude.{Contains, IfOk}
use Rattle.std.proofs.Common.{sym, subst}
use Rattle.mtn_ancestry.specs.Log.{list_of}
use Rattle.mtn_ancestry.specs.declared.pos.ParentList.{ParentList}
use Rattle.mtn_near_queries.specs.Finding.{AreNamedAt}
use Rattle.mtn_near_queries.proofs.parents.parent_ids.Goals as goal

pub ids_at-requires-in-One : goal.ids_at-requires-in-One
ids_at-requires-in-One g c = record {
  below = λ at k. c.requires.below at (subst (λ (ps : ParentList). Contains (list_of ps) at) (sym c.in-One.is) k);
}

pub ids_at-requires-in-Two : goal.ids_at-requires-in-Two
ids_at-requires-in-Two g c = record {
  below = λ at k. c.requires.below at (subst (λ (ps : ParentList). Contains (list_of ps) at) (sym c.in-Two.is) k);
}

pub returns-in-Zero-clause-found : goal.returns-in-Zero-clause-found
returns-in-Zero-clause-found g c f s d =
    subst (λ (ps : ParentList). IfOk c.ids_at.result (λ ids. AreNamedAt d.stands.history (list_of ps) ids.items))
    (sym c.in-Zero.is) (c.ids_at.ensures.found f s d)

pub returns-in-One-clause-found : goal.returns-in-One-clause-found
returns-in-One-clause-found g c f s d =
    subst (λ (ps : ParentList). IfOk c.ids_at-in-One.result (λ ids. AreNamedAt d.stands.history (list_of ps) ids.items))
    (sym c.in-One.is) (c.ids_at-in-One.ensures.found f s d)

pub returns-in-Two-clause-found : goal.returns-in-Two-clause-found
returns-in-Two-clause-found g c f s d =
    subst (λ (ps : ParentList). IfOk c.ids_at-in-Two.result (λ ids. AreNamedAt d.stands.history (list_of ps) ids.items))
    (sym c.in-Two.is) (c.ids_at-in-Two.ensures.found f s d)

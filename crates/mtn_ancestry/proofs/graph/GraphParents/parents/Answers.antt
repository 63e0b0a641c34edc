use Rattle.std.specs.Prelude.{Contains}
use Rattle.std.proofs.Common.{◌≡◌, List, ◌<◌, length, refl, sym, ◌∙◌, subst}
use Rattle.mtn_ancestry.specs.declared.pos.LogEntry.{LogEntry}
use Rattle.mtn_ancestry.specs.Log.{parents_of, IsLog}
use Rattle.mtn_ancestry.proofs.graph.GraphParents.parents.Goals as goal

pub parents_at-requires : goal.parents_at-requires
parents_at-requires c =
    let log : IsLog c.args.self.now = subst IsLog c.entries.ensures.value c.entries.ensures.log in
    subst (λ (l : List LogEntry). c.args.at < length l) (sym c.entries.ensures.value)
    (c.requires (length c.args.self.now) (parents_of c.args.self.now) (record { long = refl; same = λ r. refl; earlier = log.earlier }))

pub returns-clause-below : goal.returns-clause-below
returns-clause-below c = λ p m. c.entries.ensures.log.earlier c.args.at p (subst (λ l. Contains l p) c.parents_at.ensures m)

pub returns-clause-told : goal.returns-clause-told
returns-clause-told c = λ count graph t.
    c.parents_at.ensures ∙ subst (λ (l : List LogEntry). parents_of l c.args.at ≡ graph c.args.at) (sym c.entries.ensures.value) (sym (t.same c.args.at))

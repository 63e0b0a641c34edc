use Rattle.std.specs.Prelude.{List}
use Rattle.std.proofs.Common.{◌≡◌, ℕ, [], Some, sym, ◌∙◌, subst}
use Rattle.mtn_ancestry.specs.Log.{id_at}
use Rattle.mtn_ancestry.specs.declared.pos.LogEntry.{LogEntry}
use Rattle.mtn_base.specs.declared.id.Id.{Id}
use Rattle.mtn_history_laws.specs.History.{Revision}
use Rattle.mtn_replay.specs.Graphs.{IsGraphOf}
use Rattle.mtn_base.specs.Lists.{IsListOf}
use Rattle.mtn_answers.specs.Queries.{IsParent}
use Rattle.mtn_base.specs.Ids.{by_id}
use Rattle.mtn_base.proofs.IdOrder.{contains_nil}
use Rattle.mtn_answers.proofs.Lists.{sorted_nil}
use Rattle.mtn_graph_queries.proofs.Telling.{place_from, place_to}
use Rattle.mtn_graph_queries.proofs.graph.line.Goals as goal
use Rattle.mtn_graph_queries.proofs.graph.line.Goals.{in-Some+in_ok-parents-in-Some, in-None}

no_parents : (h : List Revision) (log : List LogEntry) (tells : IsGraphOf h log) (id : Id) → ((a : ℕ) → id_at log a ≡ Some id → ⊥) → IsListOf by_id (λ x. IsParent h x id) []
no_parents h log tells id none = record { ascending = sorted_nil by_id; exact = λ x. (λ c. absurd (contains_nil c), λ t. absurd (none t.1 (place_to h log tells id t.1 t.3))) }

pub returns-clause-parents : goal.returns-clause-parents
returns-clause-parents c h tells = elim c.match-find.branch [
  | in-Some+in_ok-parents-in-Some w ↦ subst (IsListOf by_id (λ x. IsParent h x c.args.id)) (sym w.parents-is)
      (w.in_ok-parents-in-Some.ensures h c.args.id tells (place_from h c.args.graph.now tells c.args.id w.in-Some.at w.in-Some.ensures.found))
  | in-None w ↦ subst (IsListOf by_id (λ x. IsParent h x c.args.id)) (sym (w.parents-is ∙ w.new-parents.ensures))
      (no_parents h c.args.graph.now tells c.args.id (λ a at. absurd (let t = w.in-None.ensures.all a at in cc)))
]

-- What is answered of the graph that a draft tells.
use Rattle.std.specs.Prelude.{IfSome}
use Rattle.std.proofs.Common.{◌≡◌, inl, inr, ℕ, Bool, true, false, List, Option, Some, None, Result, Ok, Err, refl, sym, subst, arith}
use Rattle.mtn_ancestry.specs.declared.pos.LogEntry.{LogEntry}
use Rattle.mtn_history_laws.specs.History.{Revision}
use Rattle.mtn_replay.specs.Graphs.{IsGraphOf}
use Rattle.mtn_replay.specs.Lawful.{IsHistory}
use Rattle.mtn_model.specs.Table.{Contents}
use Rattle.mtn_model.specs.State.{State}
use Rattle.mtn_base.specs.declared.refusal.Cause.TheVariants.{UnknownRevision}
use Rattle.mtn_ports.specs.Causes.{Rose}
use Rattle.mtn_ports.specs.Kept.{Stays, with_all}
use Rattle.mtn_history.specs.Damage.{IsDamage}
use Rattle.mtn_history.specs.Errors.{IfDamage}
use Rattle.mtn_history.specs.Logs.{IsReadTo, LogDamage, WrongBelow}
use Rattle.mtn_history.specs.Meta.{IsMetaOf}
use Rattle.mtn_history.specs.Stands.{IsDraft}
use Rattle.mtn_history.specs.declared.errors.Damage.{Damage}
use Rattle.mtn_history.specs.declared.errors.StoreError.{StoreError}
use Rattle.mtn_history.specs.declared.errors.StoreError.TheVariants.{Failed, Damaged, NoMemory}
use Rattle.mtn_history.specs.declared.errors.HistoryError.{HistoryError}
use Rattle.mtn_history.specs.declared.errors.HistoryError.TheVariants.{Store}
use Rattle.mtn_history.specs.declared.pending.Pending.{Pending}
use Rattle.mtn_history.proofs.GraphLemmas.{graph_sound, graph_told}
use Rattle.mtn_commands.specs.Drafts.{Counts, Drafts, drafted, query_refusal}
use Rattle.mtn_model.specs.Outcome.{Outcome}
use Rattle.mtn_step.specs.Step.{Asked, Steps, done, refused}
use Rattle.mtn_step.specs.declared.call.Call.TheVariants.{Ask}
use Rattle.mtn_answers.specs.Queries.{ids_of}
use Rattle.mtn_graph_queries.specs.Queries.{NamesUnknown}
use Rattle.mtn_answers.specs.declared.query.Query.{Query}
use Rattle.mtn_graph_queries.specs.declared.query.QueryError.{QueryError}
use Rattle.mtn_graph_queries.specs.declared.query.QueryError.TheVariants.{Unknown}
use Rattle.mtn_graph_queries.specs.declared.query.QueryError.TheVariants as query
use Rattle.mtn_commands.proofs.ReasonLemmas.{reason_of}

counted_wrong : (b : Bool) (c : Contents) (n : ℕ) (d : Damage) → IsMetaOf c (record { count = n; is_new = b }) → WrongBelow n c d → LogDamage c d
counted_wrong true c n d counted wrong = absurd (let none = counted.1 in omega (arith, none, wrong.below))
counted_wrong false c n d counted wrong = record { count = n; counted = counted; wrong = wrong }

-- a damage that the graph finds is one of the draft's records
pub graph_damage : (told : Option Contents) (p : Pending) (e : StoreError) → Counts p told → IfSome told (λ c. IfDamage e (WrongBelow p.count (with_all c p.batch))) → IfSome (drafted p told) (λ c. IfDamage e (IsDamage c))
graph_damage None p e counted wrong = tt
graph_damage (Some c) p Failed counted wrong = tt
graph_damage (Some c) p NoMemory counted wrong = tt
graph_damage (Some c) p (Damaged d) counted wrong = inr (inr (inl (counted_wrong p.is_new (with_all c p.batch) p.count d counted wrong)))

module _ (f : List ℕ → List ℕ) {K : Type 0} (contents : K → Option Contents) (leaves : K → Contents → Type 0) (faults : K → ℕ) (old new : K) (before after : Pending)
    (Outcomes : State → Outcome → Type 0) (stays : Stays contents leaves faults old new) where
  -- the graph could not be read
  pub graph_failed : (result : Result (List ℕ) HistoryError) (e : StoreError) → result ≡ Err (Store e) → IfSome (contents new) (λ c. IfDamage e (WrongBelow before.count (with_all c before.batch))) →
      (e ≡ Failed → Rose (faults old) (faults new)) → Drafts f contents leaves faults old new before after Outcomes result
  graph_failed result e is wrong failed = subst (Drafts f contents leaves faults old new before after Outcomes) (sym is) record {
    stays = stays;
    done = λ c s told draft. graph_sound f c before s draft e (subst (λ o. IfSome o (λ c. IfDamage e (WrongBelow before.count (with_all c before.batch)))) told wrong);
    reason = λ counted. reason_of (drafted before (contents new)) (faults old) (faults new) e failed (graph_damage (contents new) before e counted wrong);
  }

  module _ (entries : List LogEntry) (read : IfSome (contents new) (λ c. IsReadTo (with_all c before.batch) before.count entries)) where
    read_at : (c : Contents) → contents new ≡ Some c → IsReadTo (with_all c before.batch) before.count entries
    read_at c told = subst (λ o. IfSome o (λ c. IsReadTo (with_all c before.batch) before.count entries)) told read

    -- what was answered of the graph is the outcome over the history that it tells
    pub graph_answered : (text : List ℕ) → after ≡ before → ((s : State) (h : List Revision) → IsHistory f s.files s.log h → IsGraphOf h entries → Outcomes s (done s text)) →
        Drafts f contents leaves faults old new before after Outcomes (Ok text)
    graph_answered text same made = record {
      stays = stays;
      done = λ c s told draft. let g = graph_told f c before s draft entries (read_at c told) in (s, made s g.0 g.1 g.2, subst (λ (p : Pending). IsDraft f c p s) (sym same) draft);
      reason = λ counted. tt;
    }

    -- a query that has no answer names an unknown id, or wants memory
    pub graph_unanswered : (q : Query) (payload : List ℕ) (e : QueryError) (refusal : HistoryError) → refusal ≡ query_refusal e → ((h : List Revision) → IsGraphOf h entries → NamesUnknown h (ids_of q) e) →
        Drafts f contents leaves faults old new before after (Steps f (Ask q) payload) (Err refusal)
    graph_unanswered q payload e refusal is names = subst (λ r. Drafts f contents leaves faults old new before after (Steps f (Ask q) payload) (Err r)) (sym is) (by e names)
      where
        by : (e : QueryError) → ((h : List Revision) → IsGraphOf h entries → NamesUnknown h (ids_of q) e) → Drafts f contents leaves faults old new before after (Steps f (Ask q) payload) (Err (query_refusal e))
        by query.NoMemory names = record { stays = stays; done = λ c s told draft. tt; reason = λ counted. tt }
        by (Unknown id) names = record {
          stays = stays;
          done = λ c s told draft.
              let g = graph_told f c before s draft entries (read_at c told) in
              (g.0, g.1, subst (λ u. Asked g.0 q s u (refused (UnknownRevision id) s)) (sym (names g.0 g.2)) refl);
          reason = λ counted. tt;
        }

-- Where the revisions of a graph stand.
use Rattle.std.specs.Prelude.{Contains, is_some, option_map, slice_get}
use Rattle.std.proofs.Common.{◌≡◌, ◌<◌, ℕ, true, List, [], Option, Some, None, length, map, refl, sym, ap, ◌∙◌}
use Rattle.std.proofs.lemmas.List.{length-map}
use Rattle.std.proofs.lemmas.Option.{slice_get-map}
use Rattle.mtn_ancestry.specs.Log.{id_at, list_of}
use Rattle.mtn_ancestry.specs.declared.pos.LogEntry.{LogEntry}
use Rattle.mtn_answers.specs.Queries.{IsAnswer}
use Rattle.mtn_answers.specs.declared.query.Query.TheVariants.{AncestryDifference}
use Rattle.mtn_base.specs.declared.id.Id.{Id}
use Rattle.mtn_branches.specs.Graphs.{IsHeldBy}
use Rattle.mtn_graph_queries.proofs.Telling.{place_to}
use Rattle.mtn_history_laws.specs.History.{Revision}
use Rattle.mtn_replay.specs.Graphs.{IsGraphOf}
use Rattle.mtn_replay.proofs.Places.{inside}

-- a revision that the graph has is found
pub is_found : (log : List LogEntry) (id : Id) (found : Option ℕ) → ((at : ℕ) → id_at log at ≡ Some id → found ≡ Some at) → IsHeldBy log id → is_some found ≡ true
is_found log id found all held = ap is_some (all held.0 held.1)

-- and stands within it
pub id_within : (log : List LogEntry) (id : Id) (at : ℕ) → id_at log at ≡ Some id → at < length log
id_within log id at is = by (slice_get log at) refl is
  where
    by : (o : Option LogEntry) → slice_get log at ≡ o → option_map (λ (e : LogEntry). e.id) o ≡ Some id → at < length log
    by None here e = absurd cc
    by (Some entry) here e = inside log at entry here

-- a graph tells a history, whatever its trees are
pub bare : LogEntry → Revision
bare e = record { id = e.id; parents = list_of e.parents; tree = [] }

abbrev pub bare_history : List LogEntry → List Revision
bare_history log = map bare log

pub tells_bare : (log : List LogEntry) → IsGraphOf (bare_history log) log
unfolding bare
tells_bare log = record {
  long = sym (length-map log bare);
  each = λ r e v here at.
      let same : bare e ≡ v = (let t = sym (ap (option_map bare) here) ∙ sym (slice_get-map bare log r) ∙ at in cc) in
      (ap (λ (x : Revision). x.id) same, ap (λ (x : Revision). x.parents) same);
}

-- the revisions that an export asks for are in the graph
pub asked_known : (log : List LogEntry) (id : Id) (have ids : List Id) → IsAnswer (bare_history log) (AncestryDifference id have) ids → (x : Id) → Contains ids x → IsHeldBy log x
asked_known log id have ids asked x among = let up = ((asked.exact x).0 among).0 in (up.0, place_to (bare_history log) log (tells_bare log) x up.0 up.2)

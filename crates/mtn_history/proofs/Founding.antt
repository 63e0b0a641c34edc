-- A draft at a moment, and the history that it stands on.
use Rattle.std.specs.Prelude.{IfSome}
use Rattle.std.proofs.Common.{◌≡◌, ◌≢◌, ◌<◌, ℕ, Bool, true, false, List, length, Option, Some, refl, sym, ap, ◌∙◌, subst, arith}
use Rattle.mtn_ancestry.specs.Log.{list_of}
use Rattle.mtn_history_laws.specs.History.{Revision, parents_at, revision_parents, IsGrown}
use Rattle.mtn_replay.proofs.Histories.{history_is_grown}
use Rattle.mtn_model.specs.State.{State}
use Rattle.mtn_model.specs.Table.{Contents}
use Rattle.mtn_ports.specs.Kept.{Same, with_all}
use Rattle.mtn_records.specs.declared.record.LogRecord.{LogRecord}
use Rattle.mtn_history.specs.declared.pending.Pending.{Pending}
use Rattle.mtn_history.specs.Graph.{TellsGraph}
use Rattle.mtn_history.specs.Logs.{IsLogged}
use Rattle.mtn_history.specs.Records.{meta_puts}
use Rattle.mtn_history.specs.Revisions.{AreTexts, AreLogged, AreRosters}
use Rattle.mtn_history.specs.Stands.{IsDraft, IsFounded}
use Rattle.mtn_history.proofs.FileLemmas.{behind_meta, other_table}
use Rattle.mtn_history.proofs.LogLemmas.{read_is, there}

-- the records of table 1 leave every other table
pub table_of : (b : Bool) (n : ℕ) (c : Contents) (t : ℕ) → t ≢ 1 → with_all c (meta_puts b n) t ≡ c t
table_of true n c t other = other_table 1 t _ _ other ∙ other_table 1 t _ _ other
table_of false n c t other = refl

abbrev pub founded : (f : List ℕ → List ℕ) (told : Option Contents) (c : Contents) (p : Pending) (s : State) → told ≡ Some c → IsDraft f c p s → IsFounded f told p s
founded f told c p s tells draft = record {
  records = c;
  tells = tells;
  draft = draft;
  count = draft.count;
  stands = (behind_meta p.is_new f (with_all c p.batch) p.count s draft.count draft.stands).base;
}

-- what is told at the end was told before
abbrev pub back : (f : List ℕ → List ℕ) (old new : Option Contents) (p : Pending) (s : State) → Same old new → IsFounded f new p s → IsFounded f old p s
back f old new p s same d = record { records = d.records; tells = same d.records d.tells; draft = d.draft; count = d.count; stands = d.stands }

-- a fact of the told records
pub told_of : (told : Option Contents) (c : Contents) (P : Contents → Type 0) → told ≡ Some c → IfSome told P → P c
told_of told c P tells fact = subst (λ o. IfSome o P) tells fact

module _ (f : List ℕ → List ℕ) (told : Option Contents) (p : Pending) (s : State) (d : IsFounded f told p s) where
  abbrev pub history : List Revision
  history = d.stands.history

  abbrev pub own : Contents
  own = with_all d.records p.batch

  pub grown : IsGrown history
  grown = history_is_grown f s.files s.log history d.stands.spelled

  pub counted : p.count ≡ length history
  counted = d.count ∙ sym d.stands.spelled.long

  pub files_of : own 2 ≡ s.files
  files_of = sym (table_of p.is_new p.count own 2 (λ e. omega (arith, e))) ∙ d.stands.files

  pub texts_of : AreTexts s.log (own 3)
  texts_of = subst (AreTexts s.log) (table_of p.is_new p.count own 3 (λ e. omega (arith, e))) d.stands.texts

  pub log_of : AreLogged history d.stands.kept (own 4)
  log_of = subst (AreLogged history d.stands.kept) (table_of p.is_new p.count own 4 (λ e. omega (arith, e))) d.stands.log

  pub rosters_of : AreRosters history d.stands.kept (own 5)
  rosters_of = subst (AreRosters history d.stands.kept) (table_of p.is_new p.count own 5 (λ e. omega (arith, e))) d.stands.rosters

  -- the parents in a record that was read are those of the revision
  pub parents_told : (r : ℕ) (log : LogRecord) → r < length history → IfSome told (λ c. IsLogged (with_all c p.batch) r log) → list_of log.parents ≡ parents_at history r
  parents_told r log lt read =
      let is = read_is own history d.stands.kept grown d.stands.revisions.long log_of r log (told_of told d.records (λ c. IsLogged (with_all c p.batch) r log) d.tells read) lt in
      is.1 ∙ sym (ap revision_parents (there own history d.stands.kept grown d.stands.revisions.long log_of r lt).3)

-- the graph of a draft
pub tells_back : (old new : Option Contents) (p : Pending) (count : ℕ) (graph : ℕ → List ℕ) → Same old new → TellsGraph new p count graph → TellsGraph old p count graph
tells_back old new p count graph same tells = record {
  ident = tells.ident;
  state = tells.state;
  founded = back tells.ident old new p tells.state same tells.founded;
  number = tells.number;
  parents = tells.parents;
  earlier = tells.earlier;
}

pub tells_parents : (old new : Option Contents) (p : Pending) (at : ℕ) (log : LogRecord) → Same old new → ((count : ℕ) (graph : ℕ → List ℕ) → TellsGraph old p count graph → at < count) →
    IfSome new (λ c. IsLogged (with_all c p.batch) at log) → (count : ℕ) (graph : ℕ → List ℕ) → TellsGraph new p count graph → list_of log.parents ≡ graph at
tells_parents old new p at log same below read count graph tells =
    parents_told tells.ident new p tells.state tells.founded at log (subst (λ n. at < n) tells.number (below count graph (tells_back old new p count graph same tells))) read
    ∙ ap (λ (g : ℕ → List ℕ). g at) (sym tells.parents)

pub tells_founded : (f : List ℕ → List ℕ) (told : Option Contents) (p : Pending) (s : State) → (d : IsFounded f told p s) → TellsGraph told p p.count (parents_at d.stands.history)
tells_founded f told p s d = record {
  ident = f;
  state = s;
  founded = d;
  number = counted f told p s d;
  parents = refl;
  earlier = (grown f told p s d).earlier;
}

-- what a call of `parents` tells
pub parents_of_told : (old new : Option Contents) (p q : Pending) (at : ℕ) (log : LogRecord) → q ≡ p → Same old new → ((count : ℕ) (graph : ℕ → List ℕ) → TellsGraph old p count graph → at < count) →
    IfSome new (λ c. IsLogged (with_all c p.batch) at log) → (count : ℕ) (graph : ℕ → List ℕ) → TellsGraph new q count graph → list_of log.parents ≡ graph at
parents_of_told old new p q at log is same below read count graph tells =
    tells_parents old new p at log same below read count graph (subst (λ (x : Pending). TellsGraph new x count graph) is tells)

-- The heads and branches that a draft's certificates and graph give are those of its state.
use Rattle.std.specs.Prelude.{Contains, IfSome, ◌↔◌}
use Rattle.std.proofs.Common.{◌≡◌, ℕ, List, Option, Some, Result, Err, sym, subst}
use Rattle.mtn_ancestry.specs.declared.pos.LogEntry.{LogEntry}
use Rattle.mtn_answers.specs.Queries.{IsProperlyAbove}
use Rattle.mtn_base.specs.Ids.{by_id}
use Rattle.mtn_base.specs.Lists.{IsListOf}
use Rattle.mtn_base.specs.Names.{bytes_cmp}
use Rattle.mtn_base.specs.declared.id.Id.{Id}
use Rattle.mtn_branches.specs.Branches.{IsBranch, IsHead, IsMember}
use Rattle.mtn_branches.specs.Graphs.{IsHeldBy}
use Rattle.mtn_branches.specs.Graphs.{IsProperlyAbove as IsProperlyAboveIn}
use Rattle.mtn_branches.proofs.HeadLemmas.{alike_heads, list_alike}
use Rattle.mtn_certs.specs.Certificates.{Certificate}
use Rattle.mtn_graph_queries.proofs.Telling.{above_from, above_to, place_from, place_to}
use Rattle.mtn_history.specs.Damage.{IsDamage}
use Rattle.mtn_history.specs.Errors.{IfDamage}
use Rattle.mtn_history.specs.Logs.{IsReadTo}
use Rattle.mtn_history.specs.Marked.{IsCounted}
use Rattle.mtn_history.specs.Stands.{IsDraft}
use Rattle.mtn_history.specs.declared.errors.HistoryError.{HistoryError}
use Rattle.mtn_history.specs.declared.errors.HistoryError.TheVariants.{Store}
use Rattle.mtn_history.specs.declared.errors.StoreError.{StoreError}
use Rattle.mtn_history.specs.declared.errors.StoreError.TheVariants.{Failed}
use Rattle.mtn_history.specs.declared.pending.Pending.{Pending}
use Rattle.mtn_history.proofs.MarkedLemmas.{draft_counts}
use Rattle.mtn_history_laws.specs.History.{Revision}
use Rattle.mtn_model.specs.Outcome.{Outcome}
use Rattle.mtn_model.specs.State.{Holds, State}
use Rattle.mtn_model.specs.Table.{Contents}
use Rattle.mtn_ports.specs.Causes.{Rose}
use Rattle.mtn_ports.specs.Kept.{Stays, with_all}
use Rattle.mtn_replay.specs.Graphs.{IsGraphOf}
use Rattle.mtn_replay.specs.Lawful.{IsHistory}
use Rattle.mtn_replay.proofs.Histories.{one_history}
use Rattle.mtn_step.specs.Certifying.{AreBranches, AreHeads}
use Rattle.mtn_put_certs.specs.Reading.{AreKnown}
use Rattle.mtn_commands.specs.Drafts.{Drafts}
use Rattle.mtn_history.proofs.GraphLemmas.{graph_told}
use Rattle.mtn_commands.proofs.ViewLemmas.{never, reason_of}

module _ (h : List Revision) (log : List LogEntry) (tells : IsGraphOf h log) where
  same_above : (x r : Id) → IsProperlyAboveIn log x r ↔ IsProperlyAbove h x r
  same_above x r = (
    λ p. (p.0, (p.1.0, p.1.1, place_from h log tells x p.1.0 p.1.2, place_from h log tells r p.1.1 p.1.3, above_to h log tells p.1.4)),
    λ p. (p.0, (p.1.0, p.1.1, place_to h log tells x p.1.0 p.1.2, place_to h log tells r p.1.1 p.1.3, above_from h log tells p.1.4)),
  )

module _ (f : List ℕ → List ℕ) (c : Contents) (p : Pending) (s : State) (draft : IsDraft f c p s) (entries : List LogEntry) (read : IsReadTo (with_all c p.batch) p.count entries) (certs : List Certificate) (held : (x : Certificate) → Contains certs x ↔ Holds s.certs x)
    (h : List Revision) (spelled : IsHistory f s.files s.log h) where
  tells : IsGraphOf h entries
  tells =
      let g = graph_told f c p s draft entries read in
      subst (λ (x : List Revision). IsGraphOf x entries) (one_history f s.files s.log g.0 h g.1 spelled) g.2

  same_member : (branch : List ℕ) (r : Id) → IsMember (Contains certs) branch r ↔ IsMember (Holds s.certs) branch r
  same_member branch r = (λ m. (m.0, (held m.0).0 m.1, m.2), λ m. (m.0, (held m.0).1 m.1, m.2))

  -- the heads that the graph and the certificates give are those of the state
  pub heads_over : (branch : List ℕ) (ids : List Id) → IsListOf by_id (IsHead (IsProperlyAboveIn entries) (IsMember (Contains certs) branch)) ids → AreHeads s h branch ids
  heads_over branch ids list =
      list_alike by_id (IsHead (IsProperlyAboveIn entries) (IsMember (Contains certs) branch)) (IsHead (IsProperlyAbove h) (IsMember (Holds s.certs) branch)) ids
      (alike_heads (IsProperlyAboveIn entries) (IsProperlyAbove h) (IsMember (Contains certs) branch) (IsMember (Holds s.certs) branch) (same_above h entries tells) (same_member branch)) list

-- each member stands in the graph
pub known_member : (log : List LogEntry) (certs : List Certificate) → AreKnown log certs → (branch : List ℕ) (r : Id) → IsMember (Contains certs) branch r → IsHeldBy log r
known_member log certs known branch r m = subst (IsHeldBy log) m.2.revision (known m.0 m.1)

-- the branches of the certificates that are held
pub branches_over : (s : State) (certs : List Certificate) → ((x : Certificate) → Contains certs x ↔ Holds s.certs x) → (values : List (List ℕ)) → IsListOf bytes_cmp (IsBranch (Contains certs)) values → AreBranches s values
branches_over s certs held values list = list_alike bytes_cmp (IsBranch (Contains certs)) (IsBranch (Holds s.certs)) values (λ v. (λ b. (b.0, (held b.0).0 b.1, b.2), λ b. (b.0, (held b.0).1 b.1, b.2))) list

-- records that stand for a state have no damage
pub never_told : (f : List ℕ → List ℕ) (told : Option Contents) (p : Pending) (c : Contents) (s : State) (e : StoreError) → told ≡ Some c → IsDraft f c p s →
    IfSome told (λ c. IsCounted p c → IfDamage e (IsDamage (with_all c p.batch))) → IfDamage e (λ _. ⊥)
never_told f told p c s e now draft damage = never f c p s e draft (subst (λ o. IfSome o (λ x. IsCounted p x → IfDamage e (IsDamage (with_all x p.batch)))) now damage (draft_counts f c p s draft))

module _ (f : List ℕ → List ℕ) {K : Type 0} (contents : K → Option Contents) (leaves : K → Contents → Type 0) (faults : K → ℕ) (old new : K) (before after : Pending)
    (Outcomes : State → Outcome → Type 0) (stays : Stays contents leaves faults old new) where
  -- the heads could not be told
  pub heads_failed : (result : Result (List ℕ) HistoryError) (e : StoreError) → result ≡ Err (Store e) → IfSome (contents new) (λ c. IsCounted before c → IfDamage e (IsDamage (with_all c before.batch))) →
      (e ≡ Failed → Rose (faults old) (faults new)) → Drafts f contents leaves faults old new before after Outcomes result
  heads_failed result e is damage rose = subst (Drafts f contents leaves faults old new before after Outcomes) (sym is) record {
    stays = stays;
    done = λ c s now draft. never_told f (contents new) before c s e now draft damage;
    reason = λ counts. reason_of (contents new) before e (faults old) (faults new) rose damage counts;
  }

use Rattle.std.specs.Prelude.{Contains, IfSome}
use Rattle.std.proofs.Common.{sym, subst}
use Rattle.mtn_base.specs.Ids.{by_id}
use Rattle.mtn_base.specs.Lists.{IsListOf}
use Rattle.mtn_branches.specs.Branches.{IsHead, IsMember}
use Rattle.mtn_branches.specs.Graphs.{IsProperlyAbove}
use Rattle.mtn_history.specs.Logs.{IsReadTo}
use Rattle.mtn_ports.specs.Kept.{with_all}
use Rattle.mtn_put_certs.specs.Reading.{AreKnown}
use Rattle.mtn_commands.proofs.HeadsLemmas.{heads_over, known_member}
use Rattle.mtn_commands.proofs.heads.heads_of.Goals as goal

pub heads-requires : goal.heads-requires
heads-requires g c = λ r m.
    known_member c.in_ok-graph.graph c.deref.result.now (subst (AreKnown c.in_ok-graph.graph) (sym c.deref.ensures.value) c.in_ok-graph.ensures.known) c.args.branch.now r m

pub returns-clause-found : goal.returns-clause-found
returns-clause-found g c = λ f d s now draft h spelled.
    let log = c.in_ok-graph.graph in
    let before = c.args.draft.now.pending in
    let branch = c.args.branch.now in
    let ids = c.in_ok-heads.field-0.items in
    let read = subst (λ o. IfSome o (λ d. IsReadTo (with_all d before.batch) before.count log)) now c.in_ok-graph.ensures.read in
    heads_over f d before s draft log read c.in_ok-graph.certs.items (c.in_ok-graph.ensures.found f d s now draft) h spelled branch ids
    (subst (λ l. IsListOf by_id (IsHead (IsProperlyAbove log) (IsMember (Contains l) branch)) ids) c.deref.ensures.value c.in_ok-heads.ensures)

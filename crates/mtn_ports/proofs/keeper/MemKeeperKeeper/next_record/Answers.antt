use Rattle.std.proofs.Common.{◌∙◌, subst, option_map}
use Rattle.std.specs.FinMap.{get-empty}
use Rattle.std.specs.Ordering.{nat_cmp}
use Rattle.std.specs.Cmp.Lexicographic.{slice_cmp}
use Rattle.mtn_model.specs.Table.{nothing, body_at}
use Rattle.mtn_ports.specs.Kept.{with_all, IsLeast}
use Rattle.mtn_ports.proofs.KeptLemmas.{least_has_body}
use Rattle.mtn_ports.proofs.keeper.MemKeeperKeeper.next_record.Goals as goal

-- the least key has a body, so that this case is none
pub returns-in-None-clause-found : goal.returns-in-None-clause-found
returns-in-None-clause-found c =
    let records = with_all nothing c.fails.new.self.batch in
    let least = subst (λ found. IsLeast records c.args.table c.args.after.now (option_map (λ key. key.now) found)) c.in-Some.is c.in_ok-least.ensures.found in
    absurd (least_has_body (body_at records c.args.table) c.args.after.now c.in-Some.least.now least (c.in-None.ensures nothing ∙ get-empty (slice_cmp nat_cmp) c.in-Some.least.now))

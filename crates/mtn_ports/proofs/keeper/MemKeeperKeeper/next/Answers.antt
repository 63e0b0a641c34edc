use Rattle.std.proofs.Common.{◌++◌, ◌∙◌, ap, subst, option_map}
use Rattle.mtn_model.specs.Table.{nothing}
use Rattle.mtn_ports.specs.Kept.{with_all, IsLeast}
use Rattle.mtn_ports.proofs.KeptLemmas.{least_is_next, least_is_above, same_records}
use Rattle.mtn_ports.proofs.keeper.MemKeeperKeeper.next.Goals as goal

pub returns-in_ok-extend_from_slice-in-Some-clause-found : goal.returns-in_ok-extend_from_slice-in-Some-clause-found
returns-in_ok-extend_from_slice-in-Some-clause-found c =
    let records = with_all nothing c.fails.new.self.batch in
    least_is_next records c.args.table c.args.after.now c.in-Some.least.now c.extend_from_slice.new.self.items
    (subst (λ found. IsLeast records c.args.table c.args.after.now (option_map (λ key. key.now) found)) c.in-Some.is c.in_ok-least.ensures.found)
    (c.in_ok-extend_from_slice-in-Some.ensures.items ∙ ap (λ xs. xs ++ c.in-Some.least.now) c.clear.ensures.items)

pub returns-in_ok-extend_from_slice-in-Some-clause-above : goal.returns-in_ok-extend_from_slice-in-Some-clause-above
returns-in_ok-extend_from_slice-in-Some-clause-above c =
    let records = with_all nothing c.fails.new.self.batch in
    least_is_above records c.args.table c.args.after.now c.in-Some.least.now c.extend_from_slice.new.self.items
    (subst (λ found. IsLeast records c.args.table c.args.after.now (option_map (λ key. key.now) found)) c.in-Some.is c.in_ok-least.ensures.found)
    (c.in_ok-extend_from_slice-in-Some.ensures.items ∙ ap (λ xs. xs ++ c.in-Some.least.now) c.clear.ensures.items)

pub returns-in_ok-extend_from_slice-in-Some-clause-stays : goal.returns-in_ok-extend_from_slice-in-Some-clause-stays
returns-in_ok-extend_from_slice-in-Some-clause-stays c = same_records c.args.self.now c.fails.new.self c.fails.ensures.kept c.fails.ensures.later

pub returns-in_err-extend_from_slice-in-Some-clause-stays : goal.returns-in_err-extend_from_slice-in-Some-clause-stays
returns-in_err-extend_from_slice-in-Some-clause-stays c = same_records c.args.self.now c.fails.new.self c.fails.ensures.kept c.fails.ensures.later

pub returns-in-None-clause-stays : goal.returns-in-None-clause-stays
returns-in-None-clause-stays c = same_records c.args.self.now c.fails.new.self c.fails.ensures.kept c.fails.ensures.later

pub returns-in_err-least-clause-stays : goal.returns-in_err-least-clause-stays
returns-in_err-least-clause-stays c = same_records c.args.self.now c.fails.new.self c.fails.ensures.kept c.fails.ensures.later

pub returns-then-fails-clause-stays : goal.returns-then-fails-clause-stays
returns-then-fails-clause-stays c = same_records c.args.self.now c.fails.new.self c.fails.ensures.kept c.fails.ensures.later

pub returns-in-None-clause-found : goal.returns-in-None-clause-found
returns-in-None-clause-found c =
    subst (λ found. IsLeast (with_all nothing c.fails.new.self.batch) c.args.table c.args.after.now (option_map (λ key. key.now) found)) c.in-None.is c.in_ok-least.ensures.found

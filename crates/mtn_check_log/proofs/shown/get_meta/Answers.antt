use Rattle.std.proofs.Common.{rules, ◌∙◌, ap, sym, Some}
use Rattle.mtn_check_log.proofs.Showing.{meta_version, meta_count, meta_none}
use Rattle.mtn_check_log.proofs.shown.get_meta.Goals as goal

pub returns-then-eq : goal.returns-then-eq
returns-then-eq c = meta_version c.args.count c.args.key.now (search rules) ∙ ap Some (sym c.in_ok-fill.ensures)

pub returns-then-eq-2 : goal.returns-then-eq-2
returns-then-eq-2 c = meta_count c.args.count c.args.key.now (search rules) (search rules) ∙ ap Some (search rules)

pub returns : goal.returns
returns c = meta_none c.args.count c.args.key.now (search rules) (search rules)

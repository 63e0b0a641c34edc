use Rattle.mtn_check_log.proofs.Showing.{told_no_record}
use Rattle.mtn_check_log.proofs.shown.get_shown.Goals as goal

pub returns-clause-found : goal.returns-clause-found
returns-clause-found g c = told_no_record (g.K.Keeper.contents c.args.keeper.now) c.args.count c.args.table c.args.key.now c.if-table-eq-META.false c.if-table-eq-FILES.false c.if-table-eq-TEXTS.false c.if-table-eq-LOG.false c.if-table-eq-ROSTERS.false

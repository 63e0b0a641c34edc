use Rattle.mtn_put_certs.proofs.Walking.{told_follows, told_past}
use Rattle.mtn_put_certs.proofs.walk.following.Goals as goal

pub returns-then-not-starts_with-clause-found : goal.returns-then-not-starts_with-clause-found
returns-then-not-starts_with-clause-found g c =
    told_past (g.K.Keeper.contents c.next_record.new.self.keeper.now) c.args.draft.now.pending.batch c.args.table c.args.front.now c.args.last.now c.next_record.new.key.items c.next_record.new.body.items c.deref.result.now c.in_ok-next_record.field-0 c.starts_with.result
    c.requires c.if-not-branch.false c.in_ok-next_record.ensures.above c.in_ok-next_record.ensures.found c.in_ok-next_record.ensures.told c.deref.ensures.value c.starts_with.ensures.value c.if-not-starts_with.true

pub returns-clause-found : goal.returns-clause-found
returns-clause-found g c =
    told_follows (g.K.Keeper.contents c.next_record.new.self.keeper.now) c.args.draft.now.pending.batch c.args.table c.args.front.now c.args.last.now c.next_record.new.key.items c.next_record.new.body.items c.deref.result.now c.in_ok-next_record.field-0 c.starts_with.result
    c.requires c.if-not-branch.false c.in_ok-next_record.ensures.above c.in_ok-next_record.ensures.found c.in_ok-next_record.ensures.told c.deref.ensures.value c.starts_with.ensures.value c.from_vec.result c.from_vec-2.result c.from_vec.ensures c.from_vec-2.ensures c.if-not-starts_with.false

-- One is above the other where it is not uncommon.
use Rattle.std.proofs.Common.{true, false, refl}
use Rattle.mtn_history.proofs.Founding.{back, grown}
use Rattle.mtn_replay.specs.Making.{is_above}
use Rattle.std.proofs.Common.{Some}
use Rattle.mtn_merge.proofs.Comparing.{alone_below, related_by, shared_above}
use Rattle.mtn_merge.proofs.sides.compare.Goals as goal

pub returns-then-not-has-clause-compares : goal.returns-then-not-has-clause-compares
returns-then-not-has-clause-compares g c = λ f s d.
    let h = d.stands.history in
    let l = c.args.left in
    let r = c.args.right in
    let now = g.K.Keeper.contents c.uncommon_of.new.draft.keeper.now in
    let sides = c.requires.sides f s (back f (g.K.Keeper.contents c.args.draft.now.keeper.now) now c.args.draft.now.pending s c.in_ok-only_left.ensures.stays.same d) in
    let above = shared_above h (grown f now c.args.draft.now.pending s d) l.id r.id l.at r.at sides.0.place sides.1.place c.in_ok-only_left.only_left (c.in_ok-only_left.ensures.lefts f s d)
    (λ at. let t = c.has.ensures.1 at in let n = c.if-not-has.true in cc) in
    related_by h l.id r.id true (is_above h (Some l.id) r.id) above refl

pub returns-then-not-has-2-clause-compares : goal.returns-then-not-has-2-clause-compares
returns-then-not-has-2-clause-compares g c = λ f s d.
    let h = d.stands.history in
    let l = c.args.left in
    let r = c.args.right in
    let now = g.K.Keeper.contents c.uncommon_of.new.draft.keeper.now in
    let sides = c.requires.sides f s (back f (g.K.Keeper.contents c.args.draft.now.keeper.now) now c.args.draft.now.pending s c.in_ok-only_left.ensures.stays.same d) in
    let grows = grown f now c.args.draft.now.pending s d in
    let below = alone_below h grows l.id r.id l.at r.at sides.0.place sides.1.place c.in_ok-only_left.only_left (c.in_ok-only_left.ensures.lefts f s d) (c.has.ensures.0 c.if-not-has.false) in
    let above = shared_above h grows r.id l.id r.at l.at sides.1.place sides.0.place c.in_ok-only_left.only_right (c.in_ok-only_left.ensures.rights f s d)
    (λ at. let t = c.has-2.ensures.1 at in let n = c.if-not-has-2.true in cc) in
    related_by h l.id r.id false true below above

pub returns-clause-compares : goal.returns-clause-compares
returns-clause-compares g c = λ f s d.
    let h = d.stands.history in
    let l = c.args.left in
    let r = c.args.right in
    let now = g.K.Keeper.contents c.uncommon_of.new.draft.keeper.now in
    let sides = c.requires.sides f s (back f (g.K.Keeper.contents c.args.draft.now.keeper.now) now c.args.draft.now.pending s c.in_ok-only_left.ensures.stays.same d) in
    let grows = grown f now c.args.draft.now.pending s d in
    let below = alone_below h grows l.id r.id l.at r.at sides.0.place sides.1.place c.in_ok-only_left.only_left (c.in_ok-only_left.ensures.lefts f s d) (c.has.ensures.0 c.if-not-has.false) in
    let beside = alone_below h grows r.id l.id r.at l.at sides.1.place sides.0.place c.in_ok-only_left.only_right (c.in_ok-only_left.ensures.rights f s d) (c.has-2.ensures.0 c.if-not-has-2.false) in
    (related_by h l.id r.id false false below beside, c.in_ok-decided.ensures.compared h grows sides.0 sides.1 (c.in_ok-only_left.ensures.lefts f s d) (c.in_ok-only_left.ensures.rights f s d))

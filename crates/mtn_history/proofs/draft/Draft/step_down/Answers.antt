use Rattle.std.proofs.Common.{[], Ok, ap, sym, ◌∙◌, subst}
use Rattle.std.specs.Prelude.{IfSome}
use Rattle.mtn_ports.specs.Kept.{with_all}
use Rattle.mtn_history.specs.Rosters.{EndsAt, IsOnWalk, IsPathDown, MeetsNoEarlier}
use Rattle.mtn_history.proofs.Knowing.{mapped}
use Rattle.mtn_history.proofs.RosterLemmas.{first_more, on_walk, path_next, walk_ends, walk_whole}
use Rattle.mtn_history.proofs.draft.Draft.step_down.Goals as goal

pub returns-in-Some-clause-walks : goal.returns-in-Some-clause-walks
returns-in-Some-clause-walks g c = λ at on.
    let told = g.K.Keeper.contents c.args.self.now.keeper.now in
    let ps = c.args.self.now.pending.batch in
    let rs = c.args.records.now.items in
    walk_ends told ps at c.args.next c.args.top c.args.beside.now rs c.in-Some.end
    (mapped told (λ d. IsOnWalk (with_all d ps) at c.args.top c.args.beside.now rs c.args.next) (λ d. IsPathDown (with_all d ps) at rs c.args.next) (λ d h. h.path) on)
    (mapped told (λ d. IsOnWalk (with_all d ps) at c.args.top c.args.beside.now rs c.args.next) (λ d. MeetsNoEarlier (with_all d ps) at c.args.top c.args.beside.now rs) (λ d h. h.first) on)
    (subst (λ o. IfSome told (λ d. IfSome o (EndsAt (with_all d ps) c.args.next c.args.top c.args.beside.now []))) c.in-Some.is c.in_ok-end.ensures.ends)

pub returns-in-Some-2-clause-walks : goal.returns-in-Some-2-clause-walks
returns-in-Some-2-clause-walks g c = λ at on.
    let mid = g.K.Keeper.contents c.args.self.now.keeper.now in
    let new = g.K.Keeper.contents c.push_rostered.new.self.keeper.now in
    let ps = c.args.self.now.pending.batch in
    let rs = c.args.records.now.items in
    let more = c.push_rostered.new.records.items in
    let pushed = c.in_ok-base.ensures.pushed in
    let path = mapped mid (λ d. IsOnWalk (with_all d ps) at c.args.top c.args.beside.now rs c.args.next) (λ d. IsPathDown (with_all d ps) at rs c.args.next) (λ d h. h.path) on in
    let first = mapped mid (λ d. IsOnWalk (with_all d ps) at c.args.top c.args.beside.now rs c.args.next) (λ d. MeetsNoEarlier (with_all d ps) at c.args.top c.args.beside.now rs) (λ d h. h.first) on in
    on_walk new ps at c.in-Some-2.base c.args.top c.args.beside.now more
    (path_next mid new ps at c.args.next c.in-Some-2.base rs more pushed.0 c.push_rostered.ensures.asks.stays.same path pushed.4 (sym pushed.2 ∙ c.in-Some-2.is) pushed.1)
    (first_more mid new ps at c.args.next c.args.top c.args.beside.now rs more pushed.0 c.push_rostered.ensures.asks.stays.same path first (c.in_ok-end.ensures.none (ap (λ o. Ok o) c.in_default.is)) pushed.1)

pub returns-in-None-clause-walks : goal.returns-in-None-clause-walks
returns-in-None-clause-walks g c = λ at on.
    let mid = g.K.Keeper.contents c.args.self.now.keeper.now in
    let new = g.K.Keeper.contents c.push_rostered.new.self.keeper.now in
    let ps = c.args.self.now.pending.batch in
    let rs = c.args.records.now.items in
    let more = c.push_rostered.new.records.items in
    let pushed = c.in_ok-base.ensures.pushed in
    let path = mapped mid (λ d. IsOnWalk (with_all d ps) at c.args.top c.args.beside.now rs c.args.next) (λ d. IsPathDown (with_all d ps) at rs c.args.next) (λ d h. h.path) on in
    let first = mapped mid (λ d. IsOnWalk (with_all d ps) at c.args.top c.args.beside.now rs c.args.next) (λ d. MeetsNoEarlier (with_all d ps) at c.args.top c.args.beside.now rs) (λ d h. h.first) on in
    walk_whole mid new ps at c.args.next c.args.top c.args.beside.now rs more pushed.0 c.push_rostered.ensures.asks.stays.same path pushed.4 (sym pushed.2 ∙ c.in-None.is) pushed.1
    (first_more mid new ps at c.args.next c.args.top c.args.beside.now rs more pushed.0 c.push_rostered.ensures.asks.stays.same path first (c.in_ok-end.ensures.none (ap (λ o. Ok o) c.in_default.is)) pushed.1)

-- What is told is what the draft began with comes to, and what is shown is a damage of it.
use Rattle.std.proofs.Common.{◌≡◌, Some, sym, ap, ◌∙◌, subst}
use Rattle.mtn_ports.specs.Kept.{Stays}
use Rattle.mtn_ports.proofs.KeptLemmas.{stays_trans}
use Rattle.mtn_reading.proofs.UnfitReading.{at_told, if_told}
use Rattle.mtn_generating.proofs.ToldLemmas.{told_as, told_damage}
use Rattle.mtn_generating.proofs.whole.generate.Goals as goal

pub returns-in-Err-clause-generates : goal.returns-in-Err-clause-generates
returns-in-Err-clause-generates g c = λ k s now draft.
    let f = g.I.Ident.meaning c.args.ident.now in
    let ids = (g.met.I.Ident g.world.𝓛 g.world.𝓜 g.world.𝓡 ((λ s x. x), (λ x. x), (λ x. x), λ x. x)).makes_ids c.args.ident.now in
    let before : g.K.Keeper.contents c.generated.new.draft.keeper.now ≡ Some k = ap (λ d. g.K.Keeper.contents d.now) (sym c.restore.ensures.keeper) ∙ c.told.ensures.stays.same k now in
    told_as f c.args.count (λ s left right found. c.merges_never_conflict.ensures f c.args.count s left right found ids c.ranges.count.fits) k s c.generated.new.draft.pending c.told.new.draft.pending
    c.in-Err.error c.told.result (c.in-Err.ensures.generates k s before draft) c.told.ensures.answered

pub returns-in-Err-clause-damaged : goal.returns-in-Err-clause-damaged
returns-in-Err-clause-damaged g c = if_told (g.K.Keeper.contents c.told.new.draft.keeper.now) _ (λ k now counted.
    let f = g.I.Ident.meaning c.args.ident.now in
    let ids = (g.met.I.Ident g.world.𝓛 g.world.𝓜 g.world.𝓡 ((λ s x. x), (λ x. x), (λ x. x), λ x. x)).makes_ids c.args.ident.now in
    let before : g.K.Keeper.contents c.generated.new.draft.keeper.now ≡ Some k = ap (λ d. g.K.Keeper.contents d.now) (sym c.restore.ensures.keeper) ∙ c.told.ensures.stays.same k now in
    told_damage f c.args.count (λ s left right found. c.merges_never_conflict.ensures f c.args.count s left right found ids c.ranges.count.fits) k c.args.draft.now.pending c.requires.bare counted c.generated.new.draft.pending
    c.in-Err.error c.told.result (λ s draft. c.in-Err.ensures.generates k s before draft) (at_told (g.K.Keeper.contents c.generated.new.draft.keeper.now) _ k before c.in-Err.ensures.damaged)
    (at_told (g.K.Keeper.contents c.told.new.draft.keeper.now) _ k now c.told.ensures.told))

pub returns-in-Err-clause-stays : goal.returns-in-Err-clause-stays
returns-in-Err-clause-stays g c = stays_trans g.K.Keeper.contents g.K.Keeper.leaves g.K.Keeper.faults _ _ _ c.generated.ensures.stays
    (subst (λ d. Stays g.K.Keeper.contents g.K.Keeper.leaves g.K.Keeper.faults d.now c.told.new.draft.keeper.now) c.restore.ensures.keeper c.told.ensures.stays)

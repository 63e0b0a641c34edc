-- The names of the entries by their paths.
use Rattle.std.proofs.Common.{sym, ◌∙◌}
use Rattle.std.proofs.lemmas.Result.{IfOk-weaker}
use Rattle.mtn_roster.specs.declared.walk.Stop.{Stop}
use Rattle.mtn_roster.specs.Walk.{by_path}
use Rattle.mtn_roster.proofs.Naming.{named, all_within, reordered}
use Rattle.mtn_roster.proofs.roster.Roster.walk.Goals as goal

pub names_along-requires : goal.names_along-requires
names_along-requires c =
    let order = reordered c.deref.result.now c.deref-4.result.now c.args.self.now c.in_ok-stops.stops.items c.deref-5.result.now c.in_ok-stops.ensures
    (c.deref.ensures.value ∙ sym c.deref-4.ensures.value) (sym c.deref-5.ensures.value) (c.deref.ensures.value ∙ c.self.view_is) in
    all_within c.deref-4.result.now Stop (λ s. s.place) c.deref-5.result.now (by_path c.args.self.now) order

pub returns : goal.returns
returns c =
    let order = reordered c.deref.result.now c.deref-4.result.now c.args.self.now c.in_ok-stops.stops.items c.deref-5.result.now c.in_ok-stops.ensures
    (c.deref.ensures.value ∙ sym c.deref-4.ensures.value) (sym c.deref-5.ensures.value) (c.deref.ensures.value ∙ c.self.view_is) in
    IfOk-weaker c.names_along.result _ _ (λ names h. named c.deref-4.result.now Stop (λ s. s.place) c.deref-5.result.now (by_path c.args.self.now) names.items order h) c.names_along.ensures

-- By what stands at the fronts.
use Rattle.std.proofs.Common.{◌∙◌, refl, sym}
use Rattle.mtn_roster_deltas.proofs.Merging.{front_is, no_front, taken_is, gives_new, gives_old, gives_changed, gives_added}
use Rattle.mtn_roster_deltas.proofs.merge.take_least.Goals as goal

pub returns-in_default-front-clause-gives : goal.returns-in_default-front-clause-gives
returns-in_default-front-clause-gives c =
    let es = c.args.entries.now.items in
    let cs = c.args.changed.now.items in
    let new = c.in-Some.new.now in
    let t = taken_is cs c.pop_front-in_default-front.new.self.items c.pop_front-in_default-front.result new c.in-Some.ensures.lookup (c.pop_front-in_default-front.ensures.value new (c.in-Some.ensures.variant.0 refl)) c.pop_front-in_default-front.ensures.items in
    gives_new es cs c.requires.entries c.requires.changed c.pop_front-in_default-front.result new c.pop_front-in_default-front.new.self.items (no_front es c.in_default-front.ensures.item.0) t.0 t.1

pub returns-in-Less-clause-gives : goal.returns-in-Less-clause-gives
returns-in-Less-clause-gives c =
    let es = c.args.entries.now.items in
    let cs = c.args.changed.now.items in
    let new = c.in-Some.new.now in
    let old = c.in-Some-front.old.now in
    let t = taken_is es c.pop_front-in-Less.new.self.items c.pop_front-in-Less.result old c.in-Some-front.ensures.lookup (c.pop_front-in-Less.ensures.value old (c.in-Some-front.ensures.variant.0 refl)) c.pop_front-in-Less.ensures.items in
    gives_old es cs c.requires.entries c.requires.changed c.pop_front-in-Less.result old _ new _ t.1 (front_is cs new c.in-Some.ensures.item.0 c.in-Some.ensures.lookup) t.0 (sym c.cmp.ensures ∙ c.in-Less.is)

pub returns-in-Equal-clause-gives : goal.returns-in-Equal-clause-gives
returns-in-Equal-clause-gives c =
    let es = c.args.entries.now.items in
    let cs = c.args.changed.now.items in
    let new = c.in-Some.new.now in
    let old = c.in-Some-front.old.now in
    let t = taken_is es c.pop_front-replaced.new.self.items c.pop_front-replaced.result old c.in-Some-front.ensures.lookup (c.pop_front-replaced.ensures.value old (c.in-Some-front.ensures.variant.0 refl)) c.pop_front-replaced.ensures.items in
    let u = taken_is cs c.pop_front-in-Equal.new.self.items c.pop_front-in-Equal.result new c.in-Some.ensures.lookup (c.pop_front-in-Equal.ensures.value new (c.in-Some.ensures.variant.0 refl)) c.pop_front-in-Equal.ensures.items in
    gives_changed es cs c.requires.entries c.requires.changed c.pop_front-in-Equal.result old _ new _ t.1 u.1 u.0 (sym c.cmp.ensures ∙ c.in-Equal.is)

pub returns-in-Greater-clause-gives : goal.returns-in-Greater-clause-gives
returns-in-Greater-clause-gives c =
    let es = c.args.entries.now.items in
    let cs = c.args.changed.now.items in
    let new = c.in-Some.new.now in
    let old = c.in-Some-front.old.now in
    let u = taken_is cs c.pop_front-in-Greater.new.self.items c.pop_front-in-Greater.result new c.in-Some.ensures.lookup (c.pop_front-in-Greater.ensures.value new (c.in-Some.ensures.variant.0 refl)) c.pop_front-in-Greater.ensures.items in
    gives_added es cs c.requires.entries c.requires.changed c.pop_front-in-Greater.result old _ new _ (front_is es old c.in-Some-front.ensures.item.0 c.in-Some-front.ensures.lookup) u.1 u.0 (sym c.cmp.ensures ∙ c.in-Greater.is)

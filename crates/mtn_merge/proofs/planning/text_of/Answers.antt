use Rattle.std.specs.Prelude.{IsTrue, map}
use Rattle.std.proofs.Common.{List, sym, subst}
use Rattle.mtn_base.specs.Lists.{rises}
use Rattle.mtn_base.specs.Names.{name_cmp}
use Rattle.mtn_conflicts.specs.Result.{ParentsAreDirs}
use Rattle.mtn_decide.specs.declared.decision.Decision.{Decision}
use Rattle.mtn_history.specs.declared.errors.HistoryError.TheVariants.{Store}
use Rattle.mtn_put_revision.proofs.Deciding.{error_damage}
use Rattle.mtn_history.proofs.Sound.{sound_result}
use Rattle.mtn_merge.proofs.planning.text_of.Goals as goal

pub parents_are_dirs-requires : goal.parents_are_dirs-requires
parents_are_dirs-requires g c = subst (λ (l : List Decision). IsTrue (rises name_cmp (map (λ (d : Decision). d.name) l))) (sym c.nodes.ensures.nodes) c.nodes.ensures.order.names

pub returns-then-not-parents_are_dirs-clause-damaged : goal.returns-then-not-parents_are_dirs-clause-damaged
returns-then-not-parents_are_dirs-clause-damaged g c =
    error_damage (g.K.Keeper.contents c.roster_held.new.draft.keeper.now) c.args.draft.now.pending (Store c.roster_held.result)
    (c.roster_held.ensures.damaged (λ f s d. let t = c.parents_are_dirs.ensures.1 (subst ParentsAreDirs (sym c.nodes.ensures.nodes) (c.requires.dirs f s d)) in let n = c.if-not-parents_are_dirs.true in cc))

pub merged-requires-clause-dirs : goal.merged-requires-clause-dirs
merged-requires-clause-dirs g c = λ κs alive. subst ParentsAreDirs c.nodes.ensures.nodes (c.parents_are_dirs.ensures.0 c.if-not-parents_are_dirs.false)

pub returns-clause-damaged : goal.returns-clause-damaged
returns-clause-damaged g c = sound_result (g.K.Keeper.contents c.args.draft.now.keeper.now) c.args.draft.now.pending c.merged.result c.merged.ensures.sound

use Rattle.std.proofs.Common.{◌≡◌, ◌∙◌, ◌++◌, List, map, Some, ap}
use Rattle.std.specs.List.{flat_map}
use Rattle.std.proofs.lemmas.List.{take_all}
use Rattle.mtn_base.specs.declared.id.Id.{Id}
use Rattle.mtn_basic_io.specs.Spelling.{spaced}
use Rattle.mtn_basic_io.specs.declared.stanza.Value.TheVariants.{Hex}
use Rattle.mtn_basic_io.proofs.Kept.{front_more, front_trans}
use Rattle.mtn_basic_io.proofs.writing.write_ids.Goals as goal

pub returns-in_err-write_spaced_id-clause-kept : goal.returns-in_err-write_spaced_id-clause-kept
returns-in_err-write_spaced_id-clause-kept c = front_trans (front_more _ _ _ c.loop-id.invariant) c.in_err-write_spaced_id.ensures.kept

pub returns-clause-kept : goal.returns-clause-kept
returns-clause-kept c = front_more _ _ _ c.loop-id.invariant

pub returns-clause-ok : goal.returns-clause-ok
returns-clause-ok c =
    c.loop-id.invariant ∙ ap (λ (l : List Id). c.args.out.now.items ++ flat_map spaced (map (λ (i : Id). Hex (Some i)) l)) (take_all c.loop-id.id-index c.args.ids.now c.loop-id-test.false)

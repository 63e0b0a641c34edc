use Rattle.std.specs.Prelude.{bytes_eq}
use Rattle.std.proofs.Common.{◌∙◌, ap}
use Rattle.mtn_history.proofs.Nearest.{never_missed}
use Rattle.mtn_history.proofs.draft.Draft.follows.Goals as goal

pub returns-clause-missed : goal.returns-clause-missed
returns-clause-missed g c =
    never_missed (g.K.Keeper.contents c.next.new.self) c.args.table _ c.args.key.now c.next.new.key.items c.in_ok-next.field-0 c.eq.result c.just_below-len.ensures.above c.just_below-len.ensures.next
    c.in_ok-next.ensures.found c.in_ok-next.ensures.above c.if-not-branch.false (c.eq.ensures ∙ ap (λ k. bytes_eq k c.as_slice-2.result.now) c.as_slice.ensures.value ∙ ap (bytes_eq c.next.new.key.items) c.as_slice-2.ensures)

-- The last attribute goes to the front of those in the map.
use Rattle.mtn_apply.specs.Edits.{attrs_in}
use Rattle.mtn_apply.proofs.Placing.{moved_over}
use Rattle.mtn_apply.proofs.draft.by_keys.Goals as goal

pub loop-attr-preserved : goal.loop-attr-preserved
loop-attr-preserved c =
    moved_over c.args.attrs.items c.loop-attr.attrs.items c.pop.new.self.items (attrs_in c.loop-attr.map) (attrs_in c.put_attr.new.map) c.in-Some.attr c.requires.rising c.in-Some.ensures.items
    c.in_ok-put_attr.ensures c.loop-attr.invariant

-- Entry by entry, each with its mate.
use Rattle.std.proofs.Common.{◌≡◌, ◌+◌, ◌++◌, ◌∷◌, [], ℕ, List, length, length-append, vec_len, ◌∙◌, arith}
use Rattle.std.specs.Vec.Iter.{into_iter_items}
use Rattle.mtn_roster.specs.declared.entry.Entry.{Entry}
use Rattle.mtn_join.proofs.Mates.{mate_there, one_joined, some_copied}
use Rattle.mtn_join.proofs.joining.joined_entries.Goals as goal

pub unwrap-y-requires : goal.unwrap-y-requires
unwrap-y-requires c =
    let m = mate_there c.args.left.items c.args.right c.requires.sane c.len-others.ensures.sane c.args.mates.items c.requires.mates c.loop-x.yielded (into_iter_items c.next.new.self) (into_iter_items c.loop-x.x-iterator) c.in-Some.x
    c.len-in-loop-x.result c.index.result.now c.at_place.result c.loop-x.invariant.0 c.in-Some.ensures.steps.0 (c.len-in-loop-x.ensures ∙ c.loop-x.invariant.2) c.index.ensures c.at_place.ensures in
    some_copied c.at_place.result m.0 m.1

grown : (m n : ℕ) (ys : List Entry) (x : Entry) → m ≡ length ys → n ≡ m + 1 → n ≡ length (ys ++ x ∷ [])
grown m n ys x h g = omega (arith, h, g, length-append ys (x ∷ []))

pub loop-x-preserved : goal.loop-x-preserved
loop-x-preserved c =
    let m = one_joined c.args.left.items c.args.right c.requires.sane c.len-others.ensures.sane c.args.new c.args.mates.items c.requires.mates c.loop-x.yielded (into_iter_items c.next.new.self) (into_iter_items c.loop-x.x-iterator) c.in-Some.x c.in_ok-entry_of_pair.field-0
    c.len-in-loop-x.result c.index.result.now c.at_place.result c.unwrap-y.result c.loop-x.entries.items c.push.new.self.items c.loop-x.invariant.0 c.in-Some.ensures.steps.0 (c.len-in-loop-x.ensures ∙ c.loop-x.invariant.2) c.index.ensures c.at_place.ensures
    c.unwrap-y.ensures c.in_ok-entry_of_pair.ensures c.loop-x.invariant.1 c.in_ok-push.ensures.items in
    (m.0, m.1, grown (vec_len c.loop-x.entries) (vec_len c.push.new.self) c.loop-x.yielded c.in-Some.x c.loop-x.invariant.2 c.in_ok-push.ensures.len)

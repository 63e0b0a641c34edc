use Rattle.std.specs.Vec.Iter.{into_iter_items}
use Rattle.mtn_ports.proofs.Keyed.{keyed_between}
use Rattle.mtn_ports.proofs.batch.Batch.add_all.Goals as goal

pub add-requires : goal.add-requires
add-requires c =
    keyed_between c.loop-put.yielded c.in-Some.put (into_iter_items c.next.new.self) (into_iter_items c.loop-put.put-iterator) c.args.puts.items c.loop-put.invariant.0 c.in-Some.ensures.steps.0 c.requires

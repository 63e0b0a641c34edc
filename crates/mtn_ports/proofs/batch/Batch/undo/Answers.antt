use Rattle.std.specs.List.{AllByRecursion}
use Rattle.std.proofs.Common.{[], ◌∷◌, subst, refl}
use Rattle.mtn_ports.specs.Indexed.{IsKeyed}
use Rattle.mtn_ports.specs.Newest.{SetsPlace}
use Rattle.mtn_ports.proofs.NewestLemmas.{last_is_in, index_pop, older_pop}
use Rattle.mtn_ports.proofs.Keyed.{keyed-front}
use Rattle.mtn_ports.proofs.batch.Batch.undo.Goals as goal

pub restore-requires : goal.restore-requires
restore-requires c =
    last_is_in c.self.inside.index c.self.inside.puts.items c.pop.new.self.items c.in-Some-Some.put c.in-Some-Some.put.table c.as_slice.result.now
    c.self.invariant.places c.in-Some-Some.ensures.items refl c.as_slice.ensures

pub invariant_of-self : goal.invariant_of-self
invariant_of-self c =
    let put = c.in-Some-Some.put in
    let older = c.in-Some-Some.older in
    record {
      places = index_pop c.self.inside.index c.restore.new.self c.self.inside.older.items c.pop-2.new.self.items older c.self.inside.puts.items c.pop.new.self.items put
          c.self.invariant.places c.self.invariant.older c.in-Some-Some.ensures'.items c.in-Some-Some.ensures.items
          (subst (λ key. SetsPlace c.self.inside.index c.restore.new.self put.table key older) c.as_slice.ensures c.restore.ensures);
      older = older_pop c.self.inside.older.items c.pop-2.new.self.items older c.self.inside.puts.items c.pop.new.self.items put
          c.self.invariant.older c.in-Some-Some.ensures'.items c.in-Some-Some.ensures.items;
      keyed = keyed-front c.pop.new.self.items (put ∷ []) (subst (AllByRecursion IsKeyed) c.in-Some-Some.ensures.items c.self.invariant.keyed);
    }

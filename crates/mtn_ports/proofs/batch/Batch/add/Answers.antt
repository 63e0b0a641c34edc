use Rattle.std.specs.List.{AllByRecursion}
use Rattle.std.proofs.Common.{◌≡◌, ◌++◌, ◌∷◌, [], List, length, Some, sym, ap, ◌∙◌, subst, arith}
use Rattle.mtn_ports.specs.declared.batch.Put.{Put}
use Rattle.mtn_ports.specs.Indexed.{IsKeyed}
use Rattle.mtn_ports.specs.Newest.{SetsPlace, newest_place}
use Rattle.mtn_ports.proofs.NewestLemmas.{index_push, older_push}
use Rattle.mtn_ports.proofs.Keyed.{keyed-push}
use Rattle.mtn_ports.proofs.batch.Batch.add.Goals as goal

pub invariant_of-self-2 : goal.invariant_of-self-2
invariant_of-self-2 c =
    let old = c.self.inside in
    let p : Put = c.args.put in
    let all : c.push_within.new.items.items ≡ old.puts.items ++ p ∷ [] = c.push_within.ensures ∙ ap (λ (ps : List Put). ps ++ p ∷ []) c.in_ok-reserve.ensures.items in
    let at : c.len-place.result ≡ length old.puts.items = omega (arith, old.puts.ok.0, c.len-place.ensures, c.in_ok-reserve.ensures.len) in
    record {
      places = index_push old.index c.put.new.self old.puts.items c.push_within.new.items.items p c.len-place.result c.self.invariant.places at
          (subst (λ key. SetsPlace old.index c.put.new.self p.table key (Some c.len-place.result)) c.as_slice.ensures c.in_ok-older.ensures.ok) all;
      older = older_push old.older.items c.push_within-2.new.items.items c.in_ok-older.older old.puts.items c.push_within.new.items.items p c.self.invariant.older
          (c.in_ok-older.ensures.older ∙ c.self.invariant.places p.table c.as_slice.result.now ∙ ap (λ key. newest_place p.table key old.puts.items) c.as_slice.ensures)
          (c.push_within-2.ensures ∙ ap (λ os. os ++ c.in_ok-older.older ∷ []) c.in_ok-reserve-2.ensures.items) all;
      keyed = subst (AllByRecursion IsKeyed) (sym all) (keyed-push old.puts.items p c.self.invariant.keyed (record {
        table = omega arith;
        key = c.requires;
      }));
    }

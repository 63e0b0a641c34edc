-- The closures compare the parents, which ascend along the index.
use Rattle.std.proofs.Common.{◌≡◌, ◌-◌, ℕ, List, length, take, drop, rules, arith, sym, subst}
use Rattle.std.specs.List.Sorted.{IsPartitionedBy}
use Rattle.std.proofs.lemmas.Fn.{always_returns_same}
use Rattle.std.proofs.lemmas.List.{length-drop, take_all}
use Rattle.mtn_roster.proofs.Running.{is_before, is_within, before_partitioned, within_partitioned, run_found}
use Rattle.mtn_roster.proofs.walk.run_at.Goals as goal

pub returns : goal.returns
returns c =
    let t = c.args.entries.now in
    let ks = c.args.by_slot.now in
    let n = c.args.name.now in
    let first = c.partition_point-first.result in
    let rest : List ℕ = take (length ks - first) (drop first ks) in
    let is : rest ≡ drop first ks = take_all (length ks - first) (drop first ks) (omega (arith, length-drop first ks)) in
    run_found t ks c.requires.index n first c.partition_point-count.result c.partition_point-first.ensures.bound
    (c.partition_point-first.ensures.partitioned (is_before t ks c.requires.index n) (always_returns_same _ _ _ (λ a r g called. (let u = c.requires.ups in let v = c.requires.rising in let w = c.requires.within in let x = c.requires.there in search rules, search rules))) (before_partitioned t ks c.requires.index n))
    rest is
    (c.partition_point-count.ensures.partitioned (is_within t ks c.requires.index n) (always_returns_same _ _ _ (λ a r g called. (let u = c.requires.ups in let v = c.requires.rising in let w = c.requires.within in let x = c.requires.there in search rules, search rules)))
    (subst (IsPartitionedBy (is_within t ks c.requires.index n)) (sym is) (within_partitioned t ks c.requires.index n first)))

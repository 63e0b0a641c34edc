use Rattle.std.proofs.Common.{is_lt, rules}
use Rattle.std.proofs.lemmas.List.Sorted.{ranks_by, answers_always}
use Rattle.mtn_changes.specs.Sorting.{place_of, place_cmp}
use Rattle.mtn_changes.proofs.Places.{target_total}
use Rattle.mtn_changes.proofs.Ascending.{sorted_behind}
use Rattle.mtn_changes.proofs.sorting.sorted_of.Goals as goal

pub returns : goal.returns
returns c =
    sorted_behind c.in_ok-sorted.sorted.items c.sort_by.new.self.items c.args.changes.now c.in_ok-sorted.ensures c.in_ok-sort_by.ensures.permutation
    (c.in_ok-sort_by.ensures.sorted (λ x y. is_lt (place_cmp x.now y.now)) (ranks_by target_total (λ b. place_of b.now)) (answers_always _ _ _ (λ f a r g k. search rules)))

-- Both lists, sorted and without repeats.
use Rattle.std.proofs.Common.{◌≡◌, ℕ, List, ◌++◌, eqb, sym, ◌∙◌, ap, subst}
use Rattle.std.specs.List.{dedup}
use Rattle.std.specs.List.Sorted.{IsStrictlyIncreasing}
use Rattle.std.specs.Cmp.Lexicographic.{bytes_decides}
use Rattle.std.proofs.lemmas.Result.{IfOk-weaker}
use Rattle.std.proofs.lemmas.List.Filters.{dedup_is}
use Rattle.std.proofs.lemmas.Map.Keys.{IsStrictlyIncreasing-dedup}
use Rattle.mtn_marking.proofs.Joined.{union_is, one_of_two}
use Rattle.mtn_marking.proofs.sets.united.Goals as goal

pub returns-then-eq : goal.returns-then-eq
returns-then-eq c =
    let e : c.args.left.now ≡ c.args.right.now = sym c.as_slice.ensures.value ∙ (bytes_decides c.as_slice.result.now c.as_slice-2.result.now).0 (sym c.eq.ensures ∙ c.if-eq.true) ∙ c.as_slice-2.ensures.value in
    IfOk-weaker _ _ _ (λ out f. one_of_two c.args.left.now c.args.right.now out e f) c.copy.ensures

pub new-requires : goal.new-requires
new-requires c =
    subst IsStrictlyIncreasing (sym (dedup_is eqb c.sort_unstable.new.self.items c.dedup.new.self.items c.dedup.ensures.filtered))
    (IsStrictlyIncreasing-dedup c.sort_unstable.new.self.items c.sort_unstable.ensures.sorted)

pub returns : goal.returns
returns c =
    let first : c.extend_from_slice.new.self.items ≡ c.args.left.now = c.in_ok-extend_from_slice.ensures.items ∙ ap (λ (l : List ℕ). l ++ c.as_slice-3.result.now) c.new-items.ensures.items ∙ c.as_slice-3.ensures.value in
    let both : c.extend_from_slice-2.new.self.items ≡ c.args.left.now ++ c.args.right.now = c.in_ok-extend_from_slice-2.ensures.items ∙ ap (λ (l : List ℕ). l ++ c.as_slice-4.result.now) first ∙ ap (λ (l : List ℕ). c.args.left.now ++ l) c.as_slice-4.ensures.value in
    let kept : c.dedup.new.self.items ≡ dedup eqb c.sort_unstable.new.self.items = dedup_is eqb c.sort_unstable.new.self.items c.dedup.new.self.items c.dedup.ensures.filtered in
    IfOk-weaker _ _ _ (λ out f. union_is c.args.left.now c.args.right.now c.extend_from_slice-2.new.self.items c.sort_unstable.new.self.items out
    both c.sort_unstable.ensures.permutation (f ∙ kept)) c.new.ensures

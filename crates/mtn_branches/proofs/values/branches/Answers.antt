use Rattle.std.specs.Prelude.{Contains}
use Rattle.std.proofs.Common.{◌∙◌, Bor, ap, is_lt, map, rules}
use Rattle.std.specs.Ordering.{is_eq}
use Rattle.std.proofs.lemmas.Fn.{dedup_same}
use Rattle.std.proofs.lemmas.List.Sorted.{ranks_by, answers_always}
use Rattle.std.proofs.lemmas.Result.{IfOk-weaker}
use Rattle.mtn_base.proofs.Orders.{bytes_total, exact_bytes}
use Rattle.mtn_base.specs.Names.{bytes_cmp}
use Rattle.mtn_certs.proofs.Ordered.{refs_ordered}
use Rattle.mtn_certs.specs.Certificates.{Certificate}
use Rattle.mtn_branches.specs.Branches.{IsBranch}
use Rattle.mtn_branches.proofs.HeadLemmas.{branches_list}
use Rattle.mtn_branches.proofs.values.branches.Goals as goal

pub returns : goal.returns
returns c =
    let old = map (λ (b : Bor Certificate). b.now.value) c.in_ok-naming.naming.items in
    let listed =
    refs_ordered (λ (b : Bor Certificate). b.now.value) bytes_cmp bytes_total exact_bytes c.in_ok-naming.naming.items c.sort_unstable_by.new.self.items c.dedup_by.new.self.items old
    (λ _. old) c.sort_unstable_by.ensures.permutation
    (c.sort_unstable_by.ensures.sorted (λ x y. is_lt (bytes_cmp x.now.value y.now.value)) (ranks_by bytes_total (λ b. b.now.value)) (answers_always _ _ _ (λ f a r g k. search rules)))
    (dedup_same _ (λ x y. is_eq (bytes_cmp x.now.value y.now.value)) _ (λ x y b f' x' y' k. search rules) _ _ c.dedup_by.ensures.filtered) in
    IfOk-weaker c.values_of.result _ _
    (λ v is. branches_list (IsBranch (Contains c.args.certs.now)) old v.items c.in_ok-naming.ensures.exact
    (is ∙ ap (map (λ (b : Bor Certificate). b.now.value)) c.deref.ensures.value ∙ listed)) c.values_of.ensures

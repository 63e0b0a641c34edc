use Rattle.std.proofs.Common.{◌+◌, ◌∙◌, Bor, List, map, take, sym, ap, subst}
use Rattle.mtn_certs.specs.Certificates.{Certificate}
use Rattle.mtn_branches.specs.Branches.{NamesBranch}
use Rattle.mtn_branches.specs.Images.{IsImage}
use Rattle.mtn_branches.proofs.HeadLemmas.{branch_more, branch_pass}
use Rattle.mtn_branches.proofs.values.naming.Goals as goal
use Rattle.mtn_branches.proofs.values.naming.Goals.{then-is_of_branch+in_ok-push, else-is_of_branch}

pub loop-cert-preserved : goal.loop-cert-preserved
loop-cert-preserved c =
    let certs = c.args.certs.now in
    let i = c.loop-cert.cert-index in
    elim c.if-is_of_branch.branch [
      | then-is_of_branch+in_ok-push w ↦ subst (λ (l : List (Bor Certificate)). IsImage NamesBranch (take (i + 1) certs) (map (λ b. b.now.value) l)) (sym (ap (λ v. v.items) w.naming-is ∙ w.in_ok-push.ensures.items))
          (branch_more certs i c.cert-item.result c.loop-cert.naming.items _ c.loop-cert-test.true c.cert-item.is c.loop-cert.invariant (λ _. c.cert-item.result.value) (sym c.is_of_branch.ensures ∙ w.if-is_of_branch.true))
      | else-is_of_branch w ↦ subst (λ (l : List (Bor Certificate)). IsImage NamesBranch (take (i + 1) certs) (map (λ b. b.now.value) l)) (sym (ap (λ v. v.items) w.naming-is))
          (branch_pass certs i c.cert-item.result c.loop-cert.naming.items c.loop-cert-test.true c.cert-item.is c.loop-cert.invariant (sym c.is_of_branch.ensures ∙ w.if-is_of_branch.false))
    ]

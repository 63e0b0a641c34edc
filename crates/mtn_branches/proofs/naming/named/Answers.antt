use Rattle.std.proofs.Common.{◌+◌, ◌∙◌, List, take, sym, ap, subst}
use Rattle.mtn_base.specs.declared.id.Id.{Id}
use Rattle.mtn_certs.specs.Certificates.{Certificate}
use Rattle.mtn_branches.specs.Branches.{NamesMember}
use Rattle.mtn_branches.specs.Images.{IsImage}
use Rattle.mtn_branches.proofs.HeadLemmas.{named_more, named_pass}
use Rattle.mtn_branches.proofs.naming.named.Goals as goal
use Rattle.mtn_branches.proofs.naming.named.Goals.{then-is_for_branch+in_ok-push, else-is_for_branch}

pub loop-cert-preserved : goal.loop-cert-preserved
loop-cert-preserved c =
    let branch = c.args.branch.now in
    let certs = c.args.certs.now in
    let i = c.loop-cert.cert-index in
    elim c.if-is_for_branch.branch [
      | then-is_for_branch+in_ok-push w ↦ subst (λ (l : List Id). IsImage (NamesMember branch) (take (i + 1) certs) l) (sym (ap (λ v. v.items) w.ids-is ∙ w.in_ok-push.ensures.items))
          (named_more branch certs i c.cert-item.result c.loop-cert.ids.items _ c.loop-cert-test.true c.cert-item.is c.loop-cert.invariant (sym c.is_for_branch.ensures ∙ w.if-is_for_branch.true) (ap (λ (d : Certificate). d.revision) c.cert.view_is))
      | else-is_for_branch w ↦ subst (λ (l : List Id). IsImage (NamesMember branch) (take (i + 1) certs) l) (sym (ap (λ v. v.items) w.ids-is))
          (named_pass branch certs i c.cert-item.result c.loop-cert.ids.items c.loop-cert-test.true c.cert-item.is c.loop-cert.invariant (sym c.is_for_branch.ensures ∙ w.if-is_for_branch.false))
    ]

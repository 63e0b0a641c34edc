use Rattle.mtn_branches.proofs.laws.apart.Goals as goal

pub returns : goal.returns
returns c log certs branch a b first second = first.1 b second.0

use Rattle.mtn_roster.proofs.Forest.{own}
use Rattle.mtn_roster.proofs.Walking.{child_path}
use Rattle.mtn_roster.proofs.laws.paths_extend_parents.Goals as goal

pub returns : goal.returns
returns c = λ t n d e name s p q h. child_path t s d e name q (own t n e p) h

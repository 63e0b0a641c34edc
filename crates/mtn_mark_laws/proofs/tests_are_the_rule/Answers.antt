use Rattle.std.proofs.Common.{ℕ}
use Rattle.mtn_mark_laws.proofs.Tests.{tests_to_rule, rule_to_tests}
use Rattle.mtn_mark_laws.proofs.tests_are_the_rule.Goals as goal

pub returns : goal.returns
returns c at v l r ol or a b ta tb x = (tests_to_rule ℕ at v l r ol or a b ta tb x, λ k. rule_to_tests l r k a b ta tb)

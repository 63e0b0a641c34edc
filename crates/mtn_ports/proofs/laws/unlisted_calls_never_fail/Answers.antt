-- The list stays, and an empty one lists no call.
use Rattle.std.proofs.Common.{◌≡◌, ◌==◌, ℕ, zero, suc, [], Bool, false, refl, ap, ◌∙◌, if◌then◌else◌}
use Rattle.std.specs.List.{list_any}
use Rattle.mtn_ports.specs.Memory.{Calls, after, called, counted, is_listed}
use Rattle.mtn_ports.proofs.laws.unlisted_calls_never_fail.Goals as goal

unlisted : (c : Calls) → c.failing ≡ [] → is_listed c ≡ false
unlisted c e = ap (list_any (λ n. n == counted c.calls)) e

never : (n : ℕ) (c : Calls) → c.failing ≡ [] → is_listed (after n c) ≡ false
never zero c e = unlisted c e
never (suc n) c e = never n (called (is_listed c) c) e

none : (n : ℕ) (c : Calls) → c.failing ≡ [] → (after n c).faults ≡ c.faults
none zero c e = refl
none (suc n) c e = none n (called (is_listed c) c) e ∙ ap (λ (b : Bool). if b then counted c.faults else c.faults) (unlisted c e)

pub returns-clause-next : goal.returns-clause-next
returns-clause-next c calls n e = never n calls e

pub returns-clause-faults : goal.returns-clause-faults
returns-clause-faults c calls n e = none n calls e

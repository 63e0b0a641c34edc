-- Damages that are handed on, and the order of what was compared.
use Rattle.std.specs.Prelude.{IfErr, IfOk, IfSome}
use Rattle.std.proofs.Common.{◌≡◌, Option, Result, Ok, Err, sym, subst}
use Rattle.mtn_conflicts.specs.ConflictText.{IsLesser}
use Rattle.mtn_history.specs.Damage.{IsDamage}
use Rattle.mtn_history.specs.Errors.{IfStoreDamage}
use Rattle.mtn_history.specs.Marked.{IsCounted}
use Rattle.mtn_history.specs.declared.errors.HistoryError.{HistoryError}
use Rattle.mtn_history.specs.declared.pending.Pending.{Pending}
use Rattle.mtn_model.specs.Table.{Contents}
use Rattle.mtn_ports.specs.Kept.{with_all}
use Rattle.mtn_merge.specs.declared.sides.Compared.{Compared}
use Rattle.mtn_merge.specs.declared.sides.Side.{Side}

-- a damage of what is pending is one of what was pending before
pub kept_damage : {T : Type 0} (told : Option Contents) (p q : Pending) (r : Result T HistoryError) → q ≡ p → IfSome told (λ c. IsCounted q c → IfErr r (λ x. IfStoreDamage x (IsDamage (with_all c q.batch)))) →
    IfSome told (λ c. IsCounted p c → IfErr r (λ x. IfStoreDamage x (IsDamage (with_all c p.batch))))
kept_damage told p q r same fact = subst (λ (z : Pending). IfSome told (λ c. IsCounted z c → IfErr r (λ x. IfStoreDamage x (IsDamage (with_all c z.batch))))) same fact

-- the order of the ids of what was compared
pub lesser_compared : (r : Result Compared HistoryError) (a b : Side) → IfOk r (λ x. x.left ≡ a) → IfOk r (λ x. x.right ≡ b) → IsLesser a.id b.id → IfOk r (λ x. IsLesser x.left.id x.right.id)
lesser_compared (Ok x) a b l g less = subst (λ (y : Side). IsLesser y.id x.right.id) (sym l) (subst (λ (y : Side). IsLesser a.id y.id) (sym g) less)
lesser_compared (Err e) a b l g less = tt

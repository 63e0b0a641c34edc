-- The closure compares the numbers, and the numbers ascend.
use Rattle.std.proofs.Common.{rules, nat_eq, Ok, Err}
use Rattle.std.specs.FinMap.{nat_cmp-IsAntisymmetric}
use Rattle.std.specs.Cmp.{nat_cmp_total}
use Rattle.std.specs.Ordering.{nat_cmp}
use Rattle.std.proofs.lemmas.Fn.{always_returns_same}
use Rattle.mtn_marking.proofs.Keyed.{halved}
use Rattle.mtn_records.specs.declared.entry.NumberedEntry.{NumberedEntry}
use Rattle.mtn_roster_deltas.specs.Chain.{number_of}
use Rattle.mtn_roster_deltas.proofs.Ascending.{same_number-is, same_number-self}
use Rattle.mtn_roster_deltas.proofs.order.place_at.Goals as goal

pub returns-in-Ok-clause-entry : goal.returns-in-Ok-clause-entry
returns-in-Ok-clause-entry c =
    halved nat_cmp number_of nat_eq nat_cmp_total same_number-is same_number-self nat_cmp-IsAntisymmetric c.args.entries.now c.requires c.args.number (Ok c.in-Ok.place) c.in-Ok.ensures.bound
    (c.in-Ok.ensures.position (λ (e : NumberedEntry). nat_cmp e.number c.args.number) (always_returns_same _ _ _ (λ a r g called. (search rules, search rules))))

pub returns-in-Err-clause-entry : goal.returns-in-Err-clause-entry
returns-in-Err-clause-entry c =
    halved nat_cmp number_of nat_eq nat_cmp_total same_number-is same_number-self nat_cmp-IsAntisymmetric c.args.entries.now c.requires c.args.number (Err c.in-Err.field-0) c.in-Err.ensures.bound
    (c.in-Err.ensures.position (λ (e : NumberedEntry). nat_cmp e.number c.args.number) (always_returns_same _ _ _ (λ a r g called. (search rules, search rules))))

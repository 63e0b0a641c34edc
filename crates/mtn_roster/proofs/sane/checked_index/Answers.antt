-- By the tests.
use Rattle.std.proofs.Common.{◌≡◌, Err, sym, ◌∙◌, ap}
use Rattle.std.specs.Prelude.{Result}
use Rattle.std.proofs.lemmas.Bool.{false≢true}
use Rattle.std.proofs.lemmas.Result.{err_from_is_err_and}
use Rattle.mtn_roster.specs.declared.build.BuildError.{BuildError}
use Rattle.mtn_roster.specs.declared.build.BuildError.TheVariants.{Insane}
use Rattle.mtn_roster.proofs.Telling.{well_by_sane, slots_by_sane}
use Rattle.mtn_roster.proofs.sane.checked_index.Goals as goal

handed : {T : Type 0} (r : Result T BuildError) (y d : BuildError) → r ≡ Err y → y ≡ d → r ≡ Err Insane → d ≡ Insane
handed r y d p q h = cc

pub returns-in_err-ups-clause-insane : goal.returns-in_err-ups-clause-insane
returns-in_err-ups-clause-insane c = λ h s.
    let p = err_from_is_err_and c.from_residual.result c.from_residual.ensures.1 in
    let bad = c.in_err-ups.ensures.insane (ap Err (handed c.from_residual.result p.0 c.in_err-ups.field-0.0 p.1 p.2 h)) in
    absurd (false≢true (sym bad.2 ∙ well_by_sane c.args.entries.now c.requires.rising s bad.0 bad.1))

pub returns-in_err-by_slot-clause-insane : goal.returns-in_err-by_slot-clause-insane
returns-in_err-by_slot-clause-insane c = λ h s.
    let p = err_from_is_err_and c.from_residual-in_err-by_slot.result c.from_residual-in_err-by_slot.ensures.1 in
    c.in_err-by_slot.ensures.insane (ap Err (handed c.from_residual-in_err-by_slot.result p.0 c.in_err-by_slot.field-0.0 p.1 p.2 h)) (slots_by_sane c.args.entries.now c.requires.rising s)

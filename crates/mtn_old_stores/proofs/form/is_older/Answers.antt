use Rattle.std.proofs.lemmas.Result.{IfOk-weaker}
use Rattle.mtn_put_certs.proofs.HeldLemmas.{at_told}
use Rattle.mtn_old_stores.proofs.FormLemmas.{never_form_damaged, older_form, present_form}
use Rattle.mtn_old_stores.proofs.form.is_older.Goals as goal

pub returns-clause-older : goal.returns-clause-older
returns-clause-older g c f d s told stands =
    IfOk-weaker c.has_old_form.result _ _ (λ b is. older_form f d s stands b is) (at_told (g.K.Keeper.contents c.has_old_form.new.keeper) d _ told c.has_old_form.ensures.form)

pub returns-clause-present : goal.returns-clause-present
returns-clause-present g c f d t told stands =
    IfOk-weaker c.has_old_form.result _ _ (λ b is. present_form f d t stands b is) (at_told (g.K.Keeper.contents c.has_old_form.new.keeper) d _ told c.has_old_form.ensures.form)

pub returns-clause-sound : goal.returns-clause-sound
returns-clause-sound g c f d s t told stands = never_form_damaged f (g.K.Keeper.contents c.has_old_form.new.keeper) d s t c.has_old_form.result told stands c.has_old_form.ensures.damaged

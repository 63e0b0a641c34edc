use Rattle.std.specs.Prelude.{option_map}
use Rattle.std.proofs.Common.{◌∙◌, Option, sym, ap, inr}
use Rattle.mtn_base.specs.declared.id.Id.{Id}
use Rattle.mtn_base.specs.declared.refusal.Cause.TheVariants.{UnknownFile}
use Rattle.mtn_merge.specs.Given.{first_unknown}
use Rattle.mtn_merge.proofs.given.resolve.Goals as goal

pub returns-in-Some-clause-overrides : goal.returns-in-Some-clause-overrides
returns-in-Some-clause-overrides g c = λ f s d.
    inr (c.in-Ok.ensures.fitting, ap (λ (o : Option Id). option_map UnknownFile o) (sym (c.in_ok-id.ensures.found f s d ∙ ap (first_unknown s.files) c.items.ensures.items) ∙ c.in-Some.is))

pub returns-clause-overrides : goal.returns-clause-overrides
returns-clause-overrides g c = λ f s d. (
  (c.in-Ok.ensures.fitting, ap (λ (o : Option Id). option_map UnknownFile o) (sym (c.in_ok-id.ensures.found f s d ∙ ap (first_unknown s.files) c.items.ensures.items) ∙ c.in_default.is)),
  c.in-Ok.ensures.ok,
)

use Rattle.std.specs.Prelude.{IfSome}
use Rattle.std.proofs.Common.{subst}
use Rattle.mtn_history_laws.specs.History.{IsPlaceOf}
use Rattle.mtn_put_revision.proofs.uncommon.id_at.Goals as goal

pub returns-in-Some : goal.returns-in-Some
returns-in-Some g c = λ f s d. subst (λ o. IfSome o (λ i. IsPlaceOf d.stands.history i c.args.at)) c.in-Some.is (c.recall_id.ensures.found f s d c.requires)

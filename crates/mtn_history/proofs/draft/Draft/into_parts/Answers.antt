use Rattle.std.specs.Prelude.{IfSome, Some}
use Rattle.std.proofs.Common.{subst}
use Rattle.mtn_ports.specs.Kept.{with_all}
use Rattle.mtn_history.specs.Memory.{Knows}
use Rattle.mtn_history.proofs.Remembering.{handed}
use Rattle.mtn_history.proofs.draft.Draft.into_parts.Goals as goal

pub returns-clause-knows : goal.returns-clause-knows
returns-clause-knows g c =
    subst (λ d. IfSome (g.K.Keeper.contents d.keeper.now) (λ x. Knows (record { meta = Some (record { count = c.self.inside.pending.count; is_new = c.self.inside.pending.is_new }); cache = c.self.inside.cache }) (with_all x d.pending.batch))) c.self.view_is
    (handed (g.K.Keeper.contents c.self.inside.keeper.now) c.self.inside.pending c.self.inside.cache c.self.invariant.0 c.self.invariant.1)

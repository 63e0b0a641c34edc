use Rattle.std.proofs.Common.{subst}
use Rattle.mtn_history.specs.Stands.{Stands}
use Rattle.mtn_check_laws.proofs.Sound.{clean_stands, stands_clean}
use Rattle.mtn_check_laws.proofs.laws.no_damage_stands.Goals as goal

pub returns-clause-stands : goal.returns-clause-stands
returns-clause-stands c f contents clean = let o = clean_stands f contents clean in subst (Stands f contents) (c.one_state.ensures.spells f contents o.0 o.1) o.1

pub returns-clause-clean : goal.returns-clause-clean
returns-clause-clean c f contents s stands = stands_clean f contents s stands

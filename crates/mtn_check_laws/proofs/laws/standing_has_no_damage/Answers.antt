use Rattle.mtn_check_laws.proofs.Sound.{stands_clean}
use Rattle.mtn_check_laws.proofs.First.{clean_never, first_shown}
use Rattle.mtn_check_laws.proofs.laws.standing_has_no_damage.Goals as goal

pub returns-clause-never : goal.returns-clause-never
returns-clause-never c f contents s d stands wrong = clean_never f contents d (stands_clean f contents s stands) wrong

pub returns-clause-clean : goal.returns-clause-clean
returns-clause-clean c f contents d clean wrong = clean_never f contents d clean wrong

pub returns-clause-shown : goal.returns-clause-shown
returns-clause-shown c f contents d wrong = first_shown f contents d wrong

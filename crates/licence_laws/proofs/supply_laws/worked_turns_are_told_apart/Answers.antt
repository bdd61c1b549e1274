use Rattle.licence_laws.proofs.Worked.{are_not_shown, are_shown}
use Rattle.licence_laws.proofs.supply_laws.worked_turns_are_told_apart.Goals as goal

pub returns-clause-shown : goal.returns-clause-shown
returns-clause-shown c = are_shown

pub returns-clause-unshown : goal.returns-clause-unshown
returns-clause-unshown c = are_not_shown

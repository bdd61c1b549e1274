use Rattle.contract_powers.proofs.Results.{told_so}
use Rattle.contract_powers.proofs.admission.answer_told.Goals as goal

pub returns-in-Ok : goal.returns-in-Ok
returns-in-Ok c = told_so c.answer_call.result c.args.told c.in-Ok.told c.args.row c.in-Ok.is c.answer_call.ensures

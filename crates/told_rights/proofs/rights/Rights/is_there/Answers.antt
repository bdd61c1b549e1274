use Rattle.std.proofs.Common.{◌↔◌, IsTrue}
use Rattle.told_rights.proofs.Counts.{if_ok}
use Rattle.told_rights.proofs.rights.Rights.is_there.Goals as goal

pub returns-in_default : goal.returns-in_default
returns-in_default c = λ e form. if_ok c.contains.result _ _ (λ there h. (λ x held. h.0 x, λ y. h.1 (y c.in_default.not-Outside))) (c.contains.ensures e form)

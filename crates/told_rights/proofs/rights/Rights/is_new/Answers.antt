use Rattle.std.proofs.Common.{◌≡◌, ◌↔◌, IsTrue, false, subst}
use Rattle.told_rights.proofs.rights.Rights.is_new.Goals as goal

pub returns : goal.returns
returns c = λ i t. subst (λ x. IsTrue c.is_new.result ↔ (x ≡ false)) (t.payments.named c.args.payment) c.is_new.ensures

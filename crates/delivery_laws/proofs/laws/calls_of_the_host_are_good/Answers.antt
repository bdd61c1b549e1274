use Rattle.rule_laws.proofs.Methods.{calls_are}
use Rattle.delivery_laws.proofs.Replies.{call_is}
use Rattle.delivery_laws.proofs.laws.calls_of_the_host_are_good.Goals as goal

pub returns : goal.returns
returns c = record { good = λ w i x good made known. call_is calls_are w i good made x known }

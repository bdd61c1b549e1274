use Rattle.host_data.specs.View.{trees}
use Rattle.rules.specs.Methods.{serve}
use Rattle.zoe_calls.proofs.services.serve.Goals as goal

pub returns-in-Timer : goal.returns-in-Timer
unfolding serve
returns-in-Timer c = rw c.in-Timer.is (c.serve_timer.ensures (trees c.args.args.now))

pub returns-in-Payment : goal.returns-in-Payment
unfolding serve
returns-in-Payment c = rw c.in-Payment.is (c.serve_payment.ensures (trees c.args.args.now))

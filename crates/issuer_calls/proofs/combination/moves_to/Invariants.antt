use Rattle.std.proofs.Common.{◌≡◌, map}
use Rattle.rules.specs.Lists.{moves_to}
use Rattle.ertp_calls.specs.Views.{live_view}
use Rattle.issuer_calls.proofs.combination.moves_to.Given as goal

abbrev pub invariant-loop-payment : goal.invariant-loop-payment
invariant-loop-payment l = l.movements.items ≡ moves_to l.brand l.to (map live_view l.yielded)

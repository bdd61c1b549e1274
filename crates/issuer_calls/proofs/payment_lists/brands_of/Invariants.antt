use Rattle.std.proofs.Common.{◌≡◌, map, take}
use Rattle.ertp_calls.specs.host_world.Worlds.{world_of}
use Rattle.rules.specs.GivenPayments.{payment_view_of}
use Rattle.issuer_calls.proofs.payment_lists.brands_of.Given as goal

abbrev pub invariant-loop-payment : goal.invariant-loop-payment
invariant-loop-payment l = l.brands.items ≡ map (λ n. (payment_view_of (world_of l.world) n).brand) (take l.payment-index l.payments)

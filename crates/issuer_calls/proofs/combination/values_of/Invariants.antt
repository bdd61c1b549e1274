use Rattle.std.proofs.Common.{◌≡◌, map, take}
use Rattle.rules.specs.Lists.{values_of}
use Rattle.ertp_calls.specs.Views.{live_view}
use Rattle.issuer_calls.proofs.combination.values_of.Given as goal

abbrev pub invariant-loop-payment : goal.invariant-loop-payment
invariant-loop-payment l = map (λ v. v.now) l.values.items ≡ values_of (map live_view (take l.payment-index l.given))

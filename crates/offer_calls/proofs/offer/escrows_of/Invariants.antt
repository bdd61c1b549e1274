use Rattle.std.proofs.Common.{◌≡◌, ◌++◌, drop, length}
use Rattle.rules.specs.GivenPayments.{escrows_of}
use Rattle.offer_calls.proofs.offer.escrows_of.Given as goal

abbrev pub invariant-loop-share : goal.invariant-loop-share
invariant-loop-share l = l.escrows.items ++ escrows_of l.seat (drop (length l.yielded) l.give) (drop (length l.yielded) l.payments) ≡ escrows_of l.seat l.give l.payments

use Rattle.std.proofs.Common.{◌≡◌, ◌++◌, drop}
use Rattle.rules.specs.GivenPayments.{escrows_of}
use Rattle.escrow_calls.proofs.payments.escrows_of.Given as goal

abbrev pub invariant-loop-place : goal.invariant-loop-place
invariant-loop-place l = l.escrows.items ++ escrows_of l.seat (drop l.place l.shares) (drop l.place l.payments) ≡ escrows_of l.seat l.shares l.payments

use Rattle.std.proofs.Common.{◌≡◌, drop}
use Rattle.ertp_calls.specs.host_world.Worlds.{world_of}
use Rattle.rules.specs.GivenPayments.{first_wrong}
use Rattle.escrow_calls.proofs.payments.check_amounts.Given as goal

abbrev pub invariant-loop-place : goal.invariant-loop-place
invariant-loop-place l = first_wrong (world_of l.world) (drop l.place l.shares) (drop l.place l.payments) ≡ first_wrong (world_of l.world) l.shares l.payments

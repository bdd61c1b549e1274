use Rattle.std.proofs.Common.{◌≡◌, drop, length}
use Rattle.ertp_calls.specs.host_world.Worlds.{world_of}
use Rattle.rules.specs.GivenPayments.{first_wrong}
use Rattle.offer_calls.proofs.payments.check_amounts.Given as goal

abbrev pub invariant-loop-share : goal.invariant-loop-share
invariant-loop-share l = first_wrong (world_of l.world) (drop (length l.yielded) l.give) (drop (length l.yielded) l.payments) ≡ first_wrong (world_of l.world) l.give l.payments

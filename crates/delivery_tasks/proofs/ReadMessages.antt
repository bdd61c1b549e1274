-- What messages read of the stores of parties and of promises is what they read of the world.
use Rattle.std.proofs.Common.{◌≡◌, refl}
use Rattle.delivery_turns.specs.Messages.{addressed, gift_of, sent_to}
use Rattle.delivery_turns.specs.turn_records.Deliveries.{Send}
use Rattle.delivery_turns.specs.turn_records.Messages.{LineCall, LineGift}
use Rattle.world_reads.specs.host_world.Worlds.{world_of}
use Rattle.world_reads.specs.host_world.declared.World.{World}
use Rattle.delivery_reads.specs.Reads.{promises_in, read_in}
use Rattle.delivery_reads.proofs.SameReads.{addressed_same, gift_same, sent_same}

pub addressed_is : (w : World) (c : LineCall) → addressed (read_in w.registers.parties w.registers.promises) c ≡ addressed (world_of w) c
addressed_is w c = addressed_same _ _ refl refl c

pub gift_is : (w : World) (g : LineGift) → gift_of (read_in w.registers.parties w.registers.promises) g ≡ gift_of (world_of w) g
gift_is w g = gift_same _ _ refl refl g

pub sent_is : (w : World) (s : Send) → sent_to (promises_in w.registers.promises) s ≡ sent_to (world_of w) s
sent_is w s = sent_same _ _ refl s

use Rattle.std.proofs.Common.{List, sym, subst}
use Rattle.proposals.specs.Shares.{AreShares}
use Rattle.seats.proofs.Places.{AreShares-take}
use Rattle.seats.specs.Slots.{SlotView, shares_in}
use Rattle.seats.proofs.seat_slots.Seat.undo_open_slot.Goals as goal

pub invariant_of-self : goal.invariant_of-self
invariant_of-self c = subst (λ (xs : List SlotView). AreShares (shares_in xs)) (sym c.truncate.ensures.items) (AreShares-take c.self.inside.slots.items _ c.self.invariant)

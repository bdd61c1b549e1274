use Rattle.std.proofs.Common.{List, ap, map, subst, sym, ◌∙◌}
use Rattle.proposals.specs.Shares.{AreShares}
use Rattle.seats.proofs.Changes.{if_ok}
use Rattle.seats.proofs.Places.{AreShares-empty}
use Rattle.seats.specs.Slots.{SlotView, empty_slot, shares_in}
use Rattle.seats.proofs.seat_slots.new_slots.Goals as goal

pub returns-clause-apart : goal.returns-clause-apart
returns-clause-apart c =
    if_ok c.empty_slots.result _ _ (λ slots is fits.
    subst (λ (xs : List SlotView). AreShares (shares_in xs)) (sym (is ∙ ap (map empty_slot) c.as_slice.ensures.value)) (AreShares-empty c.in_ok-shares.shares.items (c.in_ok-shares.ensures.apart fits)))
    c.empty_slots.ensures

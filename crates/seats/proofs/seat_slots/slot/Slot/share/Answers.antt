use Rattle.std.proofs.Common.{sym, subst}
use Rattle.ertp_mint.specs.amount_math.Held.{Held}
use Rattle.ertp_mint.specs.amount_math.KindLaws.{has_few}
use Rattle.ertp_mint.specs.amount_math.ValueView.{HasFew}
use Rattle.seats.proofs.seat_slots.slot.Slot.share.Goals as goal

pub copy-requires-2 : goal.copy-requires-2
copy-requires-2 c = subst (λ (h : Held). HasFew h.value.kind h.value.content) (sym c.holding.ensures.holding) (has_few _ _ c.holding.ensures.value)

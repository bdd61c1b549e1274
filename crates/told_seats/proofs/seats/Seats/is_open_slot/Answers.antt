use Rattle.std.proofs.Common.{List, ap, ◌∙◌}
use Rattle.row_records.specs.fair_rows.Seats.{brand_under}
use Rattle.told_seats.specs.SlotViews.{slots_view}
use Rattle.told_seats.specs.declared.slots.SlotName.{SlotName}
use Rattle.told_seats.proofs.SeatTests.{left_open, open_kept, slot_free, slot_tested}
use Rattle.told_seats.proofs.seats.Seats.is_open_slot.Goals as goal

pub returns-in-Some-brand_under : goal.returns-in-Some-brand_under
returns-in-Some-brand_under c = λ seats t.
    slot_tested (open_kept c.args.self.now.seats.items seats c.args.seat t c.in-Some.ensures c.in-Open.is) c.args.keyword.now c.args.brand c.in-Some-brand_under.found
    (c.in-Some-brand_under.ensures ∙ ap (λ (ss : List SlotName). brand_under c.args.keyword.now (slots_view ss)) c.as_slice.ensures.value)

pub returns-in-None : goal.returns-in-None
returns-in-None c = λ seats t. slot_free (open_kept c.args.self.now.seats.items seats c.args.seat t c.in-Some.ensures c.in-Open.is) c.args.keyword.now c.args.brand
    (c.in-None.ensures ∙ ap (λ (ss : List SlotName). brand_under c.args.keyword.now (slots_view ss)) c.as_slice.ensures.value)

pub returns-in-Exited : goal.returns-in-Exited
returns-in-Exited c = λ seats t. (λ h. absurd (cc), λ slot. absurd (left_open c.args.self.now.seats.items seats c.args.seat t c.in-Some.ensures c.in-Exited.is slot.is_open))

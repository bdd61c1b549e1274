use Rattle.std.proofs.Common.{◌∙◌, sym}
use Rattle.std.proofs.lemmas.Bool.{false≢true}
use Rattle.refusals.specs.amount_math.KindLaws.{has_few}
use Rattle.zseat_calls.proofs.SlotAmounts.{slot_missing, slot_read}
use Rattle.zseat_calls.proofs.amounts.slot_amount.Goals as goal

pub returns-then-not-has_slot : goal.returns-then-not-has_slot
returns-then-not-has_slot c = slot_missing c.args.keyword.now c.seats-seats.result.now.seats _ c.args.seat c.seats-seats.ensures.seats
    (λ has. false≢true (sym c.if-not-has_slot.true ∙ (c.has_slot.ensures).1 has))

pub copy-requires : goal.copy-requires
copy-requires c = has_few _ _ c.holding.ensures.value

pub returns : goal.returns
returns c = slot_read c.args.keyword.now c.seats-seats.result.now.seats _ c.args.seat c.seats-seats.ensures.seats
    ((c.has_slot.ensures).0 c.if-not-has_slot.false) c.brand-brand.result c.in_ok-value.value c.holding.result.now
    c.brand-brand.ensures c.holding.ensures.holding c.in_ok-value.ensures

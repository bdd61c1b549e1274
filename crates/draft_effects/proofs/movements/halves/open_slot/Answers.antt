use Rattle.std.proofs.Common.{◌≡◌, ap, refl, sym, ◌∙◌}
use Rattle.std.proofs.lemmas.Result.{on_ok_weaker}
use Rattle.draft_reads.specs.amount_math.ValueView.{ValueView}
use Rattle.draft_reads.specs.ertp_mint.Stocks.{empty_amount}
use Rattle.draft_reads.specs.vault_model.Lists.{amount_of}
use Rattle.draft_reads.proofs.Undoing.{clean_back}
use Rattle.draft_effects.specs.Steps.{moved_amount}
use Rattle.draft_effects.proofs.EmptySlots.{fits_none, may_none, opened_after_so, reach_empty, same_after, slot_is, still_may}
use Rattle.draft_effects.proofs.movements.halves.open_slot.Goals as goal

pub returns-then-has_slot-clause-ok : goal.returns-then-has_slot-clause-ok
returns-then-has_slot-clause-ok c =
    let d = c.args.draft.now in
    same_after d c.args.seat c.args.keyword.now (moved_amount c.args.movement.now) c.requires.clean
    (slot_is d.now c.seats.result.now.seats c.args.seat c.args.keyword.now c.has_slot.result c.seats.ensures.seats c.requires.slot.made c.has_slot.ensures.0 c.has_slot.ensures.1 ∙ c.if-has_slot.true)

pub returns-then-has_slot-clause-back : goal.returns-then-has_slot-clause-back
returns-then-has_slot-clause-back c = clean_back c.args.draft.now c.args.draft.now refl c.valid.ensures c.requires.clean

pub issue-requires-clause-may : goal.issue-requires-clause-may
issue-requires-clause-may c = may_none c.args.draft.now.now.out c.supply.result.now.out c.args.movement.now.brand c.supply.ensures.supply c.empty.result c.minted-minted.result (ap (λ (w : ValueView). w.content) c.empty.ensures) c.minted-minted.ensures.minted c.minted-minted.ensures.bounded
    (fits_none c.args.draft.now.now.out c.supply-2.result.now.out c.args.movement.now.brand c.supply-2.ensures.supply c.empty.result (ap (λ (w : ValueView). w.content) c.empty.ensures) (c.requires.brand.kind ∙ sym (ap (λ (w : ValueView). w.kind) c.empty.ensures ∙ c.kind.ensures.kind)) c.kind-fits.ensures.fits)

pub returns-in_err-parcel-clause-back : goal.returns-in_err-parcel-clause-back
returns-in_err-parcel-clause-back c = rw (c.in_err-parcel.ensures.err) (clean_back c.args.draft.now c.args.draft.now refl c.valid.ensures c.requires.clean)

pub put_to_holder-requires-clause-reach : goal.put_to_holder-requires-clause-reach
put_to_holder-requires-clause-reach c =
    let d = c.args.draft.now in
    let b = c.args.movement.now.brand in
    let none = slot_is d.now c.seats.result.now.seats c.args.seat c.args.keyword.now c.has_slot.result c.seats.ensures.seats c.requires.slot.made c.has_slot.ensures.0 c.has_slot.ensures.1 ∙ c.if-has_slot.false in
    let parcel : c.in_ok-parcel.parcel ≡ empty_amount b c.kind.result = c.in_ok-parcel.ensures.parcel ∙ ap (amount_of b) c.empty.ensures in
    rw (c.requires.from, parcel) (reach_empty c.issue.new.draft.now c.args.seat c.args.keyword.now b c.kind.result
    (still_may d c.issue.new.draft c.issue.new.draft c.args.seat c.args.keyword.now b c.kind.result (rw (c.empty.ensures) at c.in_ok-parcel.ensures.ok) (c.requires.slot.opens none).slot))

pub returns-clause-ok : goal.returns-clause-ok
returns-clause-ok c =
    let d = c.args.draft.now in
    let b = c.args.movement.now.brand in
    let none = slot_is d.now c.seats.result.now.seats c.args.seat c.args.keyword.now c.has_slot.result c.seats.ensures.seats c.requires.slot.made c.has_slot.ensures.0 c.has_slot.ensures.1 ∙ c.if-has_slot.false in
    let parcel : c.in_ok-parcel.parcel ≡ empty_amount b c.kind.result = c.in_ok-parcel.ensures.parcel ∙ ap (amount_of b) c.empty.ensures in
    on_ok_weaker c.put_to_holder.result (λ put. opened_after_so d c.issue.new.draft c.put_to_holder.new.draft c.args.seat c.args.keyword.now b c.args.movement.now.value.kind c.kind.result c.kind.ensures.kind (rw (c.empty.ensures) at c.in_ok-parcel.ensures.ok) none (rw (c.requires.from, parcel) at put)) c.put_to_holder.ensures.ok

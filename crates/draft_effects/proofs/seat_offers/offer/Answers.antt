use Rattle.std.proofs.Common.{◌∷◌, ◌∙◌}
use Rattle.draft_effects.proofs.EscrowedOffers.{escrow_can, escrow_room, escrowed_now}
use Rattle.draft_effects.proofs.seat_offers.offer.Goals as goal

pub open_seat-requires-clause-room : goal.open_seat-requires-clause-room
open_seat-requires-clause-room c = escrow_room c.args.draft.now c.args.instance c.args.proposal (c.args.burn.now ∷ c.args.escrows.now) c.requires.can

pub escrow-requires-clause-clean : goal.escrow-requires-clause-clean
escrow-requires-clause-clean c = c.in_ok-seat.ensures.ok.clean

pub escrow-requires-clause-can : goal.escrow-requires-clause-can
escrow-requires-clause-can c = escrow_can c.args.draft.now c.open_seat.new.draft c.args.instance c.args.proposal (c.args.burn.now ∷ c.args.escrows.now) c.in_ok-seat.ensures.ok c.requires.can c.valid.ensures

pub returns-in_err-escrow-clause-back : goal.returns-in_err-escrow-clause-back
returns-in_err-escrow-clause-back c = record { kept = c.in_err-escrow.ensures.back.kept ∙ c.in_ok-seat.ensures.back.kept; goes = c.in_err-escrow.ensures.back.goes }

pub returns-clause-ok : goal.returns-clause-ok
returns-clause-ok c = escrowed_now c.args.draft.now c.open_seat.new.draft c.args.instance c.args.proposal (c.args.burn.now ∷ c.args.escrows.now) c.in_ok-seat.ensures.ok c.requires.can c.escrow.new.draft c.valid.ensures c.in_ok-escrow.ensures.ok

pub returns-clause-back : goal.returns-clause-back
returns-clause-back c = record { kept = c.in_ok-escrow.ensures.back.kept ∙ c.in_ok-seat.ensures.back.kept; goes = c.in_ok-escrow.ensures.back.goes }

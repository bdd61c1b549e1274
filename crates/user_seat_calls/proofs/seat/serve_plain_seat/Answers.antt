use Rattle.user_seat_calls.proofs.seat.serve_plain_seat.Goals as goal

pub returns-in-hasExited : goal.returns-in-hasExited
returns-in-hasExited c = rw c.in-hasExited.is (c.outcome_of_reading.ensures _ c.has_exited.ensures)

pub returns-in-getPayouts : goal.returns-in-getPayouts
returns-in-getPayouts c = rw c.in-getPayouts.is (c.outcome_of_reading-in-getPayouts.ensures _ c.get_payouts.ensures)

pub returns-in-getPayout : goal.returns-in-getPayout
returns-in-getPayout c = rw c.in-getPayout.is (c.outcome_of_reading-in-getPayout.ensures _ c.get_payout.ensures)

pub returns-in-getOfferResult : goal.returns-in-getOfferResult
returns-in-getOfferResult c = rw c.in-getOfferResult.is (c.outcome_of_reading-in-getOfferResult.ensures _ c.get_offer_result.ensures)

use Rattle.user_seat_calls.proofs.seat.serve_seat.Goals as goal

pub returns-in-getProposal : goal.returns-in-getProposal
returns-in-getProposal c = rw c.in-getProposal.is (c.outcome_of_reading.ensures _ c.get_proposal.ensures)

pub returns-in-getFinalAllocation : goal.returns-in-getFinalAllocation
returns-in-getFinalAllocation c = rw c.in-getFinalAllocation.is (c.outcome_of_reading-in-getFinalAllocation.ensures _ c.get_final_allocation.ensures)

use Rattle.zseat_calls.proofs.zseat.of_held.Goals as goal

pub returns-in-getCurrentAllocation : goal.returns-in-getCurrentAllocation
returns-in-getCurrentAllocation c = rw c.in-getCurrentAllocation.is (c.outcome_of_reading.ensures _ c.get_current_allocation.ensures)

pub returns-in-getStagedAllocation : goal.returns-in-getStagedAllocation
returns-in-getStagedAllocation c = rw c.in-getStagedAllocation.is (c.outcome_of_reading-in-getStagedAllocation.ensures _ c.get_staged_allocation.ensures)

pub returns-in-getAmountAllocated : goal.returns-in-getAmountAllocated
returns-in-getAmountAllocated c = rw c.in-getAmountAllocated.is (c.outcome_of_reading-in-getAmountAllocated.ensures _ c.get_amount_allocated.ensures)

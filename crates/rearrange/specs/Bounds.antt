-- Shares that have values of their kinds.
use Rattle.refusals.specs.amount_math.ValueView.{IsValue}
use Rattle.proposals.specs.declared.allocations.Share.{Share}

abbrev pub HasValue : Share → Type 0
HasValue r = IsValue r.amount.value.kind r.amount.value.content

-- What a seat's slots have once shares become its allocation (Zoe; the order of the slots, and that an empty share opens none, are our own).
use Rattle.std.specs.Prelude.{Bool, List, ◌++◌, map, filter, nat_lt}
use Rattle.refusals.specs.amount_math.Amount.{holding}
use Rattle.refusals.specs.amount_math.Counted.{counted}
use Rattle.proposals.specs.Shares.{content_under, keyed_share}
use Rattle.proposals.specs.declared.allocations.Share.{Share}
use Rattle.proposals.specs.ChangedShares.{further}

-- a slot with what shares have under its keyword
abbrev pub filled : List Share → Share → Share
filled shares slot = keyed_share slot.keyword (holding slot.amount (content_under slot.keyword shares))

abbrev pub has_some : Share → Bool
has_some r = nat_lt 0 (counted r.amount.value.content)

-- the shares that have something and no slot yet, in byte order of their keywords
abbrev pub opened : List Share → List Share → List Share
opened slots shares = filter has_some (further slots shares)

-- each slot has what the shares have under its keyword, and the shares that have something and no slot yet are further slots
abbrev pub settled : List Share → List Share → List Share
settled slots shares = map (filled shares) slots ++ opened slots shares

-- What slots have once a record is added to them, and which share of it is refused.
use Rattle.std.specs.Prelude.{◌≡◌, List, ◌++◌, All, map}
use Rattle.std.specs.Option.{ForSome}
use Rattle.host_data.specs.amount_math.Amount.{Meet, holding}
use Rattle.host_data.specs.amount_math.Content.{Content, sum}
use Rattle.host_data.specs.amount_math.ValueView.{Fits, IsPutRefusal, IsValue}
use Rattle.host_data.specs.amount_math.declared.Kind.TheVariants.{Set}
use Rattle.host_data.specs.amount_math.declared.PutFault.{PutFault}
use Rattle.host_data.specs.amount_math.declared.PutFault.TheVariants.{NoMemory, Overlap, TooMuch}
use Rattle.host_data.specs.amount_math.declared.Amount.{Amount}
use Rattle.proposals.specs.declared.allocations.Share.{Share}
use Rattle.proposals.specs.Shares.{amount_under, content_under, keyed_share}
use Rattle.proposals.specs.ChangedShares.{FirstShows, further}

-- a slot with what a record has under its keyword
abbrev pub raised : List Share → Share → Share
raised gains slot = keyed_share slot.keyword (holding slot.amount (sum slot.amount.value.content (content_under slot.keyword gains)))

-- each slot with what the record has under its keyword, then the shares of keywords that had no slot
abbrev pub with_gains : List Share → List Share → List Share
with_gains slots gains = map (raised gains) slots ++ further slots gains

-- what stands in a slot meets the amount, and the two together are a value
pub record CanSum (slot gain : Amount) : Type 0 where
  pub meet : Meet slot gain
  pub value : IsValue slot.value.kind (sum slot.value.content gain.value.content)

-- a slot can have what a record has under its keyword
abbrev pub CanRaise : List Share → Share → Type 0
CanRaise gains slot = ForSome (amount_under slot.keyword gains) (CanSum slot.amount)

-- what a share and the slot of its keyword have together
abbrev pub together : List Share → Share → Content
together slots share = sum (content_under share.keyword slots) share.amount.value.content

-- a set has no key that the slot has already
abbrev pub IsApart : List Share → Share → Type 0
IsApart slots share = share.amount.value.kind ≡ Set → Fits Set (together slots share)

-- a share can be added: the two together are a value
abbrev pub CanGain : List Share → Share → Type 0
CanGain slots share = IsValue share.amount.value.kind (together slots share)

-- a share isn't put in its slot, by this fault
abbrev pub IsRefused : List Share → PutFault → Share → Type 0
IsRefused slots fault share = IsPutRefusal share.amount.value.kind (together slots share) fault

-- when a record isn't added to slots: its first share with a key of a set that the slot has already shows the least such key; or there is none, and its first share that makes too much shows how much
abbrev pub IsGainsRefusal : List Share → List Share → PutFault → Type 0
IsGainsRefusal slots gains (Overlap key) = FirstShows (IsApart slots) (IsRefused slots (Overlap key)) gains
IsGainsRefusal slots gains (TooMuch most) = All (IsApart slots) gains × FirstShows (CanGain slots) (IsRefused slots (TooMuch most)) gains
IsGainsRefusal slots gains NoMemory = Unit {0}

-- What slots have once a record is taken from them, and which share of it is refused.
use Rattle.std.specs.Prelude.{◌≡◌, List, ◌++◌, map}
use Rattle.std.specs.Option.{ForSome}
use Rattle.host_data.specs.amount_math.Amount.{Meet, holding}
use Rattle.host_data.specs.amount_math.Content.{Contains, difference}
use Rattle.host_data.specs.amount_math.ValueView.{ValueView}
use Rattle.host_data.specs.amount_math.declared.Amount.{Amount}
use Rattle.proposals.specs.declared.allocations.Share.{Share}
use Rattle.proposals.specs.OfferSafety.{IsCovered}
use Rattle.proposals.specs.Shares.{amount_under, content_under, keyed_share}
use Rattle.host_data.specs.amount_math.declared.shortfall.LossFault.{LossFault}
use Rattle.host_data.specs.amount_math.declared.shortfall.LossFault.TheVariants.{NoMemory, NotEnough}
use Rattle.host_data.specs.amount_math.declared.shortfall.Shortfall.{Shortfall}
use Rattle.proposals.specs.ChangedShares.{FirstShows, further}

-- a slot less what a record has under its keyword
abbrev pub lowered : List Share → Share → Share
lowered losses slot = keyed_share slot.keyword (holding slot.amount (difference slot.amount.value.content (content_under slot.keyword losses)))

-- each slot less what the record has under its keyword
abbrev pub without : List Share → List Share → List Share
without slots losses = map (lowered losses) slots

-- the same, then the shares of keywords that had no slot, which have nothing
abbrev pub with_losses : List Share → List Share → List Share
with_losses slots losses = without slots losses ++ further slots losses

-- what stands in a slot meets the amount, and contains it
pub record CanLose (slot loss : Amount) : Type 0 where
  pub meet : Meet slot loss
  pub has : Contains slot.value.content loss.value.content

-- a slot has what a record has under its keyword
abbrev pub CanLower : List Share → Share → Type 0
CanLower losses slot = ForSome (amount_under slot.keyword losses) (CanLose slot.amount)

-- what the slot of a share's keyword has
abbrev pub held_under : List Share → Share → ValueView
held_under slots share = record { kind = share.amount.value.kind; content = content_under share.keyword slots }

-- what the slot of a share's keyword has, and what the share asks for
pub record IsShown (slots : List Share) (share : Share) (short : Shortfall) : Type 0 where
  pub held : short.held ≡ held_under slots share
  pub asked : short.asked ≡ share.amount.value

-- the slot of a share's keyword has less than the share asks for, and both are shown
pub record IsShort (slots : List Share) (short : Shortfall) (share : Share) : Type 0 where
  pub less : ¬ IsCovered slots share
  pub shown : IsShown slots share short

-- when a record isn't taken from slots: its first share of which the slot has less shows both
abbrev pub IsLossesRefusal : List Share → List Share → LossFault → Type 0
IsLossesRefusal slots losses (NotEnough short) = FirstShows (IsCovered slots) (IsShort slots short) losses
IsLossesRefusal slots losses NoMemory = Unit {0}

-- Offer safety (Zoe): an allocation has all that is wanted, or all that was given.
use Rattle.std.specs.Prelude.{List, All, ◌⊎◌}
use Rattle.std.specs.Option.{ForSome}
use Rattle.host_data.specs.amount_math.Amount.{Meet}
use Rattle.host_data.specs.amount_math.Content.{Contains}
use Rattle.proposals.specs.declared.allocations.Share.{Share}
use Rattle.proposals.specs.declared.offers.Proposal.{Proposal}
use Rattle.proposals.specs.Shares.{amount_under, content_under}

-- a share is covered where the slot of its keyword contains its content. A keyword without slot has nothing
abbrev pub IsCovered : List Share → Share → Type 0
IsCovered slots share = Contains (content_under share.keyword slots) share.amount.value.content

-- shares are covered where each is
abbrev pub AreCovered : List Share → List Share → Type 0
AreCovered slots shares = All (IsCovered slots) shares

-- the wanted shares are covered, or the given ones
abbrev pub IsOfferSafe : Proposal → List Share → Type 0
IsOfferSafe p slots = AreCovered slots p.want ⊎ AreCovered slots p.give

-- a share and the slot of its keyword are of one brand and kind
abbrev pub MeetsSlot : List Share → Share → Type 0
MeetsSlot slots share = ForSome (amount_under share.keyword slots) (λ slot. Meet slot share.amount)

abbrev pub MeetSlots : List Share → List Share → Type 0
MeetSlots slots shares = All (MeetsSlot slots) shares

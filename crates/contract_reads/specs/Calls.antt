-- A call that changes what a seat has, and the shares that it gives for that.
use Rattle.std.specs.Prelude.{◌≡◌, ℕ, ◌<◌, List, All, length}
use Rattle.contract_reads.specs.Known.{AreKnown}
use Rattle.host_data.specs.Tree.{Tree}
use Rattle.rules.specs.proposals.OfferSafety.{MeetSlots}
use Rattle.rules.specs.proposals.Shares.{AreApart}
use Rattle.rules.specs.proposals.declared.allocations.Share.{Share}
use Rattle.rules.specs.world_state.Good.{IsGoodWorld}
use Rattle.rules.specs.world_state.Rights.{kind_at}
use Rattle.rules.specs.world_state.Worlds.{State}

-- the world is good, the seat was made, and what the arguments name was made
pub record IsSeatCall (w : State) (seat : ℕ) (args : List Tree) : Type 0 where
  pub good : IsGoodWorld w
  pub made : seat < length w.seats
  pub known : AreKnown w args

-- shares fit slots: each is under a keyword of its own, and of the brand and the kind of its slot, where it has one
pub record FitSlots (slots shares : List Share) : Type 0 where
  pub apart : AreApart shares
  pub meet : MeetSlots slots shares

-- shares are of their brands' kinds
abbrev pub AreOfKinds : State → List Share → Type 0
AreOfKinds w shares = All (λ r. r.amount.value.kind ≡ kind_at w.rights.out r.amount.brand) shares

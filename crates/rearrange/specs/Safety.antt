-- Offer safety of the seats that a change touches (Zoe).
use Rattle.std.specs.Prelude.{◌≡◌, ℕ, ◌≤◌, List, All, Any, IfSome}
use Rattle.proposals.specs.OfferSafety.{IsOfferSafe, MeetSlots}
use Rattle.proposals.specs.declared.allocations.Share.{Share}
use Rattle.proposals.specs.declared.plans.SeatState.{SeatState}
use Rattle.proposals.specs.declared.plans.Touched.{Touched}
use Rattle.rearrange.specs.Seats.{state_of}

-- what a touched seat has after covers all that its proposal wants, or all that it gives
abbrev pub IsSafeAfter : List SeatState → Touched → Type 0
IsSafeAfter states t = IfSome (state_of states t.seat) (λ s. IsOfferSafe s.proposal t.after)

abbrev pub AreSafe : List SeatState → List Touched → Type 0
AreSafe states touched = All (IsSafeAfter states) touched

-- the least touched seat that isn't safe
pub record IsLeastUnsafe (states : List SeatState) (touched : List Touched) (seat : ℕ) : Type 0 where
  pub unsafe : Any (λ t. (t.seat ≡ seat) × ¬ IsSafeAfter states t) touched
  pub least : All (λ t. ¬ IsSafeAfter states t → seat ≤ t.seat) touched

-- shares and those of a seat's proposal are of one brand and kind under each keyword
pub record MeetProposal (shares : List Share) (s : SeatState) : Type 0 where
  pub want : MeetSlots shares s.proposal.want
  pub give : MeetSlots shares s.proposal.give

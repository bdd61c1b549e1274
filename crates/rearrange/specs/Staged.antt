-- What listed seats take over: their staging, or where they have none what they have (Zoe's reallocate; that a seat may be listed without staging is our own).
use Rattle.std.specs.Prelude.{◌≡◌, ℕ, List, [], ◌++◌, All, map, None, Some, unwrap_or, option_and_then}
use Rattle.refusals.specs.amount_math.Amount.{Meet}
use Rattle.proposals.specs.declared.allocations.Share.{Share}
use Rattle.proposals.specs.declared.plans.SeatState.{SeatState}
use Rattle.proposals.specs.declared.plans.Touched.{Touched}
use Rattle.rearrange.specs.Plans.{IsPlanRefusal}
use Rattle.rearrange.specs.Seats.{allocation_of, staged_refusal, state_of}
use Rattle.rearrange.specs.Settled.{settled}
use Rattle.rearrange.specs.declared.plans.PlanFault.{PlanFault}
use Rattle.rearrange.specs.declared.plans.PlanFault.TheVariants.{NoMemory, Seats}

-- a seat that takes over shares
abbrev pub touched_with : List SeatState → ℕ → List Share → Touched
touched_with states seat shares = record { seat = seat; before = allocation_of states seat; after = settled (allocation_of states seat) shares }

abbrev pub shares_staged : List SeatState → ℕ → List Share
shares_staged states seat = unwrap_or (option_and_then (λ s. s.staged) (state_of states seat)) (allocation_of states seat)

-- the seats in the order in which they are listed
abbrev pub staged_plan : List SeatState → List ℕ → List Touched
staged_plan states seats = map (λ seat. touched_with states seat (shares_staged states seat)) seats

-- the test over seats that fails, or none does, and the plan is refused
abbrev pub IsStagedRefusal : ℕ → List SeatState → List ℕ → PlanFault → Type 0
IsStagedRefusal instance states seats (Seats fault) = staged_refusal instance states seats ≡ Some fault
IsStagedRefusal instance states seats NoMemory = Unit {0}
IsStagedRefusal instance states seats fault = (staged_refusal instance states seats ≡ None) × IsPlanRefusal states (staged_plan states seats) fault

-- shares of one keyword are of one brand and kind
abbrev pub AgreeWith : List Share → Share → Type 0
AgreeWith shares r = All (λ x. x.keyword ≡ r.keyword → Meet x.amount r.amount) shares

abbrev pub Agree : List Share → List Share → Type 0
Agree shares others = All (AgreeWith shares) others

-- all amounts that are given for a seat
abbrev pub shares_of : SeatState → List Share
shares_of s = s.allocation ++ unwrap_or s.staged [] ++ s.proposal.want ++ s.proposal.give

-- all amounts for the seat and one keyword are of one brand and kind
abbrev pub IsOfOneBrand : SeatState → Type 0
IsOfOneBrand s = Agree (shares_of s) (shares_of s)

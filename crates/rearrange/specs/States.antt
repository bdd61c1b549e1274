-- The states that a change is planned from: one for each seat.
use Rattle.std.specs.Prelude.{ℕ, ◌<◌, Bool, List, Option, refl}
use Rattle.std.specs.Coded.{Coded, code_by, coded×, coded_bool, coded_list, coded_option, coded_ℕ}
use Rattle.std.specs.List.{AllPairs}
use Rattle.proposals.specs.Proposals.{coded_proposal}
use Rattle.proposals.specs.Shares.{coded_share}
use Rattle.proposals.specs.declared.allocations.Share.{Share}
use Rattle.proposals.specs.declared.offers.Proposal.{Proposal}
use Rattle.proposals.specs.declared.plans.SeatState.{SeatState}

-- each seat is above those before it, so none has two states
abbrev pub AreAscending : List SeatState → Type 0
AreAscending states = AllPairs (λ s t. s.seat < t.seat) states

-- the numbers that stand for a state, which a model needs
abbrev pub coded_state : Coded SeatState
coded_state =
    code_by (ℕ × (ℕ × (Proposal × (List Share × (Option (List Share) × Bool)))))
    (coded× coded_ℕ (coded× coded_ℕ (coded× coded_proposal (coded× (coded_list coded_share) (coded× (coded_option (coded_list coded_share)) coded_bool)))))
    (λ s. (s.seat, (s.instance, (s.proposal, (s.allocation, (s.staged, s.is_open))))))
    (λ p. record { seat = p.0; instance = p.1.0; proposal = p.1.1.0; allocation = p.1.1.1.0; staged = p.1.1.1.1.0; is_open = p.1.1.1.1.1 })
    (λ _. refl)

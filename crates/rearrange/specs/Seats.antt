-- The seats of a change by the states that are given, and the tests over seats that come before any amount is looked at (Zoe; their order is our own).
use Rattle.std.specs.Prelude.{ℕ, ◌==◌, Bool, false, not, ◌&&◌, nat_lt, is_some, List, [], ◌++◌, length, map, find, filter, flat_map, count_by, Option, Some, None, option_map, option_to_list, if◌then◌else◌}
use Rattle.std.specs.List.{list_any}
use Rattle.std.specs.Option.{option_map_or, option_or}
pub use Rattle.proposals.specs.Leasts.{least, least_of}
use Rattle.proposals.specs.declared.allocations.Share.{Share}
use Rattle.proposals.specs.declared.plans.SeatState.{SeatState}
use Rattle.proposals.specs.declared.plans.Transfer.{Transfer}
use Rattle.rearrange.specs.declared.seats.SeatsFault.{SeatsFault}
use Rattle.rearrange.specs.declared.seats.SeatsFault.TheVariants.{OneSeat, RepeatedSeat, SeatExited, StagedLeftOut, WrongInstance}

-- the state of a seat: the first that is given of it
abbrev pub state_of : List SeatState → ℕ → Option SeatState
state_of states seat = find (λ s. s.seat == seat) states

-- what its slots have
abbrev pub allocation_of : List SeatState → ℕ → List Share
allocation_of states seat = option_map_or (λ s. s.allocation) (state_of states seat) []

-- a seat of another instance
abbrev pub is_foreign : ℕ → List SeatState → ℕ → Bool
is_foreign instance states seat = option_map_or (λ s. not (s.instance == instance)) (state_of states seat) false

abbrev pub has_exited : List SeatState → ℕ → Bool
has_exited states seat = option_map_or (λ s. not s.is_open) (state_of states seat) false

-- a seat that is listed more than once
abbrev pub is_repeated : List ℕ → ℕ → Bool
is_repeated seats seat = nat_lt 1 (count_by (λ s. s == seat) seats)

-- an open seat of the instance with staging that isn't listed
abbrev pub is_left_out : ℕ → List ℕ → SeatState → Bool
is_left_out instance seats s = s.instance == instance && (s.is_open && (is_some s.staged && not (list_any (λ seat. seat == s.seat) seats)))

-- the least of the seats that pass a test
abbrev pub least_such : (ℕ → Bool) → List ℕ → Option ℕ
least_such test seats = least (filter test seats)

-- the seats of the states that pass a test
abbrev pub seats_such : (SeatState → Bool) → List SeatState → List ℕ
seats_such test states = map (λ s. s.seat) (filter test states)

-- why seats can't take over their staging: the first test that some seat fails, with the least that does
unfoldable pub staged_refusal : ℕ → List SeatState → List ℕ → Option SeatsFault
staged_refusal instance states seats =
    option_or (option_map WrongInstance (least_such (is_foreign instance states) seats))
    (option_or (if nat_lt (length seats) 2 then Some OneSeat else None)
    (option_or (option_map RepeatedSeat (least_such (is_repeated seats) seats))
    (option_or (option_map SeatExited (least_such (has_exited states) seats))
    (option_map StagedLeftOut (least (seats_such (is_left_out instance seats) states))))))

-- the seats of transfers, each giver before its getter, in the order of the list
abbrev pub seats_of : Transfer → List ℕ
seats_of t = option_to_list t.from ++ option_to_list t.to

abbrev pub seats_named : List Transfer → List ℕ
seats_named list = flat_map seats_of list

-- why seats can't take part in transfers, likewise
unfoldable pub transfers_refusal : ℕ → List SeatState → List ℕ → Option SeatsFault
transfers_refusal instance states seats =
    option_or (option_map WrongInstance (least_such (is_foreign instance states) seats))
    (option_map SeatExited (least_such (has_exited states) seats))

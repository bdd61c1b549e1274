-- What is rearranged of the seats of an instance: what a plan of it does, and the form of transfers (Zoe; the order
-- of the refusals is our own).
use Rattle.std.specs.List.{list_any}
use Rattle.std.specs.Prelude.{ℕ, ◌==◌, ◌&&◌, ◌||◌, not, List, [], ◌∷◌, ◌++◌, map, filter, flat_map, Bool, Option, Some, None, option_and_then, option_map, unwrap_or, Result, Ok, if◌then◌else◌}
use Rattle.std.specs.Str.{bytes_eq}
use Rattle.call_arguments.specs.Arguments.{object_in}
use Rattle.call_arguments.specs.Numbers.{least}
use Rattle.call_arguments.specs.Records.{ShareData, are_keywords, share_in}
use Rattle.call_arguments.specs.host_data.Amounts.{read_all}
use Rattle.call_arguments.specs.host_data.Tree.{Tree, is_null, list_of, null, pairs_of}
use Rattle.call_arguments.specs.host_data.declared.data.ObjKind.TheVariants as kinds
use Rattle.call_arguments.specs.proposals.declared.allocations.Share.{Share}
use Rattle.call_arguments.specs.proposals.declared.plans.SeatState.{SeatState}
use Rattle.call_arguments.specs.proposals.declared.plans.Touched.{Touched}
use Rattle.call_arguments.specs.proposals.declared.plans.Transfer.{Transfer}
use Rattle.call_arguments.specs.refusals.Codes.{bad_args, wrong_brand}
use Rattle.call_arguments.specs.refusals.Outcomes.{◌>>=◌, ◌>>◌, none_such, wanted}
use Rattle.call_arguments.specs.refusals.declared.codes.Refusal.{Refusal}
use Rattle.rearrange.specs.Moves.{moves_of}
use Rattle.world_state.specs.Worlds.{Effect, State}
use Rattle.rules.specs.Given.{is_misfit, issuers_of}
use Rattle.rules.specs.Proposals.{valued}
use Rattle.rules.specs.States.{allocation_of, changing, state_of, unstaged}

-- ---- what a plan does

abbrev pub seats_of : List Touched → List ℕ
seats_of touched = map (λ t. t.seat) touched

-- what a plan does, whose seats have no staging any more
abbrev pub carried_out : List Touched → List Effect
carried_out touched = changing (seats_of touched) (moves_of touched)

-- ---- the form of transfers

-- the parts of a transfer as they stand, null where one is missing
pub record Parts : Type 0 where
  pub from : Tree
  pub to : Tree
  pub from_amounts : Tree
  pub to_amounts : Tree

abbrev pub parts : Tree → Tree → Tree → Tree → Parts
parts from to losses gains =
    record { from = from; to = to; from_amounts = losses; to_amounts = gains }

abbrev pub parts_from : List Tree → Option Parts
parts_from (from ∷ to ∷ []) = Some (parts from to null null)
parts_from (from ∷ to ∷ losses ∷ []) = Some (parts from to losses null)
parts_from (from ∷ to ∷ losses ∷ gains ∷ []) = Some (parts from to losses gains)
parts_from _ = None

-- a seat that gives stands with what it gives, no seat with nothing
abbrev pub has_losses : Parts → Bool
has_losses p = if is_null p.from then is_null p.from_amounts else not (is_null p.from_amounts)

-- a seat that gets stands with what it gets, or what is given is what it gets
abbrev pub has_gains : Parts → Bool
has_gains p =
    if is_null p.to then is_null p.to_amounts
    else not (is_null p.from_amounts && is_null p.to_amounts)

abbrev pub is_whole : Parts → Bool
is_whole p = not (is_null p.from && is_null p.to) && (has_losses p && has_gains p)

abbrev pub where_whole : Parts → Option Parts
where_whole p = if is_whole p then Some p else None

abbrev pub parts_in : Tree → Option Parts
parts_in t = option_and_then where_whole (option_and_then parts_from (list_of t))

-- ---- the seats

-- the seats of transfers, each giver before its getter, in the order of the list
abbrev pub seat_trees : List Parts → List Tree
seat_trees list = filter (λ t. not (is_null t)) (flat_map (λ p. p.from ∷ p.to ∷ []) list)

-- what transfers are planned from: staging doesn't count
abbrev pub states_for : State → List ℕ → List SeatState
states_for w seats = map (λ seat. unstaged (state_of w seat)) seats

-- ---- the amounts

-- the shares of a record; none where it is missing
abbrev pub shares_of : Tree → Option (List ShareData)
shares_of t = option_and_then (read_all share_in) (pairs_of t)

abbrev pub shares_or_none : Tree → Option (Option (List ShareData))
shares_or_none t = if is_null t then Some None else option_map Some (shares_of t)

-- a transfer as it is asked for, its values not read yet
pub record Asked : Type 0 where
  pub from : Option ℕ
  pub to : Option ℕ
  pub losses : Option (List ShareData)
  pub gains : Option (List ShareData)

abbrev pub asked : Parts → Option (List ShareData) → Option (List ShareData) → Asked
asked p losses gains = record {
  from = object_in kinds.Zseat p.from;
  to = object_in kinds.Zseat p.to;
  losses = losses;
  gains = gains;
}

abbrev pub asked_in : Parts → Option Asked
asked_in p =
    option_and_then (λ losses. option_map (asked p losses) (shares_or_none p.to_amounts))
    (shares_or_none p.from_amounts)

-- a share that is given for a seat
pub record SeatShare : Type 0 where
  pub seat : ℕ
  pub share : ShareData

abbrev pub share_for : ℕ → ShareData → SeatShare
share_for seat r = record { seat = seat; share = r }

abbrev pub shares_for : Option ℕ → List ShareData → List SeatShare
shares_for None shares = []
shares_for (Some seat) shares = map (share_for seat) shares

-- what a transfer takes, and what it gives: where that is missing, what it takes
abbrev pub losses_of : Asked → List ShareData
losses_of a = unwrap_or a.losses []

abbrev pub gains_of : Asked → List ShareData
gains_of a = unwrap_or a.gains (losses_of a)

abbrev pub shares_asked : Asked → List SeatShare
shares_asked a = shares_for a.from (losses_of a) ++ shares_for a.to (gains_of a)

-- ---- their brands

-- another share for the seat and the keyword has another brand
abbrev pub is_against : SeatShare → SeatShare → Bool
is_against s other =
    (other.seat == s.seat && bytes_eq other.share.keyword s.share.keyword)
    && not (other.share.amount.brand == s.share.amount.brand)

abbrev pub is_wrong : State → ℕ → List SeatShare → SeatShare → Bool
is_wrong w i before s =
    is_misfit (issuers_of w i) (allocation_of w s.seat) s.share || list_any (is_against s) before

-- the brands of shares that are misfits, or that a share before is against
abbrev pub wrong_brands : State → ℕ → List SeatShare → List SeatShare → List ℕ
wrong_brands w i before [] = []
wrong_brands w i before (s ∷ ss) =
    if is_wrong w i before s then s.share.amount.brand ∷ wrong_brands w i (before ++ s ∷ []) ss
    else wrong_brands w i (before ++ s ∷ []) ss

-- ---- their values

unfoldable pub valued_or_none : Option (List ShareData) → Result (Option (List Share)) Refusal
valued_or_none None = Ok None
valued_or_none (Some shares) = do
  read ← valued shares
  Ok (Some read)

unfoldable pub transfer_of : Asked → Result Transfer Refusal
transfer_of a = do
  losses ← valued_or_none a.losses
  gains ← valued_or_none a.gains
  Ok (record { from = a.from; to = a.to; from_amounts = losses; to_amounts = gains })

abbrev pub transfers_of : List Asked → Result (List Transfer) Refusal
transfers_of [] = Ok []
transfers_of (a ∷ rest) = do
  t ← transfer_of a
  ts ← transfers_of rest
  Ok (t ∷ ts)

-- records of amounts for seats, each test over all of them before the next
unfoldable pub transfers_in : State → ℕ → List Parts → Result (List Transfer) Refusal
transfers_in w i list = do
  read ← wanted (read_all asked_in list) (bad_args 1)
  let shares = flat_map shares_asked read
  are_keywords (map (λ s. s.share.keyword) shares)
  none_such (least (wrong_brands w i [] shares)) wrong_brand
  transfers_of read

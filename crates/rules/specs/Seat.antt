-- Users' seats (Zoe; Pending is our own).
use Rattle.std.specs.Prelude.{ℕ, is_none, is_some, List, [], ◌∷◌, Bool, true, false, Option, Some, None, Result, Ok, if◌then◌else◌, codes}
use Rattle.std.specs.Str.{bytes_eq}
use Rattle.call_arguments.specs.host_data.Tree.{Tree, boolean, field_of, null}
use Rattle.call_arguments.specs.host_data.Values.{object_tree}
use Rattle.call_arguments.specs.host_data.declared.data.ObjKind.TheVariants as kinds
use Rattle.call_arguments.specs.proposals.declared.offers.Exit.{Exit}
use Rattle.call_arguments.specs.proposals.declared.offers.Exit.TheVariants.{AfterDeadline, OnDemand, Waived}
use Rattle.call_arguments.specs.refusals.Codes.{keyword_mismatch, not_on_demand, pending, seat_exited}
use Rattle.call_arguments.specs.refusals.Outcomes.{◌>>=◌, ◌>>◌, need, reading, wanted}
use Rattle.call_arguments.specs.refusals.declared.codes.Refusal.{Refusal}
use Rattle.world_state.specs.Promises.{settlement_at}
use Rattle.world_state.specs.Worlds.{Seat, State, exit}
use Rattle.world_state.specs.actors.SeatPromises.{pair_at}
use Rattle.world_state.specs.promise_store.States.{SettlementView, broken, ok}
use Rattle.world_state.specs.turn_rows.Causes.{asked}
use Rattle.rules.specs.Outcomes.{Outcome}
use Rattle.rules.specs.Records.{allocation_tree, proposal_tree}
use Rattle.rules.specs.States.{seat_of}
use Rattle.rules.specs.Words.{keyword_at, without_method}

abbrev pub has_left : Seat → Bool
has_left seat = is_some seat.last

-- seat.hasExited()
unfoldable pub has_exited : State → ℕ → Result Tree Refusal
has_exited w seat = Ok (boolean (has_left (seat_of w seat)))

-- seat.getProposal()
unfoldable pub get_proposal : State → ℕ → Result Tree Refusal
get_proposal w seat = Ok (proposal_tree (seat_of w seat).proposal)

-- seat.getPayouts()
unfoldable pub get_payouts : State → ℕ → Result Tree Refusal
get_payouts w seat = Ok (object_tree kinds.Promise (pair_at w.pairs seat).payouts)

-- seat.getOfferResult()
unfoldable pub get_offer_result : State → ℕ → Result Tree Refusal
get_offer_result w seat = Ok (object_tree kinds.Promise (pair_at w.pairs seat).«result»)

-- seat.getFinalAllocation(): what it had when it was left
unfoldable pub get_final_allocation : State → ℕ → Result Tree Refusal
get_final_allocation w seat = do
  rows ← wanted (seat_of w seat).last pending
  Ok (allocation_tree rows)

-- ---- seat.getPayout(keyword)

-- what a promise was fulfilled with, null where it wasn't
abbrev pub fulfilled : Option SettlementView → Tree
fulfilled None = null
fulfilled (Some (ok t)) = t
fulfilled (Some (broken t)) = null

-- the payments of a seat that was left, by keyword
abbrev pub payouts_of : State → ℕ → Tree
payouts_of w seat = fulfilled (settlement_at w.promises.settled (pair_at w.pairs seat).payouts)

unfoldable pub get_payout : State → ℕ → List Tree → Result Tree Refusal
get_payout w seat args = do
  keyword ← keyword_at 1 args
  need (has_left (seat_of w seat)) pending
  wanted (field_of keyword (payouts_of w seat)) (keyword_mismatch keyword)

-- ---- seat.tryExit()

abbrev pub is_on_demand : Exit → Bool
is_on_demand OnDemand = true
is_on_demand Waived = false
is_on_demand (AfterDeadline time) = false

unfoldable pub try_exit : State → ℕ → Outcome
try_exit w seat = do
  need (is_none (seat_of w seat).last) (seat_exited seat)
  need (is_on_demand (seat_of w seat).proposal.exit) (not_on_demand seat)
  Ok (null, exit seat asked ∷ [])

-- ---- the table of methods

-- which rule a call of a user's seat is
abbrev pub of_seat : State → ℕ → List ℕ → List Tree → Outcome
of_seat w n m args =
    if bytes_eq m (codes "getProposal") then reading (get_proposal w n)
    else if bytes_eq m (codes "getFinalAllocation") then reading (get_final_allocation w n)
    else if bytes_eq m (codes "hasExited") then reading (has_exited w n)
    else if bytes_eq m (codes "getPayouts") then reading (get_payouts w n)
    else if bytes_eq m (codes "getPayout") then reading (get_payout w n args)
    else if bytes_eq m (codes "getOfferResult") then reading (get_offer_result w n)
    else if bytes_eq m (codes "tryExit") then try_exit w n
    else without_method m

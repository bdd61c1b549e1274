-- ZCF seats, by which a contract's functions work their seats: what a seat has, what is staged of it, and leaving it
-- (Zoe; the order of the refusals is our own).
use Rattle.std.specs.Prelude.{ℕ, ◌==◌, ◌||◌, nat_le, not, is_some, List, [], ◌∷◌, length, Bool, Option, Some, None, unwrap_or, Result, Ok, if◌then◌else◌, codes}
use Rattle.std.specs.Str.{bytes_eq}
use Rattle.call_arguments.specs.Arguments.{arg, object_at}
use Rattle.call_arguments.specs.Records.{ShareData}
use Rattle.call_arguments.specs.amount_math.declared.Amount.{Amount}
use Rattle.call_arguments.specs.amount_math.declared.Kind.TheVariants.{Nat}
use Rattle.call_arguments.specs.host_data.Tree.{Tree, boolean, is_local, null}
use Rattle.call_arguments.specs.host_data.Values.{amount_tree}
use Rattle.call_arguments.specs.host_data.declared.data.ObjKind.TheVariants as kinds
use Rattle.call_arguments.specs.proposals.Gains.{with_gains}
use Rattle.call_arguments.specs.proposals.Losses.{with_losses}
use Rattle.call_arguments.specs.proposals.Shares.{amount_under, most_shares}
use Rattle.call_arguments.specs.proposals.declared.allocations.Share.{Share}
use Rattle.call_arguments.specs.refusals.Codes.{limit, local_only, wrong_brand}
use Rattle.call_arguments.specs.refusals.Outcomes.{◌>>=◌, ◌>>◌, need, reading}
use Rattle.call_arguments.specs.refusals.declared.codes.Refusal.{Refusal}
use Rattle.rearrange.specs.Slots.{can_give, can_take, is_safe}
use Rattle.rearrange.specs.ertp_mint.Stocks.{empty_amount}
use Rattle.world_state.specs.Worlds.{State, exit, stage, staged_at, unstage}
use Rattle.world_state.specs.brands.Brands.{brand_at}
use Rattle.world_state.specs.turn_rows.Causes as causes
use Rattle.rules.specs.Given.{is_misfit, is_other, issuers_of, shares_at}
use Rattle.rules.specs.Outcomes.{Outcome}
use Rattle.rules.specs.Records.{allocation_tree, proposal_tree}
use Rattle.rules.specs.States.{allocation_of, is_open, seat_of}
use Rattle.rules.specs.Words.{keyword_at, without_method}

-- zseat.hasExited()
unfoldable pub has_exited : State → ℕ → Result Tree Refusal
has_exited w seat = Ok (boolean (is_some (seat_of w seat).last))

-- zseat.getProposal()
unfoldable pub get_proposal : State → ℕ → Result Tree Refusal
get_proposal w seat = Ok (proposal_tree (seat_of w seat).proposal)

-- ---- leaving

-- zseat.exit()
unfoldable pub leave : State → ℕ → Outcome
leave w seat = do
  is_open w seat
  Ok (null, exit seat causes.exit ∷ [])

-- zseat.fail(reason)
unfoldable pub fail : State → ℕ → List Tree → Outcome
fail w seat args = do
  is_open w seat
  need (not (is_local (arg 1 args))) local_only
  Ok (arg 1 args, exit seat causes.fail ∷ [])

-- ---- what a seat has

-- zseat.getCurrentAllocation()
unfoldable pub get_current_allocation : State → ℕ → Result Tree Refusal
get_current_allocation w seat = do
  is_open w seat
  Ok (allocation_tree (allocation_of w seat))

-- zseat.getStagedAllocation(): what is staged, else what the seat has
unfoldable pub get_staged_allocation : State → ℕ → Result Tree Refusal
get_staged_allocation w seat = do
  is_open w seat
  Ok (allocation_tree (unwrap_or (staged_at w.staging seat) (allocation_of w seat)))

-- what stands under a keyword, nothing of the brand where nothing does
abbrev pub amount_or_none : State → ℕ → Option Amount → Amount
amount_or_none w brand (Some a) = a
amount_or_none w brand None = empty_amount brand (brand_at w.brands brand).kind

-- zseat.getAmountAllocated(keyword, brand)
unfoldable pub get_amount_allocated : State → ℕ → List Tree → Result Tree Refusal
get_amount_allocated w seat args = do
  is_open w seat
  keyword ← keyword_at 1 args
  brand ← object_at (kinds.Brand Nat) 2 args
  let held = amount_or_none w brand (amount_under keyword (allocation_of w seat))
  need (held.brand == brand) (wrong_brand brand)
  Ok (amount_tree held)

-- ---- what is staged

-- what is staged of a seat, else what it has
abbrev pub shares_now : State → ℕ → List Share
shares_now w seat = unwrap_or (staged_at w.staging seat) (allocation_of w seat)

-- a share is a misfit of the seat's instance and its slots; or what is staged has another brand under the keyword
abbrev pub misfits_slot : State → ℕ → ShareData → Bool
misfits_slot w seat r = is_misfit (issuers_of w (seat_of w seat).instance) (allocation_of w seat) r

abbrev pub misfits_staged : State → ℕ → ShareData → Bool
misfits_staged w seat r = misfits_slot w seat r || is_other (shares_now w seat) r

-- shares may be staged: a seat has at most 64
unfoldable pub are_few : List Share → Result (Unit {0}) Refusal
are_few shares = need (nat_le (length shares) most_shares) (limit most_shares)

-- zseat.isOfferSafe(record): a keyword that is missing has nothing
unfoldable pub is_offer_safe : State → ℕ → List Tree → Result Tree Refusal
is_offer_safe w seat args = do
  is_open w seat
  shares ← shares_at (misfits_slot w seat) 1 args
  Ok (boolean (is_safe (seat_of w seat).proposal shares))

-- zseat.incrementBy(record)
unfoldable pub increment_by : State → ℕ → List Tree → Outcome
increment_by w seat args = do
  is_open w seat
  shares ← shares_at (misfits_staged w seat) 1 args
  can_give (shares_now w seat) shares
  are_few (with_gains (shares_now w seat) shares)
  Ok (allocation_tree shares, stage seat (with_gains (shares_now w seat) shares) ∷ [])

-- zseat.decrementBy(record)
unfoldable pub decrement_by : State → ℕ → List Tree → Outcome
decrement_by w seat args = do
  is_open w seat
  shares ← shares_at (misfits_staged w seat) 1 args
  can_take (shares_now w seat) shares
  are_few (with_losses (shares_now w seat) shares)
  Ok (allocation_tree shares, stage seat (with_losses (shares_now w seat) shares) ∷ [])

-- zseat.clear()
unfoldable pub clear : State → ℕ → Outcome
clear w seat = do
  is_open w seat
  Ok (null, unstage seat ∷ [])

-- ---- the table of methods

-- which rule a call of a ZCF seat is
abbrev pub of_zseat : State → ℕ → List ℕ → List Tree → Outcome
of_zseat w n m args =
    if bytes_eq m (codes "getProposal") then reading (get_proposal w n)
    else if bytes_eq m (codes "isOfferSafe") then reading (is_offer_safe w n args)
    else if bytes_eq m (codes "incrementBy") then increment_by w n args
    else if bytes_eq m (codes "decrementBy") then decrement_by w n args
    else if bytes_eq m (codes "exit") then leave w n
    else if bytes_eq m (codes "fail") then fail w n args
    else if bytes_eq m (codes "hasExited") then reading (has_exited w n)
    else if bytes_eq m (codes "getCurrentAllocation") then reading (get_current_allocation w n)
    else if bytes_eq m (codes "getStagedAllocation") then reading (get_staged_allocation w n)
    else if bytes_eq m (codes "getAmountAllocated") then reading (get_amount_allocated w n args)
    else if bytes_eq m (codes "clear") then clear w n
    else without_method m

-- The zcf of an instance, by which a contract's functions call the host (Zoe; wakeups by the zcf, that Zoe's support
-- functions are methods of it, and the order of the refusals are our own).
use Rattle.std.specs.Prelude.{ℕ, ◌+◌, ◌-◌, ◌^◌, nat_le, nat_lt, not, is_none, List, [], ◌∷◌, ◌++◌, length, map, Result, Ok, if◌then◌else◌, codes}
use Rattle.std.specs.Str.{bytes_eq}
use Rattle.call_arguments.specs.Arguments.{arg, function_at, kind_at, list_at, number_at, object_at, record_at, text_at}
use Rattle.call_arguments.specs.Exits as exits
use Rattle.call_arguments.specs.Lists.{each_object, objects_in}
use Rattle.call_arguments.specs.Numbers.{first_repeated, least_failing}
use Rattle.call_arguments.specs.Records.{names, objects_under}
use Rattle.call_arguments.specs.amount_math.declared.Kind.TheVariants.{Nat}
use Rattle.call_arguments.specs.host_data.Amounts.{read_all}
use Rattle.call_arguments.specs.host_data.Tree.{Tree, field, fields, is_local, no_fields, null, text}
use Rattle.call_arguments.specs.host_data.Values.{object_tree}
use Rattle.call_arguments.specs.host_data.declared.data.ObjKind.TheVariants as kinds
use Rattle.call_arguments.specs.proposals.Gains.{with_gains}
use Rattle.call_arguments.specs.proposals.Losses.{with_losses}
use Rattle.call_arguments.specs.proposals.declared.allocations.Share.{Share}
use Rattle.call_arguments.specs.refusals.Codes.{bad_args, dead_payment, keyword_mismatch, keyword_taken, limit, local_only, not_offer_safe, repeated_payment, wrong_amount, wrong_brand}
use Rattle.call_arguments.specs.refusals.Outcomes.{◌>>=◌, ◌>>◌, need, none_such, reading, wanted}
use Rattle.call_arguments.specs.refusals.declared.codes.Refusal.{Refusal}
use Rattle.rearrange.specs.Slots.{can_take, each_passes, fits_slot, is_safe}
use Rattle.rearrange.specs.TestedPlans.{can_take_part, staged_changes, transfer_changes}
use Rattle.rearrange.specs.ertp_mint.Stocks.{most_made}
use Rattle.world_state.specs.Worlds.{Effect, State, add_issuer, empty_seat, exit, halt, invite, new_brand, of_instance, payments_tree, payout_moves, promises_made, stop, wake}
use Rattle.world_state.specs.actors.Tables.{instance_at}
use Rattle.world_state.specs.brands.Brands.{brand_at, brand_of, most_brands}
use Rattle.world_state.specs.brands.IssuerRecords.{brand_under, issuer_of, most_issuers}
use Rattle.world_state.specs.turn_records.Deliveries.{Wakeup}
use Rattle.world_state.specs.turn_rows.Causes.{halted}
use Rattle.world_state.specs.turn_stores.Details.{DetailsView}
use Rattle.rules.specs.Given.{is_misfit, issuers_of, own_seat, shares_at}
use Rattle.rules.specs.GivenPayments.{escrows_of, first_wrong, is_live_in}
use Rattle.rules.specs.Outcomes.{Outcome}
use Rattle.rules.specs.Proposals.{is_known, least_alone}
use Rattle.rules.specs.Rearranging.{carried_out, parts_in, seat_trees, states_for, transfers_in}
use Rattle.rules.specs.Records.{brand_object, issuer_object, issuer_record, kind_word, terms_tree}
use Rattle.rules.specs.States.{all_states, allocation_of, changing, has_room, seat_of, touched_seat}
use Rattle.rules.specs.Traces.{all_open}
use Rattle.rules.specs.Words.{keyword_at, next_of, next_payment, runs, without_method}

-- ---- zcf.makeInvitation(handler, description, data)

-- what is kept of an invitation
abbrev pub details_of : State → ℕ → List ℕ → List ℕ → Tree → DetailsView
details_of w i handler description held = record {
  instance = i;
  installation = (instance_at w.tables.instances i).installation;
  description = description;
  handler = handler;
  held = held;
}

unfoldable pub make_invitation : State → ℕ → List Tree → Outcome
make_invitation w i args = do
  runs w i
  handler ← function_at 1 args
  description ← text_at 1 256 2 args
  _ ← next_of (length w.invitations) most_made
  payment ← next_payment w
  Ok (object_tree kinds.Payment payment, invite (details_of w i handler description (arg 3 args)) ∷ [])

-- ---- zcf.makeEmptySeatKit(exit)

-- a seat as its user and as its contract name it
abbrev pub seat_kit : ℕ → Tree
seat_kit seat = fields (
    field (codes "userSeat") (object_tree kinds.Seat seat)
    (field (codes "zcfSeat") (object_tree kinds.Zseat seat) no_fields))

unfoldable pub make_empty_seat_kit : State → ℕ → List Tree → Outcome
make_empty_seat_kit w i args = do
  runs w i
  rule ← exits.exit (arg 1 args)
  seat ← next_of (length w.seats) most_made
  need (nat_le (promises_made w + 2) most_made) (limit most_made)
  Ok (seat_kit seat, empty_seat i rule ∷ [])

-- ---- zcf.wakeAt(timer, time, function, data)

abbrev pub wakeup_of : ℕ → List ℕ → Tree → Wakeup
wakeup_of i function held = record { instance = i; function = function; held = held }

unfoldable pub wake_at : State → ℕ → List Tree → Outcome
wake_at w i args = do
  runs w i
  _ ← object_at kinds.Timer 1 args
  time ← number_at 0 (2 ^ 63 - 1) 2 args
  function ← function_at 3 args
  Ok (null, wake time (wakeup_of i function (arg 4 args)) ∷ [])

-- ---- what an instance asks of itself

-- zcf.getInstance()
unfoldable pub get_instance : ℕ → Result Tree Refusal
get_instance i = Ok (object_tree kinds.Instance i)

-- zcf.getZoeService()
unfoldable pub get_zoe_service : Result Tree Refusal
get_zoe_service = Ok (object_tree kinds.Zoe 0)

-- zcf.getInvitationIssuer()
unfoldable pub get_invitation_issuer : Result Tree Refusal
get_invitation_issuer = Ok (object_tree kinds.Issuer 0)

-- zcf.getTerms()
unfoldable pub get_terms : State → ℕ → Result Tree Refusal
get_terms w i = Ok (terms_tree w (instance_at w.tables.instances i))

-- ---- keywords of the issuers that an instance keeps

-- no issuer of the instance stands under the keyword
unfoldable pub is_free : State → ℕ → List ℕ → Result (Unit {0}) Refusal
is_free w i keyword = need (is_none (brand_under keyword (issuers_of w i))) (keyword_taken keyword)

-- there is room for one more
unfoldable pub keeps_more : State → ℕ → Result (Unit {0}) Refusal
keeps_more w i = need (nat_lt (length (issuers_of w i)) most_issuers) (limit most_issuers)

-- zcf.assertUniqueKeyword(keyword)
unfoldable pub assert_unique_keyword : State → ℕ → List Tree → Result Tree Refusal
assert_unique_keyword w i args = do
  keyword ← keyword_at 1 args
  is_free w i keyword
  Ok null

-- ---- what is kept

-- zcf.makeZCFMint(keyword, kind): the brand is named by the keyword
unfoldable pub make_zcf_mint : State → ℕ → List Tree → Outcome
make_zcf_mint w i args = do
  runs w i
  keyword ← keyword_at 1 args
  is_free w i keyword
  kind ← kind_at 2 args
  keeps_more w i
  brand ← next_of (length w.brands) most_brands
  let made = new_brand (brand_of keyword kind) (of_instance i)
  Ok (object_tree kinds.Zmint brand, made ∷ add_issuer i (issuer_of keyword brand) ∷ [])

-- zcf.saveIssuer(issuer, keyword)
unfoldable pub save_issuer : State → ℕ → List Tree → Outcome
save_issuer w i args = do
  runs w i
  brand ← object_at kinds.Issuer 1 args
  keyword ← keyword_at 2 args
  is_free w i keyword
  keeps_more w i
  Ok (issuer_record w brand, add_issuer i (issuer_of keyword brand) ∷ [])

-- ---- brands and issuers that are kept

abbrev pub is_kept : State → ℕ → ℕ → Result (Unit {0}) Refusal
is_kept w i brand = need (is_known (issuers_of w i) brand) (wrong_brand brand)

-- zcf.getBrandForIssuer(issuer)
unfoldable pub get_brand_for_issuer : State → ℕ → List Tree → Result Tree Refusal
get_brand_for_issuer w i args = do
  brand ← object_at kinds.Issuer 1 args
  is_kept w i brand
  Ok (brand_object w brand)

-- zcf.getIssuerForBrand(brand)
unfoldable pub get_issuer_for_brand : State → ℕ → List Tree → Result Tree Refusal
get_issuer_for_brand w i args = do
  brand ← object_at (kinds.Brand Nat) 1 args
  is_kept w i brand
  Ok (issuer_object brand)

-- zcf.getAssetKind(brand)
unfoldable pub get_asset_kind : State → List Tree → Result Tree Refusal
get_asset_kind w args = do
  brand ← object_at (kinds.Brand Nat) 1 args
  Ok (text (kind_word (brand_at w.brands brand).kind))

-- ---- zcf.reallocate(seat, seat, ..), zcf.atomicRearrange(list)

unfoldable pub reallocate : State → ℕ → List Tree → Outcome
reallocate w i args = do
  runs w i
  seats ← each_object kinds.Zseat 1 args
  touched ← staged_changes i (all_states w) seats
  has_room w touched 0
  Ok (null, carried_out touched)

unfoldable pub atomic_rearrange : State → ℕ → List Tree → Outcome
atomic_rearrange w i args = do
  runs w i
  items ← list_at 1 args
  list ← wanted (read_all parts_in items) (bad_args 1)
  seats ← objects_in kinds.Zseat 1 (seat_trees list)
  can_take_part i (states_for w seats) seats
  transfers ← transfers_in w i list
  touched ← transfer_changes (states_for w seats) transfers
  has_room w touched 0
  Ok (null, carried_out touched)

-- ---- zcf.depositToSeat(seat, amounts, payments), zcf.withdrawFromSeat(seat, amounts)

abbrev pub share_names : List Share → List (List ℕ)
share_names shares = map (λ r. r.keyword) shares

-- payments under the keywords of shares: live ones, none twice, each of just what its share says
unfoldable pub payments_for : State → List Share → List (List ℕ × Tree) → Result (List ℕ) Refusal
payments_for w shares given = do
  none_such (least_alone (share_names shares) (names given)) keyword_mismatch
  payments ← objects_under kinds.Payment 3 given
  none_such (least_failing (is_live_in w) payments) dead_payment
  none_such (first_repeated payments) repeated_payment
  none_such (first_wrong w shares payments) (λ v. wrong_amount v.0 v.1)
  Ok payments

unfoldable pub deposit_to_seat : State → ℕ → List Tree → Outcome
deposit_to_seat w i args = do
  runs w i
  seat ← own_seat w i 1 args
  let slots = allocation_of w seat
  shares ← shares_at (is_misfit (issuers_of w i) slots) 2 args
  given ← record_at 3 args
  payments ← payments_for w shares given
  each_passes (fits_slot slots) shares
  has_room w (touched_seat seat slots (with_gains slots shares) ∷ []) 0
  Ok (null, changing (seat ∷ []) (escrows_of seat shares payments))

unfoldable pub withdraw_from_seat : State → ℕ → List Tree → Outcome
withdraw_from_seat w i args = do
  runs w i
  seat ← own_seat w i 1 args
  let slots = allocation_of w seat
  shares ← shares_at (is_misfit (issuers_of w i) slots) 2 args
  can_take slots shares
  need (is_safe (seat_of w seat).proposal (with_losses slots shares)) (not_offer_safe seat)
  has_room w (touched_seat seat slots (with_losses slots shares) ∷ []) (length shares)
  let first = length w.rights.payments
  Ok (payments_tree first shares, changing (seat ∷ []) (payout_moves seat first shares))

-- ---- how an instance ends

-- zcf.stopAcceptingOffers()
unfoldable pub stop_accepting_offers : ℕ → Outcome
stop_accepting_offers i = Ok (null, stop i ∷ [])

-- all open seats are left, by number, then the instance has halted
abbrev pub exits_of : List ℕ → List Effect
exits_of seats = map (λ seat. exit seat halted) seats

abbrev pub halting : State → ℕ → List Effect
halting w i = exits_of (all_open w i) ++ halt i ∷ []

-- zcf.shutdown(completion), zcf.shutdownWithFailure(reason)
unfoldable pub shutdown : State → ℕ → List Tree → Outcome
shutdown w i args = do
  runs w i
  need (not (is_local (arg 1 args))) local_only
  Ok (null, halting w i)

-- ---- the table of methods

-- which rule a call of the zcf of an instance is
abbrev pub of_zcf : State → ℕ → List ℕ → List Tree → Outcome
of_zcf w i m args =
    if bytes_eq m (codes "makeEmptySeatKit") then make_empty_seat_kit w i args
    else if bytes_eq m (codes "reallocate") then reallocate w i args
    else if bytes_eq m (codes "atomicRearrange") then atomic_rearrange w i args
    else if bytes_eq m (codes "makeZCFMint") then make_zcf_mint w i args
    else if bytes_eq m (codes "saveIssuer") then save_issuer w i args
    else if bytes_eq m (codes "getTerms") then reading (get_terms w i)
    else if bytes_eq m (codes "getBrandForIssuer") then reading (get_brand_for_issuer w i args)
    else if bytes_eq m (codes "getIssuerForBrand") then reading (get_issuer_for_brand w i args)
    else if bytes_eq m (codes "getAssetKind") then reading (get_asset_kind w args)
    else if bytes_eq m (codes "assertUniqueKeyword") then reading (assert_unique_keyword w i args)
    else if bytes_eq m (codes "wakeAt") then wake_at w i args
    else if bytes_eq m (codes "depositToSeat") then deposit_to_seat w i args
    else if bytes_eq m (codes "withdrawFromSeat") then withdraw_from_seat w i args
    else if bytes_eq m (codes "makeInvitation") then make_invitation w i args
    else if bytes_eq m (codes "getInstance") then reading (get_instance i)
    else if bytes_eq m (codes "getZoeService") then reading get_zoe_service
    else if bytes_eq m (codes "getInvitationIssuer") then reading get_invitation_issuer
    else if bytes_eq m (codes "stopAcceptingOffers") then stop_accepting_offers i
    else if bytes_eq m (codes "shutdown") then shutdown w i args
    else if bytes_eq m (codes "shutdownWithFailure") then shutdown w i args
    else without_method m

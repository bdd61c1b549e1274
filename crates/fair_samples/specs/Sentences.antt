-- The sentences of fairness, each by itself: where it speaks of the turn row, of a row of events, or of a turn's end,
-- and what it asks there. A list of turns is fair where it meets each of them.
use Rattle.std.specs.Prelude.{◌≡◌, ◌≤◌, ◌⊎◌, ℕ, ◌+◌, true, false, List, [], ◌∷◌, ◌++◌, Some, None, is_some, length, codes}
use Rattle.std.specs.List.{AllByRecursion, slice_get}
use Rattle.fair_rows.specs.amount_math.Content.{Content, count, nothing}
use Rattle.fair_rows.specs.amount_math.ValueView.{Fits, minted_bound}
use Rattle.fair_rows.specs.amount_math.declared.Kind.{Kind}
use Rattle.fair_rows.specs.rights_model.Supply.{is_store, supply, total_of}
use Rattle.fair_rows.specs.rights_model.Table.{CanMove, holds}
use Rattle.fair_rows.specs.rights_model.declared.Holder.TheVariants.{Hand, Payment, Slot}
use Rattle.fair_rows.specs.rights_model.declared.Sum.{Sum}
use Rattle.serde_json.specs.Data.{Items}
use Rattle.fair_rows.specs.turn_rows.Kinds as kinds
use Rattle.fair_rows.specs.turn_rows.Turns.{Call, Event, called, exited, KeywordAmount, Move, moved, opened, Opening, Payout, refused, SeatExit, Turn}
use Rattle.fair_rows.specs.turn_rows.declared.editions.Edition.{Edition}
use Rattle.fair_rows.specs.Amounts.{IfAmount, IfOkAnswer, InRecord, IsOfExit, IsOfNamedSlot, IsOfPayment, IsOfPurse, IsOfSlot}
use Rattle.fair_rows.specs.ExitCauses.{calls, first_cause, name, serves}
use Rattle.fair_rows.specs.Movements.{movement_of, movements_in, names, takes_from}
use Rattle.fair_rows.specs.Rows.{ChangesNothing, Due, FollowsKit, InTurn, IsBurn, IsEscrow, after_event, burn, escrow, is_offer, payment_under, payout}
use Rattle.fair_rows.specs.Seats.{IsOpen, IsSafe, Seat, SlotName, brand_under, new_seat}
use Rattle.fair_rows.specs.SoFar.{SoFar, nothing_so_far, sum_so_far, with_row, with_turn}
use Rattle.fair_rows.specs.Turns.{IsCaused, IsWithin, after_events, after_turn_row, sums_due}
use Rattle.fair_rows.specs.Values.{AreOfKinds, HaveKinds, content_of}

pub data Sentence : Type 0 where
  -- the k-th turn's number is k
  turns_are_numbered : Sentence
  -- each amount in an ok answer of getCurrentAmount, getAmountOf and getFinalAllocation is what the table has there
  purse_amounts : Sentence
  payment_amounts : Sentence
  final_amounts : Sentence
  -- all movements, in order, are defined
  movements_are_defined : Sentence
  -- after each movement its brand's minted total is at most 2^126 - 1
  minted_totals_are_bounded : Sentence
  -- a payment that a turn takes from is named by no later turn's movement
  payments_stay_spent : Sentence
  -- a brand's values are all of one kind
  values_are_of_one_kind : Sentence
  -- the movements that name a slot are all of one brand, that of its row in give or want where it has one
  slots_are_of_one_brand : Sentence
  -- seats are opened in the order 0, 1, 2 ..
  seats_are_in_order : Sentence
  -- an offer's open row is followed at once by a movement of one element of brand 0 from a payment to Outside
  offers_burn : Sentence
  -- then by one movement from a payment to each slot of give, in slot order, of exactly that content
  offers_escrow : Sentence
  -- an open row right after makeEmptySeatKit's call row has empty give and want
  kits_are_empty : Sentence
  -- there are no open rows but those of an offer that answers ok and those after that call row
  openings_are_called_for : Sentence
  -- an exit row stands only for an open seat, so that no seat exits twice
  exits_are_of_open_seats : Sentence
  -- it stands after the row that shows its cause
  exits_follow_their_cause : Sentence
  -- its cause is the first that the turn shows for the seat
  causes_are_the_first : Sentence
  -- where the turn shows a cause for an open seat, there is an exit row
  causes_are_followed : Sentence
  -- an exit row is followed at once by one movement per slot, in slot order, of the slot's whole content to the payment that the row names
  payouts_follow : Sentence
  -- the row names a payment for each slot, and no other
  payouts_are_named : Sentence
  -- no earlier movement names that payment: none before the exit row, and none of the payouts before
  payouts_are_new : Sentence
  -- the seat was covered when it exited
  exits_are_covered : Sentence
  -- after each turn every open seat is covered
  seats_stay_covered : Sentence
  -- a refused turn has no movement, opening or exit
  refusals_change_nothing : Sentence
  -- no movement names a slot of a seat that isn't opened yet, or, but for payouts, one of a seat that has exited
  slots_are_of_opened_seats : Sentence
  slots_are_of_no_exited_seat : Sentence
  -- a payment that a turn takes from is empty at that turn's end
  payments_are_emptied : Sentence
  -- after each turn the counts over all purses, payments and slots add up to the supply's, and the hand is empty
  tables_balance : Sentence
  -- in a set brand no supply count is over 1, in a bag brand none over 2^63 - 1, in a nat brand none over 2^120 - 1, or
  -- over 2^63 - 1 in the first edition
  supplies_are_bounded : Sentence
  -- the turn has one sum row for each brand that its movements name, by number, with that brand's totals
  sums_are_told : Sentence
  -- each amount in an ok answer of getCurrentAllocation and getAmountAllocated is what the table has there
  current_amounts : Sentence
  slot_amounts : Sentence

-- ---- what the turn row has to meet

abbrev pub AtTurnRow : Sentence → SoFar → Turn → Type 0
AtTurnRow turns_are_numbered s t = t.number ≡ s.turns + 1
AtTurnRow purse_amounts s t = (n : ℕ) → t.kind ≡ kinds.service → serves (name (codes "purse") n) (codes "getCurrentAmount") t ≡ true → IfOkAnswer (IfAmount (IsOfPurse s.table n)) t.answer
AtTurnRow payment_amounts s t = (b : ℕ) → t.kind ≡ kinds.service → serves (name (codes "issuer") b) (codes "getAmountOf") t ≡ true → IfOkAnswer (IfAmount (IsOfPayment s.table t.arguments)) t.answer
AtTurnRow final_amounts s t = (n : ℕ) → t.kind ≡ kinds.service → serves (name (codes "seat") n) (codes "getFinalAllocation") t ≡ true → IfOkAnswer (InRecord (λ keyword. IfAmount (IsOfExit s.seats n keyword))) t.answer
AtTurnRow _ s t = Unit {0}

-- ---- what a row of events has to meet

abbrev pub OfMove : Event → (Move → Type 0) → Type 0
OfMove (moved m) P = P m
OfMove _ P = Unit {0}

abbrev pub OfOpening : Event → (Opening → Type 0) → Type 0
OfOpening (opened o) P = P o
OfOpening _ P = Unit {0}

abbrev pub OfExit : Event → (SeatExit → Type 0) → Type 0
OfExit (exited x) P = P x
OfExit _ P = Unit {0}

abbrev pub OfCall : Event → (Call → Type 0) → Type 0
OfCall (called c) P = P c
OfCall _ P = Unit {0}

-- of a movement that isn't one of an offer or an exit
abbrev pub IfNoneDue : List Due → Type 0 → Type 0
IfNoneDue [] P = P
IfNoneDue (d ∷ ds) P = Unit {0}

abbrev pub NamesSlot : Move → ℕ → List ℕ → Type 0
NamesSlot m seat keyword = (m.from ≡ Slot seat keyword) ⊎ (m.to ≡ Slot seat keyword)

-- a slot that has a brand has the movement's
pub record IsOfSlots (seats : List Seat) (m : Move) : Type 0 where
  pub each : (seat : ℕ) (keyword : List ℕ) → NamesSlot m seat keyword → (s : Seat) → slice_get seats seat ≡ Some s → (b : ℕ) → brand_under keyword s.slots ≡ Some b → b ≡ m.brand

-- where the burn of an offer is due, this is it
abbrev pub MeetsBurn : List Due → Event → Type 0
MeetsBurn (burn ∷ ds) (moved m) = IsBurn m
MeetsBurn (burn ∷ ds) _ = ⊥
MeetsBurn _ _ = Unit {0}

abbrev pub MeetsEscrow : List Due → Event → Type 0
MeetsEscrow (escrow seat a ∷ ds) (moved m) = IsEscrow seat a m
MeetsEscrow (escrow seat a ∷ ds) _ = ⊥
MeetsEscrow _ _ = Unit {0}

pub record IsWholePayout (seat : ℕ) (slot : SlotName) (c : Content) (payment : ℕ) (m : Move) : Type 0 where
  pub brand : m.brand ≡ slot.brand
  pub from : m.from ≡ Slot seat slot.keyword
  pub to : m.to ≡ Payment payment
  pub whole : content_of m.value ≡ c

abbrev pub MeetsPayout : List Due → Event → Type 0
MeetsPayout (payout seat slot c found ∷ ds) (moved m) = (p : ℕ) × (found ≡ Some p) × IsWholePayout seat slot c p m
MeetsPayout (payout seat slot c found ∷ ds) _ = ⊥
MeetsPayout _ _ = Unit {0}

abbrev pub IsNewPayout : SoFar → List Due → Event → Type 0
IsNewPayout s (payout seat slot c found ∷ ds) (moved m) = (p : ℕ) → m.to ≡ Payment p → names p s.moves ≡ false
IsNewPayout s _ _ = Unit {0}

abbrev pub AtRow : Sentence → InTurn → Event → Type 0
AtRow movements_are_defined i e = OfMove e (λ m. CanMove i.now.table (movement_of m))
AtRow minted_totals_are_bounded i e = OfMove e (λ m. (sum_so_far (with_row i.now (moved m)) m.brand).minted ≤ minted_bound)
AtRow payments_stay_spent i e = OfMove e (λ m. (p : ℕ) → takes_from p i.before.moves ≡ true → names p (movement_of m ∷ []) ≡ false)
AtRow values_are_of_one_kind i e = HaveKinds (with_row i.now e).amounts
AtRow slots_are_of_one_brand i e = OfMove e (λ m. IfNoneDue i.due (IsOfSlots i.now.seats m)) × OfOpening e (λ o. AllByRecursion (λ (a : KeywordAmount). brand_under a.keyword (new_seat o).slots ≡ Some a.brand) (o.give ++ o.want))
AtRow seats_are_in_order i e = OfOpening e (λ o. o.seat ≡ length i.now.seats)
AtRow offers_burn i e = MeetsBurn i.due e
AtRow offers_escrow i e = MeetsEscrow i.due e
AtRow kits_are_empty i e = OfOpening e (λ o. FollowsKit i.here → (o.give ≡ []) × (o.want ≡ []))
AtRow openings_are_called_for i e = OfOpening e (λ o. (is_offer i.row ≡ true) ⊎ FollowsKit i.here)
AtRow exits_are_of_open_seats i e = OfExit e (λ x. IsOpen i.now.seats x.seat)
AtRow exits_follow_their_cause i e = OfExit e (λ x. (s : Seat) → slice_get i.now.seats x.seat ≡ Some s → first_cause i.before.owners i.row i.here s.opening.instance x.seat ≡ Some x.cause)
AtRow payouts_follow i e = MeetsPayout i.due e
AtRow payouts_are_named i e = OfExit e (λ x. (s : Seat) → slice_get i.now.seats x.seat ≡ Some s → (length x.payouts ≡ length s.slots) × AllByRecursion (λ (slot : SlotName). is_some (payment_under slot.keyword x.payouts) ≡ true) s.slots)
AtRow payouts_are_new i e = IsNewPayout i.now i.due e × OfExit e (λ x. AllByRecursion (λ (p : Payout). names p.payment i.now.moves ≡ false) x.payouts)
AtRow exits_are_covered i e = OfExit e (λ x. (s : Seat) → slice_get i.now.seats x.seat ≡ Some s → IsSafe i.now.table s.opening)
AtRow refusals_change_nothing i e = (code : List ℕ) (shown : Items) → i.row.answer ≡ refused code shown → ChangesNothing e
AtRow slots_are_of_opened_seats i e = OfMove e (λ m. IfNoneDue i.due ((seat : ℕ) (keyword : List ℕ) → NamesSlot m seat keyword → (s : Seat) × (slice_get i.now.seats seat ≡ Some s)))
AtRow slots_are_of_no_exited_seat i e = OfMove e (λ m. IfNoneDue i.due ((seat : ℕ) (keyword : List ℕ) → NamesSlot m seat keyword → (s : Seat) → slice_get i.now.seats seat ≡ Some s → s.last ≡ None))
AtRow current_amounts i e = OfCall e (λ c. (n : ℕ) → calls (name (codes "zseat") n) (codes "getCurrentAllocation") c ≡ true → IfOkAnswer (InRecord (λ keyword. IfAmount (IsOfSlot i.now.table n keyword))) c.answer)
AtRow slot_amounts i e = OfCall e (λ c. (n : ℕ) → calls (name (codes "zseat") n) (codes "getAmountAllocated") c ≡ true → IfOkAnswer (IfAmount (IsOfNamedSlot i.now.table n c.arguments)) c.answer)
AtRow _ i e = Unit {0}

-- ---- what the turn's end has to meet

abbrev pub IsNoBurn : List Due → Type 0
IsNoBurn (burn ∷ ds) = ⊥
IsNoBurn _ = Unit {0}

abbrev pub IsNoEscrow : List Due → Type 0
IsNoEscrow (escrow seat a ∷ ds) = ⊥
IsNoEscrow _ = Unit {0}

abbrev pub IsNoPayout : List Due → Type 0
IsNoPayout (payout seat slot c found ∷ ds) = ⊥
IsNoPayout _ = Unit {0}

-- the stores hold what is out, and the hand nothing
pub record AddsUp (s : SoFar) : Type 0 where
  pub stores : (b : ℕ) (k : List ℕ) → total_of is_store s.table b k ≡ count (supply s.moves b) k
  pub hand_empty : (b : ℕ) → holds s.table Hand b ≡ nothing

-- no supply passes the bound of the kind of its brand's values
pub record IsBounded (e : Edition) (s : SoFar) : Type 0 where
  pub kind_of : ℕ → Kind
  pub values : AreOfKinds kind_of s.amounts
  pub fits : (b : ℕ) → Fits (kind_of b) (supply s.moves b)
  pub within : (b : ℕ) → IsWithin e (kind_of b) (supply s.moves b)

abbrev pub AtEnd : Edition → Sentence → InTurn → List Sum → Type 0
AtEnd d offers_burn i sums = IsNoBurn i.due
AtEnd d offers_escrow i sums = IsNoEscrow i.due
AtEnd d payouts_follow i sums = IsNoPayout i.due
AtEnd d causes_are_the_first i sums = AllByRecursion (IsCaused i.now.seats i.before.owners i.row i.here) i.here
AtEnd d causes_are_followed i sums = (seat : ℕ) (is_open : IsOpen i.now.seats seat) → first_cause i.before.owners i.row i.here is_open.seat.opening.instance seat ≡ None
AtEnd d seats_stay_covered i sums = (seat : ℕ) (is_open : IsOpen i.now.seats seat) → IsSafe i.now.table is_open.seat.opening
AtEnd d payments_are_emptied i sums = (p b : ℕ) → takes_from p (movements_in i.here) ≡ true → holds i.now.table (Payment p) b ≡ nothing
AtEnd d tables_balance i sums = AddsUp i.now
AtEnd d supplies_are_bounded i sums = HaveKinds i.now.amounts → IsBounded d i.now
AtEnd d sums_are_told i sums = sums ≡ sums_due i
AtEnd d _ i sums = Unit {0}

-- ---- a list of turns meets a sentence where each turn does, after what those before it tell

abbrev pub MeetsRows : Sentence → InTurn → List Event → Type 0
MeetsRows y i [] = Unit {0}
MeetsRows y i (e ∷ es) = AtRow y i e × MeetsRows y (after_event i e) es

abbrev pub MeetsTurn : Edition → Sentence → SoFar → Turn → Type 0
MeetsTurn d y s t = AtTurnRow y s t × MeetsRows y (after_turn_row s t) t.events × AtEnd d y (after_events (after_turn_row s t) t.events) t.sums

abbrev pub MeetsFrom : Edition → Sentence → SoFar → List Turn → Type 0
MeetsFrom d y s [] = Unit {0}
MeetsFrom d y s (t ∷ ts) = MeetsTurn d y s t × MeetsFrom d y (with_turn s t) ts

-- as turns of a text of the edition
abbrev pub Meets : Edition → Sentence → List Turn → Type 0
Meets d y ts = MeetsFrom d y nothing_so_far ts

-- What this host's turns keep to beyond fairness: amounts are answered whole, a kit is of the seat's own instance, and
-- no call stands behind an exit that the turn's own row shows. A journal may be fair without it.
use Rattle.std.specs.Prelude.{◌≡◌, ◌≢◌, ℕ, List, [], ◌∷◌, ◌++◌, Option, Some, None, length, is_some, true, false, if◌then◌else◌, codes}
use Rattle.std.specs.List.{AllByRecursion, AllZip, slice_get}
use Rattle.std.specs.Str.{bytes_eq}
use Rattle.turn_rows.specs.amount_math.Content.{Content, nothing}
use Rattle.turn_rows.specs.rights_model.Table.{Table, holds}
use Rattle.turn_rows.specs.rights_model.declared.Holder.{Holder}
use Rattle.turn_rows.specs.rights_model.declared.Holder.TheVariants.{Payment, Purse, Slot}
use Rattle.serde_json.specs.Data as json
use Rattle.turn_rows.specs.HostForms.{HasHostForm}
use Rattle.turn_rows.specs.Kinds as kinds
use Rattle.turn_rows.specs.Rows.{amount_json, amounts_json, brand_name, only, payment_name}
use Rattle.turn_rows.specs.Turns.{Answer, Call, Event, called, exited, KeywordAmount, ok, opened, Opening, Turn, Value}
use Rattle.fair_rows.specs.Amounts.{IsPrinted}
use Rattle.fair_rows.specs.ExitCauses.{calls, cause_by_calls, name, serves, while_open}
use Rattle.fair_rows.specs.Rows.{InTurn, after_event, is_offer}
use Rattle.fair_rows.specs.Seats.{Seat, SlotName, contents_of}
use Rattle.fair_rows.specs.SoFar.{SoFar, nothing_so_far, with_turn}
use Rattle.fair_rows.specs.Turns.{after_turn_row}

-- ---- answers are whole

-- the answer is the amount that a holder has of a brand
pub record IsAmountOf (t : Table) (h : Holder) (b : ℕ) (answer : Answer) : Type 0 where
  pub value : Value
  pub printed : IsPrinted (holds t h b) value
  pub is : answer ≡ ok (amount_json b value)

-- the answer is what a purse has, which is of one brand
pub record IsPurseAmount (t : Table) (purse : ℕ) (answer : Answer) : Type 0 where
  pub brand : ℕ
  pub amount : IsAmountOf t (Purse purse) brand answer
  pub alone : (b : ℕ) → b ≢ brand → holds t (Purse purse) b ≡ nothing

-- a payment is named first among the arguments; the answer is what it has of the issuer's brand
pub record IsPaymentAmount (t : Table) (brand : ℕ) (arguments : json.Items) (answer : Answer) : Type 0 where
  pub payment : ℕ
  pub more : json.Items
  pub named : arguments ≡ json.item (only (codes "@") (json.string (payment_name payment))) more
  pub amount : IsAmountOf t (Payment payment) brand answer

abbrev pub amount_under : List ℕ → List KeywordAmount → Option KeywordAmount
amount_under keyword [] = None
amount_under keyword (a ∷ amounts) = if bytes_eq keyword a.keyword then Some a else amount_under keyword amounts

-- the amount of a slot stands under its keyword
pub record IsSlotAmount (amounts : List KeywordAmount) (slot : SlotName) (c : Content) : Type 0 where
  pub value : Value
  pub printed : IsPrinted c value
  pub is : amount_under slot.keyword amounts ≡ Some (record { keyword = slot.keyword; brand = slot.brand; value = value })

-- the answer is what a seat's slots have, each under its keyword
pub record IsAllocation (slots : List SlotName) (contents : List Content) (answer : Answer) : Type 0 where
  pub amounts : List KeywordAmount
  pub is : answer ≡ ok (json.object (amounts_json amounts))
  pub as_many : length amounts ≡ length slots
  pub each : AllZip (IsSlotAmount amounts) slots contents

-- the answer is what a seat's slots had when it exited
pub record IsFinalAllocation (seats : List Seat) (number : ℕ) (answer : Answer) : Type 0 where
  pub seat : Seat
  pub was_opened : slice_get seats number ≡ Some seat
  pub last : List Content
  pub exited : seat.last ≡ Some last
  pub allocation : IsAllocation seat.slots last answer

-- the answer is what a seat's slots have now
pub record IsCurrentAllocation (t : Table) (seats : List Seat) (number : ℕ) (answer : Answer) : Type 0 where
  pub seat : Seat
  pub was_opened : slice_get seats number ≡ Some seat
  pub allocation : IsAllocation seat.slots (contents_of t seat) answer

-- a keyword and a brand are named first among the arguments; the answer is what the seat's slot has of it
pub record IsSlotRead (t : Table) (seat : ℕ) (arguments : json.Items) (answer : Answer) : Type 0 where
  pub keyword : List ℕ
  pub brand : ℕ
  pub more : json.Items
  pub named : arguments ≡ json.item (json.string keyword) (json.item (only (codes "@") (json.string (brand_name brand))) more)
  pub amount : IsAmountOf t (Slot seat keyword) brand answer

-- what a turn row answers of a purse, of a payment and of a seat that was left
pub record IsToldByTurn (table : Table) (seats : List Seat) (t : Turn) : Type 0 where
  pub purse : (n : ℕ) → t.kind ≡ kinds.service → serves (name (codes "purse") n) (codes "getCurrentAmount") t ≡ true
      → IsPurseAmount table n t.answer
  pub payment : (b : ℕ) → t.kind ≡ kinds.service → serves (name (codes "issuer") b) (codes "getAmountOf") t ≡ true
      → IsPaymentAmount table b t.arguments t.answer
  pub final : (n : ℕ) → t.kind ≡ kinds.service → serves (name (codes "seat") n) (codes "getFinalAllocation") t ≡ true
      → IsFinalAllocation seats n t.answer

-- what a call row answers of a seat's slots
pub record IsToldByCall (table : Table) (seats : List Seat) (c : Call) : Type 0 where
  pub current : (n : ℕ) → calls (name (codes "zseat") n) (codes "getCurrentAllocation") c ≡ true
      → IsCurrentAllocation table seats n c.answer
  pub allocated : (n : ℕ) → calls (name (codes "zseat") n) (codes "getAmountAllocated") c ≡ true
      → IsSlotRead table n c.arguments c.answer

-- ---- rows

-- the call row of makeEmptySeatKit stands right before, by the instance of the seat; it gives and wants nothing
pub record IsEmptySeat (here : List Event) (o : Opening) : Type 0 where
  pub more : List Event
  pub call : Call
  pub last : here ≡ more ++ called call ∷ []
  pub made : calls (name (codes "zcf") o.instance) (codes "makeEmptySeatKit") call ≡ true
  pub gives : o.give ≡ []
  pub wants : o.want ≡ []

-- a seat that has exited did so for a cause that call rows show
abbrev pub IsShownByCalls : List Seat → List Event → Event → Type 0
IsShownByCalls seats here (exited x) =
    (s : Seat) → slice_get seats x.seat ≡ Some s
    → is_some (cause_by_calls s.opening.instance x.seat (while_open x.seat here)) ≡ true
IsShownByCalls seats here _ = Unit {0}

abbrev pub AreShownByCalls : List Seat → List Event → Type 0
AreShownByCalls seats here = AllByRecursion (IsShownByCalls seats here) here

abbrev pub IsStrictRow : InTurn → Event → Type 0
IsStrictRow i (called c) = IsToldByCall i.now.table i.now.seats c × AreShownByCalls i.now.seats i.here
IsStrictRow i (opened o) = is_offer i.row ≡ false → IsEmptySeat i.here o
IsStrictRow i _ = Unit {0}

abbrev pub AreStrictRows : InTurn → List Event → Type 0
AreStrictRows i [] = Unit {0}
AreStrictRows i (e ∷ es) = IsStrictRow i e × AreStrictRows (after_event i e) es

-- ---- turns

pub record IsStrictTurn (s : SoFar) (t : Turn) : Type 0 where
  pub form : HasHostForm t
  pub told : IsToldByTurn s.table s.seats t
  pub rows : AreStrictRows (after_turn_row s t) t.events

-- each turn is strict after what those before it tell
abbrev pub AreStrictFrom : SoFar → List Turn → Type 0
AreStrictFrom s [] = Unit {0}
AreStrictFrom s (t ∷ ts) = IsStrictTurn s t × AreStrictFrom (with_turn s t) ts

abbrev pub AreStrict : List Turn → Type 0
AreStrict ts = AreStrictFrom nothing_so_far ts

-- What a row says: of any JSON the one event, sum or turn row that it would be. It is that row exactly where its own JSON is this.
use Rattle.std.specs.Prelude.{◌≡◌, ℕ, List, [], ◌∷◌, if◌then◌else◌, codes, unwrap_or, option_and_then}
use Rattle.std.specs.Char.{is_ascii_digit}
use Rattle.std.specs.Option.{option_map_or}
use Rattle.std.specs.Str.{bytes_eq}
use Rattle.std.specs.Str.Parse.{digits_value}
use Rattle.serde_json.specs.Data as json
use Rattle.serde_json.specs.Find.{get, get_item, as_str, as_number, as_u64, as_array, as_object}
use Rattle.rights_model.specs.declared.Holder.{Holder}
use Rattle.rights_model.specs.declared.Holder.TheVariants as holders
use Rattle.rights_model.specs.declared.Sum.{Sum}
use Rattle.turn_rows.specs.Causes as causes
use Rattle.turn_rows.specs.Causes.{Cause}
use Rattle.turn_rows.specs.Kinds as kinds
use Rattle.turn_rows.specs.Kinds.{How, Kind}
use Rattle.turn_rows.specs.Rows.{close_row, event_row, sum_row, turn_row}
use Rattle.turn_rows.specs.Turns.{Answer, ok, refused, threw, spent, Call, Element, key, counted, Value, number, elements, KeywordAmount, ExitRule, on_demand, waived, after_deadline, Opening, Move, Payout, SeatExit, Settlement, fulfilled, broken, Event, called, opened, moved, exited, settled, Turn}
use Rattle.turn_rows.specs.declared.editions.Edition.{Edition}

-- ---- members of a row

abbrev pub member_in : List ℕ → json.Data → json.Data
member_in name row = unwrap_or (get name row) json.null

abbrev pub text_in : List ℕ → json.Data → List ℕ
text_in name row = unwrap_or (as_str (member_in name row)) []

abbrev pub whole_in : List ℕ → json.Data → ℕ
whole_in name row = unwrap_or (option_and_then as_u64 (as_number (member_in name row))) 0

abbrev pub items_in : List ℕ → json.Data → json.Items
items_in name row = unwrap_or (as_array (member_in name row)) json.no_items

abbrev pub members_in : List ℕ → json.Data → json.Members
members_in name row = unwrap_or (as_object (member_in name row)) json.no_members

abbrev pub total_in : List ℕ → json.Data → ℕ
total_in name row = digits_value 10 (text_in name row)

-- ---- names

-- what stands before the first digit, and from there on
abbrev pub word_in : List ℕ → List ℕ
word_in [] = []
word_in (b ∷ bs) = if is_ascii_digit b then [] else b ∷ word_in bs

abbrev pub rest_in : List ℕ → List ℕ
rest_in [] = []
rest_in (b ∷ bs) = if is_ascii_digit b then b ∷ bs else rest_in bs

-- digits, and what follows the byte behind them
abbrev pub digits_in : List ℕ → List ℕ
digits_in [] = []
digits_in (b ∷ bs) = if is_ascii_digit b then b ∷ digits_in bs else []

abbrev pub behind_digits : List ℕ → List ℕ
behind_digits [] = []
behind_digits (b ∷ bs) = if is_ascii_digit b then behind_digits bs else bs

-- the number in a name
abbrev pub number_of : List ℕ → ℕ
number_of name = digits_value 10 (rest_in name)

abbrev pub holder_from : List ℕ → List ℕ → Holder
holder_from w digits =
    if bytes_eq w (codes "purse") then holders.Purse (digits_value 10 digits) else
    if bytes_eq w (codes "payment") then holders.Payment (digits_value 10 digits) else
    if bytes_eq w (codes "seat") then holders.Slot (digits_value 10 (digits_in digits)) (behind_digits digits) else
    if bytes_eq w (codes "hand") then holders.Hand else holders.Outside

abbrev pub holder_of : List ℕ → Holder
holder_of name = holder_from (word_in name) (rest_in name)

-- ---- parts of rows

abbrev pub answer_in : json.Data → Answer
answer_in d =
    option_map_or ok (get (codes "ok") d)
    (option_map_or (λ r. refused (text_in (codes "code") r) (items_in (codes "shown") r)) (get (codes "refused") d)
    (option_map_or threw (get (codes "threw") d) (spent (whole_in (codes "spent") d))))

abbrev pub number_in : json.Data → ℕ
number_in d = unwrap_or (option_and_then as_u64 (as_number d)) (digits_value 10 (text_in (codes "#") d))

abbrev pub item_at : ℕ → json.Data → json.Data
item_at n d = unwrap_or (get_item n (unwrap_or (as_array d) json.no_items)) json.null

abbrev pub element_in : json.Data → Element
element_in d = option_map_or key (as_str d) (counted (unwrap_or (as_str (item_at 0 d)) []) (number_in (item_at 1 d)))

abbrev pub elements_in : json.Items → List Element
elements_in json.no_items = []
elements_in (json.item d ds) = element_in d ∷ elements_in ds

abbrev pub value_in : json.Data → Value
value_in d = option_map_or (λ ds. elements (elements_in ds)) (as_array d) (number (number_in d))

-- the brand and the value of an amount
abbrev pub amount_brand_in : json.Data → ℕ
amount_brand_in d = number_of (text_in (codes "@") (member_in (codes "brand") d))

abbrev pub amount_value_in : json.Data → Value
amount_value_in d = value_in (member_in (codes "value") d)

abbrev pub amounts_in : json.Members → List KeywordAmount
amounts_in json.no_members = []
amounts_in (json.member keyword d ms) = record { keyword = keyword; brand = amount_brand_in d; value = amount_value_in d } ∷ amounts_in ms

abbrev pub exit_rule_of : List ℕ → ExitRule
exit_rule_of word = if bytes_eq word (codes "waived") then waived else on_demand

abbrev pub exit_rule_in : json.Data → ExitRule
exit_rule_in d = option_map_or exit_rule_of (as_str d) (after_deadline (number_in (member_in (codes "afterDeadline") d)))

abbrev pub payouts_in : json.Members → List Payout
payouts_in json.no_members = []
payouts_in (json.member keyword d ms) = record { keyword = keyword; payment = number_of (unwrap_or (as_str d) []) } ∷ payouts_in ms

abbrev pub settlement_in : json.Data → Settlement
settlement_in d = option_map_or fulfilled (get (codes "ok") d) (broken (member_in (codes "broken") d))

abbrev pub cause_in : List ℕ → Cause
cause_in word =
    if bytes_eq word (codes "asked") then causes.asked else
    if bytes_eq word (codes "deadline") then causes.deadline else
    if bytes_eq word (codes "exit") then causes.exit else
    if bytes_eq word (codes "fail") then causes.fail else
    if bytes_eq word (codes "threw") then causes.threw else
    if bytes_eq word (codes "halted") then causes.halted else causes.spent

abbrev pub how_in : List ℕ → How
how_in word =
    if bytes_eq word (codes "call") then kinds.calls else
    if bytes_eq word (codes "send") then kinds.sends else
    if bytes_eq word (codes "when") then kinds.when else kinds.far

abbrev pub kind_in : List ℕ → Kind
kind_in word =
    if bytes_eq word (codes "service") then kinds.service else
    if bytes_eq word (codes "facet") then kinds.facet else
    if bytes_eq word (codes "handler") then kinds.handler else
    if bytes_eq word (codes "wake") then kinds.wake else
    if bytes_eq word (codes "notify") then kinds.notify else
    if bytes_eq word (codes "deadline") then kinds.deadline else
    if bytes_eq word (codes "start") then kinds.start else
    if bytes_eq word (codes "tick") then kinds.tick else
    if bytes_eq word (codes "give") then kinds.give else
    if bytes_eq word (codes "bad") then kinds.bad else kinds.message

-- ---- rows

abbrev pub call_in : json.Data → Call
call_in row = record {
  how = how_in (text_in (codes "how") row);
  on = text_in (codes "on") row;
  method = text_in (codes "do") row;
  arguments = items_in (codes "args") row;
  answer = answer_in (member_in (codes "answer") row);
}

abbrev pub opening_in : json.Data → Opening
opening_in row = record {
  seat = whole_in (codes "seat") row;
  instance = number_of (text_in (codes "instance") row);
  give = amounts_in (members_in (codes "give") row);
  want = amounts_in (members_in (codes "want") row);
  exit = exit_rule_in (member_in (codes "exit") row);
}

abbrev pub move_in : json.Data → Move
move_in row = record {
  brand = number_of (text_in (codes "brand") row);
  from = holder_of (text_in (codes "from") row);
  to = holder_of (text_in (codes "to") row);
  value = value_in (member_in (codes "value") row);
}

abbrev pub seat_exit_in : json.Data → SeatExit
seat_exit_in row = record { seat = whole_in (codes "seat") row; cause = cause_in (text_in (codes "cause") row); payouts = payouts_in (members_in (codes "payouts") row) }

abbrev pub event_in : json.Data → Event
event_in row =
    if bytes_eq (text_in (codes "row") row) (codes "call") then called (call_in row) else
    if bytes_eq (text_in (codes "row") row) (codes "open") then opened (opening_in row) else
    if bytes_eq (text_in (codes "row") row) (codes "move") then moved (move_in row) else
    if bytes_eq (text_in (codes "row") row) (codes "exit") then exited (seat_exit_in row) else settled (whole_in (codes "promise") row) (settlement_in (member_in (codes "to") row))

abbrev pub sum_in : json.Data → Sum
sum_in row = record {
  brand = number_of (text_in (codes "brand") row);
  minted = total_in (codes "minted") row;
  burned = total_in (codes "burned") row;
  purses = total_in (codes "purses") row;
  payments = total_in (codes "payments") row;
  slots = total_in (codes "slots") row;
}

-- the turn of a turn row, with the events and sums that stand below it
abbrev pub turn_in : json.Data → List Event → List Sum → Turn
turn_in row es sums = record {
  number = whole_in (codes "n") row;
  kind = kind_in (text_in (codes "kind") row);
  by = text_in (codes "by") row;
  on = text_in (codes "on") row;
  method = text_in (codes "do") row;
  arguments = items_in (codes "args") row;
  answer = answer_in (member_in (codes "answer") row);
  events = es;
  sums = sums;
}

-- what a close row tells: how many deliveries are left, and how many turns were run
pub record Closing : Type 0 where
  pub left : ℕ
  pub turns : ℕ

abbrev pub closing_in : json.Data → Closing
closing_in row = record { left = whole_in (codes "left") row; turns = whole_in (codes "turns") row }

-- ---- this line is that row

-- what a reader tests: it reads the event, writes it again, and compares
abbrev pub IsEventRow : json.Data → Type 0
IsEventRow row = event_row (event_in row) ≡ row

abbrev pub IsSumRow : Edition → json.Data → Type 0
IsSumRow e row = sum_row e (sum_in row) ≡ row

abbrev pub IsTurnRow : json.Data → Type 0
IsTurnRow row = turn_row (turn_in row [] []) ≡ row

abbrev pub IsCloseRow : json.Data → Type 0
IsCloseRow row = close_row (closing_in row).left (closing_in row).turns ≡ row

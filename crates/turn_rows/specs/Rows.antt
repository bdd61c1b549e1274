-- The rows of a turn as JSON.
use Rattle.std.specs.Prelude.{ℕ, ◌^◌, List, [], ◌∷◌, ◌++◌, map, nat_lt, if◌then◌else◌, codes, decimal}
use Rattle.serde_json.specs.Data as json
use Rattle.rights_model.specs.declared.Holder.{Holder}
use Rattle.rights_model.specs.declared.Holder.TheVariants as holders
use Rattle.rights_model.specs.declared.Sum.{Sum}
use Rattle.turn_rows.specs.Causes.{cause_word}
use Rattle.turn_rows.specs.Editions.{supply_members}
use Rattle.turn_rows.specs.Kinds.{how_word, kind_word}
use Rattle.turn_rows.specs.Turns.{Answer, ok, refused, threw, spent, Call, Element, key, counted, Value, number, elements, KeywordAmount, ExitRule, on_demand, waived, after_deadline, Opening, Move, Payout, SeatExit, Settlement, fulfilled, broken, Event, called, opened, moved, exited, settled, Turn}
use Rattle.turn_rows.specs.declared.editions.Edition.{Edition}

-- ---- names

abbrev pub brand_name : ℕ → List ℕ
brand_name n = codes "brand" ++ decimal n

abbrev pub instance_name : ℕ → List ℕ
instance_name n = codes "instance" ++ decimal n

abbrev pub payment_name : ℕ → List ℕ
payment_name n = codes "payment" ++ decimal n

-- `purse0`, `payment3`, `seat4.Price`, `hand`, `outside`
abbrev pub holder_name : Holder → List ℕ
holder_name (holders.Purse n) = codes "purse" ++ decimal n
holder_name (holders.Payment n) = payment_name n
holder_name (holders.Slot seat keyword) = codes "seat" ++ (decimal seat ++ (codes "." ++ keyword))
holder_name holders.Hand = codes "hand"
holder_name holders.Outside = codes "outside"

-- ---- parts of rows

abbrev pub only : List ℕ → json.Data → json.Data
only name d = json.object (json.member name d json.no_members)

abbrev pub whole : ℕ → json.Data
whole n = json.number (json.unsigned n)

-- `12`, or `{"#":"9223372036854775808"}` from 2^63 on
abbrev pub number_json : ℕ → json.Data
number_json n = if nat_lt n (2 ^ 63) then whole n else only (codes "#") (json.string (decimal n))

-- `{"ok":d}`, `{"refused":{"code":c,"shown":[..]}}`, `{"threw":d}`, `{"spent":meter}`
abbrev pub answer_json : Answer → json.Data
answer_json (ok d) = only (codes "ok") d
answer_json (refused code shown) = only (codes "refused") (json.object (json.member (codes "code") (json.string code) (json.member (codes "shown") (json.array shown) json.no_members)))
answer_json (threw d) = only (codes "threw") d
answer_json (spent meter) = only (codes "spent") (whole meter)

abbrev pub element_json : Element → json.Data
element_json (key s) = json.string s
element_json (counted s n) = json.array (json.item (json.string s) (json.item (number_json n) json.no_items))

abbrev pub elements_json : List Element → json.Items
elements_json [] = json.no_items
elements_json (e ∷ es) = json.item (element_json e) (elements_json es)

abbrev pub value_json : Value → json.Data
value_json (number n) = number_json n
value_json (elements es) = json.array (elements_json es)

-- `{"brand":{"@":"brand1"},"value":5}`
abbrev pub amount_json : ℕ → Value → json.Data
amount_json brand value =
    json.object (json.member (codes "brand") (only (codes "@") (json.string (brand_name brand))) (json.member (codes "value") (value_json value) json.no_members))

abbrev pub amounts_json : List KeywordAmount → json.Members
amounts_json [] = json.no_members
amounts_json (r ∷ rs) = json.member r.keyword (amount_json r.brand r.value) (amounts_json rs)

abbrev pub exit_rule_json : ExitRule → json.Data
exit_rule_json on_demand = json.string (codes "onDemand")
exit_rule_json waived = json.string (codes "waived")
exit_rule_json (after_deadline time) = only (codes "afterDeadline") (number_json time)

abbrev pub payouts_json : List Payout → json.Members
payouts_json [] = json.no_members
payouts_json (p ∷ ps) = json.member p.keyword (json.string (payment_name p.payment)) (payouts_json ps)

abbrev pub settlement_json : Settlement → json.Data
settlement_json (fulfilled d) = only (codes "ok") d
settlement_json (broken d) = only (codes "broken") d

-- ---- rows

abbrev pub turn_row : Turn → json.Data
turn_row t =
    json.object (json.member (codes "answer") (answer_json t.answer) (json.member (codes "args") (json.array t.arguments)
    (json.member (codes "by") (json.string t.by) (json.member (codes "do") (json.string t.method)
    (json.member (codes "kind") (json.string (kind_word t.kind)) (json.member (codes "n") (whole t.number)
    (json.member (codes "on") (json.string t.on) (json.member (codes "row") (json.string (codes "turn")) json.no_members))))))))

abbrev pub call_row : Call → json.Data
call_row c =
    json.object (json.member (codes "answer") (answer_json c.answer) (json.member (codes "args") (json.array c.arguments)
    (json.member (codes "do") (json.string c.method) (json.member (codes "how") (json.string (how_word c.how))
    (json.member (codes "on") (json.string c.on) (json.member (codes "row") (json.string (codes "call")) json.no_members))))))

abbrev pub open_row : Opening → json.Data
open_row o =
    json.object (json.member (codes "exit") (exit_rule_json o.exit) (json.member (codes "give") (json.object (amounts_json o.give))
    (json.member (codes "instance") (json.string (instance_name o.instance)) (json.member (codes "row") (json.string (codes "open"))
    (json.member (codes "seat") (whole o.seat) (json.member (codes "want") (json.object (amounts_json o.want)) json.no_members))))))

abbrev pub move_row : Move → json.Data
move_row m =
    json.object (json.member (codes "brand") (json.string (brand_name m.brand)) (json.member (codes "from") (json.string (holder_name m.from))
    (json.member (codes "row") (json.string (codes "move")) (json.member (codes "to") (json.string (holder_name m.to))
    (json.member (codes "value") (value_json m.value) json.no_members)))))

abbrev pub exit_row : SeatExit → json.Data
exit_row x =
    json.object (json.member (codes "cause") (json.string (cause_word x.cause)) (json.member (codes "payouts") (json.object (payouts_json x.payouts))
    (json.member (codes "row") (json.string (codes "exit")) (json.member (codes "seat") (whole x.seat) json.no_members))))

abbrev pub settle_row : ℕ → Settlement → json.Data
settle_row promise s =
    json.object (json.member (codes "promise") (whole promise) (json.member (codes "row") (json.string (codes "settle"))
    (json.member (codes "to") (settlement_json s) json.no_members)))

abbrev pub event_row : Event → json.Data
event_row (called c) = call_row c
event_row (opened o) = open_row o
event_row (moved m) = move_row m
event_row (exited x) = exit_row x
event_row (settled promise s) = settle_row promise s

abbrev pub sum_row : Edition → Sum → json.Data
sum_row e s =
    json.object (json.member (codes "brand") (json.string (brand_name s.brand)) (json.member (codes "burned") (json.string (decimal s.burned))
    (json.member (codes "minted") (json.string (decimal s.minted)) (json.member (codes "payments") (json.string (decimal s.payments))
    (json.member (codes "purses") (json.string (decimal s.purses)) (json.member (codes "row") (json.string (codes "sum"))
    (json.member (codes "slots") (json.string (decimal s.slots)) (supply_members e s))))))))

abbrev pub close_row : ℕ → ℕ → json.Data
close_row left turns =
    json.object (json.member (codes "left") (whole left) (json.member (codes "row") (json.string (codes "close"))
    (json.member (codes "turns") (whole turns) json.no_members)))

abbrev pub rows_of : Edition → Turn → List json.Data
rows_of e t = turn_row t ∷ (map event_row t.events ++ map (sum_row e) t.sums)

-- Amounts that are answered, and what the table has at that place: each amount in an ok answer is that. An answer that
-- is no amount holds none, and a record may leave a slot out.
use Rattle.std.specs.Prelude.{◌≡◌, ◌==◌, ◌&&◌, ℕ, List, [], ◌∷◌, true, if◌then◌else◌, codes}
use Rattle.std.specs.List.{slice_get}
use Rattle.std.specs.Option.{option_map_or}
use Rattle.std.specs.Str.{bytes_eq}
use Rattle.turn_rows.specs.amount_math.Content.{Content, nothing}
use Rattle.turn_rows.specs.amount_math.ValueView.{IsValue}
use Rattle.turn_rows.specs.amount_math.declared.Kind.{Kind}
use Rattle.turn_rows.specs.rights_model.Table.{Table, holds}
use Rattle.turn_rows.specs.rights_model.declared.Holder.TheVariants.{Payment, Purse, Slot}
use Rattle.serde_json.specs.Data as json
use Rattle.turn_rows.specs.Kinds as kinds
use Rattle.turn_rows.specs.ReadBack.{amount_brand_in, amount_value_in}
use Rattle.turn_rows.specs.Rows.{amount_json, only, payment_name}
use Rattle.turn_rows.specs.Turns.{Answer, Call, ok, Turn, Value}
use Rattle.fair_rows.specs.ExitCauses.{calls, name, serves}
use Rattle.fair_rows.specs.Seats.{Seat, SlotName}
use Rattle.fair_rows.specs.Values.{value_of}

-- a value is printed as the content, in a kind of which that is a value
pub record IsPrinted (c : Content) (v : Value) : Type 0 where
  pub kind : Kind
  pub value : IsValue kind c
  pub is : v ≡ value_of kind c

-- ---- amounts in an answer

-- what is asked of a brand and a value, where the data is their amount
abbrev pub IfAmount : (ℕ → Value → Type 0) → json.Data → Type 0
IfAmount P d =
    d ≡ amount_json (amount_brand_in d) (amount_value_in d)
    → P (amount_brand_in d) (amount_value_in d)

-- what is asked of each member, by its name
abbrev pub EachMember : (List ℕ → json.Data → Type 0) → json.Members → Type 0
EachMember P json.no_members = Unit {0}
EachMember P (json.member name d ms) = P name d × EachMember P ms

-- of those of a record
abbrev pub InRecord : (List ℕ → json.Data → Type 0) → json.Data → Type 0
InRecord P (json.object ms) = EachMember P ms
InRecord P _ = Unit {0}

-- of an ok answer
abbrev pub IfOkAnswer : (json.Data → Type 0) → Answer → Type 0
IfOkAnswer P (ok d) = P d
IfOkAnswer P _ = Unit {0}

-- ---- what the table has there

-- the amount is what the purse has of its brand
abbrev pub IsOfPurse : Table → ℕ → ℕ → Value → Type 0
IsOfPurse t purse brand v = IsPrinted (holds t (Purse purse) brand) v

-- a payment is named first among the arguments; the amount is what it has of its brand
pub record IsOfPayment (t : Table) (arguments : json.Items) (brand : ℕ) (v : Value) : Type 0 where
  pub payment : ℕ
  pub more : json.Items
  pub named : arguments ≡ json.item (only (codes "@") (json.string (payment_name payment))) more
  pub held : IsPrinted (holds t (Payment payment) brand) v

-- the amount is what a slot has of its brand
abbrev pub IsOfSlot : Table → ℕ → List ℕ → ℕ → Value → Type 0
IsOfSlot t seat keyword brand v = IsPrinted (holds t (Slot seat keyword) brand) v

-- a keyword is named first among the arguments; the amount is what its slot has of its brand
pub record IsOfNamedSlot (t : Table) (seat : ℕ) (arguments : json.Items) (brand : ℕ) (v : Value) : Type 0 where
  pub keyword : List ℕ
  pub more : json.Items
  pub named : arguments ≡ json.item (json.string keyword) more
  pub held : IsOfSlot t seat keyword brand v

-- of contents that stand for slots that of a keyword and a brand
abbrev pub content_under : List ℕ → ℕ → List SlotName → List Content → Content
content_under keyword brand (s ∷ ss) (c ∷ cs) = if bytes_eq keyword s.keyword && (brand == s.brand) then c else content_under keyword brand ss cs
content_under keyword brand _ _ = nothing

-- what the exit of a seat moved from a slot; nothing where there is none
abbrev pub moved_at_exit : List Seat → ℕ → List ℕ → ℕ → Content
moved_at_exit seats seat keyword brand =
    option_map_or (λ (s : Seat). option_map_or (content_under keyword brand s.slots) s.last nothing) (slice_get seats seat) nothing

abbrev pub IsOfExit : List Seat → ℕ → List ℕ → ℕ → Value → Type 0
IsOfExit seats seat keyword brand v = IsPrinted (moved_at_exit seats seat keyword brand) v

-- ---- which answers

-- each amount in the answer of getCurrentAmount, getAmountOf and getFinalAllocation, in a turn row
pub record IsReadByTurn (table : Table) (seats : List Seat) (t : Turn) : Type 0 where
  pub purse : (n : ℕ) → t.kind ≡ kinds.service → serves (name (codes "purse") n) (codes "getCurrentAmount") t ≡ true
      → IfOkAnswer (IfAmount (IsOfPurse table n)) t.answer
  pub payment : (b : ℕ) → t.kind ≡ kinds.service → serves (name (codes "issuer") b) (codes "getAmountOf") t ≡ true
      → IfOkAnswer (IfAmount (IsOfPayment table t.arguments)) t.answer
  pub final : (n : ℕ) → t.kind ≡ kinds.service → serves (name (codes "seat") n) (codes "getFinalAllocation") t ≡ true
      → IfOkAnswer (InRecord (λ keyword. IfAmount (IsOfExit seats n keyword))) t.answer

-- of getCurrentAllocation and getAmountAllocated, in a call row
pub record IsReadByCall (table : Table) (c : Call) : Type 0 where
  pub current : (n : ℕ) → calls (name (codes "zseat") n) (codes "getCurrentAllocation") c ≡ true
      → IfOkAnswer (InRecord (λ keyword. IfAmount (IsOfSlot table n keyword))) c.answer
  pub allocated : (n : ℕ) → calls (name (codes "zseat") n) (codes "getAmountAllocated") c ≡ true
      → IfOkAnswer (IfAmount (IsOfNamedSlot table n c.arguments)) c.answer

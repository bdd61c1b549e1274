-- A turn as it is printed: its rows, in the order of the text. Data is JSON; objects of the host are their names.
use Rattle.std.specs.Prelude.{ℕ, List}
use Rattle.rights_model.specs.declared.Holder.{Holder}
use Rattle.rights_model.specs.declared.Sum.{Sum}
use Rattle.serde_json.specs.Data.{Data, Items}
use Rattle.turn_rows.specs.Causes.{Cause}
use Rattle.turn_rows.specs.Kinds.{How, Kind}

-- what was answered; a refusal by its code and what it shows; what was thrown; or the meter that was spent
pub data Answer : Type 0 where
  ok : Data → Answer
  refused : List ℕ → Items → Answer
  threw : Data → Answer
  spent : ℕ → Answer

-- a contract's call of the host
pub record Call : Type 0 where
  pub how : How
  pub on : List ℕ
  pub method : List ℕ
  pub arguments : Items
  pub answer : Answer

-- a key of a set, or a key of a bag with its count
pub data Element : Type 0 where
  key : List ℕ → Element
  counted : List ℕ → ℕ → Element

-- a number, or the elements of a set or a bag; with no element it may be of either
pub data Value : Type 0 where
  number : ℕ → Value
  elements : List Element → Value

-- an amount under a keyword
pub record KeywordAmount : Type 0 where
  pub keyword : List ℕ
  pub brand : ℕ
  pub value : Value

pub data ExitRule : Type 0 where
  on_demand : ExitRule
  waived : ExitRule
  after_deadline : ℕ → ExitRule

pub record Opening : Type 0 where
  pub seat : ℕ
  pub instance : ℕ
  pub give : List KeywordAmount
  pub want : List KeywordAmount
  pub exit : ExitRule

pub record Move : Type 0 where
  pub brand : ℕ
  pub from : Holder
  pub to : Holder
  pub value : Value

-- the payment under a keyword
pub record Payout : Type 0 where
  pub keyword : List ℕ
  pub payment : ℕ

pub record SeatExit : Type 0 where
  pub seat : ℕ
  pub cause : Cause
  pub payouts : List Payout

pub data Settlement : Type 0 where
  fulfilled : Data → Settlement
  broken : Data → Settlement

pub data Event : Type 0 where
  called : Call → Event
  opened : Opening → Event
  moved : Move → Event
  exited : SeatExit → Event
  settled : ℕ → Settlement → Event

-- the turn row, the rows of events as they stand, and the sums
pub record Turn : Type 0 where
  pub number : ℕ
  pub kind : Kind
  pub by : List ℕ
  pub on : List ℕ
  pub method : List ℕ
  pub arguments : Items
  pub answer : Answer
  pub events : List Event
  pub sums : List Sum

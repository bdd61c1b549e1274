-- What of a turn can be told from its rows: JSON with no float and numbers of 64 bits, and the numbers in names and totals within 128 bits.
use Rattle.std.proofs.Common.{ℕ, ◌^◌, ◌<◌, pos, negsuc, List}
use Rattle.std.specs.List.{AllByRecursion}
use Rattle.serde_json.specs.Data as json
use Rattle.rights_model.specs.declared.Holder.{Holder}
use Rattle.rights_model.specs.declared.Holder.TheVariants as holders
use Rattle.rights_model.specs.declared.Sum.{Sum}
use Rattle.turn_rows.specs.Texts.{journal_rows}
use Rattle.turn_rows.specs.declared.editions.Edition.{Edition}
use Rattle.turn_rows.specs.Turns.{Answer, Element, key, counted, Value, number, elements, KeywordAmount, ExitRule, on_demand, waived, after_deadline, Opening, Payout, Event, called, opened, moved, exited, settled, Settlement, fulfilled, broken, Turn, ok, refused, threw, spent}

abbrev pub IsPlainNumber : json.Num → Type 0
IsPlainNumber (json.unsigned n) = n < 2 ^ 64
IsPlainNumber (json.negative (pos n)) = ⊥
IsPlainNumber (json.negative (negsuc n)) = n < 2 ^ 63
IsPlainNumber (json.float x) = ⊥

-- JSON with no float, and numbers of 64 bits
abbrev mutual
  pub IsPlain : json.Data → Type 0
  IsPlain json.null = Unit {0}
  IsPlain (json.boolean b) = Unit {0}
  IsPlain (json.number n) = IsPlainNumber n
  IsPlain (json.string s) = Unit {0}
  IsPlain (json.array ds) = ArePlain ds
  IsPlain (json.object ms) = ArePlainMembers ms

  pub ArePlain : json.Items → Type 0
  ArePlain json.no_items = Unit {0}
  ArePlain (json.item d ds) = IsPlain d × ArePlain ds

  pub ArePlainMembers : json.Members → Type 0
  ArePlainMembers json.no_members = Unit {0}
  ArePlainMembers (json.member k d ms) = IsPlain d × ArePlainMembers ms

-- a number that is written as text has 128 bits
abbrev pub IsWide : ℕ → Type 0
IsWide n = n < 2 ^ 128

abbrev pub IsHolder : Holder → Type 0
IsHolder (holders.Purse n) = IsWide n
IsHolder (holders.Payment n) = IsWide n
IsHolder (holders.Slot seat keyword) = IsWide seat
IsHolder holders.Hand = Unit {0}
IsHolder holders.Outside = Unit {0}

abbrev pub IsElement : Element → Type 0
IsElement (key s) = Unit {0}
IsElement (counted s n) = IsWide n

abbrev pub IsValue : Value → Type 0
IsValue (number n) = IsWide n
IsValue (elements es) = AllByRecursion IsElement es

abbrev pub IsAmount : KeywordAmount → Type 0
IsAmount r = IsWide r.brand × IsValue r.value

abbrev pub IsExitRule : ExitRule → Type 0
IsExitRule on_demand = Unit {0}
IsExitRule waived = Unit {0}
IsExitRule (after_deadline time) = IsWide time

pub record IsOpening (o : Opening) : Type 0 where
  pub instance : IsWide o.instance
  pub give : AllByRecursion IsAmount o.give
  pub want : AllByRecursion IsAmount o.want
  pub exit : IsExitRule o.exit

abbrev pub IsPayout : Payout → Type 0
IsPayout p = IsWide p.payment

abbrev pub IsEvent : Event → Type 0
IsEvent (called c) = Unit {0}
IsEvent (opened o) = IsOpening o
IsEvent (moved m) = IsWide m.brand × IsHolder m.from × IsHolder m.to × IsValue m.value
IsEvent (exited x) = AllByRecursion IsPayout x.payouts
IsEvent (settled promise s) = Unit {0}

pub record IsSum (s : Sum) : Type 0 where
  pub brand : IsWide s.brand
  pub burned : IsWide s.burned
  pub minted : IsWide s.minted
  pub payments : IsWide s.payments
  pub purses : IsWide s.purses
  pub slots : IsWide s.slots

-- the numbers in its names and totals
pub record IsTurn (t : Turn) : Type 0 where
  pub events : AllByRecursion IsEvent t.events
  pub sums : AllByRecursion IsSum t.sums

pub record IsJournal (e : Edition) (ts : List Turn) (left : ℕ) : Type 0 where
  pub rows : AllByRecursion IsPlain (journal_rows e ts left)
  pub turns : AllByRecursion IsTurn ts

-- ---- turns whose rows are plain

abbrev pub IsPlainAnswer : Answer → Type 0
IsPlainAnswer (ok d) = IsPlain d
IsPlainAnswer (refused code shown) = ArePlain shown
IsPlainAnswer (threw d) = IsPlain d
IsPlainAnswer (spent meter) = meter < 2 ^ 64

abbrev pub IsPlainSettlement : Settlement → Type 0
IsPlainSettlement (fulfilled d) = IsPlain d
IsPlainSettlement (broken d) = IsPlain d

abbrev pub IsPlainEvent : Event → Type 0
IsPlainEvent (called c) = ArePlain c.arguments × IsPlainAnswer c.answer
IsPlainEvent (opened o) = o.seat < 2 ^ 64
IsPlainEvent (moved m) = Unit {0}
IsPlainEvent (exited x) = x.seat < 2 ^ 64
IsPlainEvent (settled promise s) = (promise < 2 ^ 64) × IsPlainSettlement s

pub record IsPlainTurn (t : Turn) : Type 0 where
  pub number : t.number < 2 ^ 64
  pub arguments : ArePlain t.arguments
  pub answer : IsPlainAnswer t.answer
  pub events : AllByRecursion IsPlainEvent t.events

-- What rows tell of seats: how each was opened, which slots it has, and what these had when it exited.
use Rattle.std.specs.Prelude.{◌≡◌, ℕ, ◌==◌, List, [], ◌∷◌, ◌++◌, Option, Some, None, is_some, ◌⊎◌, if◌then◌else◌, map}
use Rattle.std.specs.List.{AllByRecursion, slice_get}
use Rattle.std.specs.Str.{bytes_eq}
use Rattle.turn_rows.specs.amount_math.Content.{Contains, Content}
use Rattle.turn_rows.specs.rights_model.Table.{Table, holds}
use Rattle.turn_rows.specs.rights_model.declared.Holder.{Holder}
use Rattle.turn_rows.specs.rights_model.declared.Holder.TheVariants.{Slot}
use Rattle.turn_rows.specs.Turns.{KeywordAmount, Move, Opening}
use Rattle.fair_rows.specs.Values.{content_of}

-- a slot of a seat: its keyword, and the brand of what it may have
pub record SlotName : Type 0 where
  pub keyword : List ℕ
  pub brand : ℕ

-- what its slots had when it exited, in their order, stands there once it has
pub record Seat : Type 0 where
  pub opening : Opening
  pub slots : List SlotName
  pub last : Option (List Content)

-- ---- slots

abbrev pub brand_under : List ℕ → List SlotName → Option ℕ
brand_under keyword [] = None
brand_under keyword (s ∷ ss) = if bytes_eq keyword s.keyword then Some s.brand else brand_under keyword ss

-- a slot that isn't there is added, last
abbrev pub with_slot : List ℕ → ℕ → List SlotName → List SlotName
with_slot keyword brand ss = if is_some (brand_under keyword ss) then ss else ss ++ record { keyword = keyword; brand = brand } ∷ []

abbrev pub with_amounts : List KeywordAmount → List SlotName → List SlotName
with_amounts [] ss = ss
with_amounts (a ∷ amounts) ss = with_amounts amounts (with_slot a.keyword a.brand ss)

abbrev pub with_holder : ℕ → ℕ → Holder → List SlotName → List SlotName
with_holder seat brand (Slot n keyword) ss = if n == seat then with_slot keyword brand ss else ss
with_holder seat brand _ ss = ss

-- ---- seats, which have the numbers 0, 1, 2 .. as they are opened

-- its slots are those of give, then those of want
abbrev pub new_seat : Opening → Seat
new_seat o = record { opening = o; slots = with_amounts o.want (with_amounts o.give []); last = None }

-- then those that movements name, by first naming
abbrev pub with_move : Move → Seat → Seat
with_move m s = record s { slots = with_holder s.opening.seat m.brand m.to (with_holder s.opening.seat m.brand m.from s.slots) }

abbrev pub contents_of : Table → Seat → List Content
contents_of t s = map (λ slot. holds t (Slot s.opening.seat slot.keyword) slot.brand) s.slots

-- once the seat of the number has exited
abbrev pub with_exit : Table → ℕ → Seat → Seat
with_exit t seat s = if s.opening.seat == seat then record s { last = Some (contents_of t s) } else s

pub record IsOpen (seats : List Seat) (number : ℕ) : Type 0 where
  pub seat : Seat
  pub was_opened : slice_get seats number ≡ Some seat
  pub stays : seat.last ≡ None

-- ---- offer safety, read from the table

-- the slot of a row's keyword has what the row says
abbrev pub IsCovered : Table → ℕ → KeywordAmount → Type 0
IsCovered t seat a = Contains (holds t (Slot seat a.keyword) a.brand) (content_of a.value)

-- all that is wanted is there, or all that was given
abbrev pub IsSafe : Table → Opening → Type 0
IsSafe t o = AllByRecursion (IsCovered t o.seat) o.want ⊎ AllByRecursion (IsCovered t o.seat) o.give

-- How contracts see the slots of a seat, as the names that rows give them, and what one had.
use Rattle.std.specs.Prelude.{◌≡◌, List, Option, Some, None, map}
use Rattle.std.specs.Borrow.{Bor}
use Rattle.row_records.specs.amount_math.Content.{Content, nothing}
use Rattle.row_records.specs.fair_rows.Seats.{SlotName}
use Rattle.told_seats.specs.declared.slots.SlotName.{SlotName as KeptName}

abbrev pub slot_view : KeptName → SlotName
slot_view s = record { keyword = s.keyword; brand = s.brand }

abbrev pub slots_view : List KeptName → List SlotName
slots_view ss = map slot_view ss

-- what was found is the content, which is nothing where none was found
abbrev pub IsLastOf : Option (Bor Content) → Content → Type 0
IsLastOf (Some found) c = found.now ≡ c
IsLastOf None c = c ≡ nothing

-- When a turn, as a journal prints it, shows that a payment is named by what moves it.
use Rattle.std.specs.Prelude.{◌≡◌, ◌⊎◌, ◌&&◌, ◌||◌, ℕ, Bool, true, false, List, codes}
use Rattle.std.specs.List.{AllByRecursion, list_any}
use Rattle.std.specs.Str.{bytes_eq}
use Rattle.serde_json.specs.Data as json
use Rattle.serde_json.specs.Data.{Data, Items, Members}
use Rattle.fair_laws.specs.fair_rows.ExitCauses.{is_call, is_ok, name}
use Rattle.fair_laws.specs.fair_rows.Rows.{is_service}
use Rattle.fair_laws.specs.world_state.rights_model.declared.Holder.{Holder}
use Rattle.fair_laws.specs.world_state.rights_model.declared.Holder.TheVariants.{Hand, Outside}
use Rattle.fair_laws.specs.world_state.rights_model.declared.Holder.TheVariants.{Payment, Purse}
use Rattle.fair_laws.specs.world_state.rights_model.declared.Holder.TheVariants.{Slot}
use Rattle.fair_laws.specs.world_state.turn_rows.Turns.{Event, Turn, called, moved}

-- ---- names in data

abbrev pub is_text : List ℕ → Data → Bool
is_text x (json.string s) = bytes_eq x s
is_text x _ = false

-- an object of the name, `{"@": name}`, stands somewhere in the data
abbrev mutual
  pub names : List ℕ → Data → Bool
  names x (json.array ds) = items_name x ds
  names x (json.object ms) = members_name x ms
  names x _ = false

  pub items_name : List ℕ → Items → Bool
  items_name x json.no_items = false
  items_name x (json.item d ds) = names x d || items_name x ds

  pub members_name : List ℕ → Members → Bool
  members_name x json.no_members = false
  members_name x (json.member k d ms) =
      (bytes_eq k (codes "@") && is_text x d) || (names x d || members_name x ms)

-- ---- rows

-- the turn is a call of one of the host's own objects that was answered, and its arguments name the object
abbrev pub served_with : List ℕ → Turn → Bool
served_with x t = is_service t.kind && is_ok t.answer && items_name x t.arguments

-- the row is a contract's call of a method that was answered, and its arguments name the object
abbrev pub is_call_with : List ℕ → Event → Bool
is_call_with x (called c) = is_call c.how && is_ok c.answer && items_name x c.arguments
is_call_with x _ = false

-- ---- payments

-- the turn, or one of its calls, names the payment
abbrev pub ShowsSpending : Turn → ℕ → Type 0
ShowsSpending t n =
    (served_with (name (codes "payment") n) t ≡ true)
    ⊎ (list_any (is_call_with (name (codes "payment") n)) t.events ≡ true)

-- ---- movements

-- what comes from a payment stands in a turn that names it
abbrev pub IsSpentByNameAt : Turn → Holder → Type 0
IsSpentByNameAt t (Payment n) = ShowsSpending t n
IsSpentByNameAt t Outside = Unit {0}
IsSpentByNameAt t (Purse n) = Unit {0}
IsSpentByNameAt t (Slot s k) = Unit {0}
IsSpentByNameAt t Hand = Unit {0}

abbrev pub IsSpentByNameRow : Turn → Event → Type 0
IsSpentByNameRow t (moved m) = IsSpentByNameAt t m.from
IsSpentByNameRow t _ = Unit {0}

-- each row of the turn is such
abbrev pub IsSpentByNameTurn : Turn → Type 0
IsSpentByNameTurn t = AllByRecursion (IsSpentByNameRow t) t.events

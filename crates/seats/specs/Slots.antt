-- The slots of a seat in memory: what is stored under each keyword, and what a change of one leaves.
use Rattle.std.specs.Prelude.{◌≡◌, ℕ, suc, ◌-◌, ◌<◌, List, [], ◌∷◌, if◌then◌else◌, length, map, slice_index_or, slice_set, refl}
use Rattle.std.specs.Coded.{Coded, code_by, coded×, coded_list, coded_ℕ}
use Rattle.std.specs.Str.{bytes_eq}
use Rattle.ertp_mint.specs.amount_math.Content.{nothing}
use Rattle.ertp_mint.specs.Balances.{BalanceView, coded_balance_view, empty_store, no_store}
use Rattle.proposals.specs.Shares.{keyed_share}
use Rattle.proposals.specs.declared.allocations.Share.{Share}

-- a slot: what is stored under its keyword
pub record SlotView : Type 0 where
  pub keyword : List ℕ
  pub stored : BalanceView

-- the numbers that stand for a slot, which a model needs
abbrev pub coded_slot : Coded SlotView
coded_slot = code_by (List ℕ × BalanceView) (coded× (coded_list coded_ℕ) coded_balance_view) (λ s. (s.keyword, s.stored)) (λ p. record { keyword = p.0; stored = p.1 }) (λ _. refl)

abbrev pub slot_of : List ℕ → BalanceView → SlotView
slot_of keyword stored = record { keyword = keyword; stored = stored }

-- a slot of a share's keyword and brand, with nothing
abbrev pub empty_slot : Share → SlotView
empty_slot r = slot_of r.keyword (empty_store r.amount.brand r.amount.value.kind)

-- what a slot has, as a share
abbrev pub share_in : SlotView → Share
share_in s = keyed_share s.keyword s.stored.amount

-- what slots have, as shares: an allocation (Zoe)
abbrev pub shares_in : List SlotView → List Share
shares_in slots = map share_in slots

-- what is read where there is no slot
abbrev pub no_slot : SlotView
no_slot = slot_of [] no_store

-- where the slot of a keyword stands, or how many slots there are where it has none
abbrev pub place_of : List ℕ → List SlotView → ℕ
place_of keyword [] = 0
place_of keyword (s ∷ ss) = if bytes_eq keyword s.keyword then 0 else suc (place_of keyword ss)

-- a keyword has a slot
abbrev pub HasSlot : List ℕ → List SlotView → Type 0
HasSlot keyword slots = place_of keyword slots < length slots

abbrev pub slot_at : List SlotView → ℕ → SlotView
slot_at slots place = slice_index_or slots place no_slot

-- what is stored under a keyword
abbrev pub stored_under : List ℕ → List SlotView → BalanceView
stored_under keyword slots = (slot_at slots (place_of keyword slots)).stored

-- the slot that stands last has nothing
pub record HasEmptyLast (slots : List SlotView) : Type 0 where
  pub some : 0 < length slots
  pub empty : (slot_at slots (length slots - 1)).stored.amount.value.content ≡ nothing

-- the slots with this stored at a place, under the keyword that is there
abbrev pub stored_at : ℕ → BalanceView → List SlotView → List SlotView
stored_at place stored slots = slice_set slots place (slot_of (slot_at slots place).keyword stored)

-- What the stores' lists are in the world's.
use Rattle.std.specs.Prelude.{is_none, slice_get, unwrap_or}
use Rattle.std.proofs.Common.{true≢false, ◌≡◌, ℕ, ◌+◌, ◌<◌, Bool, true, false, cond, List, [], ◌∷◌, Option, Some, None, length, map, refl, sym, ◌∙◌, ap, arith}
use Rattle.world_laws.specs.ertp_mint.Balances.{BalanceView, no_store}
use Rattle.world_laws.proofs.lemmas.ListEdits.{length_map, read_default, read_map}
use Rattle.world_laws.specs.proposals.declared.allocations.Share.{Share}
use Rattle.vault.specs.holders.Purses.{store_at}
use Rattle.world_laws.specs.vault_model.Lists.{purse_at}
use Rattle.world_laws.specs.vault_model.Seats.{KeptSeat, kept_seat_at, no_kept_seat, owed_by_all}
use Rattle.world_laws.specs.Views.{seat_of, slots_held}
use Rattle.vault.specs.seats.Seats.{SeatView, allocation_of}
use Rattle.vault.specs.seats.Slots.{shares_in}
use Rattle.vault.specs.seats.Store as store
use Rattle.vault.specs.Memory.{amount_in, kept_seat}
use Rattle.world_laws.specs.world_state.Good.{open_slots}
use Rattle.world_laws.specs.world_state.Worlds.{Seat, no_seat, seat_at}

pub purses_counted : (ss : List BalanceView) → length (map amount_in ss) ≡ length ss
purses_counted ss = length_map amount_in ss

pub purse_read : (ss : List BalanceView) (n : ℕ) → purse_at (map amount_in ss) n ≡ (store_at ss n).amount
purse_read ss n = read_map amount_in ss n no_store

-- ---- payments

-- for each slot of an open seat a payment is owed
pub owed_slots : (seats : List KeptSeat) → owed_by_all seats ≡ open_slots (map seat_of seats) (map slots_held seats)
owed_slots [] = refl
owed_slots (s ∷ ss) = ap (λ n. (if_open (is_none s.last)) + n) (owed_slots ss)
  where
    if_open : Bool → ℕ
    if_open b = cond b (length s.slots) 0

-- ---- seats

pub seats_counted : (ss : List SeatView) → length (map seat_of (map kept_seat ss)) ≡ length ss
seats_counted ss = length_map seat_of (map kept_seat ss) ∙ length_map kept_seat ss

-- what the world has of a seat
abbrev pub world_seat : SeatView → Seat
world_seat s = seat_of (kept_seat s)

pub seat_read : (ss : List SeatView) (n : ℕ) → n < length ss → seat_at (map seat_of (map kept_seat ss)) n ≡ world_seat (store.seat_at ss n)
seat_read ss n lt =
    read_default (map seat_of (map kept_seat ss)) n no_seat (seat_of no_kept_seat) (omega (arith, lt, seats_counted ss))
    ∙ read_map seat_of (map kept_seat ss) n no_kept_seat
    ∙ ap seat_of (read_map kept_seat ss n store.no_seat)

pub last_allocated : (s : SeatView) → is_none s.last ≡ false → Some (allocation_of s) ≡ s.last
last_allocated s left = by s.last left
  where
    by : (o : Option (List Share)) → is_none o ≡ false → Some (unwrap_or o (shares_in s.slots)) ≡ o
    by None is = absurd (true≢false is)
    by (Some shares) is = refl

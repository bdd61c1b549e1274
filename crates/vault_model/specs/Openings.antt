-- A seat of which more can be opened, and which can be closed.
use Rattle.std.specs.Prelude.{ℕ, ◌<◌, length}
use Rattle.vault_model.specs.Lists.{Lists}
use Rattle.vault_model.specs.Seats.{IsOpenSeat, kept_seat_at}
use Rattle.vault_model.specs.Tables.{IsSound, no_hand}

-- a seat that was made is open, where nothing is on its way and all adds up
pub record HasOpenSeat (s : Lists) (n : ℕ) : Type 0 where
  pub made : n < length s.seats
  pub is_open : IsOpenSeat (kept_seat_at s.seats n)
  pub sound : IsSound s no_hand

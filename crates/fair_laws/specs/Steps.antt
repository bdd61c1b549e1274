-- What a turn's effects show of a step, part by part.
use Rattle.std.specs.Prelude.{◌≡◌, ◌<◌, ◌≤◌, ℕ, ◌+◌, true, false, map}
use Rattle.std.specs.List.{AllByRecursion, flat_map}
use Rattle.fair_rows.specs.amount_math.Content.{nothing, sum}
use Rattle.fair_rows.specs.amount_math.Counted.{counted as size}
use Rattle.fair_rows.specs.amount_math.ValueView.{Fits, minted_bound}
use Rattle.delivery_laws.specs.delivery_turns.Hosts.{sums_of}
use Rattle.fair_laws.specs.Places.{rows_of}
use Rattle.fair_rows.specs.Movements.{movements_in, names, takes_from}
use Rattle.fair_rows.specs.Seats.{IsOpen, IsSafe}
use Rattle.fair_rows.specs.SoFar.{amounts_at}
use Rattle.fair_rows.specs.Steps.{IsKnown, ShowsRows, World, sum_in}
use Rattle.fair_rows.specs.rights_model.Supply.{burned, minted}
use Rattle.fair_rows.specs.rights_model.Table.{CanMoveAll, holds, table_after}
use Rattle.fair_rows.specs.rights_model.Totals.{brands_of}
use Rattle.fair_rows.specs.rights_model.declared.Holder.TheVariants.{Hand, Payment}
use Rattle.delivery_laws.specs.turn_records.Events.{moves_in}
use Rattle.fair_rows.specs.turn_rows.Turns.{Turn}
use Rattle.delivery_laws.specs.world_state.Worlds.{State}

-- the turn tells what the world's log has, and what there is of each brand that moved
pub record TellsLog (w : State) (t : Turn) : Type 0 where
  pub events : t.events ≡ rows_of w.log
  pub sums : t.sums ≡ sums_of w.rights (moves_in w.log)

-- movements, totals, brands and payments
pub record AccountsFor (w : World) (t : Turn) (next : World) : Type 0 where
  pub defined : CanMoveAll w.table (movements_in t.events)
  pub table : next.table ≡ table_after w.table (movements_in t.events)
  pub hand : (b : ℕ) → holds next.table Hand b ≡ nothing
  pub out : (b : ℕ) → sum (next.out b) (burned (movements_in t.events) b)
      ≡ sum (w.out b) (minted (movements_in t.events) b)
  pub minted_is : (b : ℕ) → next.minted b ≡ w.minted b + size (minted (movements_in t.events) b)
  pub burned_is : (b : ℕ) → next.burned b ≡ w.burned b + size (burned (movements_in t.events) b)
  pub fits : (b : ℕ) → Fits (next.kind_of b) (next.out b)
  pub minted_bounded : (b : ℕ) → next.minted b ≤ minted_bound
  pub sums : t.sums ≡ map (sum_in next) (brands_of (movements_in t.events))
  pub brands : w.brands ≤ next.brands
  pub kinds : (b : ℕ) → b < w.brands → next.kind_of b ≡ w.kind_of b
  pub values : AllByRecursion (IsKnown next) (flat_map amounts_at t.events)
  pub payments : w.payments ≤ next.payments
  pub made : (p : ℕ) → next.payments ≤ p → names p (movements_in t.events) ≡ false
  pub emptied : (p b : ℕ) → takes_from p (movements_in t.events) ≡ true
      → holds next.table (Payment p) b ≡ nothing
  pub live : (p : ℕ) → w.is_taken p ≡ true → names p (movements_in t.events) ≡ false
  pub taken : (p : ℕ) → w.is_taken p ≡ false
      → next.is_taken p ≡ takes_from p (movements_in t.events)
  pub stays_taken : (p : ℕ) → w.is_taken p ≡ true → next.is_taken p ≡ true

-- rows in their places, and open seats that are covered
pub record ShowsSeats (w : World) (t : Turn) (next : World) : Type 0 where
  pub rows : ShowsRows w t next
  pub safe : (seat : ℕ) (is_open : IsOpen next.seats seat) → IsSafe next.table is_open.seat.opening

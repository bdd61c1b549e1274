-- What a host's step shows of its own world, and the law that its turns stay fair: no turn before it is spoken of.
use Rattle.std.specs.Prelude.{◌≡◌, ◌<◌, ◌≤◌, ℕ, ◌+◌, Bool, true, false, List, [], ◌∷◌, ◌++◌, None, map}
use Rattle.std.specs.List.{AllByRecursion, flat_map}
use Rattle.turn_rows.specs.amount_math.Content.{Content, nothing, sum}
use Rattle.turn_rows.specs.amount_math.Counted.{counted as size}
use Rattle.turn_rows.specs.amount_math.ValueView.{Fits, minted_bound}
use Rattle.turn_rows.specs.amount_math.declared.Kind.{Kind}
use Rattle.turn_rows.specs.rights_model.Supply.{burned, minted}
use Rattle.turn_rows.specs.rights_model.Table.{CanMoveAll, Table, holds, no_holdings, table_after}
use Rattle.turn_rows.specs.rights_model.Totals.{brands_of, held_over, is_payment, is_purse, is_slot}
use Rattle.turn_rows.specs.rights_model.declared.Holder.TheVariants.{Hand, Payment}
use Rattle.turn_rows.specs.rights_model.declared.Movement.{Movement}
use Rattle.turn_rows.specs.rights_model.declared.Sum.{Sum}
use Rattle.serde_json.specs.Data.{Items}
use Rattle.turn_rows.specs.Editions.{written}
use Rattle.turn_rows.specs.HostForms.{HasHostForm}
use Rattle.turn_rows.specs.Turns.{Event, refused, Turn}
use Rattle.fair_rows.specs.Amounts.{IsReadByTurn}
use Rattle.fair_rows.specs.ExitCauses.{Owners, facets_made, first_cause, instance_of}
use Rattle.fair_rows.specs.Movements.{movements_in, names, takes_from}
use Rattle.fair_rows.specs.Rows.{ChangesNothing, InTurn, IsInPlace, after_event}
use Rattle.fair_rows.specs.Seats.{IsOpen, IsSafe, Seat}
use Rattle.fair_rows.specs.SoFar.{SoFar, amounts_at, nothing_so_far, with_turn}
use Rattle.fair_rows.specs.Strict.{AreStrict, IsStrictRow, IsStrictTurn, IsToldByTurn}
use Rattle.fair_rows.specs.Turns.{AreFair, IsCaused, IsFairTurn, after_events, after_turn_row}
use Rattle.fair_rows.specs.Values.{IsValueOf, Named}

-- ---- what lies between turns

pub record World : Type 0 where
  pub turns : ℕ
  pub table : Table
  -- of each brand: what is out, and the totals minted and burned
  pub out : ℕ → Content
  pub minted : ℕ → ℕ
  pub burned : ℕ → ℕ
  -- how many brands were made, and their kinds
  pub brands : ℕ
  pub kind_of : ℕ → Kind
  -- how many payments were made, and which were taken from
  pub payments : ℕ
  pub is_taken : ℕ → Bool
  pub seats : List Seat
  pub owners : Owners

abbrev pub sum_in : World → ℕ → Sum
sum_in w b = record {
  brand = b;
  minted = w.minted b;
  burned = w.burned b;
  purses = held_over is_purse w.table b;
  payments = held_over is_payment w.table b;
  slots = held_over is_slot w.table b;
}

-- a value of a brand that was made
pub record IsKnown (w : World) (a : Named) : Type 0 where
  pub made : a.0 < w.brands
  pub of_kind : IsValueOf (w.kind_of a.0) a.1

-- what the rows so far tell is what lies in the world
pub record Leaves (s : SoFar) (w : World) : Type 0 where
  pub turns : s.turns ≡ w.turns
  pub table : s.table ≡ w.table
  pub seats : s.seats ≡ w.seats
  pub owners : s.owners ≡ w.owners
  pub defined : CanMoveAll no_holdings s.moves
  pub made_of : s.table ≡ table_after no_holdings s.moves
  pub out : (b : ℕ) → sum (w.out b) (burned s.moves b) ≡ minted s.moves b
  pub minted_is : (b : ℕ) → w.minted b ≡ size (minted s.moves b)
  pub burned_is : (b : ℕ) → w.burned b ≡ size (burned s.moves b)
  pub values : AllByRecursion (IsKnown w) s.amounts
  pub taken : (p : ℕ) → w.is_taken p ≡ takes_from p s.moves
  pub made : (p : ℕ) → w.payments ≤ p → names p s.moves ≡ false

-- ---- a step

-- what the rows so far tell where a world lies, by whatever movements and amounts it came to that
abbrev pub so_far_in : World → List Movement → List Named → SoFar
so_far_in w moves amounts = record { turns = w.turns; table = w.table; moves = moves; amounts = amounts; seats = w.seats; owners = w.owners }

-- movements that name no payment past those made
abbrev pub AreMade : World → List Movement → Type 0
AreMade w moves = (p : ℕ) → w.payments ≤ p → names p moves ≡ false

-- each row is in its place after those before it, and is strict there
abbrev pub AreInPlace : InTurn → List Event → Type 0
AreInPlace i [] = Unit {0}
AreInPlace i (e ∷ es) = (IsInPlace i.due i e × IsStrictRow i e) × AreInPlace (after_event i e) es

-- where a turn stands after all its rows
abbrev pub at_end : World → Turn → List Movement → List Named → InTurn
at_end w t moves amounts = after_events (after_turn_row (so_far_in w moves amounts) t) t.events

-- the rows of a turn are in place, whatever made what lay there before; they leave nothing due, and the next world's seats
pub record ShowsRows (w : World) (t : Turn) (next : World) : Type 0 where
  pub place : (moves : List Movement) (amounts : List Named) → AreMade w moves → AreInPlace (after_turn_row (so_far_in w moves amounts) t) t.events
  pub complete : (moves : List Movement) (amounts : List Named) → AreMade w moves → (at_end w t moves amounts).due ≡ []
  pub seats : (moves : List Movement) (amounts : List Named) → AreMade w moves → (at_end w t moves amounts).now.seats ≡ next.seats

-- a step from one world to the next, with its turn
pub record IsStep (w : World) (t : Turn) (next : World) : Type 0 where
  pub number : t.number ≡ w.turns + 1
  pub turns : next.turns ≡ w.turns + 1
  -- movements
  pub defined : CanMoveAll w.table (movements_in t.events)
  pub table : next.table ≡ table_after w.table (movements_in t.events)
  pub hand : (b : ℕ) → holds next.table Hand b ≡ nothing
  -- totals
  pub out : (b : ℕ) → sum (next.out b) (burned (movements_in t.events) b) ≡ sum (w.out b) (minted (movements_in t.events) b)
  pub minted_is : (b : ℕ) → next.minted b ≡ w.minted b + size (minted (movements_in t.events) b)
  pub burned_is : (b : ℕ) → next.burned b ≡ w.burned b + size (burned (movements_in t.events) b)
  pub fits : (b : ℕ) → Fits (next.kind_of b) (next.out b)
  pub minted_bounded : (b : ℕ) → next.minted b ≤ minted_bound
  pub sums : t.sums ≡ map (sum_in next) (brands_of (movements_in t.events))
  -- brands and values
  pub brands : w.brands ≤ next.brands
  pub kinds : (b : ℕ) → b < w.brands → next.kind_of b ≡ w.kind_of b
  pub values : AllByRecursion (IsKnown next) (flat_map amounts_at t.events)
  -- payments
  pub payments : w.payments ≤ next.payments
  pub made : (p : ℕ) → next.payments ≤ p → names p (movements_in t.events) ≡ false
  pub emptied : (p b : ℕ) → takes_from p (movements_in t.events) ≡ true → holds next.table (Payment p) b ≡ nothing
  pub live : (p : ℕ) → w.is_taken p ≡ true → names p (movements_in t.events) ≡ false
  pub taken : (p : ℕ) → w.is_taken p ≡ false → next.is_taken p ≡ takes_from p (movements_in t.events)
  pub stays_taken : (p : ℕ) → w.is_taken p ≡ true → next.is_taken p ≡ true
  -- seats
  pub rows : ShowsRows w t next
  pub safe : (seat : ℕ) (is_open : IsOpen next.seats seat) → IsSafe next.table is_open.seat.opening
  pub stays : (seat : ℕ) (is_open : IsOpen next.seats seat) → first_cause w.owners t t.events is_open.seat.opening.instance seat ≡ None
  pub caused : AllByRecursion (IsCaused next.seats w.owners t t.events) t.events
  pub owners : next.owners ≡ w.owners ++ facets_made (instance_of w.owners t.kind t) t.events
  -- the turn row
  pub refusal : (code : List ℕ) (shown : Items) → t.answer ≡ refused code shown → AllByRecursion ChangesNothing t.events
  pub read : IsReadByTurn w.table w.seats t
  pub told : IsToldByTurn w.table w.seats t
  pub form : HasHostForm t

-- ---- the law

-- after whatever leaves the world the step's turn is fair, as one of the text that a run writes, and leaves the next world
abbrev pub StepsAreFair : Type 0
StepsAreFair = (w next : World) (t : Turn) (s : SoFar) → IsStep w t next → Leaves s w → IsFairTurn written s t × Leaves (with_turn s t) next

-- and it is strict
abbrev pub StepsAreStrict : Type 0
StepsAreStrict = (w next : World) (t : Turn) (s : SoFar) → IsStep w t next → Leaves s w → IsStrictTurn s t

abbrev pub so_far_after : List Turn → SoFar → SoFar
so_far_after [] s = s
so_far_after (t ∷ ts) s = so_far_after ts (with_turn s t)

-- for every fair list of turns that leaves the world, the list with this turn is fair, and leaves the next one
abbrev pub TurnsStayFair : Type 0
TurnsStayFair =
    (w next : World) (t : Turn) (ts : List Turn)
    → IsStep w t next
    → AreFair written ts
    → Leaves (so_far_after ts nothing_so_far) w
    → AreFair written (ts ++ t ∷ []) × Leaves (so_far_after (ts ++ t ∷ []) nothing_so_far) next

-- for every strict list of turns that leaves the world, the list with this turn is strict
abbrev pub TurnsStayStrict : Type 0
TurnsStayStrict =
    (w next : World) (t : Turn) (ts : List Turn)
    → IsStep w t next
    → AreStrict ts
    → Leaves (so_far_after ts nothing_so_far) w
    → AreStrict (ts ++ t ∷ [])

-- What rows tell together, made of them alone, row by row: all that a reader has to keep.
use Rattle.std.specs.Prelude.{ℕ, ◌+◌, List, [], ◌∷◌, ◌++◌, map}
use Rattle.turn_rows.specs.amount_math.Counted.{counted as size}
use Rattle.turn_rows.specs.rights_model.Supply.{burned, minted}
use Rattle.turn_rows.specs.rights_model.Table.{Table, moved as table_moved, no_holdings}
use Rattle.turn_rows.specs.rights_model.Totals.{held_over, is_payment, is_purse, is_slot}
use Rattle.turn_rows.specs.rights_model.declared.Movement.{Movement}
use Rattle.turn_rows.specs.rights_model.declared.Sum.{Sum}
use Rattle.turn_rows.specs.Turns.{called, Event, exited, KeywordAmount, moved, opened, settled, Turn}
use Rattle.fair_rows.specs.ExitCauses.{Owners, facets_made, instance_of}
use Rattle.fair_rows.specs.Movements.{movement_of}
use Rattle.fair_rows.specs.Seats.{Seat, new_seat, with_exit, with_move}
use Rattle.fair_rows.specs.Values.{Named}

-- how many turns there were, who holds what, the movements, the amounts that they and open rows name, the seats, and the facets with their instances
pub record SoFar : Type 0 where
  pub turns : ℕ
  pub table : Table
  pub moves : List Movement
  pub amounts : List Named
  pub seats : List Seat
  pub owners : Owners

abbrev pub nothing_so_far : SoFar
nothing_so_far = record { turns = 0; table = no_holdings; moves = []; amounts = []; seats = []; owners = [] }

abbrev pub amounts_at : Event → List Named
amounts_at (moved m) = (m.brand, m.value) ∷ []
amounts_at (opened o) = map (λ (a : KeywordAmount). (a.brand, a.value)) (o.give ++ o.want)
amounts_at _ = []

-- with one more row
abbrev pub with_row : SoFar → Event → SoFar
with_row s (called c) = s
with_row s (opened o) = record s { amounts = s.amounts ++ amounts_at (opened o); seats = s.seats ++ new_seat o ∷ [] }
with_row s (moved m) = record s { table = table_moved s.table (movement_of m); moves = s.moves ++ movement_of m ∷ []; amounts = s.amounts ++ amounts_at (moved m); seats = map (with_move m) s.seats }
with_row s (exited x) = record s { seats = map (with_exit s.table x.seat) s.seats }
with_row s (settled promise result) = s

abbrev pub with_rows : SoFar → List Event → SoFar
with_rows s [] = s
with_rows s (e ∷ es) = with_rows (with_row s e) es

abbrev pub with_turn : SoFar → Turn → SoFar
with_turn s t = record (with_rows s t.events) { turns = s.turns + 1; owners = s.owners ++ facets_made (instance_of s.owners t.kind t) t.events }

-- a brand's totals
abbrev pub sum_so_far : SoFar → ℕ → Sum
sum_so_far s b = record {
  brand = b;
  minted = size (minted s.moves b);
  burned = size (burned s.moves b);
  purses = held_over is_purse s.table b;
  payments = held_over is_payment s.table b;
  slots = held_over is_slot s.table b;
}

-- A seat that is left because its instance halts.
use Rattle.std.specs.Prelude.{ℕ, List, [], ◌∷◌, is_none, if◌then◌else◌}
use Rattle.rules.specs.turn_rows.Causes.{halted}
use Rattle.rules.specs.world_state.Worlds.{Effect, State, exit, seat_at}

abbrev pub exit_if_open : State → ℕ → List Effect
exit_if_open w seat = if is_none (seat_at w.seats seat).last then exit seat halted ∷ [] else []

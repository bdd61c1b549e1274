-- What is in front of what waits, beside what settling comes to.
use Rattle.std.specs.Prelude.{◌∷◌}
use Rattle.world_state.specs.turn_records.Deliveries.{Delivery}
use Rattle.world_state.specs.Promises.{Resolved}

-- promises and what was told, with a delivery in front of what waits
abbrev pub with_front : Delivery → Resolved → Resolved
with_front d r = record r { waiting = d ∷ r.waiting }

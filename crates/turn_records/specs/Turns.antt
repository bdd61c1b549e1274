-- A turn: its number, what was delivered and what was read for it, what it came to, what happened in it, and the sums at its end.
use Rattle.std.specs.Prelude.{ℕ, List}
use Rattle.turn_rows.specs.rights_model.declared.Sum.{Sum}
use Rattle.turn_records.specs.Deliveries.{Delivery, Reading}
use Rattle.turn_records.specs.Events.{Answer, Event}

pub record Turn : Type 0 where
  pub number : ℕ
  pub delivery : Delivery
  pub reading : Reading
  pub answer : Answer
  pub events : List Event
  pub sums : List Sum

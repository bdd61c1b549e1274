use Rattle.world_laws.proofs.Fronts.{begins, due_behind, good_behind, in_hand}
use Rattle.world_laws.proofs.laws.a_turn_has_its_delivery.Goals as goal

pub returns : goal.returns
returns c = record { begins = begins; behind = good_behind; due = due_behind; own = in_hand }

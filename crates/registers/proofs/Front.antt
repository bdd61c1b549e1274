-- The delivery in front, and what waits behind it, as the world sees them.
use Rattle.std.proofs.Common.{◌≡◌, List, [], ◌∷◌, Option, Some, None, drop, ◌∙◌, refl, ap}
use Rattle.std.specs.Prelude.{slice_get}
use Rattle.registers.specs.PromiseTables.{waiting_of}
use Rattle.world_state.specs.turn_records.Views.{delivery_view}
use Rattle.world_state.specs.turn_records.declared.deliveries.Delivery.{Delivery}
use Rattle.world_state.specs.turn_records.Deliveries as deliveries
use Rattle.registers.specs.RegisterStates.{front_of, no_delivery}

front_seen : Option Delivery → deliveries.Delivery
front_seen None = no_delivery
front_seen (Some d) = delivery_view d

front_is : (ds : List Delivery) → front_seen (slice_get ds 0) ≡ front_of (waiting_of ds)
unfolding front_seen
front_is [] = refl
front_is (d ∷ ds) = refl

pub front_view : (ds : List Delivery) (d : Delivery) → Some d ≡ slice_get ds 0 → delivery_view d ≡ front_of (waiting_of ds)
unfolding front_seen
front_view ds d h = ap front_seen h ∙ front_is ds

pub behind_view : (ds : List Delivery) → waiting_of (drop 1 ds) ≡ drop 1 (waiting_of ds)
behind_view [] = refl
behind_view (d ∷ ds) = refl

-- What a turn takes from outside and from purses is shown by its rows, part by part.
use Rattle.std.specs.Prelude.{◌≡◌, ℕ, List, None, refl}
use Rattle.std.specs.List.{AllByRecursion}
use Rattle.std.proofs.Common.{◌∙◌, ap}
use Rattle.fair_laws.specs.delivery_laws.Works.{AreGoodHostCalls}
use Rattle.fair_laws.specs.fair_rows.ExitCauses.{is_ok}
use Rattle.fair_laws.specs.world_state.turn_records.Deliveries.{Delivery, Reading}
use Rattle.fair_laws.specs.world_state.turn_records.Events.{Answer}
use Rattle.fair_laws.specs.world_state.turn_records.Printed.{kind_of, kind_on, method_of, on_of, printed_answer, printed_trees, trees_of}
use Rattle.fair_laws.specs.world_state.host_data.declared.data.ObjKind.{ObjKind}
use Rattle.fair_laws.specs.world_state.host_data.declared.data.ObjKind.TheVariants as kinds
use Rattle.fair_laws.specs.world_state.turn_rows.Kinds as turn_kinds
use Rattle.fair_laws.specs.world_state.turn_rows.Turns.{Turn}
use Rattle.fair_laws.proofs.world_laws.Lists.{all_append}
use Rattle.fair_laws.specs.world_state.Worlds.{Effect, State}
use Rattle.licence_laws.specs.Came.{instance_behind}
use Rattle.licence_laws.proofs.Effects.{AllTakeAsShown, TakesAsShown, first_all, second_all, still_takes}
use Rattle.licence_laws.proofs.Rows.{IsRowOf, call_takes, handed_ordered, service_row_takes}
use Rattle.licence_laws.proofs.Told.{IsToldIn}
use Rattle.licence_laws.proofs.Works.{Parts}

-- the turn's row is that of the delivery, of what was read for it and of what was answered
pub record IsTurnRow (t : Turn) (d : Delivery) (r : Reading) (a : Answer) : Type 0 where
  pub kind : t.kind ≡ kind_of d r
  pub on : t.on ≡ on_of d r
  pub method : t.method ≡ method_of d
  pub arguments : t.arguments ≡ printed_trees (trees_of d r)
  pub answer : t.answer ≡ printed_answer a

-- what runs no function is a service
of_service : (w : State) (k : ObjKind) (n : ℕ) → instance_behind w k n ≡ None → kind_on k ≡ turn_kinds.service
of_service w kinds.Facet n e = cc
of_service w k n e = refl

-- of a turn whose row is that of the delivery, and in whose rows all its calls are told
abbrev pub WorkTakes : Turn → Delivery → Reading → Answer → State → List Effect → Type 0
WorkTakes t d r a w es = IsTurnRow t d r a → AllByRecursion (IsToldIn t) es → AllTakeAsShown t es

pub parts_take : (t : Turn) (called : AreGoodHostCalls) (w : State) (d : Delivery) → Parts w d (WorkTakes t d)
parts_take t called w d = record {
  none = λ r a v row told. tt;
  both = λ r a v es fs one two row told.
      all_append (TakesAsShown t) es fs (one row (first_all (IsToldIn t) es fs told)) (two row (second_all (IsToldIn t) es fs told));
  still = λ r a v e still row told. (still_takes t e still, tt);
  leaves = λ r a v seat cause grown may row told. (tt, tt);
  calls = λ r a v i c runs good grown made known row told. call_takes t called v i good made c known told;
  serves = λ m calling o args answer es alone target handed is row told.
      let made : IsRowOf t o m args = record {
        kind = row.kind ∙ calling.kind o args;
        on = row.on ∙ calling.on o args;
        method = row.method ∙ calling.method;
        arguments = row.arguments ∙ ap printed_trees (calling.arguments o args);
        answered = ap is_ok row.answer;
      } in
      service_row_takes t o m args made (of_service w o.kind o.number alone) (handed_ordered w args handed) w answer es is;
}

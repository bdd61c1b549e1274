-- What the parts of transfers come to, step by step.
use Rattle.std.specs.Prelude.{◌≡◌, ℕ, List, Ok, Result, Some}
use Rattle.rules.specs.call_arguments.Arguments.{list_at}
use Rattle.host_data.specs.Amounts.{read_all}
use Rattle.rules.specs.Outcomes.{Outcome}
use Rattle.rules.specs.Words.{runs}
use Rattle.host_data.specs.Tree.{Tree, list_of, null}
use Rattle.host_data.specs.declared.data.ObjKind.TheVariants as kinds
use Rattle.rearrange.specs.TestedPlans.{can_take_part, transfer_changes}
use Rattle.rules.specs.proposals.declared.plans.Touched.{Touched}
use Rattle.rules.specs.call_arguments.Lists.{objects_in}
use Rattle.refusals.specs.Codes.{bad_args}
use Rattle.refusals.specs.Outcomes.{◌>>=◌, ◌>>◌, wanted}
use Rattle.refusals.specs.declared.codes.Refusal.{Refusal}
use Rattle.rules.specs.Rearranging.{Parts, carried_out, parts_in, seat_trees, states_for, transfers_in}
use Rattle.rules.specs.States.{has_room}
use Rattle.rules.specs.world_state.Known.{IsKnownTo}
use Rattle.rules.specs.world_state.Worlds.{State}

-- they are read of data that an instance may hold
pub record AreFromData (w : State) (list : List Parts) : Type 0 where
  pub caller : ℕ
  pub tree : Tree
  pub items : List Tree
  pub known : IsKnownTo w caller tree
  pub listed : list_of tree ≡ Some items
  pub reads : read_all parts_in items ≡ Some list

-- what the transfers come to between their seats
unfoldable pub changed : State → ℕ → List ℕ → List Parts → Result (List Touched) Refusal
changed w i seats list = do
  transfers ← transfers_in w i list
  transfer_changes (states_for w seats) transfers

-- the same, where the seats can take part
unfoldable pub tested : State → ℕ → List ℕ → List Parts → Result (List Touched) Refusal
tested w i seats list = do
  can_take_part i (states_for w seats) seats
  changed w i seats list

-- what touched seats come to, where there is room
unfoldable pub carried : State → List Touched → Outcome
carried w touched = has_room w touched 0 >> Ok (null, carried_out touched)

-- the rest of the rule
unfoldable pub moved : State → ℕ → List ℕ → List Parts → Outcome
moved w i seats list = do
  touched ← tested w i seats list
  carried w touched

unfoldable pub seats_moved : State → ℕ → List Parts → Outcome
seats_moved w i list = do
  seats ← objects_in kinds.Zseat 1 (seat_trees list)
  moved w i seats list

unfoldable pub parts_at : List Tree → Result (List Parts) Refusal
parts_at args = do
  items ← list_at 1 args
  wanted (read_all parts_in items) (bad_args 1)

-- the rule, by these steps
unfoldable pub rearranged : State → ℕ → List Tree → Outcome
rearranged w i args = do
  runs w i
  list ← parts_at args
  seats_moved w i list

-- That what is answered of holdings is what is held.
use Rattle.std.specs.Prelude.{◌≡◌, ℕ, List, Some, None, Ok}
use Rattle.delivery_laws.specs.rules.Obligations.{CanCall}
use Rattle.delivery_laws.specs.turn_records.Names.{object_name}
use Rattle.delivery_laws.specs.turn_records.PrintedData.{printed}
use Rattle.fair_laws.specs.Owed.{answered}
use Rattle.fair_laws.specs.Places.{seats_told}
use Rattle.fair_rows.specs.Amounts.{IsReadByCall, IsReadByTurn}
use Rattle.delivery_laws.specs.host_data.Tree.{Tree}
use Rattle.delivery_laws.specs.host_data.declared.data.Obj.{Obj}
use Rattle.delivery_laws.specs.world_laws.Tables.{table_of}
use Rattle.delivery_laws.specs.rules.Zoe.{TextReader}
use Rattle.delivery_laws.specs.rules.Methods.{serve as service, serve_own}
use Rattle.delivery_laws.specs.turn_records.Printed.{printed_call, printed_trees}
use Rattle.fair_rows.specs.Strict.{IsToldByCall, IsToldByTurn}
use Rattle.fair_rows.specs.turn_rows.Turns.{Call, Turn, ok}
use Rattle.delivery_laws.specs.world_state.Worlds.{Effect, State}
use Rattle.fair_laws.specs.Views.{IsCounted, IsSteady}

-- what a call answers is what there is, and is told whole
pub record IsTold (w : State) (c : Call) : Type 0 where
  pub read : IsReadByCall (table_of w.rights) c
  pub told : IsToldByCall (table_of w.rights) (seats_told w) c

-- and so what a turn answers
pub record IsTurnTold (w : State) (t : Turn) : Type 0 where
  pub read : IsReadByTurn (table_of w.rights) (seats_told w) t
  pub told : IsToldByTurn (table_of w.rights) (seats_told w) t

-- by a call of an instance's function
abbrev pub CallsRead : Type 0
CallsRead =
    (w : State) (i : ℕ) (o : Obj) (m : List ℕ) (args : List Tree) (answer : Tree) (es : List Effect)
    → IsCounted w → CanCall w (Some i) o args → serve_own w o m args ≡ Ok (answer, es)
    → IsTold w (printed_call (answered o m args answer))

-- a turn in which a method of an object was called, and answered
pub record IsAnsweredTurn (o : Obj) (m : List ℕ) (args : List Tree) (answer : Tree) (t : Turn) : Type 0 where
  pub on : t.on ≡ object_name o
  pub method : t.method ≡ m
  pub arguments : t.arguments ≡ printed_trees args
  pub answered : t.answer ≡ ok (printed answer)

-- by a turn in which a method of one of the host's own objects is called
abbrev pub ServicesRead : TextReader → Type 0
ServicesRead read =
    (w : State) (o : Obj) (m : List ℕ) (args : List Tree) (answer : Tree) (es : List Effect) (t : Turn)
    → IsSteady w → CanCall w None o args → service read w o m args ≡ Ok (answer, es)
    → IsAnsweredTurn o m args answer t → IsTurnTold w t

-- What turns of a run tell where they were refused or spent their meter, and that turns of a run can be printed.
use Rattle.std.specs.Prelude.{◌≡◌, ℕ, List, [], ◌∷◌, map}
use Rattle.std.specs.List.{AllByRecursion, flat_map}
use Rattle.run_laws.specs.Runs.{HostTurn}
use Rattle.message_lines.specs.rights_model.declared.Holder.TheVariants.{Slot}
use Rattle.serde_json.specs.Data.{Items}
use Rattle.licence_laws.specs.turn_writer.Printing.{CanPrint}
use Rattle.message_lines.specs.turn_rows.Turns.{Event, Move, SeatExit, Settlement, Turn, exited, moved, refused, settled, spent}

-- ---- turns that spent their meter

-- a seat is left, and its slots are paid out; or a promise is settled
pub data Piece : Type 0 where
  leaving : SeatExit → List Move → Piece
  settlement : ℕ → Settlement → Piece

abbrev pub events_of : Piece → List Event
events_of (leaving x ms) = exited x ∷ map moved ms
events_of (settlement promise s) = settled promise s ∷ []

-- what moves is a slot's of the seat
pub record IsOfSeat (seat : ℕ) (m : Move) : Type 0 where
  pub keyword : List ℕ
  pub from : m.from ≡ Slot seat keyword

abbrev pub IsPaidOut : Piece → Type 0
IsPaidOut (leaving x ms) = AllByRecursion (IsOfSeat x.seat) ms
IsPaidOut (settlement promise s) = Unit {0}

-- the events are those of such pieces
pub record TellsPieces (es : List Event) : Type 0 where
  pub pieces : List Piece
  pub told : es ≡ flat_map events_of pieces
  pub each : AllByRecursion IsPaidOut pieces

-- ---- turns that were refused

abbrev pub IsSettlement : Event → Type 0
IsSettlement (settled promise s) = Unit {0}
IsSettlement _ = ⊥

-- Of a turn that was refused settlements are told alone; of one that spent its meter, that seats are left, and
-- settlements. Fairness asks less.
pub record TellsLittle (t : Turn) : Type 0 where
  pub refused : (code : List ℕ) (shown : Items) → t.answer ≡ refused code shown
      → AllByRecursion IsSettlement t.events
  pub spent : (meter : ℕ) → t.answer ≡ spent meter → TellsPieces t.events

-- ---- turns of runs

-- the record of a turn that was made can be printed
abbrev pub CanBePrinted : HostTurn → Type 0
CanBePrinted t = CanPrint t.step.turn

-- Movements that are made together, as they are written, and what each way of making them asks of them.
use Rattle.std.specs.Prelude.{List}
use Rattle.registers.specs.world_state.Shapes.{AreMovements, IsCombination, IsRearrangement, IsSplit}
use Rattle.registers.specs.rights_model.declared.Movement.{Movement}
use Rattle.call_outcomes.specs.declared.moves.Moves.{Moves}
use Rattle.call_outcomes.specs.declared.moves.Moves.TheVariants as ways

abbrev pub moves_view : Moves → List Movement
moves_view (ways.Movements ms) = ms.items
moves_view (ways.Combination ms) = ms.items
moves_view (ways.Split ms) = ms.items
moves_view (ways.Rearrangement ms) = ms.items

abbrev pub HasShape : Moves → Type 0
HasShape (ways.Movements ms) = AreMovements ms.items
HasShape (ways.Combination ms) = IsCombination ms.items
HasShape (ways.Split ms) = IsSplit ms.items
HasShape (ways.Rearrangement ms) = IsRearrangement ms.items

-- What the world's objects and functions are named, and what is held, can be printed.
use Rattle.std.specs.List.{AllByRecursion}
use Rattle.std.proofs.Common.{ℕ, List, [], ◌∷◌, Option, Some, None, arith}
use Rattle.turn_writer.specs.host_data.Nodes.{Both, IsShallow, ObjectIs}
use Rattle.turn_writer.proofs.host_data.Nodes.{both, weaker}
use Rattle.turn_writer.specs.host_data.Tree as trees
use Rattle.turn_writer.specs.host_data.Tree.{Tree}
use Rattle.turn_writer.specs.host_data.declared.data.Obj.{Obj}
use Rattle.turn_writer.specs.host_data.declared.data.ObjKind.{ObjKind}
use Rattle.turn_writer.specs.host_data.declared.data.ObjKind.TheVariants as kinds
use Rattle.turn_writer.specs.Printing.{CanPrintAll, CanPrintData, CanPrintNode, IsBrandBelow}
use Rattle.delivery_turns.specs.world_state.Good.{IsGoodWorld}
use Rattle.delivery_turns.specs.world_state.Known.{HasNames, IsFormed, ObjectKnown, known_as, made_as}
use Rattle.delivery_turns.specs.world_state.Worlds.{State}

module _ (w : State) (good : IsGoodWorld w) where
  below_made : (k : ObjKind) (n : ℕ) → made_as w k n → IsBrandBelow k n
  below_made (kinds.Brand kind) n is = omega (arith, is.made, good.brands.few)
  below_made kinds.Issuer n is = omega (arith, is, good.brands.few)
  below_made kinds.Mint n is = omega (arith, is.made, good.brands.few, good.brands.made_by)
  below_made kinds.Zmint n is = absurd is
  below_made k n is = tt

  below_known : (i : ℕ) (k : ObjKind) (n : ℕ) → known_as i w k n → IsBrandBelow k n
  below_known i kinds.Zcf n is = tt
  below_known i kinds.Zseat n is = tt
  below_known i kinds.Zmint n is = omega (arith, is.made, good.brands.few, good.brands.made_by)
  below_known i k n is = below_made k n is

  pub below : (h : Option ℕ) (o : Obj) → ObjectKnown h w o → IsBrandBelow o.kind o.number
  below None o is = below_made o.kind o.number is
  below (Some i) o is = below_known i o.kind o.number is

  prints_node : (h : Option ℕ) (n : ℕ) (t : Tree) → Both (ObjectIs (ObjectKnown h w)) (Both HasNames (IsShallow 32)) n t → CanPrintNode n t
  prints_node h n (trees.array ts) is = is.1.1
  prints_node h n (trees.fields fs) is = (is.1.1, is.1.0)
  prints_node h n (trees.object o) is = below h o is.0
  prints_node h n (trees.function f) is = is.1.0
  prints_node h n trees.null is = tt
  prints_node h n (trees.boolean b) is = tt
  prints_node h n (trees.number z) is = tt
  prints_node h n (trees.text s) is = tt

  pub formed_prints : (h : Option ℕ) (t : Tree) → IsFormed w h t → CanPrintData t
  formed_prints h t is =
      weaker (Both (ObjectIs (ObjectKnown h w)) (Both HasNames (IsShallow 32))) CanPrintNode (prints_node h) 0 t
      (both (ObjectIs (ObjectKnown h w)) (Both HasNames (IsShallow 32)) 0 t is.objects (both HasNames (IsShallow 32) 0 t is.named is.shallow))

  pub all_print : (h : Option ℕ) (ts : List Tree) → AllByRecursion (IsFormed w h) ts → CanPrintAll ts
  all_print h [] is = tt
  all_print h (t ∷ ts) is = (formed_prints h t is.0, all_print h ts is.1)

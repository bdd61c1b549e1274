-- What the world holds can be printed.
use Rattle.std.specs.List.{AllByRecursion}
use Rattle.std.proofs.Common.{◌≡◌, inl, inr, ℕ, ◌<◌, true, List, [], ◌∷◌, Some, None, Option, subst, arith}
use Rattle.world_state.proofs.host_data.Nodes.{both, weaker}
use Rattle.world_state.specs.host_data.Nodes.{Both, EachNode, IsShallow, ObjectIs}
use Rattle.world_state.specs.turn_records.Names.{numbers_end}
use Rattle.world_state.specs.turn_records.Printable.{HasForm, IsPrintable}
use Rattle.world_state.specs.host_text.Words.{is_field_name}
use Rattle.world_state.specs.actors.Tables.{instance_at, no_module}
use Rattle.world_state.specs.jessie_grammar.Syntax.{Routine, routines}
use Rattle.world_state.specs.host_data.Tree.{Tree, array, boolean, fields, function, null, number, object, text}
use Rattle.world_state.specs.host_data.declared.data.ObjKind.{ObjKind}
use Rattle.world_state.specs.host_data.declared.data.ObjKind.TheVariants as kinds
use Rattle.world_state.specs.turn_rows.Form.{objects_end}
use Rattle.world_state.specs.Good.{IsGoodWorld, IsModule}
use Rattle.world_state.specs.Known.{HasFunction, HasNames, HasWidth, IsFormed, IsNamed, ObjectKnown, known_as, made_as, module_of}
use Rattle.world_state.specs.Worlds.{State}
use Rattle.world_laws.proofs.Lists.{all_read}

named_among : (f : List ℕ) (rs : List Routine) → IsNamed f rs → AllByRecursion (λ (r : Routine). is_field_name r.name ≡ true) rs → is_field_name f ≡ true
named_among f [] is all = absurd is
named_among f (r ∷ rs) (inl same) all = subst (λ k. is_field_name k ≡ true) same all.0
named_among f (r ∷ rs) (inr is) all = named_among f rs is all.1

pub function_named : (w : State) (i : ℕ) (f : List ℕ) → IsGoodWorld w → HasFunction w.tables i f → is_field_name f ≡ true
function_named w i f good has =
    named_among f (routines (module_of w.tables i)) has.named
    (all_read IsModule w.tables.installations (instance_at w.tables.instances i).installation no_module good.modules has.installed).named

module _ (w : State) (good : IsGoodWorld w) where
  of_made : (k : ObjKind) (n : ℕ) → n < objects_end → made_as w k n → n < numbers_end k
  of_made (kinds.Brand kind) n lt made = omega (arith, made.made, good.brands.few)
  of_made kinds.Issuer n lt made = omega (arith, made, good.brands.few)
  of_made kinds.Mint n lt made = omega (arith, made.made, good.brands.few, good.brands.made_by)
  of_made kinds.Zmint n lt made = absurd made
  of_made kinds.Ertp n lt made = lt
  of_made kinds.Zoe n lt made = lt
  of_made kinds.Timer n lt made = lt
  of_made kinds.Purse n lt made = lt
  of_made kinds.Deposit n lt made = lt
  of_made kinds.Payment n lt made = lt
  of_made kinds.Installation n lt made = lt
  of_made kinds.Instance n lt made = lt
  of_made kinds.Zcf n lt made = lt
  of_made kinds.Seat n lt made = lt
  of_made kinds.Zseat n lt made = lt
  of_made kinds.Facet n lt made = lt
  of_made kinds.Promise n lt made = lt

  of_known : (i : ℕ) (k : ObjKind) (n : ℕ) → n < objects_end → known_as i w k n → n < numbers_end k
  of_known i kinds.Zcf n lt known = lt
  of_known i kinds.Zseat n lt known = lt
  of_known i kinds.Zmint n lt known = omega (arith, known.made, good.brands.few, good.brands.made_by)
  of_known i k n lt known = of_made k n lt known

  module _ (holder : Option ℕ) where
    object_form : (h : Option ℕ) (k : ObjKind) (n : ℕ) → n < objects_end → ObjectKnown h w (record { kind = k; number = n }) → n < numbers_end k
    object_form None k n lt is = of_made k n lt is
    object_form (Some i) k n lt is = of_known i k n lt is

    node_form : (n : ℕ) (t : Tree) → Both (ObjectIs (ObjectKnown holder w)) (Both HasNames (Both (IsShallow 32) HasWidth)) n t → HasForm n t
    node_form n null h = tt
    node_form n (boolean b) h = tt
    node_form n (number z) h = h.1.1.1
    node_form n (text s) h = h.1.1.1
    node_form n (array ts) h = h.1.1.0
    node_form n (fields fs) h = (h.1.1.0, h.1.0)
    node_form n (object o) h = object_form holder o.kind o.number h.1.1.1 h.0
    node_form n (function name) h = h.1.0

    pub formed_printable : (t : Tree) → IsFormed w holder t → EachNode HasWidth 0 t → IsPrintable t
    formed_printable t is wide =
        let objects = ObjectIs (ObjectKnown holder w) in
        let sized = both (IsShallow 32) HasWidth 0 t is.shallow wide in
        let named = both HasNames (Both (IsShallow 32) HasWidth) 0 t is.named sized in
        weaker (Both objects (Both HasNames (Both (IsShallow 32) HasWidth))) HasForm node_form 0 t
        (both objects (Both HasNames (Both (IsShallow 32) HasWidth)) 0 t is.objects named)

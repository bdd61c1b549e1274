-- What the lines of parties ask for, before the paths in them are resolved.
use Rattle.std.specs.Prelude.{ℕ, ℤ, Bool, List, Option}

-- data as a line has it: in place of an object stands the path that leads to it
mutual
  pub data Part : Type 0 where
    null : Part
    boolean : Bool → Part
    number : ℤ → Part
    text : List ℕ → Part
    array : Parts → Part
    fields : FieldParts → Part
    path : List ℕ → Part

  pub data Parts : Type 0 where
    no_parts : Parts
    part : Part → Parts → Parts

  pub data FieldParts : Type 0 where
    no_fields : FieldParts
    field : List ℕ → Part → FieldParts → FieldParts

-- a call: who asks for it, the path of the target, the method, the arguments, and the label for the answer
pub record LineCall : Type 0 where
  pub by : List ℕ
  pub on : List ℕ
  pub method : List ℕ
  pub arguments : Parts
  pub label : Option (List ℕ)

-- what a party gives to another: who gives, the path of what is given, the receiver, and the receiver's label for it
pub record LineGift : Type 0 where
  pub by : List ℕ
  pub given : List ℕ
  pub to : List ℕ
  pub label : List ℕ

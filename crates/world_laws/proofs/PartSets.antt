-- Data with paths is a set: two parts are the same in at most one way.
use Rattle.std.proofs.Common.{◌≡◌, ℕ, ℤ, Bool, List, [], ◌∷◌, refl, ap, ◌∙◌}
use mathlib.Core.List.{is_set as List-set}
use denote.Struct.Props.{props}
use mathlib.Core.HLevel.{prop→set, Unit-prop}
use Rattle.world_laws.proofs.TreeSets.{retract_set}
use Rattle.world_state.specs.turn_records.Messages.{FieldParts, Part, Parts, array, boolean, field, fields, no_fields, no_parts, null, number, part, path, text}

-- ---- parts as a list of tokens, each part before what it is a part of

data Token : Type 0 where
  a_null : Token
  a_boolean : Bool → Token
  a_number : ℤ → Token
  a_text : List ℕ → Token
  a_path : List ℕ → Token
  an_array : Token
  a_record : Token
  last_item : Token
  an_item : Token
  last_field : Token
  a_field : List ℕ → Token

data Read : Type 0 where
  one_read : Part → Read
  items_read : Parts → Read
  fields_read : FieldParts → Read

abbrev close_array : List Read → List Read
close_array (items_read ts ∷ ps) = one_read (array ts) ∷ ps
close_array _ = []

abbrev close_record : List Read → List Read
close_record (fields_read fs ∷ ps) = one_read (fields fs) ∷ ps
close_record _ = []

abbrev put_item : List Read → List Read
put_item (items_read ts ∷ (one_read t ∷ ps)) = items_read (part t ts) ∷ ps
put_item _ = []

abbrev put_field : List ℕ → List Read → List Read
put_field x (fields_read fs ∷ (one_read t ∷ ps)) = fields_read (field x t fs) ∷ ps
put_field x _ = []

abbrev take_token : Token → List Read → List Read
take_token a_null ps = one_read null ∷ ps
take_token (a_boolean b) ps = one_read (boolean b) ∷ ps
take_token (a_number z) ps = one_read (number z) ∷ ps
take_token (a_text t) ps = one_read (text t) ∷ ps
take_token (a_path t) ps = one_read (path t) ∷ ps
take_token an_array ps = close_array ps
take_token a_record ps = close_record ps
take_token last_item ps = items_read no_parts ∷ ps
take_token an_item ps = put_item ps
take_token last_field ps = fields_read no_fields ∷ ps
take_token (a_field x) ps = put_field x ps

abbrev read : List Token → List Read → List Read
read [] ps = ps
read (t ∷ ts) ps = read ts (take_token t ps)

abbrev mutual
  written : Part → List Token → List Token
  written null rest = a_null ∷ rest
  written (boolean b) rest = a_boolean b ∷ rest
  written (number z) rest = a_number z ∷ rest
  written (text t) rest = a_text t ∷ rest
  written (path t) rest = a_path t ∷ rest
  written (array ts) rest = written_items ts (an_array ∷ rest)
  written (fields fs) rest = written_fields fs (a_record ∷ rest)

  written_items : Parts → List Token → List Token
  written_items no_parts rest = last_item ∷ rest
  written_items (part t ts) rest = written t (written_items ts (an_item ∷ rest))

  written_fields : FieldParts → List Token → List Token
  written_fields no_fields rest = last_field ∷ rest
  written_fields (field x t fs) rest = written t (written_fields fs (a_field x ∷ rest))

mutual
  read_part : (t : Part) (rest : List Token) (ps : List Read) → read (written t rest) ps ≡ read rest (one_read t ∷ ps)
  read_part null rest ps = refl
  read_part (boolean b) rest ps = refl
  read_part (number z) rest ps = refl
  read_part (text t) rest ps = refl
  read_part (path t) rest ps = refl
  read_part (array ts) rest ps = read_items ts (an_array ∷ rest) ps
  read_part (fields fs) rest ps = read_fields fs (a_record ∷ rest) ps

  read_items : (ts : Parts) (rest : List Token) (ps : List Read) → read (written_items ts rest) ps ≡ read rest (items_read ts ∷ ps)
  read_items no_parts rest ps = refl
  read_items (part t ts) rest ps = read_part t (written_items ts (an_item ∷ rest)) ps ∙ read_items ts (an_item ∷ rest) (one_read t ∷ ps)

  read_fields : (fs : FieldParts) (rest : List Token) (ps : List Read) → read (written_fields fs rest) ps ≡ read rest (fields_read fs ∷ ps)
  read_fields no_fields rest ps = refl
  read_fields (field x t fs) rest ps = read_part t (written_fields fs (a_field x ∷ rest)) ps ∙ read_fields fs (a_field x ∷ rest) (one_read t ∷ ps)

abbrev first_part : List Read → Part
first_part (one_read t ∷ ps) = t
first_part _ = null

Token-set : IsSet Token
Token-set = hlevel (props, prop→set (Unit-prop {0}))

pub Part-set : IsSet Part
Part-set = retract_set (λ t. written t []) (λ ts. first_part (read ts [])) (λ t. ap first_part (read_part t [] [])) (List-set Token-set)

abbrev items_in : List Read → Parts
items_in (items_read ts ∷ ps) = ts
items_in _ = no_parts

pub Parts-set : IsSet Parts
Parts-set = retract_set (λ ts. written_items ts []) (λ ts. items_in (read ts [])) (λ ts. ap items_in (read_items ts [] [])) (List-set Token-set)

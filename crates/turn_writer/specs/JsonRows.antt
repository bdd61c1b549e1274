-- JSON and texts that are made for rows, and objects of JSON that are made field by field.
use Rattle.std.specs.Prelude.{◌≡◌, ◌++◌, ℕ, List, [], ◌∷◌, Result, IfOk, OnOk, String, string_bytes}
use Rattle.std.specs.BTreeMap.{BTreeMap}
use Rattle.std.specs.declared.alloc.AllocError.{AllocError}
use Rattle.std.specs.declared.alloc.Global.{Global}
use Rattle.serde_json.specs.Data.{Data, Members, no_members, number, object, put, string, unsigned}
use Rattle.serde_json.specs.View.{members_view, view}
use Rattle.serde_json.specs.declared.value.Value.{Value}
use Rattle.turn_writer.specs.declared.json_row.JsonRow.{JsonRow}

-- ---- what was made, where there was memory for it

abbrev pub IsJson : Result Value AllocError → Data → Type 0
IsJson made d = IfOk made (λ v. view v ≡ d)

abbrev pub IsText : Result (String Global) AllocError → List ℕ → Type 0
IsText made bytes = IfOk made (λ text. string_bytes text ≡ bytes)

-- a map with these members
abbrev pub HasMembers : Result (BTreeMap (String Global) Value) AllocError → Members → Type 0
HasMembers made members = IfOk made (λ map. members_view map.entries ≡ members)

-- the bytes stand behind those of the text
abbrev pub Adds : Result (Unit {0}) AllocError → String Global → String Global → List ℕ → Type 0
Adds result old new bytes = OnOk result (string_bytes new ≡ string_bytes old ++ bytes)

-- ---- objects

abbrev pub Field : Type 0
Field = List ℕ × Data

-- the fields, the one put last in front
abbrev pub members_of : List Field → Members
members_of [] = no_members
members_of (f ∷ fs) = put f.0 f.1 (members_of fs)

abbrev pub row_json : List Field → Data
row_json fields = object (members_of fields)

-- where there was memory for them, these fields were put
pub record HasFields (row : JsonRow) (fields : List Field) : Type 0 where
  pub members : HasMembers row.made (members_of fields)

-- ---- a field is put under its name: data, a text or a number, whichever the value is known to be

abbrev pub Puts : JsonRow → (Data → Type 0) → JsonRow → List ℕ → Type 0
Puts row HasValue made name =
    (fields : List Field) (d : Data) → HasFields row fields → HasValue d
    → HasFields made ((name, d) ∷ fields)

abbrev pub PutsText : JsonRow → (List ℕ → Type 0) → JsonRow → List ℕ → Type 0
PutsText row HasValue made name =
    (fields : List Field) (s : List ℕ) → HasFields row fields → HasValue s
    → HasFields made ((name, string s) ∷ fields)

abbrev pub PutsNumber : JsonRow → ℕ → JsonRow → List ℕ → Type 0
PutsNumber row n made name =
    (fields : List Field) → HasFields row fields
    → HasFields made ((name, number (unsigned n)) ∷ fields)

-- the same to a map that may be wanting
abbrev pub PutsMember : Result (BTreeMap (String Global) Value) AllocError → Result Value AllocError
    → Result (BTreeMap (String Global) Value) AllocError → List ℕ → Type 0
PutsMember row value made name =
    (members : Members) (d : Data) → HasMembers row members → IsJson value d
    → HasMembers made (put name d members)

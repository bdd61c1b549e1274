-- What each reader of a row, or of a part of one, promises: it reads exactly the JSON of what is in form.
use Rattle.std.specs.Prelude.{◌≡◌, ◌≢◌, ◌≤◌, List, ℕ, Option, Some, None, Result, Ok, Err}
use Rattle.std.specs.Str.{IsUtf8}
use Rattle.serde_json.specs.Data.{Members, depth}
use Rattle.serde_json.specs.Data as json
use Rattle.serde_json.specs.Find.{get_member}
use Rattle.serde_json.specs.Read.{max_depth, read}
use Rattle.serde_json.specs.View.{view}
use Rattle.serde_json.specs.declared.value.Value.{Value}
use Rattle.row_reader.specs.declared.fault.RowFault.{RowFault}
use Rattle.row_reader.specs.declared.fault.RowFault.TheVariants.{BadRow, NoMemory}

-- for want of memory nothing is said
abbrev pub WhenBad : RowFault → Type 0 → Type 0
WhenBad BadRow P = P
WhenBad NoMemory P = Unit {0}

-- what was read is in form and has this JSON; where it is bad, nothing in form has this JSON
abbrev pub Reads : {A B D : Type 0} → (A → D) → (A → Type 0) → (B → A) → D → Result B RowFault → Type 0
Reads {A = A} json Form view d (Ok x) = (json (view x) ≡ d) × Form (view x)
Reads {A = A} json Form view d (Err e) = WhenBad e ((x : A) → Form x → json x ≢ d)

-- the same of the member of a name
abbrev pub ReadsAt : {A B : Type 0} → List ℕ → (A → json.Data) → (A → Type 0) → (B → A) → Members → Result B RowFault → Type 0
ReadsAt name json Form view ms result = Reads (λ x. Some (json x)) Form view (get_member name ms) result

-- whatever it is, it is in form
abbrev pub IsAny : {A : Type 0} → A → Type 0
IsAny x = Unit {0}

-- the JSON of a text; where it is bad, the text is no JSON
abbrev pub ReadsJson : List ℕ → Result Value RowFault → Type 0
ReadsJson text (Ok v) = (read text ≡ Some (view v)) × (depth (view v) ≤ max_depth)
ReadsJson text (Err e) = WhenBad e (IsUtf8 text → read text ≡ None)

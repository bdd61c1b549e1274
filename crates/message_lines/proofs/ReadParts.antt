-- What each kind of part stands for, and what lists of JSON and of members stand for, part by part.
use Rattle.std.proofs.Common.{◌≡◌, ℕ, ℤ, ◌<◌, zero, suc, List, [], ◌∷◌, ◌++◌, Bool, true, false, if◌then◌else◌, length, map, get_or, refl, ap, ◌∙◌, Option, Some, None, option_map, option_and_then, String, string_bytes, Vec, Global, arith, rules}
use Rattle.serde_json.specs.Data.{Data}
use Rattle.serde_json.specs.View.{view, items_view, members_view}
use Rattle.serde_json.specs.declared.value.Value.{Value}
use Rattle.turn_records.specs.host_text.Words.{is_field_name}
use Rattle.message_lines.specs.Arguments.{part_in, parts_in, fields_in}
use Rattle.message_lines.specs.NamedParts.{named_views}
use Rattle.turn_records.specs.Views.{part_view, parts_of, field_parts_of, part_views}
use Rattle.turn_records.specs.declared.messages.Part.{Part}
use Rattle.turn_records.specs.declared.messages.Part as P
use Rattle.turn_records.specs.Messages as told
use Rattle.turn_records.specs.Messages.{null, boolean, number, text, array, fields, path, part, field}

pub part-Null : part_view P.Null ≡ null
part-Null = search (rules, P.the_lemmas)

pub part-Bool : (b : Bool) → part_view (P.Bool b) ≡ boolean b
part-Bool b = search (rules, P.the_lemmas)

pub part-Number : (z : ℤ) → part_view (P.Number z) ≡ number z
part-Number z = search (rules, P.the_lemmas)

pub part-Text : (s : List ℕ) → part_view (P.Text s) ≡ text s
part-Text s = search (rules, P.the_lemmas)

pub part-Array : (v : Vec Part Global) → part_view (P.Array v) ≡ array (parts_of (part_views v.items))
part-Array v = search (rules, P.the_lemmas)

pub part-Record : (v : Vec (List ℕ × Part) Global) → part_view (P.Record v) ≡ fields (field_parts_of (named_views v.items))
part-Record v = search (rules, P.the_lemmas)

pub part-Path : (s : List ℕ) → part_view (P.Path s) ≡ path s
part-Path s = search (rules, P.the_lemmas)

-- each item stands for its part, in order
pub parts_in-all : (vs : List Value) (ps : List Part) → map (λ v. part_in (view v)) vs ≡ map (λ p. Some (part_view p)) ps → parts_in (items_view vs) ≡ Some (parts_of (part_views ps))
parts_in-all [] [] e = refl
parts_in-all [] (p ∷ ps) e = cc
parts_in-all (v ∷ vs) [] e = cc
parts_in-all (v ∷ vs) (p ∷ ps) e =
    let first : part_in (view v) ≡ Some (part_view p) = cc in
    let rest : map (λ v. part_in (view v)) vs ≡ map (λ p. Some (part_view p)) ps = cc in
    rw (first, parts_in-all vs ps rest)

option_none : {A B C : Type 0} (f : A → B → C) (o : Option A) → option_and_then (λ a. option_map (f a) None) o ≡ None
option_none f None = refl
option_none f (Some a) = refl

-- an item is no data
pub parts_in-none : (vs : List Value) (i : ℕ) (v : Value) → i < length vs → v ≡ get_or vs i v → part_in (view v) ≡ None → parts_in (items_view vs) ≡ None
parts_in-none [] i v within is none = absurd (omega arith)
parts_in-none (w ∷ vs) zero v within is none = rw (← is, none)
parts_in-none (w ∷ vs) (suc i) v within is none = rw (parts_in-none vs i v (omega arith) is none) (option_none part (part_in (view w)))

abbrev pub Entry : Type 0
Entry = String Global × Value

-- what a member stands for, where its name has the form
abbrev pub member_part : List ℕ → Data → Option told.Part
member_part name d = if is_field_name name then part_in d else None

abbrev pub entry_part : Entry → List ℕ × Option told.Part
entry_part e = (string_bytes e.0, member_part (string_bytes e.0) (view e.1))

abbrev pub named_part : List ℕ × Part → List ℕ × Option told.Part
named_part m = (m.0, Some (part_view m.1))

named_first : (b : Bool) (t : Option told.Part) (f : told.Part → Option told.FieldParts) → (if b then option_and_then f t else None) ≡ option_and_then f (if b then t else None)
named_first true t f = refl
named_first false t f = refl

pub fields_in-all : (es : List Entry) (ms : List (List ℕ × Part)) → map entry_part es ≡ map named_part ms → fields_in (members_view es) ≡ Some (field_parts_of (named_views ms))
fields_in-all [] [] e = refl
fields_in-all [] (m ∷ ms) e = cc
fields_in-all (d ∷ es) [] e = cc
fields_in-all (d ∷ es) (m ∷ ms) e =
    let head : entry_part d ≡ named_part m = cc in
    let name : string_bytes d.0 ≡ m.0 = ap (λ p. p.0) head in
    let first : member_part (string_bytes d.0) (view d.1) ≡ Some (part_view m.1) = ap (λ p. p.1) head in
    let rest : map entry_part es ≡ map named_part ms = cc in
    named_first (is_field_name (string_bytes d.0)) (part_in (view d.1)) (λ t. option_map (field (string_bytes d.0) t) (fields_in (members_view es)))
    ∙ rw (first, fields_in-all es ms rest, name)

pub fields_in-none : (done : List Entry) (e : Entry) (more : List Entry) → member_part (string_bytes e.0) (view e.1) ≡ None → fields_in (members_view (done ++ e ∷ more)) ≡ None
fields_in-none [] e more none =
    named_first (is_field_name (string_bytes e.0)) (part_in (view e.1)) (λ t. option_map (field (string_bytes e.0) t) (fields_in (members_view more)))
    ∙ rw none
fields_in-none (d ∷ done) e more none =
    named_first (is_field_name (string_bytes d.0)) (part_in (view d.1)) (λ t. option_map (field (string_bytes d.0) t) (fields_in (members_view (done ++ e ∷ more))))
    ∙ rw (fields_in-none done e more none) (option_none (field (string_bytes d.0)) (member_part (string_bytes d.0) (view d.1)))

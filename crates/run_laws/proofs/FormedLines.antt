-- What lines mean that is to be delivered is such as lines may bring: parties have no instance's name, data has names
-- in order and nests no deeper than it may, and times are such as lines give.
use Rattle.std.proofs.Common.{◌≡◌, ℕ, ◌+◌, ◌≤◌, ◌<◌, ◌^◌, List, Bool, true, false, not, nat_le, nat_lt, ◌&&◌, Option, Some, None, option_map, option_and_then, unwrap_or, if◌then◌else◌, codes, refl, sym, subst, arith}
use Rattle.std.proofs.lemmas.Bool.{leb-true, ltb-true}
use Rattle.std.specs.Option.{option_map_or}
use Rattle.std.specs.Str.{is_utf8}
use Rattle.serde_json.specs.Data as json
use Rattle.serde_json.specs.Find.{as_number, as_u64, get_member}
use Rattle.serde_json.specs.Read.{read}
use Rattle.message_lines.specs.host_text.Numbers.{number_in}
use Rattle.message_lines.specs.host_text.Words.{is_field_name, is_label}
use Rattle.message_lines.specs.turn_records.Deliveries.{Delivery, call, give}
use Rattle.message_lines.specs.turn_records.Messages as parts
use Rattle.message_lines.specs.turn_records.Messages.{FieldParts, Part, Parts}
use Rattle.message_lines.specs.Arguments.{arguments_in, fields_in, fields_nesting, is_path, most_deep, nesting, object_part, only_text, part_in, parts_in, parts_nesting, shallow}
use Rattle.message_lines.specs.InputLines.{is_blank}
use Rattle.message_lines.specs.Meanings.{Meaning, bad_field, bad_field_line, begins_instance, blank, call_form, call_labelled, call_of, delivered, gift_labelled, gift_of, give_form, has, is_party, json_meaning, json_of, meaning_of, members_meaning, run, run_form, tick_form, time_of, value_meaning, with_label, with_label_if, with_party}
use Rattle.message_lines.specs.turn_rows.Form.{times_end}
use Rattle.licence_laws.specs.world_state.Good.{IsLine}
use Rattle.licence_laws.specs.world_state.Lines.{AreFormedFields, AreFormedParts, IsBefore, IsFormedPart, IsOfNoInstance}
use Rattle.run_laws.proofs.OrderedJson.{AreOrdered, AreOrderedMembers, IsBeforeMembers, IsOrdered, chained, is_some, mapped, member_is_ordered, read_is_ordered}

-- ---- data

passed : {A : Type 0} (b : Bool) (o : Option A) (y : A) → (if b then o else None) ≡ Some y → (b ≡ true) × (o ≡ Some y)
passed true o y h = (refl, h)
passed false o y h = absurd (cc)

-- a field's names go on in order
fields_before : (name : List ℕ) (ms : json.Members) (fs : FieldParts) → IsBeforeMembers name ms → fields_in ms ≡ Some fs → IsBefore name fs
fields_before name json.no_members fs before h = subst (IsBefore name) (is_some parts.no_fields fs h) tt
fields_before name (json.member next d ms) fs before h =
    let a = chained (λ t. option_map (parts.field next t) (fields_in ms)) (part_in d) fs (passed (is_field_name next) _ fs h).1 in
    let b = mapped (parts.field next a.0) (fields_in ms) fs a.2 in
    subst (IsBefore name) b.2 before

-- it is formed at a depth from which it nests at most 32 deep
abbrev FormedAt : ℕ → Part → Type 0
FormedAt n t = n + nesting t ≤ 32 → IsFormedPart n t

abbrev AllFormedAt : ℕ → Parts → Type 0
AllFormedAt n ts = n + parts_nesting ts ≤ 32 → AreFormedParts n ts

abbrev FieldsFormedAt : ℕ → FieldParts → Type 0
FieldsFormedAt n fs = n + fields_nesting fs ≤ 32 → AreFormedFields n fs

array_formed : (n : ℕ) (ts : Parts) → AllFormedAt (n + 1) ts → FormedAt n (parts.array ts)
array_formed n ts inner few = (omega (arith, few), inner (omega (arith, few)))

record_formed : (n : ℕ) (fs : FieldParts) → FieldsFormedAt (n + 1) fs → FormedAt n (parts.fields fs)
record_formed n fs inner few = (omega (arith, few), inner (omega (arith, few)))

object_formed : (n : ℕ) (a b : Option (List ℕ)) (o : Option FieldParts) (t : Part) → ((fs : FieldParts) → o ≡ Some fs → FieldsFormedAt (n + 1) fs) → object_part a b o ≡ Some t → FormedAt n t
object_formed n (Some s) b o t inner h = subst (FormedAt n) (mapped parts.number (number_in s) t h).2 (λ few. tt)
object_formed n None (Some p) o t inner h = subst (FormedAt n) (is_some (parts.path p) t (passed (is_path p) _ t h).1) (λ few. tt)
object_formed n None None o t inner h = let b = mapped parts.fields o t h in subst (FormedAt n) b.2 (record_formed n b.0 (inner b.0 b.1))

first_formed : (n : ℕ) (t : Part) (ts : Parts) → FormedAt n t → AllFormedAt n ts → AllFormedAt n (parts.part t ts)
first_formed n t ts first rest few = (first (omega (arith, few)), rest (omega (arith, few)))

field_formed : (n : ℕ) (name : List ℕ) (t : Part) (fs : FieldParts) → is_field_name name ≡ true → IsBefore name fs → FormedAt n t → FieldsFormedAt n fs → FieldsFormedAt n (parts.field name t fs)
field_formed n name t fs named before first rest few = (named, before, first (omega (arith, few)), rest (omega (arith, few)))

mutual
  part_formed : (n : ℕ) (d : json.Data) (t : Part) → IsOrdered d → part_in d ≡ Some t → FormedAt n t
  part_formed n json.null t o h = subst (FormedAt n) (is_some parts.null t h) (λ few. tt)
  part_formed n (json.boolean b) t o h = subst (FormedAt n) (is_some (parts.boolean b) t h) (λ few. tt)
  part_formed n (json.number m) t o h = subst (FormedAt n) (mapped parts.number _ t h).2 (λ few. tt)
  part_formed n (json.string s) t o h = subst (FormedAt n) (is_some (parts.text s) t (passed _ (Some (parts.text s)) t h).1) (λ few. tt)
  part_formed n (json.array ds) t o h = let b = mapped parts.array (parts_in ds) t h in subst (FormedAt n) b.2 (array_formed n b.0 (parts_formed (n + 1) ds b.0 o b.1))
  part_formed n (json.object ms) t o h = object_formed n (only_text (codes "#") ms) (only_text (codes "@") ms) (fields_in ms) t (λ fs e. fields_formed (n + 1) ms fs o e) h

  parts_formed : (n : ℕ) (ds : json.Items) (ts : Parts) → AreOrdered ds → parts_in ds ≡ Some ts → AllFormedAt n ts
  parts_formed n json.no_items ts o h = subst (AllFormedAt n) (is_some parts.no_parts ts h) (λ few. tt)
  parts_formed n (json.item d ds) ts o h =
      let a = chained (λ t. option_map (parts.part t) (parts_in ds)) (part_in d) ts h in
      let b = mapped (parts.part a.0) (parts_in ds) ts a.2 in
      subst (AllFormedAt n) b.2 (first_formed n a.0 b.0 (part_formed n d a.0 o.0 a.1) (parts_formed n ds b.0 o.1 b.1))

  fields_formed : (n : ℕ) (ms : json.Members) (fs : FieldParts) → AreOrderedMembers ms → fields_in ms ≡ Some fs → FieldsFormedAt n fs
  fields_formed n json.no_members fs o h = subst (FieldsFormedAt n) (is_some parts.no_fields fs h) (λ few. tt)
  fields_formed n (json.member name d ms) fs o h =
      let named = passed (is_field_name name) _ fs h in
      let a = chained (λ t. option_map (parts.field name t) (fields_in ms)) (part_in d) fs named.1 in
      let b = mapped (parts.field name a.0) (fields_in ms) fs a.2 in
      subst (FieldsFormedAt n) b.2 (field_formed n name a.0 b.0 named.0 (fields_before name ms b.0 o.1 b.1) (part_formed n d a.0 o.0 a.1) (fields_formed n ms b.0 o.2 b.1))

-- the arguments of a line
arguments_formed : (d : json.Data) (ts : Parts) → IsOrdered d → arguments_in d ≡ Some ts → AreFormedParts 0 ts
unfolding arguments_in
arguments_formed (json.array ds) ts o h =
    let a = chained shallow (parts_in ds) ts h in
    let fits = passed (nat_le (parts_nesting a.0) most_deep) (Some a.0) ts a.2 in
    let few : parts_nesting a.0 ≤ 32 = leb-true (parts_nesting a.0) 32 fits.0 in
    subst (AreFormedParts 0) (is_some a.0 ts fits.1) (parts_formed 0 ds a.0 o a.1 (omega (arith, few)))
arguments_formed json.null ts o h = absurd (cc)
arguments_formed (json.boolean b) ts o h = absurd (cc)
arguments_formed (json.number n) ts o h = absurd (cc)
arguments_formed (json.string s) ts o h = absurd (cc)
arguments_formed (json.object ms) ts o h = absurd (cc)

arguments_from : (d : json.Data) (o : Option Parts) → IsOrdered d → arguments_in d ≡ o → AreFormedParts 0 (unwrap_or o parts.no_parts)
arguments_from d None ordered is = tt
arguments_from d (Some ts) ordered is = arguments_formed d ts ordered is

arguments_given : (o : Option json.Data) → ((d : json.Data) → o ≡ Some d → IsOrdered d) → AreFormedParts 0 (unwrap_or (option_and_then arguments_in o) parts.no_parts)
arguments_given None facts = tt
arguments_given (Some d) facts = arguments_from d (arguments_in d) (facts d refl) refl

-- ---- labels

-- what follows where it has passed, and else a bad line
line_where : (b : Bool) (r next : Delivery) → IsLine r → (b ≡ true → IsLine next) → IsLine (if b then next else r)
line_where true r next other passes = passes refl
line_where false r next other passes = other

no_instance : (label begins : Bool) → (label && not begins) ≡ true → begins ≡ false
no_instance true true h = sym h
no_instance true false h = refl
no_instance false true h = absurd (cc)
no_instance false false h = refl

party_of_none : (s : List ℕ) → is_party s ≡ true → IsOfNoInstance s
party_of_none s is = no_instance (is_label s) (begins_instance s) is

party_line : (s : List ℕ) (next : Delivery) → (IsOfNoInstance s → IsLine next) → IsLine (with_party s next)
party_line s next then_line = line_where (is_party s) _ next tt (λ is. then_line (party_of_none s is))

label_line : (s : List ℕ) (next : Delivery) → IsLine next → IsLine (with_label s next)
label_line s next is = line_where (is_label s) _ next tt (λ yes. is)

label_if_line : (label : Option (List ℕ)) (next : Delivery) → IsLine next → IsLine (with_label_if label next)
label_if_line None next is = is
label_if_line (Some s) next is = label_line s next is

-- ---- lines

abbrev pub IsLineMeaning : Meaning → Type 0
IsLineMeaning blank = Unit {0}
IsLineMeaning (delivered d) = IsLine d
IsLineMeaning (run n) = Unit {0}

meaning_where : (b : Bool) (x y : Meaning) → IsLineMeaning x → IsLineMeaning y → IsLineMeaning (if b then x else y)
meaning_where true x y h k = h
meaning_where false x y h k = k

form_line : (o : Option (List ℕ)) (read : Meaning) → IsLineMeaning read → IsLineMeaning (option_map_or bad_field_line o read)
form_line None read h = h
form_line (Some name) read h = tt

call_line : (ms : json.Members) → AreOrderedMembers ms → IsLine (call_labelled (call_of ms))
call_line ms ordered =
    let c = call_of ms in
    party_line c.by (with_label_if c.label (call c))
    (λ by. label_if_line c.label (call c) (record { by = by; arguments = arguments_given (get_member (codes "args") ms) (λ d at. member_is_ordered (codes "args") ms d ordered at) }))

gift_line : (ms : json.Members) → IsLine (gift_labelled (gift_of ms))
gift_line ms =
    let g = gift_of ms in
    party_line g.by (with_party g.to (with_label g.label (give g))) (λ by. party_line g.to (with_label g.label (give g)) (λ to. label_line g.label (give g) (record { by = by; to = to })))

early_or_none : (b : Bool) (n : ℕ) → nat_lt n (2 ^ 63) ≡ b → unwrap_or (if b then Some n else None) 0 < 2 ^ 63
early_or_none true n is = ltb-true n (2 ^ 63) is
early_or_none false n is = omega arith

number_early : (o : Option ℕ) → unwrap_or (option_and_then (λ n. if nat_lt n (2 ^ 63) then Some n else None) o) 0 < 2 ^ 63
number_early None = omega arith
number_early (Some n) = early_or_none (nat_lt n (2 ^ 63)) n refl

time_early : (o : Option json.Data) → unwrap_or (option_and_then time_of o) 0 < times_end
time_early None = omega arith
time_early (Some d) = number_early (option_and_then as_u64 (as_number d))

members_line : (ms : json.Members) → AreOrderedMembers ms → IsLineMeaning (members_meaning ms)
members_line ms ordered =
    meaning_where (has (codes "run") ms) _ _ (form_line (bad_field run_form ms) _ tt)
    (meaning_where (has (codes "tick") ms) _ _ (form_line (bad_field tick_form ms) _ (time_early (get_member (codes "tick") ms)))
    (meaning_where (has (codes "give") ms) _ _ (form_line (bad_field give_form ms) _ (gift_line ms))
    (meaning_where (has (codes "do") ms) _ _ (form_line (bad_field call_form ms) _ (call_line ms ordered)) tt)))

value_line : (d : json.Data) → IsOrdered d → IsLineMeaning (value_meaning d)
value_line json.null ordered = tt
value_line (json.boolean b) ordered = tt
value_line (json.number n) ordered = tt
value_line (json.string s) ordered = tt
value_line (json.array ds) ordered = tt
value_line (json.object ms) ordered = members_line ms ordered

json_line : (o : Option json.Data) → ((d : json.Data) → o ≡ Some d → IsOrdered d) → IsLineMeaning (json_meaning o)
json_line None facts = tt
json_line (Some d) facts = value_line d (facts d refl)

json_read : (line : List ℕ) (d : json.Data) → json_of line ≡ Some d → read line ≡ Some d
unfolding json_of
json_read line d h = (passed (is_utf8 line) (read line) d h).1

pub meaning_is_of_line : (line : List ℕ) → IsLineMeaning (meaning_of line)
unfolding meaning_of
meaning_is_of_line line = meaning_where (is_blank line) blank (json_meaning (json_of line)) tt (json_line (json_of line) (λ d h. read_is_ordered line d (json_read line d h)))

pub line_is_line : (line : List ℕ) (d : Delivery) → meaning_of line ≡ delivered d → IsLine d
line_is_line line d is = subst IsLineMeaning is (meaning_is_of_line line)

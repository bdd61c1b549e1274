-- What a line means.
use Rattle.std.specs.Prelude.{ℕ, ◌^◌, ◌&&◌, List, [], ◌∷◌, Bool, nat_lt, true, false, not, is_some}
use Rattle.std.specs.Prelude.{Option, Some, None, option_and_then, unwrap_or, take, codes}
use Rattle.std.specs.Prelude.{if◌then◌else◌}
use Rattle.std.specs.List.{list_any}
use Rattle.std.specs.Option.{option_map_or}
use Rattle.std.specs.Ordering.{nat_cmp, match_ordering}
use Rattle.std.specs.Cmp.Lexicographic.{slice_cmp}
use Rattle.std.specs.Str.{bytes_eq, is_utf8}
use Rattle.serde_json.specs.Data.{Data, Members, no_members, member}
use Rattle.serde_json.specs.Find.{get_member, as_number, as_object, as_str, as_u64}
use Rattle.serde_json.specs.Read.{read}
use Rattle.turn_records.specs.host_text.Words.{is_label}
use Rattle.turn_records.specs.refusals.Codes as codes_of
use Rattle.turn_records.specs.Deliveries.{Delivery, bad, call, give, tick}
use Rattle.turn_records.specs.Messages.{LineCall, LineGift, Parts, no_parts}
use Rattle.message_lines.specs.Arguments.{arguments_in, is_path}
use Rattle.message_lines.specs.InputLines.{is_blank}

-- a line is skipped, is delivered in its turn, or runs at most so many deliveries at once
pub data Meaning : Type 0 where
  blank : Meaning
  delivered : Delivery → Meaning
  run : ℕ → Meaning

-- ---- the fields of a line

-- the JSON value of a line, if it is one
unfoldable pub json_of : List ℕ → Option Data
json_of bytes = if is_utf8 bytes then read bytes else None

abbrev pub is_string : Data → Bool
is_string d = is_some (as_str d)

abbrev pub has_path : Data → Bool
has_path d = option_map_or is_path (as_str d) false

-- a whole number from 0 to 2^32 - 1
abbrev pub count_of : Data → Option ℕ
count_of d =
    option_and_then (λ n. if nat_lt n (2 ^ 32) then Some n else None)
    (option_and_then as_u64 (as_number d))

abbrev pub has_count : Data → Bool
has_count d = is_some (count_of d)

-- a time: a whole number from 0 to 2^63 - 1
abbrev pub time_of : Data → Option ℕ
time_of d =
    option_and_then (λ n. if nat_lt n (2 ^ 63) then Some n else None)
    (option_and_then as_u64 (as_number d))

abbrev pub has_time : Data → Bool
has_time d = is_some (time_of d)

-- a field that is needed is well typed where it is there and passes, one that may be left out also
-- where it isn't there
abbrev pub needed : (Data → Bool) → Option Data → Bool
needed passes d = option_map_or passes d false

abbrev pub optional : (Data → Bool) → Option Data → Bool
optional passes d = option_map_or passes d true

-- a field of a form, and when it is well typed
pub record FormField : Type 0 where
  pub name : List ℕ
  pub passes : Option Data → Bool

-- a form is the list of its fields, by name in byte order
abbrev pub Form : Type 0
Form = List FormField

abbrev pub is_data : Data → Bool
is_data d = is_some (arguments_in d)

-- `{"by":P,"on":path,"do":method,"args":[..],"as":label}`
abbrev pub call_form : Form
call_form =
    record { name = codes "args"; passes = optional is_data }
    ∷ record { name = codes "as"; passes = optional is_string }
    ∷ record { name = codes "by"; passes = needed is_string }
    ∷ record { name = codes "do"; passes = needed is_string }
    ∷ record { name = codes "on"; passes = needed has_path }
    ∷ []

-- `{"by":P,"give":path,"to":Q,"as":label}`
abbrev pub give_form : Form
give_form =
    record { name = codes "as"; passes = needed is_string }
    ∷ record { name = codes "by"; passes = needed is_string }
    ∷ record { name = codes "give"; passes = needed has_path }
    ∷ record { name = codes "to"; passes = needed is_string }
    ∷ []

-- `{"run":n}`
abbrev pub run_form : Form
run_form = record { name = codes "run"; passes = needed has_count } ∷ []

-- `{"tick":t}`
abbrev pub tick_form : Form
tick_form = record { name = codes "tick"; passes = needed has_time } ∷ []

-- the first field of a form that is missing or ill typed
abbrev pub first_ill_typed : Form → Members → Option (List ℕ)
first_ill_typed [] ms = None
first_ill_typed (f ∷ fs) ms =
    if f.passes (get_member f.name ms) then first_ill_typed fs ms else Some f.name

abbrev pub is_field_of : Form → List ℕ → Bool
is_field_of form name = list_any (λ f. bytes_eq name f.name) form

-- the lesser of two names, in byte order
abbrev pub lesser : Option (List ℕ) → Option (List ℕ) → Option (List ℕ)
lesser None b = b
lesser (Some a) None = Some a
lesser (Some a) (Some b) = match_ordering (slice_cmp nat_cmp a b) (Some a) (Some a) (Some b)

-- the least member that is no field of the form
abbrev pub least_further : Form → Members → Option (List ℕ)
least_further form no_members = None
least_further form (member name d ms) =
    if is_field_of form name then least_further form ms
    else lesser (Some name) (least_further form ms)

-- the least field that is missing, further or ill typed
abbrev pub bad_field : Form → Members → Option (List ℕ)
bad_field form ms = lesser (first_ill_typed form ms) (least_further form ms)

-- ---- labels

-- names that begin so are the host's own
abbrev pub begins_instance : List ℕ → Bool
begins_instance label = bytes_eq (codes "instance") (take 8 label)

abbrev pub is_party : List ℕ → Bool
is_party label = is_label label && not (begins_instance label)

-- ---- deliveries

abbrev pub bad_field_delivery : List ℕ → Delivery
bad_field_delivery name = bad (codes_of.bad_field name)

abbrev pub bad_label_delivery : List ℕ → Delivery
bad_label_delivery text = bad (codes_of.bad_label text)

-- a text that is to be a label, or to name a party, and what follows where it is and does
abbrev pub with_label : List ℕ → Delivery → Delivery
with_label text next = if is_label text then next else bad_label_delivery text

abbrev pub with_party : List ℕ → Delivery → Delivery
with_party text next = if is_party text then next else bad_label_delivery text

-- one that may be left out
abbrev pub with_label_if : Option (List ℕ) → Delivery → Delivery
with_label_if None next = next
with_label_if (Some text) next = with_label text next

abbrev pub label_at : List ℕ → Members → Option (List ℕ)
label_at name ms = option_and_then as_str (get_member name ms)

abbrev pub text_at : List ℕ → Members → List ℕ
text_at name ms = unwrap_or (label_at name ms) []

-- the arguments, none where the field isn't there
abbrev pub arguments_at : Members → Parts
arguments_at ms = unwrap_or (option_and_then arguments_in (get_member (codes "args") ms)) no_parts

-- the call of members that are well typed, with its arguments
abbrev pub call_with : Parts → Members → LineCall
call_with arguments ms = record {
  by = text_at (codes "by") ms;
  on = text_at (codes "on") ms;
  method = text_at (codes "do") ms;
  arguments = arguments;
  label = label_at (codes "as") ms;
}

-- the call and the gift of members that are well typed, and the number of deliveries that are to be
-- run
abbrev pub call_of : Members → LineCall
call_of ms = call_with (arguments_at ms) ms

abbrev pub gift_of : Members → LineGift
gift_of ms = record {
  by = text_at (codes "by") ms;
  given = text_at (codes "give") ms;
  to = text_at (codes "to") ms;
  label = text_at (codes "as") ms;
}

abbrev pub count_at : List ℕ → Members → ℕ
count_at name ms = unwrap_or (option_and_then count_of (get_member name ms)) 0

abbrev pub run_of : Members → ℕ
run_of ms = count_at (codes "run") ms

-- the time to which the timer is set
abbrev pub time_at : List ℕ → Members → ℕ
time_at name ms = unwrap_or (option_and_then time_of (get_member name ms)) 0

-- of a call the party is to name one, then the label for the answer; of a gift the giver, then the
-- receiver, then the label
abbrev pub call_labelled : LineCall → Delivery
call_labelled c = with_party c.by (with_label_if c.label (call c))

abbrev pub gift_labelled : LineGift → Delivery
gift_labelled g = with_party g.by (with_party g.to (with_label g.label (give g)))

abbrev pub bad_field_line : List ℕ → Meaning
bad_field_line name = delivered (bad_field_delivery name)

-- what the members mean by a form, where its fields are well typed
abbrev pub by_form : Form → Members → Meaning → Meaning
by_form form ms read = option_map_or bad_field_line (bad_field form ms) read

abbrev pub has : List ℕ → Members → Bool
has name ms = is_some (get_member name ms)

-- the form of a line is that of the first of the fields run, tick, give, do that it has
abbrev pub members_meaning : Members → Meaning
members_meaning ms =
    if has (codes "run") ms then by_form run_form ms (run (run_of ms))
    else if has (codes "tick") ms
    then by_form tick_form ms (delivered (tick (time_at (codes "tick") ms)))
    else if has (codes "give") ms then by_form give_form ms (delivered (gift_labelled (gift_of ms)))
    else if has (codes "do") ms then by_form call_form ms (delivered (call_labelled (call_of ms)))
    else bad_field_line (codes "do")

abbrev pub bad_line : Meaning
bad_line = delivered (bad codes_of.bad_line)

abbrev pub value_meaning : Data → Meaning
value_meaning d = option_map_or members_meaning (as_object d) bad_line

abbrev pub json_meaning : Option Data → Meaning
json_meaning d = option_map_or value_meaning d bad_line

unfoldable pub meaning_of : List ℕ → Meaning
meaning_of bytes = if is_blank bytes then blank else json_meaning (json_of bytes)

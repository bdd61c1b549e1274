-- Values of brands as a journal prints them.
use Rattle.std.specs.Prelude.{◌≢◌, ℕ, List, map}
use Rattle.std.specs.Str.{IsUtf8}
use Rattle.turn_rows.specs.amount_math.Content.{Content, count, entries, unit}
use Rattle.turn_rows.specs.amount_math.ValueView.{ValueView}
use Rattle.turn_rows.specs.amount_math.declared.Kind.{Kind}
use Rattle.turn_rows.specs.amount_math.declared.Kind.TheVariants.{Nat, Set, Bag}
use Rattle.turn_rows.specs.Turns.{Element, Value, counted, elements, key, number}

abbrev pub key_element : List ℕ × ℕ → Element
key_element e = key e.0

abbrev pub counted_element : List ℕ × ℕ → Element
counted_element e = counted e.0 e.1

-- a number, the keys of a set, or the keys of a bag with their counts, in byte order
abbrev pub printed_content : Kind → Content → Value
printed_content Nat c = number (count c unit)
printed_content Set c = elements (map key_element (entries c))
printed_content Bag c = elements (map counted_element (entries c))

abbrev pub printed_value : ValueView → Value
printed_value w = printed_content w.kind w.content

-- its keys are texts
pub record HasTexts (c : Content) : Type 0 where
  pub each : (k : List ℕ) → count c k ≢ 0 → IsUtf8 k

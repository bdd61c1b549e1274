-- Values as they are printed, and what they hold.
use Rattle.std.specs.Prelude.{◌≡◌, ℕ, List, map}
use Rattle.std.specs.List.{AllByRecursion}
use Rattle.turn_rows.specs.amount_math.Content.{Content, count, entries, of_entries, of_nat, unit}
use Rattle.turn_rows.specs.amount_math.ValueView.{IsValue}
use Rattle.turn_rows.specs.amount_math.declared.Kind.{Kind}
use Rattle.turn_rows.specs.amount_math.declared.Kind.TheVariants.{Nat, Set, Bag}
use Rattle.turn_rows.specs.Turns.{Element, key, counted, Value, number, elements}

abbrev pub entry_of : Element → List ℕ × ℕ
entry_of (key s) = (s, 1)
entry_of (counted s n) = (s, n)

-- what a value holds: the number of units, or each key as often as it counts
abbrev pub content_of : Value → Content
content_of (number n) = of_nat n
content_of (elements es) = of_entries (map entry_of es)

-- how a content of a kind is printed, keys in byte order
abbrev pub value_of : Kind → Content → Value
value_of Nat c = number (count c unit)
value_of Set c = elements (map (λ e. key e.0) (entries c))
value_of Bag c = elements (map (λ e. counted e.0 e.1) (entries c))

-- it is printed as a value of the kind
pub record IsValueOf (kind : Kind) (v : Value) : Type 0 where
  pub content : Content
  pub value : IsValue kind content
  pub is : v ≡ value_of kind content

-- an amount, as movements and open rows name it: a brand's number and a value
abbrev pub Named : Type 0
Named = ℕ × Value

-- each brand's values are all of one kind, that of the brand
abbrev pub AreOfKinds : (ℕ → Kind) → List Named → Type 0
AreOfKinds kind_of amounts = AllByRecursion (λ a. IsValueOf (kind_of a.0) a.1) amounts

pub record HaveKinds (amounts : List Named) : Type 0 where
  pub kind_of : ℕ → Kind
  pub values : AreOfKinds kind_of amounts

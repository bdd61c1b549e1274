-- Values and amounts that are read from data.
use Rattle.std.specs.Prelude.{◌≡◌, ℕ, ℤ, pos, negsuc, ◌==◌, nat_le, length, map, List, [], ◌∷◌, Bool, true, false, not, ◌&&◌, Option, Some, None, option_map, option_and_then, Result, Ok, Err, if◌then◌else◌, codes}
use Rattle.std.specs.Borrow.{Bor}
use Rattle.std.specs.List.{list_all, list_any}
use Rattle.std.specs.Str.{bytes_eq}
use Rattle.amount_math.specs.Content.{of_entries, of_nat}
use Rattle.amount_math.specs.Entries.{Entries, as_one, most_of_key}
use Rattle.amount_math.specs.ValueView.{IsValue, ValueView, most_keys, nat_bound}
use Rattle.amount_math.specs.declared.Kind.{Kind}
use Rattle.amount_math.specs.declared.Kind.TheVariants.{Nat, Set, Bag}
use Rattle.amount_math.specs.declared.kinds.MakeFault.{MakeFault}
use Rattle.amount_math.specs.declared.kinds.MakeFault.TheVariants.{BadValue, NoMemory}
use Rattle.host_data.specs.Tree.{Tree, null, number_of, text_of, object_of, list_of, field_of, field_count}
use Rattle.host_data.specs.View.{tree}
use Rattle.host_data.specs.declared.data.Data.{Data}
use Rattle.host_data.specs.declared.data.ObjKind.{ObjKind}
use Rattle.host_data.specs.declared.data.ObjKind.TheVariants.{Brand}
use Rattle.host_data.specs.declared.amounts.GivenAmount.{GivenAmount}

-- what an argument is, null where it is missing
abbrev pub seen : Option (Bor Data) → Tree
seen None = null
seen (Some d) = tree d.now

-- ---- values

-- what each of a list is read as, where each is
abbrev pub read_all : {A B : Type 0} → (A → Option B) → List A → Option (List B)
read_all read [] = Some []
read_all read (x ∷ xs) = option_and_then (λ y. option_map (λ ys. y ∷ ys) (read_all read xs)) (read x)

-- a number of units
abbrev pub nat_value : ℤ → Option ValueView
nat_value (pos n) = if nat_le n nat_bound then Some (record { kind = Nat; content = of_nat n }) else None
nat_value (negsuc n) = None

-- a key of 1 to 64 bytes with its count, from 1 to 2^63 - 1
abbrev pub is_entry : List ℕ × ℕ → Bool
is_entry e = (nat_le 1 (length e.0) && nat_le (length e.0) 64) && (nat_le 1 e.1 && nat_le e.1 most_of_key)

-- no key stands twice
abbrev pub are_apart : Entries → Bool
are_apart [] = true
are_apart (e ∷ es) = not (list_any (λ f. bytes_eq e.0 f.0) es) && are_apart es

-- what a set or a bag may have: at most 4,096 keys, each once, in any order
abbrev pub are_entries : Entries → Bool
are_entries es = list_all is_entry es && are_apart es && nat_le (length es) most_keys

-- the value of the kind that has these keys
unfoldable pub keyed_value : Kind → Entries → Option ValueView
keyed_value kind es = if are_entries es then Some (record { kind = kind; content = of_entries es }) else None

-- a set is an array of texts
abbrev pub set_of : List (List ℕ) → Option ValueView
set_of keys = keyed_value Set (map as_one keys)

unfoldable pub set_in : Tree → Option ValueView
set_in t = option_and_then set_of (option_and_then (read_all text_of) (list_of t))

-- a key with a number, as an array of both
abbrev pub pair_from : List Tree → Option (List ℕ × ℤ)
pair_from (key ∷ count ∷ []) = option_and_then (λ k. option_map (λ z. (k, z)) (number_of count)) (text_of key)
pair_from _ = None

abbrev pub pair_in : Tree → Option (List ℕ × ℤ)
pair_in t = option_and_then pair_from (list_of t)

-- a count is a whole number
abbrev pub whole : ℤ → Option ℕ
whole (pos n) = Some n
whole (negsuc n) = None

abbrev pub counted_key : List ℕ × ℤ → Option (List ℕ × ℕ)
counted_key p = option_map (λ n. (p.0, n)) (whole p.1)

-- a bag is an array of arrays, each of a text and its count
abbrev pub bag_of : List (List ℕ × ℤ) → Option ValueView
bag_of pairs = option_and_then (keyed_value Bag) (read_all counted_key pairs)

unfoldable pub bag_in : Tree → Option ValueView
bag_in t = option_and_then bag_of (option_and_then (read_all pair_in) (list_of t))

-- the value of the kind that data stands for, where it does
unfoldable pub value_in : Kind → Tree → Option ValueView
value_in Nat t = option_and_then nat_value (number_of t)
value_in Set t = set_in t
value_in Bag t = bag_in t

-- it is a bad value where data stands for none, unless memory ran out
abbrev pub Fails : {Y : Type 0} → MakeFault → Option Y → Type 0
Fails BadValue read = read ≡ None
Fails NoMemory read = Unit {0}

-- what was made, seen by a view, is what data stands for, unless memory ran out
abbrev pub Makes : {X Y : Type 0} → (X → Y) → Result X MakeFault → Option Y → Type 0
Makes view (Ok x) read = read ≡ Some (view x)
Makes view (Err e) read = Fails e read

-- a value of the kind
pub record IsValueOf (kind : Kind) (w : ValueView) : Type 0 where
  pub kind_is : w.kind ≡ kind
  pub value : IsValue kind w.content

-- ---- amounts

-- what stands in an amount: the number of the brand, its kind, and the data of the value
pub record AmountData : Type 0 where
  pub brand : ℕ
  pub kind : Kind
  pub value : Tree

abbrev pub amount_data : GivenAmount → AmountData
amount_data a = record { brand = a.brand; kind = a.kind; value = tree a.value.now }

abbrev pub kind_of_brand : ObjKind → Option Kind
kind_of_brand (Brand kind) = Some kind
kind_of_brand _ = None

abbrev pub has_two : Option ℕ → Bool
has_two None = false
has_two (Some n) = n == 2

-- exactly two fields, of which one is a brand and one a value
abbrev pub amount_fields : Tree → Option AmountData
amount_fields t = if has_two (field_count t) then option_and_then (λ o. option_and_then (λ kind. option_map (λ v. record { brand = o.number; kind = kind; value = v }) (field_of (codes "value") t)) (kind_of_brand o.kind)) (option_and_then object_of (field_of (codes "brand") t)) else None

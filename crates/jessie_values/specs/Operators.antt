-- What operators make of values.
use Rattle.std.specs.Prelude.{ℕ, ℤ, ◌+ℤ◌, ◌-ℤ◌, ◌*ℤ◌, neg_ℤ, pos, int_div, int_rem, List, ◌++◌, length, Bool, true, false, not, ◌&&◌, ◌||◌, ◌==◌, nat_le, Option, Some, None, Result, Ok, Err, if◌then◌else◌}
use Rattle.std.specs.Cmp.Lexicographic.{slice_cmp}
use Rattle.std.specs.Option.{option_map_or}
use Rattle.std.specs.Ordering.{int_cmp, int_eq, nat_cmp, is_lt, is_le, is_gt, is_ge}
use Rattle.std.specs.Str.{bytes_eq}
use Rattle.std.specs.declared.cmp.Ordering.{Ordering}
use Rattle.host_data.specs.host_text.Numbers.{fits}
use Rattle.host_data.specs.Tree.{Tree, null, boolean, number, text, array, fields, object, function, boolean_of, number_of, text_of, object_of, function_of, is_null}
use Rattle.host_data.specs.amount_math.declared.Kind.TheVariants.{Nat, Set, Bag}
use Rattle.host_data.specs.declared.data.Obj.{Obj}
use Rattle.host_data.specs.declared.data.ObjKind.{ObjKind}
use Rattle.host_data.specs.declared.data.ObjKind.TheVariants.{Ertp, Zoe, Timer, Brand, Issuer, Mint, Purse, Deposit, Payment, Installation, Instance, Zcf, Seat, Zseat, Zmint, Facet, Promise}
use Rattle.jessie_values.specs.declared.reasons.Reason.{Reason}
use Rattle.jessie_values.specs.declared.reasons.Reason.TheVariants.{WrongKind, OutOfRange, DivisionByZero, TooLarge}
use Rattle.jessie_values.specs.Outcomes.{◌>>=◌, of_kind}

-- conditions, and the sides of `&&` and `||`, are truth values
abbrev pub truth : Tree → Result Bool Reason
truth v = of_kind (boolean_of v)

-- a number of at most 128 signed bits
abbrev pub in_range : ℤ → Result Tree Reason
in_range z = if fits z then Ok (number z) else Err OutOfRange

-- a text of at most 65,536 bytes
abbrev pub most_bytes : ℕ
most_bytes = 65536

abbrev pub in_size : List ℕ → Result Tree Reason
in_size t = if nat_le (length t) most_bytes then Ok (text t) else Err TooLarge

-- `!`, and `-` before a value
abbrev pub logical_not : Tree → Result Tree Reason
logical_not v = truth v >>= λ b. Ok (boolean (not b))

abbrev pub opposite : Tree → Result Tree Reason
opposite v = of_kind (number_of v) >>= λ z. in_range (neg_ℤ z)

-- what an operator makes of two parts that are both of its kind, or what it makes of others
abbrev pub of_both : {A B : Type 0} → Option A → Option A → (A → A → B) → B → B
of_both (Some a) (Some b) f other = f a b
of_both (Some a) None f other = other
of_both None b f other = other

abbrev pub of_numbers : {B : Type 0} → Tree → Tree → (ℤ → ℤ → B) → B → B
of_numbers v w = of_both (number_of v) (number_of w)

abbrev pub of_texts : {B : Type 0} → Tree → Tree → (List ℕ → List ℕ → B) → B → B
of_texts v w = of_both (text_of v) (text_of w)

-- `+`: two numbers, or two texts, of which the second follows the first
abbrev pub sum_of : Tree → Tree → Result Tree Reason
sum_of v w = of_numbers v w (λ a b. in_range (a +ℤ b)) (of_texts v w (λ s t. in_size (s ++ t)) (Err WrongKind))

-- `-` and `*`
abbrev pub difference_of : Tree → Tree → Result Tree Reason
difference_of v w = of_numbers v w (λ a b. in_range (a -ℤ b)) (Err WrongKind)

abbrev pub product_of : Tree → Tree → Result Tree Reason
product_of v w = of_numbers v w (λ a b. in_range (a *ℤ b)) (Err WrongKind)

-- `/` and `%`: the quotient is cut towards 0, and the rest has the sign of the left side
abbrev pub divided : ℤ → Result Tree Reason → Result Tree Reason
divided b result = if int_eq b (pos 0) then Err DivisionByZero else result

abbrev pub quotient_of : Tree → Tree → Result Tree Reason
quotient_of v w = of_numbers v w (λ a b. divided b (in_range (int_div a b))) (Err WrongKind)

abbrev pub rest_of : Tree → Tree → Result Tree Reason
rest_of v w = of_numbers v w (λ a b. divided b (in_range (int_rem a b))) (Err WrongKind)

-- how two numbers stand to one another, or two texts by their bytes
abbrev pub order_of : Tree → Tree → Result Ordering Reason
order_of v w = of_numbers v w (λ a b. Ok (int_cmp a b)) (of_texts v w (λ s t. Ok (slice_cmp nat_cmp s t)) (Err WrongKind))

-- `<`, `<=`, `>` and `>=`
abbrev pub less : Tree → Tree → Result Tree Reason
less v w = order_of v w >>= λ o. Ok (boolean (is_lt o))

abbrev pub at_most : Tree → Tree → Result Tree Reason
at_most v w = order_of v w >>= λ o. Ok (boolean (is_le o))

abbrev pub greater : Tree → Tree → Result Tree Reason
greater v w = order_of v w >>= λ o. Ok (boolean (is_gt o))

abbrev pub at_least : Tree → Tree → Result Tree Reason
at_least v w = order_of v w >>= λ o. Ok (boolean (is_ge o))

-- ---- `===` and `!==`, of anything but arrays and records

abbrev pub has_parts : Tree → Bool
has_parts (array ts) = true
has_parts (fields fs) = true
has_parts _ = false

abbrev pub is_truth : Bool → Bool → Bool
is_truth true b = b
is_truth false b = not b

-- the kinds of objects, each with a number of its own
abbrev pub kind_number : ObjKind → ℕ
kind_number Ertp = 0
kind_number Zoe = 1
kind_number Timer = 2
kind_number (Brand Nat) = 3
kind_number (Brand Set) = 4
kind_number (Brand Bag) = 5
kind_number Issuer = 6
kind_number Mint = 7
kind_number Purse = 8
kind_number Deposit = 9
kind_number Payment = 10
kind_number Installation = 11
kind_number Instance = 12
kind_number Zcf = 13
kind_number Seat = 14
kind_number Zseat = 15
kind_number Zmint = 16
kind_number Facet = 17
kind_number Promise = 18

abbrev pub is_object : Obj → Obj → Bool
is_object o p = (kind_number o.kind == kind_number p.kind) && (o.number == p.number)

-- whether two values without parts are one; values of different kinds never are
abbrev pub is_same : Tree → Tree → Bool
is_same null w = is_null w
is_same (boolean a) w = option_map_or (is_truth a) (boolean_of w) false
is_same (number a) w = option_map_or (int_eq a) (number_of w) false
is_same (text s) w = option_map_or (bytes_eq s) (text_of w) false
is_same (object o) w = option_map_or (is_object o) (object_of w) false
is_same (function f) w = option_map_or (bytes_eq f) (function_of w) false
is_same (array ts) w = false
is_same (fields fs) w = false

abbrev pub sameness : Tree → Tree → Result Bool Reason
sameness v w = if has_parts v || has_parts w then Err WrongKind else Ok (is_same v w)

abbrev pub equality : Tree → Tree → Result Tree Reason
equality v w = sameness v w >>= λ b. Ok (boolean b)

abbrev pub inequality : Tree → Tree → Result Tree Reason
inequality v w = sameness v w >>= λ b. Ok (boolean (not b))

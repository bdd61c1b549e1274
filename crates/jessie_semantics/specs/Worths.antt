-- What AmountMath makes of values of one kind, as tests that can be computed.
use Rattle.std.specs.Prelude.{ℕ, List, [], ◌∷◌, map, Bool, true, false, nat_lt, nat_le, Option, Some, None, Result, Ok, Err, if◌then◌else◌}
use Rattle.std.specs.List.{find}
use Rattle.host_data.specs.amount_math.Content.{Content, count, difference, entries, sum}
use Rattle.host_data.specs.amount_math.ValueView.{ValueView, bag_bound, bound, keys_of, most_keys, nat_bound, with_content}
use Rattle.host_data.specs.amount_math.declared.Kind.{Kind}
use Rattle.host_data.specs.amount_math.declared.Kind.TheVariants.{Nat, Set, Bag}
use Rattle.refusals.specs.Codes.{not_enough, too_much}
use Rattle.refusals.specs.declared.codes.Refusal.{Refusal}
use Rattle.refusals.specs.declared.codes.Refusal.TheVariants.{Overlap}
use Rattle.jessie_semantics.specs.declared.worths.Operation.{Operation}
use Rattle.jessie_semantics.specs.declared.worths.Operation.TheVariants.{Sum, Difference, Least, Greatest}

-- the elements of a content, in byte order
abbrev pub elements : Content → List (List ℕ)
elements c = map (λ e. e.0) (entries c)

abbrev pub are_none : List (List ℕ) → Bool
are_none [] = true
are_none (k ∷ ks) = false

abbrev pub is_nothing : Content → Bool
is_nothing c = are_none (elements c)

-- nothing is left of the other that the one hasn't
unfoldable pub has : ValueView → ValueView → Bool
has a b = is_nothing (difference b.content a.content)

-- the first element, in byte order, of which there are more than the most
abbrev pub first_past : ℕ → Content → Option (List ℕ)
first_past most c = find (λ k. nat_lt most (count c k)) (elements c)

-- that a value has too much of an element: a set shows the key, which two have in common
abbrev pub past_refusal : Kind → Content → List ℕ → Refusal
past_refusal Nat c k = too_much (count c k) nat_bound
past_refusal Set c k = Overlap k
past_refusal Bag c k = too_much (count c k) bag_bound

abbrev pub has_few : Kind → Content → Bool
has_few Nat c = true
has_few Set c = nat_le (keys_of c) most_keys
has_few Bag c = nat_le (keys_of c) most_keys

-- counts are tested first, then keys
abbrev pub in_bounds : ValueView → Option (List ℕ) → Result ValueView Refusal
in_bounds w (Some k) = Err (past_refusal w.kind w.content k)
in_bounds w None = if has_few w.kind w.content then Ok w else Err (too_much (keys_of w.content) most_keys)

unfoldable pub checked : ValueView → Result ValueView Refusal
checked w = in_bounds w (first_past (bound w.kind) w.content)

abbrev pub sum_in : ValueView → ValueView → Result ValueView Refusal
sum_in a b = checked (with_content a (sum a.content b.content))

-- one less the other, which it must have
abbrev pub difference_in : ValueView → ValueView → Result ValueView Refusal
difference_in a b = if has a b then Ok (with_content a (difference a.content b.content)) else Err (not_enough a b)

-- the one of the two that the other has, and the one that has the other
abbrev pub least_in : ValueView → ValueView → Result ValueView Refusal
least_in a b = if has b a then Ok a else if has a b then Ok b else Err (not_enough a b)

abbrev pub greatest_in : ValueView → ValueView → Result ValueView Refusal
greatest_in a b = if has a b then Ok a else if has b a then Ok b else Err (not_enough a b)

abbrev pub value_of_two : Operation → ValueView → ValueView → Result ValueView Refusal
value_of_two Sum a b = sum_in a b
value_of_two Difference a b = difference_in a b
value_of_two Least a b = least_in a b
value_of_two Greatest a b = greatest_in a b

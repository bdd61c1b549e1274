-- Tests of values, as functions that can be computed, each with what it shows where it fails.
use Rattle.std.specs.Prelude.{ℕ, ◌+◌, List, [], ◌∷◌, Bool, true, false, nat_le, Option, Result, Ok}
use Rattle.refusals.specs.amount_math.Content.{Content, count, difference, sum}
use Rattle.refusals.specs.amount_math.Counted.{counted}
use Rattle.refusals.specs.amount_math.ValueView.{ValueView, bag_bound, bound, keys_of, minted_bound, most_keys, nat_bound}
use Rattle.refusals.specs.amount_math.declared.Kind.{Kind}
use Rattle.refusals.specs.amount_math.declared.Kind.TheVariants.{Nat, Set, Bag}
use Rattle.transit.specs.ertp_mint.BrandSupply.{BrandSupply}
use Rattle.value_tests.specs.Firsts.{elements, first_past}
use Rattle.value_tests.specs.Totals.{total_of}
use Rattle.refusals.specs.Codes.{too_much}
use Rattle.refusals.specs.Outcomes.{◌>>◌, bind, need, none_such}
use Rattle.refusals.specs.declared.codes.Refusal.{Refusal}
use Rattle.refusals.specs.declared.codes.Refusal.TheVariants.{Overlap}

abbrev pub are_none : List (List ℕ) → Bool
are_none [] = true
are_none (k ∷ ks) = false

abbrev pub is_nothing : Content → Bool
is_nothing c = are_none (elements c)

-- nothing is left of the other that the one hasn't
unfoldable pub has : ValueView → ValueView → Bool
has a b = is_nothing (difference b.content a.content)

-- that a value has too much of an element: a set shows the key, which two have in common
abbrev pub past_refusal : Kind → Content → List ℕ → Refusal
past_refusal Nat c k = too_much (count c k) nat_bound
past_refusal Set c k = Overlap k
past_refusal Bag c k = too_much (count c k) bag_bound

abbrev pub has_few : Kind → Content → Bool
has_few Nat c = true
has_few Set c = nat_le (keys_of c) most_keys
has_few Bag c = nat_le (keys_of c) most_keys

-- no count passes the kind's bound
abbrev pub from_first : Kind → Content → Option (List ℕ) → Result (Unit {0}) Refusal
from_first kind c o = none_such o (past_refusal kind c)

unfoldable pub counts_fit : Kind → Content → Result (Unit {0}) Refusal
counts_fit kind c = from_first kind c (first_past (bound kind) c)

-- nor does the number of keys pass theirs
abbrev pub keys_fit : Kind → Content → Bool → Result (Unit {0}) Refusal
keys_fit kind c few = need few (too_much (keys_of c) most_keys)

abbrev pub counts_then_keys : Kind → Content → Result (Unit {0}) Refusal → Result (Unit {0}) Refusal
counts_then_keys kind c counts = bind counts (λ _. keys_fit kind c (has_few kind c))

-- counts are tested first, then keys
unfoldable pub value_fits : Kind → Content → Result (Unit {0}) Refusal
value_fits kind c = counts_then_keys kind c (counts_fit kind c)

-- the sum of two values of one kind
abbrev pub sum_fits : ValueView → ValueView → Result (Unit {0}) Refusal
sum_fits a b = value_fits a.kind (sum a.content b.content)

-- of two sets no key is in both, or in what more of them have together in two
unfoldable pub overlap_free : Kind → Content → Result (Unit {0}) Refusal
overlap_free Nat c = Ok tt
overlap_free Set c = none_such (first_past 1 c) Overlap
overlap_free Bag c = Ok tt

-- the whole sum of values of one kind
abbrev pub total_fits : Kind → List ValueView → Result (Unit {0}) Refusal
total_fits kind ws = value_fits kind (total_of ws)

-- ---- what comes out of a brand

-- the total of what was ever minted of it, with what comes, doesn't pass its bound
unfoldable pub minted_fits : BrandSupply → Content → Result (Unit {0}) Refusal
minted_fits supply c =
    let total = supply.minted + counted c in
    need (nat_le total minted_bound) (too_much total minted_bound)

-- a content may come out beside what is out: counts are tested first, then what was minted
unfoldable pub can_come_out : BrandSupply → Content → Result (Unit {0}) Refusal
can_come_out supply c =
    counts_fit supply.outstanding.kind (sum supply.outstanding.content c) >> minted_fits supply c

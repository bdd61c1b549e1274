-- What is read as a value is one, of the kind.
use Rattle.std.proofs.Common.{◌≡◌, Bool, true, false, Option, Some, None, Result, Ok, Err, IfOk, map, ℤ, pos, negsuc, nat_le, refl}
use Rattle.std.proofs.lemmas.Bool.{leb-true}
use Rattle.std.proofs.lemmas.List.Sorted.{IsPermutation-refl}
use Rattle.std.specs.Option.{IfSome, option_and_then}
use Rattle.amount_math.specs.Content.{of_entries}
use Rattle.amount_math.specs.Entries.{Entries, as_one}
use Rattle.amount_math.specs.NatLaws.{IsNat-of_nat}
use Rattle.amount_math.specs.ValueView.{IsValue, ValueView, nat_bound}
use Rattle.amount_math.specs.declared.Kind.{Kind}
use Rattle.amount_math.specs.declared.Kind.TheVariants.{Nat, Set, Bag}
use Rattle.amount_math.specs.declared.kinds.MakeFault.{MakeFault}
use Rattle.amount_math.proofs.Permuted.{made_set}
use Rattle.host_data.specs.Tree.{Tree, list_of, number_of, text_of}
use Rattle.host_data.specs.Amounts.{IsValueOf, Makes, are_entries, bag_in, bag_of, counted_key, keyed_value, nat_value, pair_in, read_all, set_in, set_of, value_in}
use Rattle.host_data.proofs.KeyedData.{entries_make_bag, entries_permute, keyed_if, nat_if}

-- what holds of all that a later step gives
after : {A : Type 0} (f : A → Option ValueView) (o : Option A) (kind : Kind) → ((x : A) → IfSome (f x) (IsValueOf kind)) → IfSome (option_and_then f o) (IsValueOf kind)
after f None kind h = tt
after f (Some x) kind h = h x

nat_has : (z : ℤ) → IfSome (nat_value z) (IsValueOf Nat)
nat_has (negsuc n) = tt
nat_has (pos n) = by (nat_le n nat_bound) refl
  where
    by : (b : Bool) → nat_le n nat_bound ≡ b → IfSome (nat_if n b) (IsValueOf Nat)
    by true h = record { kind_is = refl; value = IsNat-of_nat n (leb-true n nat_bound h) }
    by false h = tt

keyed_has : (kind : Kind) (es : Entries) → (are_entries es ≡ true → IsValue kind (of_entries es)) → IfSome (keyed_value kind es) (IsValueOf kind)
unfolding keyed_value
keyed_has kind es is_value = by (are_entries es) refl
  where
    by : (b : Bool) → are_entries es ≡ b → IfSome (keyed_if kind es b) (IsValueOf kind)
    by true h = record { kind_is = refl; value = is_value h }
    by false h = tt

pub nat_from_has : (o : Option ℤ) → IfSome (option_and_then nat_value o) (IsValueOf Nat)
nat_from_has o = after nat_value o Nat nat_has

pub set_has : (t : Tree) → IfSome (set_in t) (IsValueOf Set)
unfolding set_in
set_has t =
    after set_of (option_and_then (read_all text_of) (list_of t)) Set (λ ks.
    let es = map as_one ks in
    keyed_has Set es (λ h. made_set ks es (IsPermutation-refl es) (of_entries es) (entries_make_bag es h) (entries_permute es h)))

pub bag_has : (t : Tree) → IfSome (bag_in t) (IsValueOf Bag)
unfolding bag_in
bag_has t = after bag_of (option_and_then (read_all pair_in) (list_of t)) Bag (λ ps. after (keyed_value Bag) (read_all counted_key ps) Bag (λ es. keyed_has Bag es (entries_make_bag es)))

pub value_has : (kind : Kind) (t : Tree) → IfSome (value_in kind t) (IsValueOf kind)
unfolding value_in
value_has Nat t = nat_from_has (number_of t)
value_has Set t = set_has t
value_has Bag t = bag_has t

-- what a reader made is one too
pub own_from : (r : Result ValueView MakeFault) (o : Option ValueView) (kind : Kind) → Makes (λ w. w) r o → IfSome o (IsValueOf kind) → IfOk r (IsValueOf kind)
own_from (Ok w) o kind makes has = rw makes at has
own_from (Err e) o kind makes has = tt

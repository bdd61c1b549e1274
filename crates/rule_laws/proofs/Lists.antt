-- What lists give that a rule reads: live payments of a brand, each once; values of a kind; the sum of values.
use Rattle.std.specs.Prelude.{◌==◌, is_some, unwrap_or}
use Rattle.std.specs.List.{AllByRecursion}
use Rattle.std.proofs.Common.{◌≡◌, ℕ, ◌+◌, ◌<◌, ◌≤◌, nat_le, Bool, true, false, List, [], ◌∷◌, length, map, Option, Some, None, Result, Ok, Err, IfOk, inl, inr, refl, sym, ap, subst, arith}
use Rattle.std.specs.Prelude.{option_and_then, option_map}
use Rattle.std.proofs.lemmas.Bool.{eqb-true, false≢true, leb-true}
use Rattle.std.proofs.lemmas.Option.{same_Some}
use Rattle.world_laws.specs.amount_math.Content.{Content, Contains, Contains-sum, sum, sum-comm}
use Rattle.world_laws.specs.amount_math.KindLaws.{fits_part, keys_within, nothing_is_value, value_of_sum}
use Rattle.world_laws.specs.amount_math.ValueView.{Fits, HasFew, IsValue, ValueView}
use Rattle.world_laws.specs.amount_math.declared.Kind.{Kind}
use Rattle.world_laws.specs.amount_math.declared.Kind.TheVariants.{Nat, Set, Bag}
use Rattle.rules.specs.call_arguments.Arguments.{arg, is_kind, list_at, object_in}
use Rattle.rules.specs.call_arguments.Numbers.{AreApart}
use Rattle.rules.proofs.call_arguments.ArgumentLists.{none_twice}
use Rattle.rules.proofs.call_arguments.Made.{read_made}
use Rattle.world_laws.specs.host_data.Amounts.{AmountData, IsValueOf, read_all}
use Rattle.rules.specs.Licence.{IsObject, NamesPayment, SomeItem, SomeObject}
use Rattle.rule_laws.proofs.GivenData.{data_names, if_wanted, value_read}
use Rattle.world_laws.specs.host_data.Nodes.{EachItem, EachNode, ObjectIs}
use Rattle.world_laws.specs.ertp_mint.Stocks.{most_made}
use Rattle.rules.specs.Lists.{least_other, live_listed, next_payments, with_value}
use Rattle.world_laws.specs.host_data.Tree.{Items, Tree, array, item, list_of, listed, no_items}
use Rattle.world_laws.specs.host_data.declared.data.Obj.{Obj}
use Rattle.world_laws.specs.host_data.declared.data.ObjKind.{ObjKind}
use Rattle.world_laws.specs.host_data.declared.data.ObjKind.TheVariants as kinds
use Rattle.rules.specs.call_arguments.Lists.{amounts_listed, brand_values, objects_in, value_of}
use Rattle.world_laws.specs.refusals.Codes.{bad_args, limit, wrong_object}
use Rattle.world_laws.specs.refusals.Outcomes.{bind, ◌>>=◌, need}
use Rattle.world_laws.specs.refusals.declared.codes.Refusal.{Refusal}
use Rattle.world_laws.proofs.refusals.Steps.{after_none_such, after_step, wanted_there}
use Rattle.rule_laws.proofs.GivenPayments.{IsGiven}
use Rattle.rules.specs.GivenPayments.{LivePayment, is_live_in, payment_view_of}
use Rattle.rules.proofs.value_tests.Exact.{value_passed}
use Rattle.rules.specs.value_tests.Tests.{total_fits}
use Rattle.rules.specs.value_tests.Sums.{sum_value, whole_sum}
use Rattle.rules.specs.value_tests.Totals.{total_of}
use Rattle.world_laws.specs.world_state.Good.{open_slots}
use Rattle.world_laws.specs.world_state.Known.{IsFormed, ObjectKnown, made_as}
use Rattle.world_laws.specs.world_state.Worlds.{State}
use Rattle.rule_laws.proofs.PaidShares.{each_passes}
use Rattle.rule_laws.proofs.Together.{numbers_of}

-- ---- payments

-- a payment that was made, which the arguments name
abbrev IsNamed : State → List Tree → ℕ → Type 0
IsNamed w args p = (p < length w.rights.payments) × NamesPayment args p

made_payment : (w : State) (k : ObjKind) (n : ℕ) → is_kind kinds.Payment k ≡ true → made_as w k n → n < length w.rights.payments
made_payment w kinds.Payment n is made = made
made_payment w _ n is made = absurd (false≢true is)

made_below : (w : State) (o : Obj) → is_kind kinds.Payment o.kind ≡ true → ObjectKnown None w o → o.number < length w.rights.payments
made_below w o is known = made_payment w o.kind o.number is known

first_names : (args : List Tree) (p : ℕ) → SomeObject (IsObject kinds.Payment p) (arg 1 args) → NamesPayment args p
first_names [] p some = absurd some
first_names (t ∷ ts) p some = inl some

none_read : (ps : List ℕ) (P : ℕ → Type 0) → Some [] ≡ Some ps → AllByRecursion P ps
none_read ps P e = subst (AllByRecursion P) (same_Some [] ps e) tt

one_read : {A : Type 0} (P : A → Type 0) (o : Option A) (os : Option (List A)) (xs : List A) → ((x : A) → o ≡ Some x → P x) → ((ys : List A) → os ≡ Some ys → AllByRecursion P ys) → option_and_then (λ x. option_map (λ ys. x ∷ ys) os) o ≡ Some xs → AllByRecursion P xs
one_read P (Some x) (Some ys) xs one rest e = subst (AllByRecursion P) (same_Some (x ∷ ys) xs e) (one x refl, rest ys refl)
one_read P (Some x) None xs one rest e = absurd (cc)
one_read P None os xs one rest e = absurd (cc)

module _ (w : State) (args : List Tree) where
  items_named : (ts : Items) → EachItem (ObjectIs (ObjectKnown None w)) 1 ts → ((p : ℕ) → SomeItem (IsObject kinds.Payment p) ts → NamesPayment args p) → (ps : List ℕ) → read_all (object_in kinds.Payment) (listed ts) ≡ Some ps → AllByRecursion (IsNamed w args) ps
  items_named no_items known names ps e = none_read ps (IsNamed w args) e
  items_named (item t ts) known names ps e =
      one_read (IsNamed w args) (object_in kinds.Payment t) (read_all (object_in kinds.Payment) (listed ts)) ps
      (λ p at. (read_made (ObjectKnown None w) kinds.Payment (length w.rights.payments) (made_below w) 1 t known.0 p at, names p (inl (data_names kinds.Payment t p at))))
      (λ qs at. items_named ts known.1 (λ p some. names p (inr some)) qs at)
      e

  list_named : (t : Tree) → EachNode (ObjectIs (ObjectKnown None w)) 0 t → ((p : ℕ) → SomeObject (IsObject kinds.Payment p) t → NamesPayment args p) → (items : List Tree) → list_of t ≡ Some items → (ps : List ℕ) → read_all (object_in kinds.Payment) items ≡ Some ps → AllByRecursion (IsNamed w args) ps
  list_named (array ts) known names items at ps e =
      items_named ts known.1 names ps (subst (λ xs. read_all (object_in kinds.Payment) xs ≡ Some ps) (sym (same_Some (listed ts) items at)) e)
  list_named _ known names items at ps e = absurd (cc)

  payments_named : IsFormed w None (arg 1 args) → (items : List Tree) → list_at 1 args ≡ Ok items → (ps : List ℕ) → objects_in kinds.Payment 1 items ≡ Ok ps → AllByRecursion (IsNamed w args) ps
  unfolding list_at objects_in
  payments_named formed items at ps are =
      list_named (arg 1 args) formed.objects (first_names args) items (wanted_there (list_of (arg 1 args)) (bad_args 1) items at) ps
      (wanted_there (read_all (object_in kinds.Payment) items) (wrong_object 1) ps are)

-- ---- live payments

-- live payments of the brand, which the arguments name, each once
pub record AreGiven (w : State) (brand : ℕ) (args : List Tree) (gs : List LivePayment) : Type 0 where
  pub given : AllByRecursion (IsGiven w brand args) gs
  pub apart : AreApart (numbers_of gs)

numbers_back : (w : State) (ps : List ℕ) → numbers_of (map (with_value w) ps) ≡ ps
numbers_back w [] = refl
numbers_back w (p ∷ ps) = ap (λ qs. p ∷ qs) (numbers_back w ps)

there : (o : Option ValueView) (d : ValueView) → is_some o ≡ true → o ≡ Some (unwrap_or o d)
there (Some v) d is = refl
there None d is = absurd (false≢true is)

brands_same : (w : State) (brand : ℕ) (ps : List ℕ) → AllByRecursion (λ b. (b == brand) ≡ true) (map (λ p. (payment_view_of w p).brand) ps) → AllByRecursion (λ p. (payment_view_of w p).brand ≡ brand) ps
brands_same w brand [] all = tt
brands_same w brand (p ∷ ps) all = (eqb-true (payment_view_of w p).brand brand all.0, brands_same w brand ps all.1)

brands_are : (w : State) (brand : ℕ) (ps : List ℕ) → least_other w brand ps ≡ None → AllByRecursion (λ p. (payment_view_of w p).brand ≡ brand) ps
unfolding least_other
brands_are w brand ps none = brands_same w brand ps (each_passes (λ b. b == brand) (map (λ p. (payment_view_of w p).brand) ps) none)

each_given : (w : State) (brand : ℕ) (args : List Tree) (ps : List ℕ) → AllByRecursion (IsNamed w args) ps → AllByRecursion (λ p. (payment_view_of w p).brand ≡ brand) ps → AllByRecursion (λ p. is_live_in w p ≡ true) ps → AllByRecursion (IsGiven w brand args) (map (with_value w) ps)
each_given w brand args [] named brands live = tt
each_given w brand args (p ∷ ps) named brands live = (
  record {
    holds = record { made = named.0.0; brand = brands.0; held = there (payment_view_of w p).held _ live.0 };
    named = named.0.1;
  },
  each_given w brand args ps named.1 brands.1 live.1,
)

pub listed_are : (w : State) (brand : ℕ) (args : List Tree) → IsFormed w None (arg 1 args) → IfOk (live_listed w brand 1 args) (AreGiven w brand args)
unfolding live_listed
listed_are w brand args formed =
    after_step _ _ _ (λ items at. after_step _ _ _ (λ ps are. after_none_such _ _ _ _ (λ brands. after_none_such _ _ _ _ (λ live. after_none_such _ _ _ _ (λ apart.
    record {
      given = each_given w brand args ps (payments_named w args formed items at ps are) (brands_are w brand ps brands) (each_passes (is_live_in w) ps live);
      apart = subst AreApart (sym (numbers_back w ps)) (none_twice ps apart);
    })))))

-- ---- values

values_read : (kind : Kind) (xs : List AmountData) (vs : List ValueView) → read_all (value_of kind) xs ≡ Some vs → AllByRecursion (IsValueOf kind) vs
values_read kind [] vs e = subst (AllByRecursion (IsValueOf kind)) (same_Some [] vs e) tt
values_read kind (a ∷ xs) vs e =
    one_read (IsValueOf kind) (value_of kind a) (read_all (value_of kind) xs) vs (λ v is. value_read kind a.value v is) (λ us at. values_read kind xs us at) e

pub parts_are : (brand : ℕ) (kind : Kind) (place : ℕ) (items : List Tree) → IfOk (amounts_listed brand kind place items) (AllByRecursion (IsValueOf kind))
unfolding amounts_listed brand_values
parts_are brand kind place items =
    after_step _ _ _ (λ xs is. after_none_such _ _ _ _ (λ none. if_wanted _ _ _ (λ vs at. values_read kind xs vs at)))

-- ---- sums

contains_second : (a b : Content) → Contains (sum a b) b
contains_second a b = subst (λ c. Contains c b) (sum-comm b a) (Contains-sum b a)

few_part : (kind : Kind) (a b : Content) → Contains a b → HasFew kind a → HasFew kind b
few_part Nat a b has few = tt
few_part Set a b has few = omega (arith, keys_within a b has, few)
few_part Bag a b has few = omega (arith, keys_within a b has, few)

pub total_value : (kind : Kind) (vs : List ValueView) → AllByRecursion (IsValueOf kind) vs → Fits kind (total_of vs) → HasFew kind (total_of vs) → IsValue kind (total_of vs)
total_value kind [] all fits few = nothing_is_value kind
total_value kind (v ∷ vs) all fits few =
    let has = contains_second v.content (total_of vs) in
    value_of_sum kind v.content (total_of vs) all.0.value
    (total_value kind vs all.1 (fits_part kind (sum v.content (total_of vs)) (total_of vs) has fits) (few_part kind (sum v.content (total_of vs)) (total_of vs) has few))
    fits few

sum_passed : (kind : Kind) (vs : List ValueView) (v : ValueView) → whole_sum kind vs ≡ Ok v → total_fits kind vs ≡ Ok tt
unfolding whole_sum bind
sum_passed kind vs v is = by (total_fits kind vs) is
  where
    by : (r : Result (Unit {0}) Refusal) → bind r (λ _. Ok (sum_value kind vs)) ≡ Ok v → r ≡ Ok tt
    by (Ok x) e = refl
    by (Err s) e = cc

pub sum_is : (kind : Kind) (vs : List ValueView) (v : ValueView) → whole_sum kind vs ≡ Ok v → v ≡ sum_value kind vs
unfolding whole_sum bind
sum_is kind vs v is = by (total_fits kind vs) is
  where
    by : (r : Result (Unit {0}) Refusal) → bind r (λ _. Ok (sum_value kind vs)) ≡ Ok v → v ≡ sum_value kind vs
    by (Ok x) e = cc
    by (Err s) e = cc

pub summed_value : (kind : Kind) (vs : List ValueView) (v : ValueView) → AllByRecursion (IsValueOf kind) vs → whole_sum kind vs ≡ Ok v → IsValue kind (total_of vs)
summed_value kind vs v all is =
    let both = value_passed kind (total_of vs) (sum_passed kind vs v is) in
    total_value kind vs all both.0 both.1

-- ---- payments that are made next

pub after_next_payments : {B : Type 0} (P : B → Type 0) (w : State) (n : ℕ) (f : ℕ → Result B Refusal) → (length w.rights.payments + open_slots w.seats w.rights.slots + n ≤ most_made → IfOk (f (length w.rights.payments)) P) → IfOk (next_payments w n >>= f) P
unfolding next_payments bind need
after_next_payments P w n f h = by (nat_le (length w.rights.payments + open_slots w.seats w.rights.slots + n) most_made) refl
  where
    by : (b : Bool) → nat_le (length w.rights.payments + open_slots w.seats w.rights.slots + n) most_made ≡ b → IfOk (bind (bind (need b (limit most_made)) (λ _. Ok (length w.rights.payments))) f) P
    by true is = h (leb-true _ most_made is)
    by false is = tt

-- The parts of a payment: of what kind they are, how many, and what their movements together are like.
use Rattle.std.specs.Prelude.{All, option_and_then, option_map}
use Rattle.std.specs.List.{AllByRecursion}
use Rattle.std.proofs.Common.{◌≡◌, ℕ, suc, ◌+◌, ◌++◌, ◌<◌, ◌≤◌, true, List, [], ◌∷◌, get_or, length, take, Option, Some, None, Ok, IfOk, not, refl, sym, ap, ◌∙◌, arith}
use Rattle.std.proofs.lemmas.List.{length-take-le, map-append, take_more}
use Rattle.std.proofs.lemmas.List.Elements.{All-cons, All-nil}
use Rattle.std.proofs.lemmas.Option.{same_Some}
use Rattle.refusals.specs.amount_math.ValueView.{ValueView}
use Rattle.refusals.specs.amount_math.declared.Kind.{Kind}
use Rattle.rules.specs.call_arguments.Arguments.{filled_list_at, is_empty}
use Rattle.refusals.specs.host_data.Amounts.{AmountData, IsValueOf, amount_fields, read_all}
use Rattle.refusals.specs.host_data.Tree.{Tree}
use Rattle.refusals.specs.host_data.View.{tree, trees}
use Rattle.refusals.specs.host_data.declared.data.Data.{Data}
use Rattle.refusals.specs.host_data.declared.data.ObjKind.TheVariants as kinds
use Rattle.rules.specs.call_arguments.Lists.{amounts_listed, brand_values, listed_in, value_of}
use Rattle.refusals.proofs.Steps.{after_need, after_none_such, after_step, ok_has, wanted_there}
use Rattle.ertp_calls.proofs.rule_laws.GivenData.{if_wanted}
use Rattle.ertp_calls.proofs.rule_laws.Lists.{parts_are, sum_is}
use Rattle.refusals.specs.host_data.Values.{object_tree}
use Rattle.rules.specs.Lists.{moves_apart, payments_from}
use Rattle.rules.proofs.lemmas.ListEdits.{length_map}
use Rattle.rules.specs.world_state.Shapes.{IsSplit, parts_from}
use Rattle.rules.specs.vault_model.Flows.{spread}
use Rattle.rules.specs.rights_model.Table.{movement}
use Rattle.rules.specs.rights_model.declared.Holder.TheVariants.{Payment}
use Rattle.rules.specs.rights_model.declared.Movement.{Movement}
use Rattle.rules.specs.value_tests.Sums.{whole_sum}

spread_is : (brand from n : ℕ) (vs : List ValueView) → moves_apart brand from n vs ≡ spread brand (Payment from) (parts_from n vs)
spread_is brand from n [] = refl
spread_is brand from n (v ∷ vs) = ap (λ (ms : List Movement). movement brand (Payment from) (Payment n) v ∷ ms) (spread_is brand from (suc n) vs)

pub split_shaped : (brand from n : ℕ) (vs : List ValueView) → 0 < length vs → IsSplit (moves_apart brand from n vs)
split_shaped brand from n [] some = absurd (omega arith)
split_shaped brand from n (v ∷ vs) some = record {
  brand = brand;
  from = from;
  to = n;
  first = v;
  others = vs;
  is = spread_is brand from n (v ∷ vs);
}

-- ---- kinds

kinds_of : (kind : Kind) (vs : List ValueView) → AllByRecursion (IsValueOf kind) vs → All (λ v. v.kind ≡ kind) vs
kinds_of kind [] each = All-nil (λ (v : ValueView). v.kind ≡ kind)
kinds_of kind (v ∷ vs) each = All-cons (λ (x : ValueView). x.kind ≡ kind) v vs each.0.kind_is (kinds_of kind vs each.1)

pub parts_kinds : (brand : ℕ) (kind : Kind) (place : ℕ) (items : List Tree) (vs : List ValueView) → amounts_listed brand kind place items ≡ Ok vs → All (λ v. v.kind ≡ kind) vs
parts_kinds brand kind place items vs is = kinds_of kind vs (ok_has _ _ vs is (parts_are brand kind place items))

-- ---- how many

read_many : {A B : Type 0} (read : A → Option B) (xs : List A) (ys : List B) → read_all read xs ≡ Some ys → length ys ≡ length xs
read_many read [] ys is = sym (ap length (same_Some [] ys is))
read_many {B = B} read (x ∷ xs) ys is = by (read x) (read_all read xs) (read_many read xs) is
  where
    by : (o : Option B) (r : Option (List B)) → ((zs : List B) → r ≡ Some zs → length zs ≡ length xs) → option_and_then (λ y. option_map (λ zs. y ∷ zs) r) o ≡ Some ys → length ys ≡ length (x ∷ xs)
    by (Some y) (Some zs) rest at = sym (ap length (same_Some (y ∷ zs) ys at)) ∙ omega (arith, rest zs refl)
    by (Some y) None rest at = absurd (cc)
    by None r rest at = absurd (cc)

filled : (items : List Tree) → not (is_empty items) ≡ true → 0 < length items
filled [] is = absurd (cc)
filled (t ∷ ts) is = omega arith

filled_listed : (place : ℕ) (args : List Tree) → IfOk (filled_list_at place args) (λ items. 0 < length items)
unfolding filled_list_at
filled_listed place args = after_step _ _ _ (λ items is. after_need _ _ _ _ (λ some. filled items some))

amounts_many : (brand : ℕ) (kind : Kind) (place : ℕ) (items : List Tree) → IfOk (amounts_listed brand kind place items) (λ vs. length vs ≡ length items)
unfolding amounts_listed listed_in brand_values
amounts_many brand kind place items =
    after_step _ _ _ (λ amounts is. after_none_such _ _ _ _ (λ same. wanted_many amounts (read_many amount_fields items amounts (wanted_there _ _ amounts is))))
  where
    wanted_many : (amounts : List AmountData) → length amounts ≡ length items → IfOk (brand_values kind amounts) (λ vs. length vs ≡ length items)
    wanted_many amounts many = if_wanted _ _ _ (λ vs at. read_many (value_of kind) amounts vs at ∙ many)

pub some_listed : (place : ℕ) (args : List Tree) (items : List Data) → filled_list_at place args ≡ Ok (trees items) → 0 < length items
some_listed place args items listed =
    let some : 0 < length (trees items) = ok_has _ _ (trees items) listed (filled_listed place args) in
    omega (arith, some, length_map tree items)

pub parts_many : (brand : ℕ) (kind : Kind) (place : ℕ) (items : List Data) (vs : List ValueView) → amounts_listed brand kind place (trees items) ≡ Ok vs → 0 < length items → 0 < length vs
parts_many brand kind place items vs is some =
    let many : length vs ≡ length (trees items) = ok_has _ _ vs is (amounts_many brand kind place (trees items)) in
    omega (arith, some, many, length_map tree items)

-- ---- what the parts are together

pub sum_kind : (kind : Kind) (vs : List ValueView) (v : ValueView) → whole_sum kind vs ≡ Ok v → kind ≡ v.kind
sum_kind kind vs v is = sym (ap (λ (w : ValueView). w.kind) (sum_is kind vs v is))

-- ---- one part more

pub payments_more : (n k : ℕ) (vs : List ValueView) (v : ValueView) → k ≡ n + length vs → payments_from n (vs ++ v ∷ []) ≡ payments_from n vs ++ object_tree kinds.Payment k ∷ []
payments_more n k [] v is = ap (λ (m : ℕ). object_tree kinds.Payment m ∷ []) (omega (arith, is))
payments_more n k (w ∷ ws) v is = ap (λ (ts : List Tree). object_tree kinds.Payment n ∷ ts) (payments_more (suc n) k ws v (omega (arith, is)))

-- the payment of one part more is put at the end
pub one_part : (n k i : ℕ) (parts : List ValueView) (v : ValueView) (items : List Data) (d : Data) → i < length parts → k ≡ n + i → trees items ≡ payments_from n (take i parts) → tree d ≡ object_tree kinds.Payment k → trees (items ++ d ∷ []) ≡ payments_from n (take (i + 1) parts)
one_part n k i parts v items d low at before is =
    let within : i ≤ length parts = omega arith in
    let long : length (take i parts) ≡ i = length-take-le i parts within in
    let more : take (i + 1) parts ≡ take i parts ++ get_or parts i v ∷ [] = take_more parts i v low in
    map-append tree items (d ∷ [])
    ∙ ap (λ (ts : List Tree). ts ++ tree d ∷ []) before
    ∙ ap (λ (t : Tree). payments_from n (take i parts) ++ t ∷ []) is
    ∙ sym (payments_more n k (take i parts) (get_or parts i v) (omega (arith, at, long)))
    ∙ sym (ap (payments_from n) more)

pub apart_more : (brand from n k : ℕ) (vs : List ValueView) (v : ValueView) → k ≡ n + length vs → moves_apart brand from n (vs ++ v ∷ []) ≡ moves_apart brand from n vs ++ movement brand (Payment from) (Payment k) v ∷ []
apart_more brand from n k [] v is = ap (λ (m : ℕ). movement brand (Payment from) (Payment m) v ∷ []) (omega (arith, is))
apart_more brand from n k (w ∷ ws) v is = ap (λ (ms : List Movement). movement brand (Payment from) (Payment n) w ∷ ms) (apart_more brand from (suc n) k ws v (omega (arith, is)))

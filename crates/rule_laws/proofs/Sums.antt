-- What tests of values that were passed say.
use Rattle.std.proofs.Common.{◌≡◌, Bool, true, false, Result, Ok, Err, refl, sym, subst}
use Rattle.std.proofs.lemmas.Bool.{leb-true}
use Rattle.world_laws.specs.amount_math.Content.{Content, sum}
use Rattle.world_laws.specs.amount_math.KindLaws.{value_of_sum}
use Rattle.world_laws.specs.amount_math.ValueView.{Fits, HasFew, IsValue, ValueView, bound, keys_of, most_keys}
use Rattle.world_laws.specs.amount_math.declared.Kind.{Kind}
use Rattle.world_laws.specs.amount_math.declared.Kind.TheVariants.{Nat, Set, Bag}
use Rattle.world_laws.specs.refusals.Outcomes.{bind, need}
use Rattle.world_laws.proofs.refusals.Steps.{none_is}
use Rattle.world_laws.specs.refusals.declared.codes.Refusal.{Refusal}
use Rattle.rules.specs.value_tests.Firsts.{first_past}
use Rattle.rules.proofs.value_tests.Firsts.{fits_where_none}
use Rattle.rules.specs.value_tests.Tests.{counts_fit, counts_then_keys, has_few, keys_fit, past_refusal, sum_fits, value_fits}

pub fits_if : (kind : Kind) (c : Content) (x : Unit {0}) → counts_fit kind c ≡ Ok x → Fits kind c
unfolding counts_fit
fits_if kind c x is = record {
  each = fits_where_none (bound kind) c (none_is (first_past (bound kind) c) (past_refusal kind c) x is);
}

-- ---- a value

has_few_if : (kind : Kind) (c : Content) → has_few kind c ≡ true → HasFew kind c
has_few_if Nat c is = tt
has_few_if Set c is = leb-true (keys_of c) most_keys is
has_few_if Bag c is = leb-true (keys_of c) most_keys is

few_if : (kind : Kind) (c : Content) (r : Result (Unit {0}) Refusal) (x : Unit {0}) → counts_then_keys kind c r ≡ Ok x → (r ≡ Ok tt) × (has_few kind c ≡ true)
unfolding bind need
few_if kind c (Ok y) x is = (refl, by (has_few kind c) is)
  where
    by : (b : Bool) → keys_fit kind c b ≡ Ok x → b ≡ true
    by true e = refl
    by false e = cc
few_if kind c (Err e) x is = cc

pub sum_if : (a b : ValueView) (x : Unit {0}) → a.kind ≡ b.kind → IsValue a.kind a.content → IsValue b.kind b.content → sum_fits a b ≡ Ok x → IsValue a.kind (sum a.content b.content)
unfolding value_fits
sum_if a b x same v w is =
    let both = few_if a.kind (sum a.content b.content) (counts_fit a.kind (sum a.content b.content)) x is in
    value_of_sum a.kind a.content b.content v (subst (λ (k : Kind). IsValue k b.content) (sym same) w) (fits_if a.kind _ tt both.0) (has_few_if a.kind _ both.1)

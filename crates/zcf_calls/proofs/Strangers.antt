-- Brands that no issuer is of, and keywords that none stands under.
use Rattle.std.specs.List.{Any}
use Rattle.std.specs.Prelude.{◌==◌, is_none, is_some, not}
use Rattle.std.proofs.Common.{◌≡◌, ℕ, true, false, List, Option, None, Some, refl}
use Rattle.rules.specs.brands.IssuerRecords.{brand_under}
use Rattle.std.proofs.lemmas.Bool.{eqb-true, false_from_ne_true}
use Rattle.std.proofs.lemmas.List.Folds.{Any-from_list_any}
use Rattle.rules.specs.brands.declared.issuer_record.Issuer.{Issuer}
use Rattle.rules.specs.Proposals.{is_known}

some_is : (issuers : List Issuer) (b : ℕ) → is_known issuers b ≡ true → Any (λ i. i.brand ≡ b) issuers
some_is issuers b known = let there = Any-from_list_any (λ (i : Issuer). i.brand == b) issuers known in (there.0, there.1, there.2, there.3, eqb-true there.1.brand b there.4)

pub unknown_is : (issuers : List Issuer) (b : ℕ) → (Any (λ i. i.brand ≡ b) issuers → ⊥) → is_known issuers b ≡ false
unknown_is issuers b none = false_from_ne_true (is_known issuers b) (λ known. none (some_is issuers b known))

-- where one stands under a keyword it isn't free
pub free_is : (issuers : List Issuer) (keyword : List ℕ) → is_none (brand_under keyword issuers) ≡ not (is_some (brand_under keyword issuers))
free_is issuers keyword = by (brand_under keyword issuers)
  where
    by : (o : Option ℕ) → is_none o ≡ not (is_some o)
    by None = refl
    by (Some b) = refl

-- Shares with their values, read share by share.
use Rattle.std.specs.Prelude.{option_and_then, option_map}
use Rattle.std.proofs.Common.{◌≡◌, List, [], ◌∷◌, Option, Some, None, Ok, refl, ap, ◌∙◌}
use Rattle.amount_math.specs.ValueView.{ValueView}
use Rattle.refusals.specs.host_data.Amounts.{read_all}
use Rattle.rules.specs.proposals.Shares.{keyed_share}
use Rattle.rules.specs.proposals.declared.allocations.Share.{Share}
use Rattle.call_arguments.specs.Records.{ShareData, share_value, values_in}
use Rattle.refusals.specs.Codes.{bad_value}
use Rattle.refusals.specs.Outcomes.{bind, wanted}
use Rattle.rules.specs.vault_model.Lists.{amount_of}
use Rattle.rules.specs.Proposals.{valued, with_values}
use Rattle.offer_calls.specs.ProposalSteps.{valued_share}

each_valued : (shares : List ShareData) → option_map (with_values shares) (read_all share_value shares) ≡ read_all valued_share shares
each_valued [] = refl
each_valued (r ∷ rs) = by (share_value r) (read_all share_value rs) (read_all valued_share rs) (each_valued rs)
  where
    by : (o : Option ValueView) (vs : Option (List ValueView)) (shares : Option (List Share)) → option_map (with_values rs) vs ≡ shares → option_map (with_values (r ∷ rs)) (option_and_then (λ y. option_map (λ ys. y ∷ ys) vs) o) ≡ option_and_then (λ y. option_map (λ ys. y ∷ ys) shares) (option_map (λ v. keyed_share r.keyword (amount_of r.amount.brand v)) o)
    by None vs shares same = refl
    by (Some v) None shares same = ap (option_map (λ ys. keyed_share r.keyword (amount_of r.amount.brand v) ∷ ys)) same
    by (Some v) (Some ws) shares same = ap (option_map (λ ys. keyed_share r.keyword (amount_of r.amount.brand v) ∷ ys)) same

pub valued_each : (shares : List ShareData) → valued shares ≡ wanted (read_all valued_share shares) bad_value
unfolding valued values_in bind wanted
valued_each shares = by (read_all share_value shares) ∙ ap (λ o. wanted o bad_value) (each_valued shares)
  where
    by : (o : Option (List ValueView)) → bind (wanted o bad_value) (λ values. Ok (with_values shares values)) ≡ wanted (option_map (with_values shares) o) bad_value
    by None = refl
    by (Some values) = refl

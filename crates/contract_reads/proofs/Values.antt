-- Shares of which no keyword is ill are each under a keyword; and shares with their values are read one by one.
use Rattle.std.specs.Prelude.{All, find, not, option_and_then, option_map}
use Rattle.std.proofs.Common.{◌≡◌, ◌<◌, ◌≤◌, ℕ, Bool, true, false, List, [], ◌∷◌, get_or, length, Option, Some, None, Ok, Err, Result, refl, sym, ap, ◌∙◌, if◌then◌else◌}
use Rattle.std.proofs.lemmas.List.Elements.{All-cons, All-nil}
use Rattle.refusals.specs.amount_math.ValueView.{ValueView}
use Rattle.host_data.proofs.ReadLists.{IsRead, read_ends, read_stops}
use Rattle.host_data.specs.Amounts.{read_all}
use Rattle.refusals.specs.host_text.Words.{is_keyword}
use Rattle.rules.specs.proposals.Shares.{keyed_share}
use Rattle.rules.specs.proposals.declared.allocations.Share.{Share}
use Rattle.rules.specs.call_arguments.Records.{ShareData, first_ill, keywords, share_data, share_value, shares_data, values_in}
use Rattle.rules.specs.call_arguments.declared.records.GivenShare.{GivenShare}
use Rattle.refusals.specs.Codes.{bad_value}
use Rattle.refusals.specs.Outcomes.{Fails, bind, wanted}
use Rattle.refusals.specs.declared.codes.Refusal.{Refusal}
use Rattle.refusals.specs.declared.stops.Stop.{Stop}
use Rattle.refusals.specs.declared.stops.Stop.TheVariants.{NoMemory, Refused}
use Rattle.rules.specs.vault_model.Lists.{amount_of}
use Rattle.contract_reads.specs.Valued.{valued_share}
use Rattle.rules.specs.Proposals.{valued, with_values}

-- ---- keywords

pub keywords_named : (shares : List GivenShare) → first_ill (keywords (shares_data shares)) ≡ None → All (λ r. is_keyword r.keyword.now ≡ true) shares
unfolding first_ill
keywords_named [] none = All-nil (λ (r : GivenShare). is_keyword r.keyword.now ≡ true)
keywords_named (r ∷ rs) none = by (keywords_named rs) (is_keyword r.keyword.now) refl none
  where
    by : (first_ill (keywords (shares_data rs)) ≡ None → All (λ r. is_keyword r.keyword.now ≡ true) rs) → (b : Bool) → is_keyword r.keyword.now ≡ b → (if not b then Some r.keyword.now else find (λ k. not (is_keyword k)) (keywords (shares_data rs))) ≡ None → All (λ r. is_keyword r.keyword.now ≡ true) (r ∷ rs)
    by later true is rest = All-cons (λ (x : GivenShare). is_keyword x.keyword.now ≡ true) r rs is (later rest)
    by later false is rest = absurd (cc)

-- ---- values

all_valued : (shares : List ShareData) → option_map (with_values shares) (read_all share_value shares) ≡ read_all valued_share shares
all_valued [] = refl
all_valued (r ∷ rs) = by (share_value r) (read_all share_value rs) (all_valued rs)
  where
    by : (o : Option ValueView) (vs : Option (List ValueView)) → option_map (with_values rs) vs ≡ read_all valued_share rs → option_map (with_values (r ∷ rs)) (option_and_then (λ v. option_map (λ ws. v ∷ ws) vs) o) ≡ option_and_then (λ x. option_map (λ xs. x ∷ xs) (read_all valued_share rs)) (option_map (λ v. keyed_share r.keyword (amount_of r.amount.brand v)) o)
    by (Some v) (Some ws) rest = ap (option_map (λ xs. keyed_share r.keyword (amount_of r.amount.brand v) ∷ xs)) rest
    by (Some v) None rest = ap (option_map (λ xs. keyed_share r.keyword (amount_of r.amount.brand v) ∷ xs)) rest
    by None vs rest = refl

chained : (shares : List ShareData) (o : Option (List ValueView)) → bind (wanted o bad_value) (λ values. Ok (with_values shares values)) ≡ wanted (option_map (with_values shares) o) bad_value
unfolding bind wanted
chained shares (Some vs) = refl
chained shares None = refl

pub valued_is : (shares : List ShareData) → valued shares ≡ wanted (read_all valued_share shares) bad_value
unfolding valued values_in
valued_is shares = chained shares (read_all share_value shares) ∙ ap (λ (o : Option (List Share)). wanted o bad_value) (all_valued shares)

-- a share that has no value stops the others
pub stopped : (stop : Stop) (shares : List GivenShare) (i : ℕ) (done : List Share) (r : GivenShare) → IsRead valued_share share_data shares i done → i < length shares → r ≡ get_or shares i r → Fails stop (wanted (valued_share (share_data r)) bad_value) → Fails stop (valued (shares_data shares))
unfolding wanted
stopped NoMemory shares i done r read lt at fails = tt
stopped (Refused e) shares i done r read lt at fails = by (valued_share (share_data r)) refl fails
  where
    refused : ◌≡◌ {A = Result Share Refusal} (Err bad_value) (Err e) → bad_value ≡ e
    refused f = cc

    by : (o : Option Share) → valued_share (share_data r) ≡ o → wanted o bad_value ≡ Err e → valued (shares_data shares) ≡ Err e
    by None is f = valued_is (shares_data shares) ∙ ap (λ (o : Option (List Share)). wanted o bad_value) (read_stops valued_share share_data shares i done read r lt at is) ∙ ap (λ (x : Refusal). Err x) (refused f)
    by (Some x) is f = absurd (cc)

pub all_there : (shares : List GivenShare) (i : ℕ) (done : List Share) → IsRead valued_share share_data shares i done → length shares ≤ i → valued (shares_data shares) ≡ Ok done
unfolding wanted
all_there shares i done read past = valued_is (shares_data shares) ∙ ap (λ (o : Option (List Share)). wanted o bad_value) (read_ends valued_share share_data shares i done read past)

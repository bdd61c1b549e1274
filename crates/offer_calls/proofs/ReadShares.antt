-- Shares that are read of a proposal: with their values, each under a keyword, of its brand's kind, and such as a
-- proposal can have.
use Rattle.std.specs.Prelude.{All, find, not}
use Rattle.std.specs.List.{AllByRecursion}
use Rattle.std.proofs.Common.{◌≡◌, ◌<◌, ◌≤◌, ◌+◌, ◌^◌, Bool, true, false, List, [], ◌∷◌, length, Some, None, Ok, IfOk, refl, sym, ap, ◌∙◌, arith, if◌then◌else◌}
use Rattle.std.proofs.lemmas.List.Elements.{All-cons, All-nil}
use Rattle.rules.specs.brands.declared.issuer_record.Issuer.{Issuer}
use Rattle.call_arguments.specs.Arguments.{arg}
use Rattle.ertp_calls.proofs.rule_laws.SharesRead.{IsReadShare, rising_apart}
use Rattle.ertp_calls.specs.world_reads.Handed.{AreHanded}
use Rattle.refusals.specs.host_text.Words.{is_keyword}
use Rattle.refusals.specs.host_data.Tree.{Tree}
use Rattle.rules.specs.proposals.Shares.{AreApart, AreShares, most_shares}
use Rattle.rules.specs.proposals.declared.allocations.Share.{Share}
use Rattle.call_arguments.specs.Records.{first_ill, keywords, shares_data}
use Rattle.call_arguments.specs.declared.records.GivenShare.{GivenShare}
use Rattle.refusals.proofs.Steps.{after_need, after_none_such, after_step, after_wanted, ok_has}
use Rattle.refusals.specs.Codes.{bad_args}
use Rattle.refusals.specs.Outcomes.{wanted}
use Rattle.ertp_calls.proofs.rule_laws.Proposed.{IsProposed, proposed_is}
use Rattle.rules.specs.Proposals.{Proposed, proposed}
use Rattle.rules.specs.Words.{record_in}
use Rattle.rules.specs.world_state.Good.{IsGoodWorld}
use Rattle.rules.specs.world_state.Rights.{kind_at}
use Rattle.rules.specs.world_state.Worlds.{State}
use Rattle.offer_calls.specs.Views.{CanBeShares}

-- ---- keywords

keywords_named : (shares : List GivenShare) → first_ill (keywords (shares_data shares)) ≡ None → All (λ r. is_keyword r.keyword.now ≡ true) shares
unfolding first_ill
keywords_named [] none = All-nil (λ (r : GivenShare). is_keyword r.keyword.now ≡ true)
keywords_named (r ∷ rs) none = by (is_keyword r.keyword.now) refl none (keywords_named rs)
  where
    by : (b : Bool) → is_keyword r.keyword.now ≡ b → (if not b then Some r.keyword.now else find (λ k. not (is_keyword k)) (keywords (shares_data rs))) ≡ None → (first_ill (keywords (shares_data rs)) ≡ None → All (λ x. is_keyword x.keyword.now ≡ true) rs) → All (λ x. is_keyword x.keyword.now ≡ true) (r ∷ rs)
    by true is rest more = All-cons (λ (x : GivenShare). is_keyword x.keyword.now ≡ true) r rs is (more rest)
    by false is rest more = absurd (cc)

pub can_be_shares : (shares : List GivenShare) → first_ill (keywords (shares_data shares)) ≡ None → All (λ r. r.amount.brand < 2 ^ 16) shares → CanBeShares shares
can_be_shares shares none small = record { named = keywords_named shares none; small = small }

-- ---- what was read

read : (w : State) (issuers : List Issuer) (args : List Tree) (p : Proposed) → AreHanded w args → proposed issuers (arg 2 args) (arg 3 args) ≡ Ok p → IsProposed w (arg 3 args) p
read w issuers args p handed is = ok_has _ _ p is (proposed_is w issuers (arg 2 args) (arg 3 args) (handed.each 2) (handed.each 3))

kinds_of : (w : State) → IsGoodWorld w → (shares : List Share) → AllByRecursion (IsReadShare w) shares → All (λ r. r.amount.value.kind ≡ kind_at w.rights.out r.amount.brand) shares
kinds_of w good [] each = All-nil (λ (r : Share). r.amount.value.kind ≡ kind_at w.rights.out r.amount.brand)
kinds_of w good (r ∷ rs) each =
    All-cons (λ (x : Share). x.amount.value.kind ≡ kind_at w.rights.out x.amount.brand) r rs
    (sym each.0.brand.kind_is ∙ sym (good.brands.kinds r.amount.brand))
    (kinds_of w good rs each.1)

pub give_kinds : (w : State) (issuers : List Issuer) (args : List Tree) (p : Proposed) → IsGoodWorld w → AreHanded w args → proposed issuers (arg 2 args) (arg 3 args) ≡ Ok p → All (λ r. r.amount.value.kind ≡ kind_at w.rights.out r.amount.brand) p.proposal.give
give_kinds w issuers args p good handed is = kinds_of w good p.proposal.give (read w issuers args p handed is).give.each

-- of a proposal and payments that are a call's second and third argument
pub kinds_given : (w : State) (issuers : List Issuer) (args : List Tree) (p : Proposed) (proposal payments : Tree) → IsGoodWorld w → AreHanded w args → proposal ≡ arg 2 args → payments ≡ arg 3 args → proposed issuers proposal payments ≡ Ok p → All (λ r. r.amount.value.kind ≡ kind_at w.rights.out r.amount.brand) p.proposal.give
kinds_given w issuers args p proposal payments good handed second third is = give_kinds w issuers args p good handed ((λ i. proposed issuers (sym second i) (sym third i)) ∙ is)

pub give_apart : (w : State) (issuers : List Issuer) (args : List Tree) (p : Proposed) → AreHanded w args → proposed issuers (arg 2 args) (arg 3 args) ≡ Ok p → AreApart p.proposal.give
give_apart w issuers args p handed is = rising_apart p.proposal.give (read w issuers args p handed is).give.rising

pub want_apart : (w : State) (issuers : List Issuer) (args : List Tree) (p : Proposed) → AreHanded w args → proposed issuers (arg 2 args) (arg 3 args) ≡ Ok p → AreApart p.proposal.want
want_apart w issuers args p handed is = rising_apart p.proposal.want (read w issuers args p handed is).want.rising

pub give_shares : (give want : List Share) → AreApart give → length give + length want ≤ most_shares → AreShares give
give_shares give want apart few = record { few = omega (arith, few); apart = apart }

pub want_shares : (give want : List Share) → AreApart want → length give + length want ≤ most_shares → AreShares want
want_shares give want apart few = record { few = omega (arith, few); apart = apart }

-- ---- the payments that come with it

fields_read : (issuers : List Issuer) (proposal payments : Tree) → IfOk (proposed issuers proposal payments) (λ p. record_in payments ≡ Some p.payments)
unfolding proposed
fields_read issuers proposal payments =
    after_need _ _ _ _ (λ parts. after_wanted _ _ _ _ (λ give gives. after_wanted _ _ _ _ (λ want wants. after_wanted _ _ _ _ (λ given at.
    after_none_such _ _ _ _ (λ give_named. after_none_such _ _ _ _ (λ want_named. after_none_such _ _ _ _ (λ none_shared. after_none_such _ _ _ _ (λ known.
    after_step _ _ _ (λ give_shares give_values. after_step _ _ _ (λ want_shares want_values. after_wanted _ _ _ _ (λ exit rule. after_none_such _ _ _ _ (λ none_alone.
    at))))))))))))

pub payments_read : (issuers : List Issuer) (proposal payments : Tree) (p : Proposed) → proposed issuers proposal payments ≡ Ok p → wanted (record_in payments) (bad_args 3) ≡ Ok p.payments
unfolding wanted
payments_read issuers proposal payments p is = ap (λ o. wanted o (bad_args 3)) (ok_has (λ (x : Proposed). record_in payments ≡ Some x.payments) (proposed issuers proposal payments) p is (fields_read issuers proposal payments))

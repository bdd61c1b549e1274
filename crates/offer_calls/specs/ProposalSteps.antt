-- The reading of a proposal in three steps: what is given, whether it can stand, and what is proposed by it.
use Rattle.std.specs.Prelude.{ℕ, List, Result, Ok, Option, option_map, codes}
use Rattle.rules.specs.brands.declared.issuer_record.Issuer.{Issuer}
use Rattle.call_arguments.specs.Numbers.{least_of}
use Rattle.refusals.specs.host_data.Amounts.{read_all}
use Rattle.call_arguments.specs.Exits.{exit_in}
use Rattle.refusals.specs.host_data.Tree.{Tree}
use Rattle.rules.specs.proposals.Shares.{keyed_share}
use Rattle.rules.specs.proposals.declared.allocations.Share.{Share}
use Rattle.rules.specs.proposals.declared.offers.Exit.{Exit}
use Rattle.call_arguments.specs.Records.{ShareData, first_ill, keywords, names, share_value}
use Rattle.refusals.specs.Codes.{bad_args, bad_exit, bad_keyword, bad_value, keyword_mismatch, wrong_brand}
use Rattle.refusals.specs.Outcomes.{◌>>=◌, ◌>>◌, need, none_such, wanted}
use Rattle.refusals.specs.declared.codes.Refusal.{Refusal}
use Rattle.rules.specs.vault_model.Lists.{amount_of}
use Rattle.rules.specs.Proposals.{Proposed, amounts_of, first_shared, has_parts, least_alone, least_strange, part}
use Rattle.rules.specs.Words.{record_in}

-- the shares of give and of want, and the payments, as they are given
pub record Given : Type 0 where
  pub give : List ShareData
  pub want : List ShareData
  pub payments : List (List ℕ × Tree)

-- want and the payments have their form
unfoldable pub with_give : List ShareData → Tree → Tree → Result Given Refusal
with_give give proposal payments = do
  want ← wanted (amounts_of (part (codes "want") proposal)) (bad_args 2)
  fields ← wanted (record_in payments) (bad_args 3)
  Ok (record { give = give; want = want; payments = fields })

-- all have their form
unfoldable pub given : Tree → Tree → Result Given Refusal
given proposal payments = do
  need (has_parts proposal) (bad_args 2)
  give ← wanted (amounts_of (part (codes "give") proposal)) (bad_args 2)
  with_give give proposal payments

-- names are keywords, none stands in both, and each brand is known
unfoldable pub can_stand : List Issuer → Given → Result (Unit {0}) Refusal
can_stand issuers g = do
  none_such (first_ill (keywords g.give)) bad_keyword
  none_such (first_ill (keywords g.want)) bad_keyword
  none_such (first_shared (keywords g.give) (keywords g.want)) keyword_mismatch
  none_such (least_of (least_strange issuers g.give) (least_strange issuers g.want)) wrong_brand

-- the share of an amount with the value that its data stands for
abbrev pub valued_share : ShareData → Option Share
valued_share r = option_map (λ v. keyed_share r.keyword (amount_of r.amount.brand v)) (share_value r)

-- the rule, where each share of give has its payment
unfoldable pub rule_of : Given → Tree → Result Exit Refusal
rule_of g rule = do
  exit ← wanted (exit_in rule) bad_exit
  none_such (least_alone (keywords g.give) (names g.payments)) keyword_mismatch
  Ok exit

-- values and the rule are read
unfoldable pub proposed_by : Given → Tree → Result Proposed Refusal
proposed_by g rule = do
  gives ← wanted (read_all valued_share g.give) bad_value
  wants ← wanted (read_all valued_share g.want) bad_value
  exit ← rule_of g rule
  Ok (record { proposal = record { give = gives; want = wants; exit = exit }; payments = g.payments })

-- what can stand is proposed
unfoldable pub standing : List Issuer → Given → Tree → Result Proposed Refusal
standing issuers g rule = do
  can_stand issuers g
  proposed_by g rule

-- one step after another
unfoldable pub read_by : List Issuer → Tree → Tree → Result Proposed Refusal
read_by issuers proposal payments = do
  g ← given proposal payments
  standing issuers g (part (codes "exit") proposal)

-- Payments that are given for shares.
use Rattle.std.specs.Prelude.{ℕ, List, Result, Ok}
use Rattle.rules.specs.call_arguments.Arguments.{record_at}
use Rattle.rules.specs.call_arguments.Numbers.{first_repeated, least_failing}
use Rattle.host_data.specs.Tree.{Tree}
use Rattle.host_data.specs.declared.data.ObjKind.TheVariants as kinds
use Rattle.rules.specs.call_arguments.Records.{names, objects_under}
use Rattle.rules.specs.proposals.declared.allocations.Share.{Share}
use Rattle.refusals.specs.Codes.{dead_payment, keyword_mismatch, repeated_payment, wrong_amount}
use Rattle.refusals.specs.Outcomes.{◌>>=◌, ◌>>◌, none_such}
use Rattle.refusals.specs.declared.codes.Refusal.{Refusal}
use Rattle.rules.specs.GivenPayments.{first_wrong, is_live_in}
use Rattle.rules.specs.Proposals.{least_alone}
use Rattle.rules.specs.Zcf.{share_names}
use Rattle.rules.specs.world_state.Worlds.{State}

-- the payments under the names of a record, which are live
unfoldable pub live_payments : State → List (List ℕ × Tree) → Result (List ℕ) Refusal
live_payments w given = do
  payments ← objects_under kinds.Payment 3 given
  none_such (least_failing (is_live_in w) payments) dead_payment
  Ok payments

-- the same under just the keywords of shares, none twice
unfoldable pub apart_payments : State → List Share → List (List ℕ × Tree) → Result (List ℕ) Refusal
apart_payments w shares given = do
  none_such (least_alone (share_names shares) (names given)) keyword_mismatch
  payments ← live_payments w given
  none_such (first_repeated payments) repeated_payment
  Ok payments

-- and each of just what its share says
unfoldable pub tested_payments : State → List Share → List (List ℕ × Tree) → Result (List ℕ) Refusal
tested_payments w shares given = do
  payments ← apart_payments w shares given
  none_such (first_wrong w shares payments) (λ v. wrong_amount v.0 v.1)
  Ok payments

-- the same, in the record at the third place
unfoldable pub given_payments : State → List Share → List Tree → Result (List ℕ) Refusal
given_payments w shares args = do
  given ← record_at 3 args
  tested_payments w shares given

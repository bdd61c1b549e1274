-- The reading of an offer's payments in two steps: which they are, and whether each is as it is to be.
use Rattle.std.specs.Prelude.{ℕ, List, ◌∷◌, Result, Ok}
use Rattle.call_arguments.specs.Numbers.{first_repeated, least_failing}
use Rattle.refusals.specs.host_data.Tree.{Tree}
use Rattle.refusals.specs.host_data.declared.data.ObjKind.TheVariants as kinds
use Rattle.rules.specs.proposals.declared.allocations.Share.{Share}
use Rattle.call_arguments.specs.Records.{objects_under}
use Rattle.refusals.specs.Codes.{dead_payment, repeated_payment, wrong_amount}
use Rattle.refusals.specs.Outcomes.{◌>>=◌, ◌>>◌, none_such}
use Rattle.refusals.specs.declared.codes.Refusal.{Refusal}
use Rattle.rules.specs.GivenPayments.{first_wrong, is_live_in}
use Rattle.rules.specs.world_state.Worlds.{State}

-- live ones, none twice nor the invitation's, each of just what its share says
unfoldable pub are_paid : State → ℕ → List Share → List ℕ → Result (Unit {0}) Refusal
are_paid w invitation give payments = do
  none_such (least_failing (is_live_in w) payments) dead_payment
  none_such (first_repeated (invitation ∷ payments)) repeated_payment
  none_such (first_wrong w give payments) (λ v. wrong_amount v.0 v.1)

unfoldable pub paid_by : State → ℕ → List Share → List (List ℕ × Tree) → Result (List ℕ) Refusal
paid_by w invitation give given = do
  payments ← objects_under kinds.Payment 3 given
  are_paid w invitation give payments
  Ok payments

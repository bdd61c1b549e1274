-- Turns of a host stay fair, turn by turn, from those of a new host, which are none.
use Rattle.std.specs.Prelude.{◌≡◌, ℕ, zero, suc, List, Option, Some, None, IfSome, refl}
use Rattle.std.proofs.Common.{sym, ◌∙◌, arith}
use Rattle.fair_rows.specs.amount_math.Content.{nothing, sum-nothing}
use Rattle.fair_rows.specs.amount_math.Counted.{counted-nothing}
use Rattle.delivery_laws.specs.delivery_turns.Hosts.{HostState, Step, step_of}
use Rattle.fair_laws.specs.Accounts.{burned_of, minted_of, out_of}
use Rattle.fair_rows.specs.SoFar.{nothing_so_far}
use Rattle.fair_rows.specs.Steps.{Leaves, so_far_after}
use Rattle.fair_rows.specs.Strict.{AreStrict}
use Rattle.fair_rows.specs.Turns.{AreFair}
use Rattle.fair_rows.proofs.Steps as steps
use Rattle.fair_laws.specs.Views.{IsSteady, world_of}
use Rattle.fair_rows.specs.rights_model.Table.{no_holdings}
use Rattle.delivery_laws.specs.world_laws.Tables.{table_of}
use Rattle.delivery_laws.specs.rules.Zoe.{TextReader}
use Rattle.delivery_laws.specs.turn_records.Printed.{printed}
use Rattle.fair_rows.specs.turn_rows.Editions.{written}
use Rattle.fair_rows.specs.turn_rows.Turns.{Turn}
use Rattle.delivery_laws.specs.world_laws.First.{first_world}
use Rattle.fair_laws.specs.Turns.{IsTurnStep, StaysFair, StaysStrict, new_host}

-- ---- a new host

no_table : no_holdings ≡ table_of first_world.rights
unfolding table_of
no_table = refl

none_out : (b : ℕ) → out_of first_world.rights b ≡ nothing
none_out zero = refl
none_out (suc b) = refl

none_minted : (b : ℕ) → minted_of first_world.rights b ≡ 0
none_minted zero = refl
none_minted (suc b) = refl

none_burned : (b : ℕ) → burned_of first_world.rights b ≡ 0
none_burned zero = refl
none_burned (suc b) = refl

pub leaves_nothing : (meter : ℕ) → Leaves nothing_so_far (world_of (new_host meter))
leaves_nothing meter = record {
  turns = refl;
  table = no_table;
  seats = refl;
  owners = refl;
  defined = tt;
  made_of = refl;
  out = λ b. sum-nothing (out_of first_world.rights b) ∙ none_out b;
  minted_is = λ b. none_minted b ∙ sym counted-nothing;
  burned_is = λ b. none_burned b ∙ sym counted-nothing;
  values = tt;
  taken = λ p. refl;
  made = λ p le. refl;
}

pub steady_first : IsSteady first_world
steady_first = record {
  counted = record { seats = omega arith; instances = omega arith; facets = omega arith; purses = omega arith };
  left = record { each = λ n rows lt left. absurd (omega (arith, lt)) };
}

-- ---- one turn more

one_more : (s : HostState) (ts : List Turn) (step : Step) → AreFair written ts → Leaves (so_far_after ts nothing_so_far) (world_of s) → IsTurnStep s step → StaysFair ts step
one_more s ts step fair leaves is =
    let then = steps.stay_fair (world_of s) (world_of step.next) (printed step.turn) ts is.is_step fair leaves in
    record { fair = then.0; leaves = then.1; steady = is.steady }

pub stay_fair : (read : TextReader) (s : HostState) (ts : List Turn) → AreFair written ts → Leaves (so_far_after ts nothing_so_far) (world_of s) → IfSome (step_of read s) (IsTurnStep s) → IfSome (step_of read s) (StaysFair ts)
stay_fair read s ts fair leaves is = by (step_of read s) is
  where
    by : (o : Option Step) → IfSome o (IsTurnStep s) → IfSome o (StaysFair ts)
    by None is = tt
    by (Some step) is = one_more s ts step fair leaves is

pub stay_strict : (read : TextReader) (s : HostState) (ts : List Turn) → AreStrict ts → Leaves (so_far_after ts nothing_so_far) (world_of s) → IfSome (step_of read s) (IsTurnStep s) → IfSome (step_of read s) (StaysStrict ts)
stay_strict read s ts strict leaves is = by (step_of read s) is
  where
    by : (o : Option Step) → IfSome o (IsTurnStep s) → IfSome o (StaysStrict ts)
    by None is = tt
    by (Some step) is = steps.stay_strict (world_of s) (world_of step.next) (printed step.turn) ts is.is_step strict leaves

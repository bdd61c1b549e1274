-- Mints, which have the number of their brand (ERTP).
use Rattle.std.specs.Prelude.{ℕ, List, Result, Ok, if◌then◌else◌, codes}
use Rattle.std.specs.Str.{bytes_eq}
use Rattle.call_arguments.specs.Amounts.{amount_in}
use Rattle.call_arguments.specs.Arguments.{arg}
use Rattle.call_arguments.specs.host_data.Tree.{Tree}
use Rattle.call_arguments.specs.host_data.Values.{object_tree}
use Rattle.call_arguments.specs.host_data.declared.data.ObjKind.TheVariants as kinds
use Rattle.call_arguments.specs.refusals.Outcomes.{◌>>=◌, ◌>>◌, reading}
use Rattle.call_arguments.specs.refusals.declared.codes.Refusal.{Refusal}
use Rattle.rearrange.specs.ertp_mint.BrandSupply.{supply_at}
use Rattle.rearrange.specs.rights_model.declared.Holder.TheVariants.{Outside, Payment}
use Rattle.rearrange.specs.value_tests.Tests.{can_come_out}
use Rattle.world_state.specs.Worlds.{State}
use Rattle.rules.specs.Outcomes.{Outcome}
use Rattle.rules.specs.Words.{next_payment, one_move, without_method}

-- mint.getIssuer(): it has the mint's number
unfoldable pub get_issuer : ℕ → Result Tree Refusal
get_issuer brand = Ok (object_tree kinds.Issuer brand)

-- ---- mint.mintPayment(amount)

unfoldable pub mint_payment : State → ℕ → List Tree → Outcome
mint_payment w brand args = do
  let supply = supply_at w.rights.out brand
  value ← amount_in brand supply.outstanding.kind 1 (arg 1 args)
  can_come_out supply value.content
  payment ← next_payment w
  Ok (object_tree kinds.Payment payment, one_move brand Outside (Payment payment) value)

-- ---- the table of methods

-- which rule a call of a mint is
abbrev pub of_mint : State → ℕ → List ℕ → List Tree → Outcome
of_mint w n m args =
    if bytes_eq m (codes "getIssuer") then reading (get_issuer n)
    else if bytes_eq m (codes "mintPayment") then mint_payment w n args
    else without_method m

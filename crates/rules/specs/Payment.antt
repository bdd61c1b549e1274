-- Payments (ERTP).
use Rattle.std.specs.Prelude.{ℕ, List, Result, Ok, if◌then◌else◌, codes}
use Rattle.std.specs.Str.{bytes_eq}
use Rattle.call_arguments.specs.host_data.Tree.{Tree}
use Rattle.call_arguments.specs.refusals.Outcomes.{reading}
use Rattle.call_arguments.specs.refusals.declared.codes.Refusal.{Refusal}
use Rattle.world_state.specs.Worlds.{State}
use Rattle.rules.specs.GivenPayments.{payment_view_of}
use Rattle.rules.specs.Outcomes.{Outcome}
use Rattle.rules.specs.Records.{brand_object}
use Rattle.rules.specs.Words.{without_method}

-- payment.getAllegedBrand(), of one that was spent too
unfoldable pub get_alleged_brand : State → ℕ → Result Tree Refusal
get_alleged_brand w payment = Ok (brand_object w (payment_view_of w payment).brand)

-- ---- the table of methods

-- which rule a call of a payment is
abbrev pub of_payment : State → ℕ → List ℕ → List Tree → Outcome
of_payment w n m args =
    if bytes_eq m (codes "getAllegedBrand") then reading (get_alleged_brand w n)
    else without_method m

-- Shares that slots can have more pass their tests, and what is too much of them can be shown.
use Rattle.std.proofs.Common.{◌≡◌, List, Ok, ◌∙◌}
use Rattle.std.specs.List.{All}
use Rattle.proposals.specs.Gains.{CanGain, together}
use Rattle.proposals.specs.declared.allocations.Share.{Share}
use Rattle.refusals.specs.amount_math.ValueView.{fits_from_value}
use Rattle.rearrange.specs.Slots.{can_give, each_passes, fits_slot, is_apart}
use Rattle.value_tests.proofs.Sums.{overlap_none}
use Rattle.rearrange.proofs.Gains.{both, each_ok, fits_passes}

-- ---- what passes

module _ (slots : List Share) where
  apart_passes : (r : Share) → CanGain slots r → is_apart slots r ≡ Ok tt
  apart_passes r value = overlap_none r.amount.value.kind (together slots r) (fits_from_value r.amount.value.kind (together slots r) value)

  pub gains_pass : (gains : List Share) → All (CanGain slots) gains → can_give slots gains ≡ Ok tt
  unfolding can_give
  gains_pass gains all =
      both (each_passes (is_apart slots) gains) (each_passes (fits_slot slots) gains)
      (each_ok (is_apart slots) (CanGain slots) apart_passes gains all)
      ∙ each_ok (fits_slot slots) (CanGain slots) (fits_passes slots) gains all

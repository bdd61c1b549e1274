-- The totals of brands, and what a movement makes of one brand's.
use Rattle.std.specs.Prelude.{◌≤◌, ◌<◌, ◌^◌, ◌+◌, ◌-◌, ℕ, List, [], ◌∷◌, unwrap_or, if◌then◌else◌}
use Rattle.std.specs.BTreeMap.{is_at}
use Rattle.std.specs.List.{AllByRecursion}
use Rattle.std.specs.Map.{lookup}
use Rattle.std.specs.Ordering.{nat_cmp}
use Rattle.escrow.specs.Running.{portion}
use Rattle.row_records.specs.rights_model.Supply.{is_outside}
use Rattle.row_records.specs.rights_model.Totals.{is_payment, is_purse, is_slot}
use Rattle.row_records.specs.rights_model.declared.Holder.{Holder}
use Rattle.row_records.specs.rights_model.declared.Sum.{Sum}

abbrev pub no_sum : ℕ → Sum
no_sum b = record { brand = b; minted = 0; burned = 0; purses = 0; payments = 0; slots = 0 }

-- a brand's totals; zeros where it has none
abbrev pub sum_at : List (ℕ × Sum) → ℕ → Sum
sum_at rows b = unwrap_or (lookup (is_at (nat_cmp b)) rows) (no_sum b)

-- n leaves a holder
abbrev pub lowered : Sum → Holder → ℕ → Sum
lowered s h n = record {
  brand = s.brand;
  minted = s.minted + portion is_outside h n;
  burned = s.burned;
  purses = s.purses - portion is_purse h n;
  payments = s.payments - portion is_payment h n;
  slots = s.slots - portion is_slot h n;
}

-- and comes to one
abbrev pub raised : Sum → Holder → ℕ → Sum
raised s h n = record {
  brand = s.brand;
  minted = s.minted;
  burned = s.burned + portion is_outside h n;
  purses = s.purses + portion is_purse h n;
  payments = s.payments + portion is_payment h n;
  slots = s.slots + portion is_slot h n;
}

abbrev pub shifted : Sum → Holder → Holder → ℕ → Sum
shifted s from to n = raised (lowered s from n) to n

-- n can leave the holder, and what is more then still fits
pub record CanLower (s : Sum) (h : Holder) (n : ℕ) : Type 0 where
  pub purses : portion is_purse h n ≤ s.purses
  pub payments : portion is_payment h n ≤ s.payments
  pub slots : portion is_slot h n ≤ s.slots
  pub minted : s.minted + portion is_outside h n < 2 ^ 128

-- what comes to the holder fits
pub record CanRaise (s : Sum) (h : Holder) (n : ℕ) : Type 0 where
  pub burned : s.burned + portion is_outside h n < 2 ^ 128
  pub purses : s.purses + portion is_purse h n < 2 ^ 128
  pub payments : s.payments + portion is_payment h n < 2 ^ 128
  pub slots : s.slots + portion is_slot h n < 2 ^ 128

pub record CanShift (s : Sum) (from to : Holder) (n : ℕ) : Type 0 where
  pub lower : CanLower s from n
  pub raise : CanRaise (lowered s from n) to n

-- each number is below those behind it
abbrev pub AreRising : List ℕ → Type 0
AreRising [] = Unit {0}
AreRising (x ∷ xs) = AllByRecursion (λ y. x < y) xs × AreRising xs

-- What is kept running of a brand, and what its movements make of that.
use Rattle.std.specs.Prelude.{◌≡◌, ◌+◌, ◌<◌, ◌≤◌, ◌^◌, ℕ, Bool, if◌then◌else◌}
use Rattle.rights_model.specs.declared.Holder.{Holder}
use Rattle.rights_model.specs.declared.Sum.{Sum}
use Rattle.rights_model.specs.Supply.{is_hand, is_outside}
use Rattle.rights_model.specs.Totals.{is_payment, is_purse, is_slot}
use Rattle.escrow.specs.declared.totals.Totals.{Totals}

abbrev pub zeros : Totals
zeros = record { minted = 0; burned = 0; purses = 0; payments = 0; slots = 0 }

abbrev pub sum_by : ℕ → Totals → Sum
sum_by b s = record { brand = b; minted = s.minted; burned = s.burned; purses = s.purses; payments = s.payments; slots = s.slots }

-- n where the holder passes
abbrev pub portion : (Holder → Bool) → Holder → ℕ → ℕ
portion who h n = if who h then n else 0

-- holders of that one's kind have n less: those before, and those after
pub record IsLowered (before after : Totals) (h : Holder) (n : ℕ) : Type 0 where
  pub minted : after.minted ≡ before.minted
  pub burned : after.burned ≡ before.burned
  pub purses : after.purses + portion is_purse h n ≡ before.purses
  pub payments : after.payments + portion is_payment h n ≡ before.payments
  pub slots : after.slots + portion is_slot h n ≡ before.slots

-- n went from a holder
pub record IsTaken (before after : Totals) (h : Holder) (n : ℕ) : Type 0 where
  pub minted : after.minted ≡ before.minted + portion is_outside h n
  pub burned : after.burned ≡ before.burned
  pub purses : after.purses + portion is_purse h n ≡ before.purses
  pub payments : after.payments + portion is_payment h n ≡ before.payments
  pub slots : after.slots + portion is_slot h n ≡ before.slots

-- n came to a holder
pub record IsGiven (before after : Totals) (h : Holder) (n : ℕ) : Type 0 where
  pub minted : after.minted ≡ before.minted
  pub burned : after.burned ≡ before.burned + portion is_outside h n
  pub purses : after.purses ≡ before.purses + portion is_purse h n
  pub payments : after.payments ≡ before.payments + portion is_payment h n
  pub slots : after.slots ≡ before.slots + portion is_slot h n

-- n went from one holder to another
pub record IsMoved (before after : Totals) (from to : Holder) (n : ℕ) : Type 0 where
  pub minted : after.minted ≡ before.minted + portion is_outside from n
  pub burned : after.burned ≡ before.burned + portion is_outside to n
  pub purses : after.purses + portion is_purse from n ≡ before.purses + portion is_purse to n
  pub payments : after.payments + portion is_payment from n ≡ before.payments + portion is_payment to n
  pub slots : after.slots + portion is_slot from n ≡ before.slots + portion is_slot to n

-- what a holder's kind has is at least n
pub record HasPortion (s : Totals) (h : Holder) (n : ℕ) : Type 0 where
  pub purses : portion is_purse h n ≤ s.purses
  pub payments : portion is_payment h n ≤ s.payments
  pub slots : portion is_slot h n ≤ s.slots

-- what went out, and what all but the hand have
abbrev pub kept_in : Totals → ℕ
kept_in s = s.burned + s.purses + s.payments + s.slots

-- n can go from a holder to another
pub record CanMoveTotals (s : Totals) (from to : Holder) (n : ℕ) : Type 0 where
  pub has : HasPortion s from n
  pub hand : kept_in s + portion is_hand from n ≤ s.minted
  pub small : s.minted + portion is_outside from n < 2 ^ 128

-- and that can be worked backwards
pub record CanMoveBack (s : Totals) (from to : Holder) (n : ℕ) : Type 0 where
  pub has : HasPortion s to n
  pub burned : portion is_outside to n ≤ s.burned
  pub hand : kept_in s + portion is_hand to n ≤ s.minted

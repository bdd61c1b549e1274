-- What escrow keeps running, read by brand, and by instance and brand; and what a told movement makes of it.
use Rattle.std.specs.Prelude.{◌≡◌, ◌+◌, ◌<◌, ◌≤◌, ◌^◌, ℕ, Bool, false, ◌==◌, List, [], ◌∷◌, ◌++◌, length, slice_get, Option, Some, None, IsSome, unwrap_or}
use Rattle.std.specs.Option.{option_map_or}
use Rattle.std.specs.Ordering.{nat_cmp, ordering_then}
use Rattle.std.specs.declared.cmp.Ordering.{Ordering}
use Rattle.std.specs.BTreeMap.{is_at}
use Rattle.std.specs.Map.{lookup}
use Rattle.rights_model.specs.amount_math.Counted.{counted}
use Rattle.rights_model.specs.declared.Holder.{Holder}
use Rattle.rights_model.specs.declared.Holder.TheVariants.{Slot}
use Rattle.rights_model.specs.declared.Movement.{Movement}
use Rattle.rights_model.specs.declared.Sum.{Sum}
use Rattle.rights_model.specs.Place.{place}
use Rattle.rights_model.specs.Supply.{is_outside}
use Rattle.rights_model.specs.Totals.{is_payment, is_purse, is_slot, weight_of}
use Rattle.escrow.specs.declared.totals.Totals.{Totals}
use Rattle.escrow.specs.Running.{CanMoveBack, CanMoveTotals, sum_by, zeros}

-- the rows in the order of their brands, and of their instances and brands; and each seat's instance. Rows of zeros are room
pub record EscrowState : Type 0 where
  pub totals : List (ℕ × Totals)
  pub shares : List ((ℕ × ℕ) × ℕ)
  pub instances : List ℕ

-- ---- what is read

abbrev pub nothing_told : EscrowState
nothing_told = record { totals = []; shares = []; instances = [] }

-- by instance, then by brand
abbrev pub pair_cmp : ℕ × ℕ → ℕ × ℕ → Ordering
pair_cmp x y = ordering_then (nat_cmp x.0 y.0) (nat_cmp x.1 y.1)

abbrev pub row_of : EscrowState → ℕ → Option Totals
row_of e b = lookup (is_at (nat_cmp b)) e.totals

abbrev pub share_row_of : EscrowState → ℕ → ℕ → Option ℕ
share_row_of e i b = lookup (is_at (pair_cmp (i, b))) e.shares

-- a brand's totals
abbrev pub totals_of : EscrowState → ℕ → Totals
totals_of e b = unwrap_or (row_of e b) zeros

-- what the slots of an instance's seats have of a brand
abbrev pub share_of : EscrowState → ℕ → ℕ → ℕ
share_of e i b = unwrap_or (share_row_of e i b) 0

abbrev pub sum_of : EscrowState → ℕ → Sum
sum_of e b = sum_by b (totals_of e b)

-- ---- whose slot

-- the instance of the seat whose slot it is
abbrev pub instance_at : List ℕ → Holder → Option ℕ
instance_at instances (Slot seat keyword) = slice_get instances seat
instance_at instances _ = None

-- a slot of a seat of the instance
abbrev pub is_slot_of : List ℕ → ℕ → Holder → Bool
is_slot_of instances i h = option_map_or (λ x. x == i) (instance_at instances h) false

-- a slot is that of a seat that was told
abbrev pub IsOpened : List ℕ → Holder → Type 0
IsOpened instances (Slot seat keyword) = seat < length instances
IsOpened instances _ = Unit {0}

pub record AreOpened (e : EscrowState) (m : Movement) : Type 0 where
  pub from : IsOpened e.instances m.from
  pub to : IsOpened e.instances m.to

-- ---- what a movement makes of it

-- how much of a brand a movement takes from the holders that pass, and how much it gives them
abbrev pub leaving : (Holder → Bool) → Movement → ℕ → ℕ
leaving who m b = weight_of who b (place m.from m.brand) m.value.content

abbrev pub coming : (Holder → Bool) → Movement → ℕ → ℕ
coming who m b = weight_of who b (place m.to m.brand) m.value.content

-- a brand's totals before and after a movement
pub record AreCounted (before after : Totals) (m : Movement) (b : ℕ) : Type 0 where
  pub minted : after.minted ≡ before.minted + leaving is_outside m b
  pub burned : after.burned ≡ before.burned + coming is_outside m b
  pub purses : after.purses + leaving is_purse m b ≡ before.purses + coming is_purse m b
  pub payments : after.payments + leaving is_payment m b ≡ before.payments + coming is_payment m b
  pub slots : after.slots + leaving is_slot m b ≡ before.slots + coming is_slot m b

-- all before and after it
pub record IsTold (e f : EscrowState) (m : Movement) : Type 0 where
  pub totals : (b : ℕ) → AreCounted (totals_of e b) (totals_of f b) m b
  pub shares : (i b : ℕ) → let who = is_slot_of e.instances i in share_of f i b + leaving who m b ≡ share_of e i b + coming who m b
  pub instances : f.instances ≡ e.instances

-- what is read is the same; the rows may differ
pub record IsSame (e f : EscrowState) : Type 0 where
  pub totals : (b : ℕ) → totals_of f b ≡ totals_of e b
  pub shares : (i b : ℕ) → share_of f i b ≡ share_of e i b
  pub instances : f.instances ≡ e.instances

-- the same, but for a seat more, which is of the instance
pub record IsSeated (e f : EscrowState) (i : ℕ) : Type 0 where
  pub totals : f.totals ≡ e.totals
  pub shares : f.shares ≡ e.shares
  pub instances : f.instances ≡ e.instances ++ i ∷ []

-- what came from Outside, with what a movement brings
abbrev pub minted_with : EscrowState → Movement → ℕ
minted_with e m = (totals_of e m.brand).minted + leaving is_outside m m.brand

-- ---- when it can be counted

-- what goes from a brand's totals and from a share is there, and what comes leaves them below 2^128
pub record CanTell (e : EscrowState) (m : Movement) : Type 0 where
  pub totals : CanMoveTotals (totals_of e m.brand) m.from m.to (counted m.value.content)
  pub leaves : (i : ℕ) → leaving (is_slot_of e.instances i) m m.brand ≤ share_of e i m.brand
  pub comes : (i : ℕ) → let who = is_slot_of e.instances i in share_of e i m.brand + coming who m m.brand < 2 ^ 128 + leaving who m m.brand

-- the same, backwards
pub record CanUntell (e : EscrowState) (m : Movement) : Type 0 where
  pub totals : CanMoveBack (totals_of e m.brand) m.from m.to (counted m.value.content)
  pub leaves : (i : ℕ) → coming (is_slot_of e.instances i) m m.brand ≤ share_of e i m.brand
  pub comes : (i : ℕ) → let who = is_slot_of e.instances i in share_of e i m.brand + leaving who m m.brand < 2 ^ 128 + coming who m m.brand

-- ---- rows

-- a slot's pair of instance and brand has a row
abbrev pub HasShareRow : List ((ℕ × ℕ) × ℕ) → ℕ → Option ℕ → Type 0
HasShareRow rows b None = Unit {0}
HasShareRow rows b (Some i) = IsSome (lookup (is_at (pair_cmp (i, b))) rows)

-- the movement's brand has a row, and so has each pair of instance and brand that it names
pub record HasRows (e : EscrowState) (m : Movement) : Type 0 where
  pub brand : IsSome (row_of e m.brand)
  pub from : HasShareRow e.shares m.brand (instance_at e.instances m.from)
  pub to : HasShareRow e.shares m.brand (instance_at e.instances m.to)

-- no row is lost
pub record KeepsRows (e f : EscrowState) : Type 0 where
  pub totals : (b : ℕ) → IsSome (row_of e b) → IsSome (row_of f b)
  pub shares : (i b : ℕ) → IsSome (share_row_of e i b) → IsSome (share_row_of f i b)

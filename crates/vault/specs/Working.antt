-- Steps that are left to be worked backwards.
use Rattle.std.specs.Prelude.{◌≡◌, ℕ, ◌<◌, List, length}
use Rattle.vault_model.specs.declared.Undo.{Undo}
use Rattle.vault_model.specs.Backwards.{CanAllBack, Rooms, all_back, in_hand, retired_by}
use Rattle.vault_model.specs.Lists.{Lists}
use Rattle.vault_model.specs.rights_model.declared.Movement.{Movement}
use Rattle.vault.specs.Memory.{HasRooms, kept_of, lists_of, store_of}
use Rattle.vault.specs.declared.stores.Stores.{Stores}

-- worked backwards, what is left gives what was kept; it can be worked so; the hand's store has what the hand had; and what is kept was retired by movements that are left
pub record IsWorking (R : Rooms) (kept : Lists) (p : Stores) (ks : List Undo) (ms : List Movement) : Type 0 where
  pub kept_is : all_back (lists_of p) ks ms ≡ kept
  pub can : CanAllBack R (lists_of p) ks ms
  pub rooms : HasRooms R p
  pub hand : (b : ℕ) → b < length p.transit.out → store_of p b ≡ in_hand ms b
  pub retired : (b : ℕ) → b < length p.transit.out → kept_of p b ≡ retired_by ms b

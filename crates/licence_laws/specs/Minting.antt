-- When a turn, as a journal prints it, shows that a brand is minted, and that a purse is withdrawn from.
use Rattle.std.specs.Prelude.{◌≡◌, ◌⊎◌, ◌&&◌, ℕ, Bool, true, false, List, codes}
use Rattle.std.specs.List.{AllByRecursion, list_any}
use Rattle.fair_laws.specs.fair_rows.ExitCauses.{calls, name, serves}
use Rattle.fair_laws.specs.fair_rows.Rows.{is_service}
use Rattle.fair_laws.specs.world_state.rights_model.declared.Holder.{Holder}
use Rattle.fair_laws.specs.world_state.rights_model.declared.Holder.TheVariants.{Purse, Payment}
use Rattle.fair_laws.specs.world_state.rights_model.declared.Holder.TheVariants.{Slot, Hand}
use Rattle.fair_laws.specs.world_state.rights_model.declared.Holder.TheVariants.{Outside}
use Rattle.fair_laws.specs.world_state.turn_rows.Turns.{Event, Turn, called, moved}

-- ---- what rows show

-- the turn is a call of the method on the object, by a party's line or sent by an instance, that was answered
abbrev pub is_served : List ℕ → List ℕ → Turn → Bool
is_served on method t = is_service t.kind && serves on method t

-- the row is a contract's call of the method on the object, that was answered
abbrev pub is_call_row : List ℕ → List ℕ → Event → Bool
is_call_row on method (called c) = calls on method c
is_call_row on method _ = false

-- the turn has such a row
abbrev pub has_call : List ℕ → List ℕ → Turn → Bool
has_call on method t = list_any (is_call_row on method) t.events

-- ---- minting

-- the zcf of some instance is asked for an invitation
pub record ShowsInviting (t : Turn) : Type 0 where
  pub instance : ℕ
  pub asked : has_call (name (codes "zcf") instance) (codes "makeInvitation") t ≡ true

-- The brand's mint is asked for a payment, or its ZCF mint for gains. Of the brand of invitations, which is the
-- first, a zcf is asked for an invitation.
abbrev pub ShowsMinting : Turn → ℕ → Type 0
ShowsMinting t b =
    (is_served (name (codes "mint") b) (codes "mintPayment") t ≡ true)
    ⊎ ((has_call (name (codes "zmint") b) (codes "mintGains") t ≡ true)
    ⊎ ((b ≡ 0) × ShowsInviting t))

-- ---- withdrawals

-- the purse is asked for a payment
abbrev pub ShowsWithdrawal : Turn → ℕ → Type 0
ShowsWithdrawal t n = is_served (name (codes "purse") n) (codes "withdraw") t ≡ true

-- ---- movements

-- what comes from outside is of a brand that the turn shows to be minted, what comes from a purse is withdrawn from it
abbrev pub IsCalledForAt : Turn → Holder → ℕ → Type 0
IsCalledForAt t Outside b = ShowsMinting t b
IsCalledForAt t (Purse n) b = ShowsWithdrawal t n
IsCalledForAt t (Payment n) b = Unit {0}
IsCalledForAt t (Slot s k) b = Unit {0}
IsCalledForAt t Hand b = Unit {0}

abbrev pub IsCalledForRow : Turn → Event → Type 0
IsCalledForRow t (moved m) = IsCalledForAt t m.from m.brand
IsCalledForRow t _ = Unit {0}

-- each row of the turn is such
abbrev pub IsCalledForTurn : Turn → Type 0
IsCalledForTurn t = AllByRecursion (IsCalledForRow t) t.events
